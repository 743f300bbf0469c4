-- The first refusals of the needs that many calls share.
use Rattle.std.specs.Prelude.{[], Option}
use Rattle.histar_flat.specs.declared.replies.Errno.{Errno}
use Rattle.histar_flat.specs.declared.replies.Errno.TheVariants.{EAGAIN}
use Rattle.histar_base.specs.Refusals.{◌orelse◌, unless}
use Rattle.std.specs.Prelude.{length, nat_lt}
use Rattle.histar_flat.specs.Words.{Path, ProcName, most_children, most_numbers}
use Rattle.histar_flat.specs.Accounts.{Accounts}
use Rattle.histar_flat.specs.Classes.{Process}
use Rattle.histar_flat.specs.FlatState.{Flat}
use Rattle.histar_flat.specs.Needs.{room, file, entry, unmet}

-- the first refusal of a new entry, a file and an entry
abbrev pub no_room : Accounts → Flat → Process → Path → Option Errno
no_room accounts f p q = unmet accounts f [] p q room

abbrev pub no_file : Accounts → Flat → Process → Path → Option Errno
no_file accounts f p q = unmet accounts f [] p q file

abbrev pub no_entry : Accounts → Flat → Process → Path → Option Errno
no_entry accounts f p q = unmet accounts f [] p q entry

-- the first refusal of one more child
abbrev pub no_child : ProcName → Process → Option Errno
no_child me p = unless (nat_lt p.born most_children) EAGAIN orelse unless (nat_lt (length me) most_numbers) EAGAIN
