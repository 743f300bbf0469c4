-- Proves the goals of `push_location` of src/named_words.rt that the search leaves open.
use Rattle.std.proofs.Common.{codes, sym, ap}
use Rattle.histar_names.specs.Location.{location_text}
use Rattle.histar_names.proofs.Parts.{one_piece}
use Rattle.histar_names.proofs.named_words.push_location.Goals as goal

pub returns-in-Users : goal.returns-in-Users
returns-in-Users c =
    one_piece c.extend_from_slice-in-Users.result _ c.args.text.now.items (codes "the user table") _
    c.extend_from_slice-in-Users.ensures.items (ap (location_text c.args.users.now) (sym c.in-Users.is))
