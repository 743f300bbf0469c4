-- How a machine boots: the raw calls of boot, in their order, and a kernel that was booted by them alone.
use Rattle.std.specs.Prelude.{◌≡◌, ℕ, zero, suc, ◌+◌, ◌*◌, ◌<◌, List, [], ◌∷◌, ◌++◌, length, take}
use Rattle.histar_flat.specs.declared.calls.User.{User}
use Rattle.histar_flat.specs.Accounts.{Accounts}
use Rattle.histar_flat.specs.Words.{Password}
use Rattle.histar_object.specs.declared.objects.Entry.TheVariants.{Login}
use Rattle.histar_object.specs.State.{empty_state}
use Rattle.histar_rules.specs.declared.raw.RawCall.{RawCall}
use Rattle.histar_rules.specs.declared.raw.RawCall.TheVariants.{MakeCategory, MakeSegment, MakeContainer, MakeThread, MakeGate, Unlink}
use Rattle.histar_rules.specs.Sound.{root_number}
use Rattle.histar_syscall.specs.KernelModel.{KernelModel, state}
use Rattle.histar_syscall.specs.Runs.{Granted}
use Rattle.histar_layout.specs.Categories.{read_category, write_category, owners_of}
use Rattle.histar_layout.specs.Labelling.{written_by, secret_of, owner_of, cleared_of}
use Rattle.histar_programs.specs.Start.{boot_thread_number, numbered, root_category, declared, own_read_category, own_write_category, owners_label, owners_clearance}
use Rattle.histar_programs.specs.Start.{user_table, first_process_bytes}

-- this many pairs of categories are made
abbrev pub category_calls : ℕ → List RawCall
category_calls zero = []
category_calls (suc more) = MakeCategory ∷ MakeCategory ∷ category_calls more

-- the password of user i, which its owner alone may read
abbrev pub password_call : ℕ → Password → RawCall
password_call i password = MakeSegment root_number (secret_of (read_category i) (write_category i)) password

-- the gate of user i, which gives what these users and groups own
abbrev pub gate_call : ℕ → List ℕ → RawCall
gate_call i owners = MakeGate root_number (owners_label owners) (owners_clearance owners) (Login i)

-- the password of user i, and the gate that gives what the user and its groups own
abbrev pub user_calls : Accounts → ℕ → User → List RawCall
user_calls accounts i user = password_call i user.password ∷ gate_call i (owners_of accounts i user.name) ∷ []

-- the user table, which nobody may write
abbrev pub table_call : Accounts → RawCall
table_call accounts = MakeSegment root_number (written_by root_category) (user_table accounts)

-- `/`, which the first user alone may write
abbrev pub slash_call : RawCall
slash_call = MakeContainer root_number (written_by (write_category 1))

-- the directory segment of `/`, which lies in this container
abbrev pub listing_call : ℕ → RawCall
listing_call slash = MakeSegment slash (written_by (write_category 1)) []

-- the user table, and `/`, which is the object 4 + 2n, with its directory segment
abbrev pub directory_calls : ℕ → Accounts → List RawCall
directory_calls n accounts = table_call accounts ∷ slash_call ∷ listing_call (4 + 2 * n) ∷ []

-- the container of process 0, which the owner of w writes
abbrev pub outer_call : ℕ → RawCall
outer_call w = MakeContainer root_number (written_by w)

-- the internal container of process 0 in this container, which the owner of r reads
abbrev pub inner_call : ℕ → ℕ → ℕ → RawCall
inner_call outer r w = MakeContainer outer (secret_of r w)

-- the thread of process 0 in the internal container, which owns r and w
abbrev pub thread_call : ℕ → ℕ → ℕ → RawCall
thread_call inner r w = MakeThread inner (owner_of r w) (cleared_of r w)

-- the process segment of process 0, which records the internal container and the thread
abbrev pub status_call : ℕ → ℕ → ℕ → ℕ → RawCall
status_call outer w inner thread = MakeSegment outer (written_by w) (first_process_bytes inner thread)

-- the two categories of process 0, after those of all users and groups; its container, which is the object 6 + 2n, and its internal
-- container, which is 7 + 2n; its thread 8 + 2n, which owns the two categories alone; and its process segment
abbrev pub process_calls : ℕ → ℕ → List RawCall
process_calls n owners =
    MakeCategory
    ∷ MakeCategory
    ∷ outer_call (own_write_category owners)
    ∷ inner_call (6 + 2 * n) (own_read_category owners) (own_write_category owners)
    ∷ thread_call (7 + 2 * n) (own_read_category owners) (own_write_category owners)
    ∷ status_call (6 + 2 * n) (own_write_category owners) (7 + 2 * n) (8 + 2 * n)
    ∷ []

-- at last the boot thread unlinks itself
abbrev pub last_call : RawCall
last_call = Unlink root_number boot_thread_number

-- the end of boot is one raw call
abbrev pub last_calls : List RawCall
last_calls = last_call ∷ []

-- the raw calls of boot, in their order: two categories for nobody, for each user and for each group; the objects of each user; the
-- user table and `/`; process 0
abbrev pub boot_calls : Accounts → List RawCall
boot_calls accounts =
    category_calls (1 + declared accounts)
    ++ numbered (user_calls accounts) 1 accounts.users
    ++ directory_calls (length accounts.users) accounts
    ++ process_calls (length accounts.users) (declared accounts)
    ++ last_calls

-- Boot made its raw calls on the empty kernel, one after another on line 0; each was granted, and nothing else was done.
pub record IsBooted (accounts : Accounts) (kernel : KernelModel) : Type 0 where
  pub first : KernelModel
  pub empty : state first ≡ empty_state
  pub no_trace : first.trace ≡ []
  pub line : first.line ≡ 0
  pub made : Granted first kernel boot_thread_number (boot_calls accounts)

-- boot made some of its raw calls and not all, from the first on, and each was granted
abbrev pub HasBegunBoot : Accounts → KernelModel → KernelModel → Type 0
HasBegunBoot accounts old new = (made : ℕ) × (made < length (boot_calls accounts)) × Granted old new boot_thread_number (take made (boot_calls accounts))
