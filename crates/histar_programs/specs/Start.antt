-- The state in which a machine starts: a table of its objects in the order of their numbers, where the first has the number 1.
-- The users are numbered from 1 on in the order of the script, and so are the groups; nobody is user number 0.
use Rattle.std.specs.Prelude.{ℕ, zero, suc, ◌+◌, ◌*◌, List, [], ◌∷◌, ◌++◌, length, codes, None, Some, slice_index_or, if◌then◌else◌}
use Rattle.std.specs.Int.{w64, to_be_bytes}
use Rattle.std.specs.List.{range_with_len}
use Rattle.std.specs.FinSet as set
use Rattle.histar_flat.specs.declared.calls.User.{User}
use Rattle.histar_flat.specs.Accounts.{Group, Accounts, has}
use Rattle.histar_flat.specs.Words.{Name}
use Rattle.histar_level.specs.declared.level.Level.{Level}
use Rattle.histar_level.specs.declared.level.Level.TheVariants.{Star, L1, L2, L3}
use Rattle.histar_level.specs.Levels.{Levels}
use Rattle.histar_object.specs.declared.objects.Entry.TheVariants.{Login}
use Rattle.histar_object.specs.declared.objects.Kind.TheVariants.{Segment, Container, Thread, Gate}
use Rattle.histar_object.specs.Objects.{Objects}
use Rattle.histar_object.specs.State.{State, Found}
use Rattle.histar_programs.specs.declared.roots.Roots.{Roots}
use Rattle.histar_layout.specs.Categories.{read_category, write_category, group_owner, owners_of}
use Rattle.histar_layout.specs.Labelling.{labelled, written_by, secret_of, owner_of, cleared_of}

-- the boot thread, which makes all raw calls of boot
abbrev pub boot_thread_number : ℕ
boot_thread_number = 2

-- what f gives for each user, or each group, with its number, one after another, where the first has the number i
abbrev pub numbered : {A B : Type 0} → (ℕ → B → List A) → ℕ → List B → List A
numbered f i [] = []
numbered f i (x ∷ xs) = f i x ++ numbered f (i + 1) xs

-- the category that the boot thread owned alone, so that nobody owns it now
abbrev pub root_category : ℕ
root_category = 1

-- how many users and groups there are together
abbrev pub declared : Accounts → ℕ
declared accounts = length accounts.users + length accounts.groups

-- the category that process 0 owns to keep its secrets, with this many users and groups together
abbrev pub own_read_category : ℕ → ℕ
own_read_category owners = 4 + 2 * owners

-- the category that process 0 owns to keep its objects from being written
abbrev pub own_write_category : ℕ → ℕ
own_write_category owners = 5 + 2 * owners

-- this level at both categories of each of these users and groups
abbrev pub at_both : Level → List ℕ → List (ℕ × Level)
at_both level [] = []
at_both level (i ∷ owners) = (read_category i, level) ∷ (write_category i, level) ∷ at_both level owners

-- the label that owns the categories of these users and groups
abbrev pub owners_label : List ℕ → Levels
owners_label owners = labelled (at_both Star owners) L1

-- the clearance of what owns the categories of these users and groups
abbrev pub owners_clearance : List ℕ → Levels
owners_clearance owners = labelled (at_both L3 owners) L2

-- the label that the gate of the user i of this name gives: it owns the categories of the user and of its groups
abbrev pub gate_label : Accounts → ℕ → Name → Levels
gate_label accounts i name = owners_label (owners_of accounts i name)

-- the clearance of the gate of user i
abbrev pub gate_clearance : Accounts → ℕ → Name → Levels
gate_clearance accounts i name = owners_clearance (owners_of accounts i name)

-- a segment with these bytes
abbrev pub segment : Levels → List ℕ → Found
segment label bytes = Some (record { label = label; kind = Segment bytes })

-- a container that links these numbers
abbrev pub container : Levels → List ℕ → Found
container label numbers = Some (record { label = label; kind = Container (set.from_list numbers) })

-- 1 is the root container, which links what boot made in it: 3 to 4 + 2n, and 6 + 2n; 2 is nothing, since the boot thread is gone
abbrev pub of_root : ℕ → List Found
of_root n = container (written_by root_category) (range_with_len 3 (2 + 2 * n) ++ (6 + 2 * n) ∷ []) ∷ None ∷ []

-- 1 + 2i and 2 + 2i are the password of user i, which its owner alone may read, and the gate that gives what the user owns
abbrev pub of_user : Accounts → ℕ → User → List Found
of_user accounts i user =
    segment (secret_of (read_category i) (write_category i)) user.password
    ∷ Some (record { label = gate_label accounts i user.name; kind = Gate (gate_clearance accounts i user.name) (Login i) })
    ∷ []

-- 3 to 2 + 2n: the users from number 1 on
abbrev pub of_users : Accounts → List User → List Found
of_users accounts users = numbered (of_user accounts) 1 users

-- a user in the user table: the length of the name and the name, the user's two categories, its gate and its password
unfoldable pub user_entry : Name → ℕ → ℕ → ℕ → List ℕ
user_entry name i gate password =
    (length name ∷ name)
    ++ to_be_bytes w64 (read_category i) ++ to_be_bytes w64 (write_category i)
    ++ to_be_bytes w64 gate ++ to_be_bytes w64 password

-- the entry of user i, whose gate is the object 2 + 2i, and whose password the object 1 + 2i
abbrev pub entry_of : ℕ → User → List ℕ
entry_of i user = user_entry user.name i (2 + 2 * i) (1 + 2 * i)

-- the users in the user table: nobody, who has no gate and no password, and then the users
abbrev pub user_entries : List User → List ℕ
user_entries users = user_entry (codes "nobody") 0 0 0 ++ numbered entry_of 1 users

-- the numbers of those of these users that have one of these names, where the first user has the number i
abbrev pub numbers_among : ℕ → List User → List Name → List ℕ
numbers_among i [] names = []
numbers_among i (user ∷ users) names = if has names user.name then i ∷ numbers_among (i + 1) users names else numbers_among (i + 1) users names

-- group k in the user table, beside these users: the length of the name and the name, the group's two categories, how many members
-- it has, and the numbers of these, which rise
unfoldable pub group_entry : List User → ℕ → Group → List ℕ
group_entry users k group =
    (length group.name ∷ group.name)
    ++ to_be_bytes w64 (read_category (group_owner (length users) k)) ++ to_be_bytes w64 (write_category (group_owner (length users) k))
    ++ length group.members ∷ numbers_among 1 users group.members

-- the groups in the user table: nothing where there is no group; else a zero, which is no name's length, and the groups
abbrev pub group_part : List User → List Group → List ℕ
group_part users [] = []
group_part users (group ∷ groups) = 0 ∷ numbered (group_entry users) 1 (group ∷ groups)

-- the user table: the users, and then the groups
abbrev pub user_table : Accounts → List ℕ
user_table accounts = user_entries accounts.users ++ group_part accounts.users accounts.groups

-- the segment of the user table, which nobody may write
abbrev pub table_segment : Accounts → Found
table_segment accounts = segment (written_by root_category) (user_table accounts)

-- 3 + 2n is the user table, 4 + 2n is `/`, and 5 + 2n is its directory segment, which is empty; the first user alone may write the last two
abbrev pub of_directory : ℕ → Accounts → List Found
of_directory n accounts =
    table_segment accounts
    ∷ container (written_by (write_category 1)) ((5 + 2 * n) ∷ [])
    ∷ segment (written_by (write_category 1)) []
    ∷ []

-- the bytes of the process segment of process 0: `r` since it runs, that no child was born, its internal container and its thread
abbrev pub first_process_bytes : ℕ → ℕ → List ℕ
first_process_bytes internal thread = (114 ∷ 0 ∷ 0 ∷ []) ++ to_be_bytes w64 internal ++ to_be_bytes w64 thread

-- 6 + 2n is the container of process 0, 7 + 2n its internal container, 8 + 2n its thread, which owns its own two categories alone, and
-- 9 + 2n its process segment; its categories come after those of all users and groups
abbrev pub of_process : ℕ → ℕ → List Found
of_process n owners =
    container (written_by (own_write_category owners)) ((7 + 2 * n) ∷ (9 + 2 * n) ∷ [])
    ∷ container (secret_of (own_read_category owners) (own_write_category owners)) ((8 + 2 * n) ∷ [])
    ∷ Some (record {
      label = owner_of (own_read_category owners) (own_write_category owners);
      kind = Thread (cleared_of (own_read_category owners) (own_write_category owners));
    })
    ∷ segment (written_by (own_write_category owners)) (first_process_bytes (7 + 2 * n) (8 + 2 * n))
    ∷ []

-- the objects of a machine with these users and groups that has just started, from number 1 on
abbrev pub start_objects : Accounts → List Found
start_objects accounts =
    of_root (length accounts.users)
    ++ of_users accounts accounts.users
    ++ of_directory (length accounts.users) accounts
    ++ of_process (length accounts.users) (declared accounts)

-- what a table has at each number: its first entry is at 1, and nothing is at 0
abbrev pub object_at : List Found → Objects Levels
object_at objects zero = None
object_at objects (suc k) = slice_index_or objects k None

-- the state whose objects are those of this table, and whose next number is the one after them
abbrev pub state_with : List Found → ℕ → State
state_with objects next_category = record { objects = object_at objects; next_object = 1 + length objects; next_category = next_category }

-- the state in which a machine with these n users and m groups starts, once boot made the categories 1 to 5 + 2n + 2m
abbrev pub start_state : Accounts → State
start_state accounts = state_with (start_objects accounts) (6 + 2 * declared accounts)

-- where `/` and process 0 are found, with this many users
abbrev pub roots_of : ℕ → Roots
roots_of users = record {
  slash = record { container = 4 + 2 * users; listing = 5 + 2 * users };
  home = record { container = 6 + 2 * users; segment = 9 + 2 * users };
}
