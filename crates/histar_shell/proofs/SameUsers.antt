-- What is read of the users and groups of some accounts includes no password.
use Rattle.std.proofs.Common.{◌≡◌, ◌∙◌, ℕ, zero, suc, ◌+◌, ◌*◌, subst, Bool, false, List, [], ◌∷◌, length, cond, Option, None, Some, refl, sym, ap}
use Rattle.std.proofs.Common.{if◌then◌else◌}
use Rattle.std.specs.Prelude.{map, not, nat_lt, option_map}
use Rattle.std.specs.List.{position_or_len}
use Rattle.std.specs.FinMap as maps
use Rattle.std.specs.Str.{bytes_eq}
use Rattle.std.proofs.lemmas.List.{length-map}
use Rattle.histar_flat.specs.declared.calls.User.{User}
use Rattle.histar_flat.specs.declared.calls.Mode.{Mode}
use Rattle.histar_flat.specs.declared.calls.Mode.TheVariants as modes
use Rattle.histar_flat.specs.Accounts.{Group, Accounts, user_number, group_number}
use Rattle.histar_flat.specs.Words.{Name, Path}
use Rattle.histar_level.specs.Levels.{Levels, level_of}
use Rattle.histar_object.specs.State.{State}
use Rattle.histar_layout.specs.declared.entry.Target.{Target}
use Rattle.histar_layout.specs.declared.entry.Target.TheVariants.{File, Directory}
use Rattle.histar_layout.specs.declared.shown.ShownClass.{ShownClass}
use Rattle.histar_layout.specs.declared.class.Class.{Class}
use Rattle.histar_layout.specs.declared.class.Class.TheVariants.{Private, Readable, Open, Scratch, Group as Grouped}
use Rattle.histar_layout.specs.ClassLabels.{IsRisingFrom, owned_label, class_label, HasJobs}
use Rattle.histar_programs.specs.declared.roots.Roots.{Roots}
use Rattle.histar_layout.specs.Jobs.{jobs_in, is_empty}
use Rattle.histar_layout.specs.Labelling.{secret_of, written_by}
use Rattle.histar_layout.specs.Categories.{read_category, write_category, group_owner, owner_of_group, owners_among, owners_of, user_of, file_label}
use Rattle.histar_layout.specs.Categories.{scratch_label, label_made}
use Rattle.histar_layout.specs.ShownClass.{class_at, class_from, class_shown, is_unnamed}
use Rattle.histar_layout.specs.UserTable.{without_password, without_passwords}
use Rattle.histar_programs.specs.Kin.{categories_of, kin_of, owned_by, user_name}
use Rattle.histar_wrap.specs.Scratch.{directory_label, jobs_with, kin_in}
use Rattle.histar_programs.specs.Users.{place_of}
use Rattle.histar_readout.specs.declared.tree.TreeNode.{TreeNode}
use Rattle.histar_readout.specs.Tree.{Listed, AreListed, IsBelow, IsNodeAt, IsTreeAt, IsTreeOf, levels_at}

-- ---- the users

-- there are as many users without passwords
as_many : (users : List User) → length (map without_password users) ≡ length users
as_many users = search length-map

-- the users keep their names
pub same_name : (users : List User) (number : ℕ) → user_name (map without_password users) number ≡ user_name users number
same_name [] zero = refl
same_name [] (suc i) = refl
same_name (user ∷ users) zero = refl
same_name (user ∷ users) (suc zero) = refl
same_name (user ∷ users) (suc (suc i)) = same_name users (suc i)

-- each is found where it was
found_at : (users : List User) (name : Name)
    → position_or_len (λ (u : User). bytes_eq u.name name) (map without_password users)
    ≡ position_or_len (λ (u : User). bytes_eq u.name name) users
found_at [] name = refl
found_at (user ∷ users) name = λ i. cond (not (bytes_eq user.name name)) (1 + found_at users name i) 0

pub same_place : (users : List User) (name : Name) → place_of (map without_password users) name ≡ place_of users name
same_place users name = λ i. cond (nat_lt (found_at users name i) (as_many users i)) (Some (found_at users name i)) None

-- the class that a label shows is the same
class_from_same : (label : Levels) (groups : List Group) (users : List User) (k : ℕ)
    → class_from label k groups (map without_password users) ≡ class_from label k groups users
class_from_same label groups [] k = refl
class_from_same label groups (user ∷ users) k =
    ap (λ (rest : Option ShownClass).
    if is_unnamed label k then rest else class_at user.name (level_of label (read_category k))
    (level_of label (write_category k))) (class_from_same label groups users (k + 1))

module _ (accounts : Accounts) where
  -- how many there are
  count : length (without_passwords accounts).users ≡ length accounts.users
  count = as_many accounts.users

  pub same_class : (label : Levels) → class_shown (without_passwords accounts) label ≡ class_shown accounts label
  unfolding class_shown
  same_class label = class_from_same label accounts.groups accounts.users 1

  -- ---- the labels of files

  same_owner : (group : Name) → owner_of_group (without_passwords accounts) group ≡ owner_of_group accounts group
  same_owner group = λ i. elim (group_number accounts group) [ None ↦ 0 | Some k ↦ group_owner (count i) k ]

  same_file_label : (mode : Mode) (user : ℕ) → file_label (without_passwords accounts) mode user ≡ file_label accounts mode user
  same_file_label modes.Readable user = refl
  same_file_label modes.Private user = refl
  same_file_label modes.Open user = refl
  same_file_label (modes.Group group) user = λ i. secret_of (read_category (same_owner group i)) (write_category (same_owner group i))

  pub same_label : (own : Levels) (mode : Mode) → label_made (without_passwords accounts) own mode ≡ label_made accounts own mode
  same_label own mode =
      λ i. if is_empty (jobs_in own) then same_file_label mode (user_of own (count i)) i else scratch_label
      (user_of own (count i)) (jobs_in own)

  pub same_directory_label : (own : Levels) (job : ℕ) → directory_label (without_passwords accounts) own job ≡ directory_label accounts own job
  same_directory_label own job = λ i. scratch_label (user_of own (count i)) (jobs_with own job)

  -- ---- what a process owns

  pub same_owners : (number : ℕ) (name : Name) → owners_of (without_passwords accounts) number name ≡ owners_of accounts number name
  same_owners number name = λ i. owners_among (count i) accounts.groups number name

  same_owned : (user : ℕ) (free : Bool) → owned_by (without_passwords accounts) user free ≡ owned_by accounts user free
  same_owned zero free = refl
  same_owned (suc k) free = λ i. categories_of (owners_among (count i) accounts.groups (suc k) (same_name accounts.users (suc k) i)) free

  pub same_user : (own : Levels)
      → user_name (without_passwords accounts).users (user_of own (length (without_passwords accounts).users))
      ≡ user_name accounts.users (user_of own (length accounts.users))
  same_user own = λ i. same_name accounts.users (user_of own (count i)) i

  pub same_kin : (own : Levels) → kin_of (without_passwords accounts) own ≡ kin_of accounts own
  same_kin own = λ i. record { owned = same_owned (user_of own (count i)) (is_empty (jobs_in own)) i; jobs = jobs_in own }

  pub same_kin_in : (own : Levels) (job : ℕ) → kin_in (without_passwords accounts) own job ≡ kin_in accounts own job
  same_kin_in own job = λ i. record { owned = same_owned (user_of own (count i)) false i; jobs = jobs_with own job }

  -- ---- the tree

  -- users and groups have the numbers that they had
  same_user_number : (name : Name) → user_number (without_passwords accounts) name ≡ user_number accounts name
  same_user_number name = ap (option_map (λ place. place + 1)) (same_place accounts.users name)

  -- a class has the label that it had
  same_class_label : (class : Class) → class_label (without_passwords accounts) class ≡ class_label accounts class
  same_class_label (Private owner) = ap (option_map owned_label) (same_user_number owner)
  same_class_label (Readable owner) = ap (option_map (λ user. written_by (write_category user))) (same_user_number owner)
  same_class_label Open = refl
  same_class_label (Scratch owner jobs) = ap (option_map (λ user. scratch_label user jobs)) (same_user_number owner)
  same_class_label (Grouped group) = λ i. option_map (λ number. owned_label (group_owner (count i) number)) (group_number accounts group)

  -- jobs come after as many users and groups
  jobs_still : (class : Class) → HasJobs accounts class → HasJobs (without_passwords accounts) class
  jobs_still (Private owner) has = tt
  jobs_still (Readable owner) has = tt
  jobs_still Open has = tt
  jobs_still (Scratch owner jobs) has = subst (λ (users : ℕ). IsRisingFrom (4 + 2 * (users + length accounts.groups)) jobs) (sym count) has
  jobs_still (Grouped group) has = tt

  module _ (s : State) where
    -- the object at a path is of the same class
    node_still : (q : Path) (target : Target) (node : TreeNode) → IsNodeAt accounts s q target node
        → IsNodeAt (without_passwords accounts) s q target node
    node_still q target node is = record {
      path_is = is.path_is;
      target_is = is.target_is;
      label = is.label;
      label_is = is.label_is;
      of_class = record { jobs = jobs_still node.class is.of_class.jobs; is = same_class_label node.class ∙ is.of_class.is };
    }

    -- a tree stays a tree
    abbrev IsStill : Listed → Listed → Type 0
    IsStill is_tree still = (q : Path) (target : Target) (tree : List TreeNode) → is_tree q target tree → still q target tree

    listed_still : (is_tree still : Listed) → IsStill is_tree still
        → (d : Path) (entries : List (Name × Target)) (trees : List TreeNode) → AreListed is_tree d entries trees
        → AreListed still d entries trees
    listed_still is_tree still each d [] trees is = is
    listed_still is_tree still each d (e ∷ entries) trees is =
        (is.0, is.1, each (e.0 ∷ d) e.1 is.0 is.2, listed_still is_tree still each d entries is.1 is.3, is.4)

    below_still : (is_tree still : Listed) → IsStill is_tree still
        → (q : Path) (target : Target) (trees : List TreeNode) → IsBelow is_tree s q target trees
        → IsBelow still s q target trees
    below_still is_tree still each q (File file) trees is = is
    below_still is_tree still each q (Directory container listing) trees is =
        (is.0, is.1, listed_still is_tree still each q (maps.entries is.0) trees is.2)

    tree_still : (levels : ℕ) → IsStill (IsTreeAt levels accounts s) (IsTreeAt levels (without_passwords accounts) s)
    tree_still zero q target tree is = is
    tree_still (suc levels) q target tree is = (
      is.0,
      is.1,
      node_still q target is.0 is.2,
      below_still (IsTreeAt levels accounts s)
          (IsTreeAt levels (without_passwords accounts) s) (tree_still levels) q target is.1 is.3,
      is.4,
    )

    -- the tree of some accounts is that of their users with no passwords
    pub tree_unproved : (roots : Roots) (tree : List TreeNode) → IsTreeOf accounts s roots tree → IsTreeOf (without_passwords accounts) s roots tree
    unfolding IsTreeOf
    tree_unproved roots tree is = tree_still (levels_at []) [] (Directory roots.slash.container roots.slash.listing) tree is
