-- The labels of gates and threads, which own the categories of a user and of its groups, by the numbers that boot gave these.
use Rattle.std.proofs.Common.{◌≡◌, ℕ, ◌+◌, ◌*◌, ◌≤◌, ◌||◌, ◌&&◌, ◌==◌, Bool, true, false, cond, List, [], ◌∷◌, ◌++◌, length, None, Some}
use Rattle.std.proofs.Common.{if◌then◌else◌, refl, sym, ap, ◌∙◌, arith}
use Rattle.std.specs.Prelude.{map, nat_le}
use Rattle.std.proofs.lemmas.Bool.Decides.{nat_tests}
use Rattle.std.proofs.lemmas.List.{append-nil, map-append}
use Rattle.histar_flat.specs.Accounts.{Group, Accounts, has, numbers_with}
use Rattle.histar_flat.specs.Words.{Name}
use Rattle.histar_level.specs.declared.level.Level.{Level}
use Rattle.histar_level.specs.declared.level.Level.TheVariants.{Star, L1, L2, L3}
use Rattle.histar_layout.specs.Categories.{read_category, write_category, group_owner, owners_of}
use Rattle.histar_layout.specs.Labelling.{labelled, each_at, owner_label, cleared_at}
use Rattle.histar_programs.specs.Kin.{categories_of}
use Rattle.histar_programs.specs.Start.{at_both, gate_label, gate_clearance}
use Rattle.histar_refinement.specs.Categories.{CategoryName, Categories, boot_category}
use Rattle.histar_refinement.specs.Categories.CategoryName.{ReadsUser, WritesUser, ReadsGroup, WritesGroup}
use Rattle.histar_refinement.specs.Guards.{rights_label, rights_clearance}
use Rattle.histar_refinement.specs.Labels.{reading, writing, gate_rights}
use Rattle.histar_layout.proofs.Members.{is_in, is_in-append}
use Rattle.histar_refinement.proofs.Levelled.{same_owning, same_cleared}

-- both categories of each of these users and groups
abbrev both_of : List ℕ → List ℕ
both_of [] = []
both_of (i ∷ owners) = read_category i ∷ write_category i ∷ both_of owners

-- the same level at both categories of each
at_both_is : (level : Level) (owners : List ℕ) → at_both level owners ≡ each_at level (both_of owners)
at_both_is level [] = refl
at_both_is level (i ∷ owners) = ap (λ (l : List (ℕ × Level)). (read_category i, level) ∷ (write_category i, level) ∷ l) (at_both_is level owners)

-- tests of two before tests of others, in another order
turned : (a b c d : Bool) → (a || (b || (c || d))) ≡ ((a || c) || (b || d))
turned true b c d = refl
turned false true true d = refl
turned false true false d = refl
turned false false true d = refl
turned false false false d = refl

-- both categories of each are the categories for reading and those for writing
both_are : (owners : List ℕ) (q : ℕ) → is_in (both_of owners) q ≡ is_in (map read_category owners ++ map write_category owners) q
both_are owners q = by owners ∙ sym (is_in-append (map read_category owners) (map write_category owners) q)
  where
    by : (some : List ℕ) → is_in (both_of some) q ≡ (is_in (map read_category some) q || is_in (map write_category some) q)
    by [] = refl
    by (i ∷ some) =
        ap (λ b. q == read_category i || (q == write_category i || b)) (by some)
        ∙ turned (q == read_category i) (q == write_category i) (is_in (map read_category some) q) (is_in (map write_category some) q)

module _ (accounts : Accounts) where
  -- a number of a user, and one of a group
  low_test : (i : ℕ) → i ≤ length accounts.users → nat_le i (length accounts.users) ≡ true
  low_test i h = grind (arith, nat_tests, h)

  pub group_test : (k : ℕ) → 1 ≤ k → k ≤ length accounts.groups → (nat_le 1 k && nat_le k (length accounts.groups)) ≡ true
  group_test k low high = grind (arith, nat_tests, low, high)

module _ (accounts : Accounts) (category : Categories)
    (as_made : (c : CategoryName) (q : ℕ) → boot_category accounts c ≡ Some q → category c ≡ q) where
  -- a user's two categories have boot's numbers
  pub user_reads : (i : ℕ) → i ≤ length accounts.users → category (ReadsUser i) ≡ read_category i
  user_reads i h = as_made (ReadsUser i) (2 + 2 * i) (ap (λ b. cond b (Some (2 + 2 * i)) None) (low_test accounts i h))

  pub user_writes : (i : ℕ) → i ≤ length accounts.users → category (WritesUser i) ≡ write_category i
  user_writes i h = as_made (WritesUser i) (3 + 2 * i) (ap (λ b. cond b (Some (3 + 2 * i)) None) (low_test accounts i h))

  -- a group's categories have the numbers that boot gave
  pub group_reads : (k : ℕ) → 1 ≤ k → k ≤ length accounts.groups → category (ReadsGroup k) ≡ read_category (group_owner (length accounts.users) k)
  group_reads k low high =
      let number : 2 + 2 * length accounts.users + 2 * k ≡ 2 + 2 * (length accounts.users + k) = omega arith in
      as_made (ReadsGroup k) (2 + 2 * length accounts.users + 2 * k)
      (ap (λ b. cond b (Some (2 + 2 * length accounts.users + 2 * k)) None) (group_test accounts k low high))
      ∙ number

  pub group_writes : (k : ℕ) → 1 ≤ k → k ≤ length accounts.groups → category (WritesGroup k) ≡ write_category (group_owner (length accounts.users) k)
  group_writes k low high =
      let number : 3 + 2 * length accounts.users + 2 * k ≡ 3 + 2 * (length accounts.users + k) = omega arith in
      as_made (WritesGroup k) (3 + 2 * length accounts.users + 2 * k)
      (ap (λ b. cond b (Some (3 + 2 * length accounts.users + 2 * k)) None) (group_test accounts k low high))
      ∙ number

  module _ (name_of : ℕ → CategoryName) (number : ℕ → ℕ) (same : (k : ℕ) → 1 ≤ k → k ≤ length accounts.groups
      → category (name_of k) ≡ number (group_owner (length accounts.users) k)) where
    -- the categories of a user's groups have boot's numbers
    groups_same : (k : ℕ) (groups : List Group) (name : Name) → 1 ≤ k → k + length groups ≤ length accounts.groups + 1
        → map category (map name_of (numbers_with k groups name))
        ≡ map number (map (group_owner (length accounts.users)) (numbers_with k groups name))
    groups_same k [] name low high = refl
    groups_same k (g ∷ groups) name low high =
        let high_here : k ≤ length accounts.groups = omega (arith, high) in
        by (has g.members name) (same k low high_here) (groups_same (k + 1) groups name (omega arith) (omega (arith, high)))
      where
        by : (b : Bool) → category (name_of k) ≡ number (group_owner (length accounts.users) k)
            → map category (map name_of (numbers_with (k + 1) groups name))
            ≡ map number (map (group_owner (length accounts.users)) (numbers_with (k + 1) groups name))
            → map category (map name_of (if b then k ∷ numbers_with (k + 1) groups name else numbers_with (k + 1) groups name))
            ≡ map number (map (group_owner (length accounts.users))
            (if b then k ∷ numbers_with (k + 1) groups name else numbers_with (k + 1) groups name))
        by true here more = λ j. here j ∷ more j
        by false here more = more

  module _ (name : Name) (i : ℕ) (declared : i ≤ length accounts.users) where
    -- what a user owns
    abbrev owners : List ℕ
    owners = owners_of accounts i name

    -- the names of what a user reads by, and of what it writes by, have the numbers of what it owns
    reading_is : map category (reading accounts name i) ≡ map read_category owners
    reading_is = λ j. user_reads i declared j ∷ groups_same ReadsGroup read_category group_reads 1 accounts.groups name (omega arith) (omega arith) j

    writing_is : map category (writing accounts name i) ≡ map write_category owners
    writing_is =
        λ j. user_writes i declared j
        ∷ groups_same WritesGroup write_category group_writes 1 accounts.groups name (omega arith) (omega arith) j

    -- the categories that a process owns as the user, in a job or in none, have the numbers that boot gave
    pub owned_is : (free : Bool)
        → map category (reading accounts name i ++ (if free then writing accounts name i else []))
        ≡ categories_of (owners_of accounts i name) free
    owned_is true = map-append category (reading accounts name i) (writing accounts name i) ∙ (λ j. reading_is j ++ writing_is j)
    owned_is false = map-append category (reading accounts name i) [] ∙ (λ j. reading_is j ++ [])

    -- the gate that boot makes has the label that is asked for, and the clearance
    pub gate_label_is : gate_label accounts i name ≡ rights_label category (gate_rights accounts name i)
    gate_label_is =
        ap (λ (l : List (ℕ × Level)). labelled l L1) (at_both_is Star owners ∙ sym (append-nil (each_at Star (both_of owners))))
        ∙ same_owning (both_of owners) [] (map read_category owners ++ map write_category owners) [] (both_are owners) (λ q. refl)
        ∙ ap (λ (l : List ℕ). owner_label l []) (sym (owned_is true))

    pub gate_clearance_is : gate_clearance accounts i name ≡ rights_clearance category (gate_rights accounts name i)
    gate_clearance_is =
        ap (λ (l : List (ℕ × Level)). labelled l L2) (at_both_is L3 owners)
        ∙ same_cleared (both_of owners) (map read_category owners ++ map write_category owners) (both_are owners)
        ∙ ap cleared_at (sym (owned_is true) ∙ ap (map category) (sym (append-nil (reading accounts name i ++ writing accounts name i))))
