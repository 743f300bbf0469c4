-- The object at a path has the label of its class, which determines the class for those who know the users and the groups.
use Rattle.std.proofs.Common.{◌≡◌, ℕ, zero, suc, ◌+◌, ◌-◌, ◌*◌, ◌<◌, ◌≤◌, ◌⊎◌, inl, inr, List, [], ◌∷◌, length, Option, Some, arith, refl, sym}
use Rattle.std.proofs.Common.{ap, ◌∙◌, subst}
use Rattle.std.specs.Prelude.{map, option_map}
use Rattle.std.proofs.lemmas.Option.{same_Some}
use Rattle.std.proofs.lemmas.Simd.{map-map}
use Rattle.std.proofs.lemmas.Bool.{cases_lt}
use Rattle.histar_flat.specs.Words.{Path, ProcName}
use Rattle.histar_flat.specs.Accounts.{Accounts, user_number, group_number}
use Rattle.histar_flat.specs.Files.{get}
use Rattle.histar_flat.specs.Classes.{Class, class_owner, class_mode}
use Rattle.histar_flat.specs.Classes.Class.{Private, Readable, Open, Scratch, Grouped}
use Rattle.histar_flat.specs.FlatState.{Flat, Node}
use Rattle.histar_object.specs.State.{State}
use Rattle.histar_layout.specs.Labelling.{guarded_by, written_by}
use Rattle.histar_layout.specs.Categories.{write_category, group_owner, scratch_label}
use Rattle.histar_layout.specs.declared.shown.ShownClass.{ShownClass}
use Rattle.histar_layout.specs.ShownClass.{class_shown, owner_shown, mode_of}
use Rattle.histar_layout.specs.ClassLabels.{first_after_groups, owned_label, class_label, HasJobs, IsClassLabel, without_jobs}
use Rattle.histar_layout.proofs.Members.{is_in, mapped_from}
use Rattle.histar_layout.proofs.Declared.{user_range, group_range}
use Rattle.histar_layout.proofs.Rising.{rises_above}
use Rattle.histar_layout.proofs.ClassesShown.{classes_shown}
use Rattle.histar_refinement.specs.Categories.{CategoryName, Categories, boot_category, split_category, is_for}
use Rattle.histar_refinement.specs.Categories.CategoryName.{OfBoot, ReadsUser, WritesUser, ReadsGroup, WritesGroup, OfJob}
use Rattle.histar_refinement.specs.Guards.{Guard, guard_label}
use Rattle.histar_refinement.specs.Labels.{class_guard, private_guard, readable_guard, scratch_guard, group_guard, open_guard}
use Rattle.histar_refinement.specs.Represents.{ObjectsMatch, IsInOrder}
use Rattle.histar_refinement.specs.NumberedClasses.{job_numbers, numbered_class}
use Rattle.histar_refinement.proofs.CategoryTests.{named_in}
use Rattle.histar_refinement.proofs.GateLabels.{user_reads, user_writes, group_reads, group_writes}
use Rattle.histar_refinement.proofs.Uses.{job_among}

-- ---- the label of a class

module _ (accounts : Accounts) (category : Categories)
    (as_made : (c : CategoryName) (q : ℕ) → boot_category accounts c ≡ Some q → category c ≡ q) where
  -- the label of a class's guard is the label of the class
  labels_match : (class : Class) (g : Guard) → class_guard accounts class ≡ Some g
      → class_label accounts (numbered_class category class) ≡ Some (guard_label category g)
  labels_match (Private owner) g e =
      let at = mapped_from private_guard (user_number accounts owner) g e in
      let known = (user_range accounts owner at.0 at.1).1 in
      ap (option_map owned_label) at.1
      ∙ (λ i. Some (guarded_by (sym (user_reads accounts category as_made at.0 known) i ∷ [])
      (sym (user_writes accounts category as_made at.0 known) i ∷ [])))
      ∙ ap (λ (x : Guard). Some (guard_label category x)) at.2
  labels_match (Readable owner) g e =
      let at = mapped_from readable_guard (user_number accounts owner) g e in
      let known = (user_range accounts owner at.0 at.1).1 in
      ap (option_map (λ user. written_by (write_category user))) at.1
      ∙ (λ i. Some (guarded_by [] (sym (user_writes accounts category as_made at.0 known) i ∷ [])))
      ∙ ap (λ (x : Guard). Some (guard_label category x)) at.2
  labels_match Open g e = ap (λ (x : Guard). Some (guard_label category x)) (same_Some open_guard g e)
  labels_match (Scratch owner jobs) g e =
      let at = mapped_from (scratch_guard jobs) (user_number accounts owner) g e in
      let known = (user_range accounts owner at.0 at.1).1 in
      ap (option_map (λ user. scratch_label user (job_numbers category jobs))) at.1
      ∙ (λ i. Some (guarded_by (sym (user_reads accounts category as_made at.0 known) i ∷ sym (map-map category OfJob jobs) i) []))
      ∙ ap (λ (x : Guard). Some (guard_label category x)) at.2
  labels_match (Grouped group) g e =
      let at = mapped_from group_guard (group_number accounts group) g e in
      let range = group_range accounts group at.0 at.1 in
      ap (option_map (λ number. owned_label (group_owner (length accounts.users) number))) at.1
      ∙ (λ i. Some (guarded_by (sym (group_reads accounts category as_made at.0 range.0 range.1) i ∷ [])
      (sym (group_writes accounts category as_made at.0 range.0 range.1) i ∷ [])))
      ∙ ap (λ (x : Guard). Some (guard_label category x)) at.2

-- ---- the categories of jobs

-- a number is even or odd
halves : (q : ℕ) → (i : ℕ) × ((q ≡ 2 * i) ⊎ (q ≡ 2 * i + 1))
halves zero = (0, inl (omega arith))
halves (suc q) =
    let h = halves q in
    elim h.1 [ inl e ↦ (h.0, inr (omega (arith, e))) | inr e ↦ (suc h.0, inl (omega (arith, e))) ]

module _ (accounts : Accounts) (s : State) (f : Flat) (l : ObjectsMatch accounts s f) where
  -- no job's category has another name
  apart : (job : ProcName) (c : CategoryName) → (split_category c).0 < 7 → l.category c ≡ l.category (OfJob job) → ⊥
  apart job c kind e =
      let same : (split_category c).0
      ≡ 7 = ap (λ (d : CategoryName). (split_category d).0) (l.different c (OfJob job) e) in omega
      (arith, same, kind)

  -- the category before those of jobs is boot's, nobody's, a user's or a group's
  named_before : (job : ProcName) (i : ℕ) → (l.category (OfJob job) ≡ 2 * i) ⊎ (l.category (OfJob job) ≡ 2 * i + 1)
      → 0 < l.category (OfJob job) → l.category (OfJob job) < first_after_groups accounts → ⊥
  named_before job zero (inl e) made low = omega (arith, e, made)
  named_before job zero (inr e) made low = apart job OfBoot (omega arith) (l.as_made OfBoot 1 refl ∙ omega (arith, e))
  named_before job (suc i) half made low = elim (cases_lt (length accounts.users) i) [
    | inr known ↦ elim half [
      | inl e ↦ apart job (ReadsUser i) (omega arith) (user_reads accounts l.category l.as_made i known ∙ omega (arith, e))
      | inr e ↦ apart job (WritesUser i) (omega arith) (user_writes accounts l.category l.as_made i known ∙ omega (arith, e))
    ]
    | inl over ↦
        let k = i - length accounts.users in
        let first : 1 ≤ k = omega (arith, over) in
        let number : length accounts.users + k ≡ i = omega (arith, over) in
        elim half [
          | inl e ↦
              let last : k ≤ length accounts.groups = omega (arith, e, low, number) in
              apart job (ReadsGroup k) (omega arith) (group_reads accounts l.category l.as_made k first last ∙ omega (arith, e, number))
          | inr e ↦
              let last : k ≤ length accounts.groups = omega (arith, e, low, number) in
              apart job (WritesGroup k) (omega arith) (group_writes accounts l.category l.as_made k first last ∙ omega (arith, e, number))
        ]
  ]

  -- a job's category, once it was made, comes after these
  job_behind : (job : ProcName) → 0 < l.category (OfJob job) → first_after_groups accounts ≤ l.category (OfJob job)
  job_behind job made = elim (cases_lt (l.category (OfJob job)) (first_after_groups accounts)) [
    | inl low ↦ let h = halves (l.category (OfJob job)) in absurd (named_before job h.0 h.1 made low)
    | inr high ↦ high
  ]

  module _ (q : Path) (there : Node) (at : get f.files q ≡ Some there) where
    -- the categories of the jobs that a file or a directory is for rise after these
    jobs_behind : (class : Class) → there.class ≡ class → HasJobs accounts (numbered_class l.category class)
    jobs_behind (Private owner) is = tt
    jobs_behind (Readable owner) is = tt
    jobs_behind Open is = tt
    jobs_behind (Scratch owner jobs) is =
        rises_above 0 (first_after_groups accounts) (job_numbers l.category jobs) (subst (IsInOrder l.category) is (l.in_order q there at))
        (λ n e.
        let named = named_in l.category (map OfJob jobs) n (ap (λ (ns : List ℕ). is_in ns n) (map-map l.category OfJob jobs) ∙ e) in
        let found = job_among jobs named.0 named.2 in
        let number : n ≡ l.category (OfJob found.0) = named.1 ∙ ap l.category found.1 in
        let made = l.made (OfJob found.0) (inr (q, there, at, ap (λ (class : Class). is_for class found.0) is ∙ found.2)) in
        let behind = job_behind found.0 made.0 in
        omega (arith, number, behind))
    jobs_behind (Grouped group) is = tt

    -- The object at a path has the label of its class.
    pub label_of_class : (g : Guard) → class_guard accounts there.class ≡ Some g
        → IsClassLabel accounts (numbered_class l.category there.class) (guard_label l.category g)
    label_of_class g e = record { jobs = jobs_behind there.class refl; is = labels_match accounts l.category l.as_made there.class g e }

-- ---- its owner and its mode

-- what was found has the owner and the mode of the class
pub record HasOwnerAndMode (class : Class) (found : Option ShownClass) : Type 0 where
  pub shown_class : ShownClass
  pub is : found ≡ Some shown_class
  pub owner : owner_shown shown_class ≡ class_owner class
  pub mode : mode_of shown_class ≡ class_mode class

-- without its jobs a class has its owner and its mode
pub same_owner : (category : Categories) (class : Class) → owner_shown (without_jobs (numbered_class category class)) ≡ class_owner class
same_owner category (Private owner) = refl
same_owner category (Readable owner) = refl
same_owner category Open = refl
same_owner category (Scratch owner jobs) = refl
same_owner category (Grouped group) = refl

pub same_mode : (category : Categories) (class : Class) → mode_of (without_jobs (numbered_class category class)) ≡ class_mode class
same_mode category (Private owner) = refl
same_mode category (Readable owner) = refl
same_mode category Open = refl
same_mode category (Scratch owner jobs) = refl
same_mode category (Grouped group) = refl

-- The label of the object at a path shows the owner and the mode of its class.
pub class_revealed : (accounts : Accounts) (s : State) (f : Flat) (l : ObjectsMatch accounts s f) (q : Path)
    (there : Node) → get f.files q ≡ Some there → (g : Guard) → class_guard accounts there.class ≡ Some g
    → HasOwnerAndMode there.class (class_shown accounts (guard_label l.category g))
class_revealed accounts s f l q there at g e = record {
  shown_class = without_jobs (numbered_class l.category there.class);
  is = classes_shown accounts (numbered_class l.category there.class) (guard_label l.category g) (label_of_class accounts s f l q there at g e);
  owner = same_owner l.category there.class;
  mode = same_mode l.category there.class;
}
