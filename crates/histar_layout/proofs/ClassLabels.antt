-- A label is of one class at most: the one that it shows, with the jobs that it has.
use Rattle.std.proofs.Common.{◌≡◌, ℕ, ◌<◌, ◌≤◌, ◌==◌, Bool, true, false, inl, inr, ◌&&◌, ◌||◌, List, [], ◌∷◌, ◌++◌, None, Some, arith, refl}
use Rattle.std.proofs.Common.{sym, ap, ◌∙◌, subst}
use Rattle.std.specs.Prelude.{nat_le, option_map}
use Rattle.std.proofs.lemmas.Bool.Decides.{nat_tests, eqb_tells}
use Rattle.std.proofs.lemmas.Bool.{and_from}
use Rattle.std.proofs.lemmas.Option.{same_Some, none-some}
use Rattle.histar_flat.specs.Accounts.{Accounts}
use Rattle.histar_flat.specs.Words.{Name}
use Rattle.histar_level.specs.declared.level.Level.{Level}
use Rattle.histar_level.specs.declared.level.Level.TheVariants.{L1, L3}
use Rattle.histar_level.specs.Levels.{Levels, level_of, default_of}
use Rattle.histar_label.specs.Levels.{constant}
use Rattle.histar_label.proofs.Readers.{default_of-constant}
use Rattle.histar_layout.specs.Jobs.{is_three}
use Rattle.histar_layout.specs.Labelling.{each_at}
use Rattle.histar_layout.specs.Categories.{read_category, write_category, scratch_label}
use Rattle.histar_layout.specs.ShownClass.{class_shown}
use Rattle.histar_layout.specs.declared.shown.ShownClass.{ShownClass}
use Rattle.histar_layout.specs.declared.shown.ShownClass.TheVariants as shown
use Rattle.histar_layout.specs.declared.class.Class.{Class}
use Rattle.histar_layout.specs.declared.class.Class.TheVariants.{Private, Readable, Open, Scratch, Group}
use Rattle.histar_layout.specs.ClassLabels.{IsRisingFrom, first_after_groups, class_label, HasJobs, IsClassLabel, LabelsHaveOneClass, without_jobs}
use Rattle.histar_layout.specs.ClassLabels.{with_jobs, jobs_of, likely_class}
use Rattle.histar_layout.proofs.Members.{is_in, mapped_from, same_truth, first_of, second_of}
use Rattle.histar_layout.proofs.LabelLevels.{guarded_level, at_guarded, default_kept}
use Rattle.histar_layout.proofs.Rising.{not_smaller, not_among, one_rising, rises_above}
use Rattle.histar_layout.proofs.Passed.{in_passed, passed_rise}
use Rattle.histar_layout.proofs.ClassesShown.{classes_shown, before_jobs}

-- the label has a category of jobs at 3
abbrev is_job : Accounts → ℕ × Level → Bool
is_job accounts e = is_three e.1 && nat_le (first_after_groups accounts) e.0

-- a test of order that passes
le_from_test : (a b : ℕ) → nat_le a b ≡ true → a ≤ b
le_from_test a b e = grind (arith, nat_tests, e)

test_from_le : (a b : ℕ) → a ≤ b → nat_le a b ≡ true
test_from_le a b h = grind (arith, nat_tests, h)

-- a label whose default is not 3 lists its categories at 3
module _ (accounts : Accounts) (label : Levels) (plain : is_three (default_of label) ≡ false) where
  jobs_at : (q : ℕ) → is_in (jobs_of accounts label) q ≡ (is_three (level_of label q) && nat_le (first_after_groups accounts) q)
  jobs_at = in_passed (is_job accounts) label (λ c. ap (λ b. b && nat_le (first_after_groups accounts) c) plain)

  -- the categories of jobs of a label rise, above those of users and groups
  jobs_rise : IsRisingFrom (first_after_groups accounts) (jobs_of accounts label)
  jobs_rise = rises_above 0 (first_after_groups accounts) (jobs_of accounts label) (passed_rise (is_job accounts) label)
      (λ q e. le_from_test (first_after_groups accounts) q
      (second_of (is_three (level_of label q)) (nat_le (first_after_groups accounts) q) (sym (jobs_at q) ∙ e)))

-- the default of a label of a class is 1
scratch_default : (user : ℕ) (jobs : List ℕ) → is_three (default_of (scratch_label user jobs)) ≡ false
scratch_default user jobs = ap is_three (default_kept (constant L1) (each_at L3 (read_category user ∷ jobs) ++ []) ∙ default_of-constant L1)

-- outside the second list, a category is at 3 exactly where it is in the first
secret_at : (s : Bool) → is_three (guarded_level s false) ≡ s
secret_at true = refl
secret_at false = refl

module _ (accounts : Accounts) (user : ℕ) (jobs : List ℕ) (rising : IsRisingFrom (first_after_groups accounts) jobs)
    (known : write_category user < first_after_groups accounts) where
  -- a label for jobs has a category at 3 exactly where it is the user's read category or a job's
  at_three : (q : ℕ) → is_three (level_of (scratch_label user jobs) q) ≡ (q == read_category user || is_in jobs q)
  at_three q = ap is_three (at_guarded (read_category user ∷ jobs) [] q) ∙ secret_at (q == read_category user || is_in jobs q)

  is_a_job : (q : ℕ) → ((q == read_category user || is_in jobs q) && nat_le (first_after_groups accounts) q) ≡ is_in jobs q
  is_a_job q = elim (eqb_tells q (read_category user)) [
    | inl e ↦
        let here = e.1 in
        let low : q < first_after_groups accounts = omega (arith, here, known) in
        let over : nat_le (first_after_groups accounts) q ≡ false = grind (arith, nat_tests, low) in
        (λ i. (e.0 i || is_in jobs q) && over i) ∙ sym (not_among (first_after_groups accounts) jobs q rising low)
    | inr e ↦
        ap (λ b. (b || is_in jobs q) && nat_le (first_after_groups accounts) q) e.0
        ∙ same_truth (is_in jobs q && nat_le (first_after_groups accounts) q) (is_in jobs q)
        (first_of (is_in jobs q) (nat_le (first_after_groups accounts) q))
        (λ there. and_from _ _ there (test_from_le (first_after_groups accounts) q (not_smaller (first_after_groups accounts) jobs q rising there)))
  ]

  -- the label for jobs has these very jobs
  jobs_read : jobs_of accounts (scratch_label user jobs) ≡ jobs
  jobs_read =
      one_rising (first_after_groups accounts) (first_after_groups accounts)
      (jobs_of accounts (scratch_label user jobs)) jobs
      (jobs_rise accounts (scratch_label user jobs) (scratch_default user jobs)) rising
      (λ q. jobs_at accounts (scratch_label user jobs) (scratch_default user jobs) q
      ∙ ap (λ b. b && nat_le (first_after_groups accounts) q) (at_three q) ∙ is_a_job q)

-- the class that a label of a class shows, with the jobs of the label, is the class
pub jobs_again : (accounts : Accounts) (class : Class) (label : Levels) → IsClassLabel accounts class label
    → with_jobs (jobs_of accounts label) (without_jobs class) ≡ class
jobs_again accounts (Private owner) label is = refl
jobs_again accounts (Readable owner) label is = refl
jobs_again accounts Open label is = refl
jobs_again accounts (Scratch owner jobs) label is =
    let at = mapped_from _ _ label is.is in
    ap (λ (chain : List ℕ). Scratch owner chain)
    (ap (jobs_of accounts) (sym at.2) ∙ jobs_read accounts at.0 jobs is.jobs (before_jobs accounts owner at.0 at.1))
jobs_again accounts (Group group) label is = refl

-- the class of a label is the only one that it can have
pub likely_is : (accounts : Accounts) (class : Class) (label : Levels) → IsClassLabel accounts class label → likely_class accounts label ≡ Some class
likely_is accounts class label is =
    ap (option_map (with_jobs (jobs_of accounts label))) (classes_shown accounts class label is) ∙ ap Some (jobs_again accounts class label is)

-- A label is of one class at most.
pub one_class : LabelsHaveOneClass
one_class accounts label a b of_a of_b = same_Some a b (sym (likely_is accounts a label of_a) ∙ likely_is accounts b label of_b)

-- ---- the class that is found

-- where the label can have no class, it has none
pub none_found : (accounts : Accounts) (label : Levels) → likely_class accounts label ≡ None → (class : Class) → IsClassLabel accounts class label → ⊥
none_found accounts label none class is = none-some class (sym none ∙ likely_is accounts class label is)

-- where the label is not that of the only class that it can have, it has none
pub other_label : (accounts : Accounts) (label : Levels) (likely : Class) → likely_class accounts label ≡ Some likely
    → (class_label accounts likely ≡ Some label → ⊥) → (class : Class) → IsClassLabel accounts class label → ⊥
other_label accounts label likely found other class is =
    let same : likely ≡ class = same_Some likely class (sym found ∙ likely_is accounts class label is) in
    other (ap (class_label accounts) same ∙ is.is)

-- the jobs of a shown class with these jobs
shown_jobs : (jobs : List ℕ) (class : ShownClass) (owner : Name) (chain : List ℕ) → with_jobs jobs class ≡ Scratch owner chain → jobs ≡ chain
shown_jobs jobs (shown.Private name) owner chain e = absurd (cc)
shown_jobs jobs (shown.Readable name) owner chain e = absurd (cc)
shown_jobs jobs shown.Open owner chain e = absurd (cc)
shown_jobs jobs (shown.Scratch name) owner chain e = cc
shown_jobs jobs (shown.Group name) owner chain e = absurd (cc)

-- the jobs of the only class that a label can have rise
likely_jobs : (accounts : Accounts) (label : Levels) (class : Class) → likely_class accounts label ≡ Some class
    → class_label accounts class ≡ Some label → HasJobs accounts class
likely_jobs accounts label (Private owner) likely is = tt
likely_jobs accounts label (Readable owner) likely is = tt
likely_jobs accounts label Open likely is = tt
likely_jobs accounts label (Scratch owner chain) likely is =
    let shows = mapped_from (with_jobs (jobs_of accounts label)) (class_shown accounts label) (Scratch owner chain) likely in
    let at = mapped_from _ _ label is in
    subst (IsRisingFrom (first_after_groups accounts)) (shown_jobs (jobs_of accounts label) shows.0 owner chain shows.2)
    (jobs_rise accounts label (ap (λ (l : Levels). is_three (default_of l)) (sym at.2) ∙ scratch_default at.0 chain))
likely_jobs accounts label (Group group) likely is = tt

-- where the label is that of the only class that it can have, it has this class
pub found_class : (accounts : Accounts) (label : Levels) (class : Class) → likely_class accounts label ≡ Some class
    → class_label accounts class ≡ Some label → IsClassLabel accounts class label
found_class accounts label class likely is = record { jobs = likely_jobs accounts label class likely is; is = is }
