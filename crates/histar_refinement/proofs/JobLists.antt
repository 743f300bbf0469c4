-- Lists of jobs with one job more at the end.
use Rattle.std.proofs.Common.{◌≡◌, ◌≢◌, ℕ, ◌+◌, ◌<◌, ◌≤◌, inl, inr, Bool, true, false, ◌&&◌, List, [], ◌∷◌, ◌++◌, Option, Some, arith, refl, sym, ap}
use Rattle.std.proofs.Common.{◌∙◌}
use Rattle.std.specs.Prelude.{map, nat_le}
use Rattle.std.proofs.lemmas.Bool.Decides.{nat_tests}
use Rattle.std.proofs.lemmas.Bool.{or_left, or_right}
use mathlib.Core.Bool.{true≢false}
use Rattle.histar_flat.specs.Words.{ProcName}
use Rattle.histar_base.specs.Paths.{same}
use Rattle.histar_flat.specs.Accounts.{has}
use Rattle.histar_flat.specs.Classes.{Process}
use Rattle.histar_flat.specs.FlatState.{Flat, was_given, is_given}
use Rattle.histar_flat.proofs.GivenNames.{longer_has}
use Rattle.histar_refinement.specs.Categories.{Categories}
use Rattle.histar_refinement.specs.Categories.CategoryName.{OfJob}
use Rattle.histar_refinement.specs.Represents.{AreInOrder}
use Rattle.histar_layout.specs.ClassLabels.{IsRisingFrom}
use Rattle.histar_layout.proofs.Members.{first_of, second_of}
use Rattle.histar_layout.proofs.Declared.{equal_tested}

-- the new one is in neither list
pub not_added : (jobs : List ProcName) (child job : ProcName) → has jobs job ≡ false → job ≢ child → has (jobs ++ child ∷ []) job ≡ false
not_added jobs child job e other = by (has (jobs ++ child ∷ []) job) refl
  where
    by : (b : Bool) → has (jobs ++ child ∷ []) job ≡ b → b ≡ false
    by true k = elim (longer_has jobs child job k) [ inl old ↦ absurd (true≢false (sym old ∙ e)) | inr is ↦ absurd (other is) ]
    by false k = refl

-- jobs in order stay in order if the new one's number is above all others
rising_last : (category : Categories) (child : ProcName) (n : ℕ) (jobs : List ProcName) → n ≤ category (OfJob child)
    → ((job : ProcName) → has jobs job ≡ true → category (OfJob job) < category (OfJob child))
    → IsRisingFrom n (map (λ job. category (OfJob job)) jobs) → IsRisingFrom n (map (λ job. category (OfJob job)) (jobs ++ child ∷ []))
rising_last category child n [] low below rising = (low, tt)
rising_last category child n (j ∷ jobs) low below rising =
    let here = below j (or_left (same j j) (has jobs j) (equal_tested j j refl)) in (
      rising.0,
      rising_last category child (category (OfJob j) + 1) jobs (omega (arith, here))
          (λ job e. below job (or_right (same job j) (has jobs job) e)) rising.1,
    )

pub in_order_last : (category : Categories) (child : ProcName) (jobs : List ProcName)
    → ((job : ProcName) → has jobs job ≡ true → category (OfJob job) < category (OfJob child))
    → AreInOrder category jobs → AreInOrder category (jobs ++ child ∷ [])
in_order_last category child jobs below = rising_last category child 0 jobs (omega arith) below

-- the name of a child that is to be born was never given
pub never_given : (f : Flat) (me : ProcName) (p : Process) → f.processes me ≡ Some p → is_given f.processes ((p.born + 1) ∷ me) ≡ true → ⊥
never_given f me p here e =
    let given : was_given (f.processes me) (p.born + 1) ≡ true = first_of (was_given (f.processes me) (p.born + 1)) (is_given f.processes me) e in
    let within : (nat_le 1 (p.born + 1) && nat_le (p.born + 1) p.born) ≡ true =
    ap (λ (o : Option Process). was_given o (p.born + 1)) (sym here) ∙ given in
    let top : nat_le (p.born + 1) p.born ≡ true = second_of (nat_le 1 (p.born + 1)) (nat_le (p.born + 1) p.born) within in
    absurd (grind (arith, nat_tests, top))
