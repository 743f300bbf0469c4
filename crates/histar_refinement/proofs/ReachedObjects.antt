-- Each object of a state that is represented is reached from the root container by links.
use Rattle.std.proofs.Common.{◌≡◌, ℕ, true, [], ◌∷◌, Option, None, Some, refl, sym, ap, ◌∙◌}
use mathlib.Core.Bool.{false≢true}
use Rattle.histar_flat.specs.Accounts.{Accounts}
use Rattle.histar_flat.specs.FlatState.{Flat}
use Rattle.histar_object.specs.Objects.{is_present}
use Rattle.histar_object.specs.State.{State}
use Rattle.histar_container.specs.Tree.{Address, wanted, under, objects_at, Reached}
use Rattle.histar_container.proofs.Reaching.{under_reached}
use Rattle.histar_rules.specs.Sound.{root_number}
use Rattle.histar_refinement.specs.Addresses.{Step, same_step}
use Rattle.histar_refinement.specs.Represents.{ObjectsMatch}
use Rattle.histar_refinement.proofs.Steps.{step_tests_equality}
use Rattle.histar_refinement.proofs.Agreement.{agreement}

-- each address lies at or below that of the root container
below_root : (a : Address Step) → under same_step [] a ≡ true
below_root [] = refl
below_root (x ∷ a) = below_root a

-- each object that there is is reached from the root container
pub objects_reached : (accounts : Accounts) (s : State) (f : Flat) → ObjectsMatch accounts s f → (q : ℕ)
    → is_present (s.objects q) ≡ true → Reached s.objects root_number q
objects_reached accounts s f l q is = by (l.naming.address q) refl
  where
    by : (a : Option (Address Step)) → l.naming.address q ≡ a → Reached s.objects root_number q
    by None e = absurd (false≢true (sym (ap is_present ((agreement l).tree.as_expected q ∙ ap (wanted (objects_at s.objects l.naming)) e)) ∙ is))
    by (Some a) e =
        under_reached same_step step_tests_equality s.objects s.next_object (objects_at s.objects l.naming) l.naming (agreement l).tree
        root_number [] ((agreement l).tree.addressed [] root_number (l.as_booted [] root_number refl)) a q e (below_root a)
