-- In a state that is represented, the segment of a process holds the status that the naming determines.
use Rattle.std.proofs.Common.{◌≡◌, ℕ, ◌^◌, ◌<◌, List, [], ◌∷◌, map, Option, None, Some, inl, inr, refl, sym, ap, ◌∙◌, arith}
use Rattle.std.specs.Prelude.{option_and_then}
use Rattle.std.specs.List.{AllByRecursion}
use Rattle.std.proofs.lemmas.Bool.{cases_lt}
use Rattle.std.proofs.lemmas.Option.{none-some}
use Rattle.histar_flat.specs.Words.{ProcName}
use Rattle.histar_object.specs.Objects.{bytes_in}
use Rattle.histar_object.specs.State.{State}
use Rattle.histar_container.specs.Tree.{Address}
use Rattle.histar_flat.specs.Accounts.{Accounts}
use Rattle.histar_flat.specs.Classes.{Process}
use Rattle.histar_flat.specs.FlatState.{Flat}
use Rattle.histar_layout.specs.Status.{IsChild, IsStatus}
use Rattle.histar_refinement.specs.Addresses.{Step, home_address}
use Rattle.histar_refinement.specs.Addresses.Step.{Status, Inside, Runner}
use Rattle.histar_refinement.specs.Agrees.{bare}
use Rattle.histar_refinement.specs.Processes.{or_zero, listed_by, status_by, children}
use Rattle.histar_refinement.proofs.Expected.{bytes_for, status_object}
use Rattle.histar_refinement.specs.Represents.{ObjectsMatch}
use Rattle.histar_refinement.proofs.Roots.{asked_status}
use Rattle.histar_refinement.proofs.LinesMatched.{bytes_bare}
use Rattle.histar_refinement.proofs.Agreement.{agreement}

module _ (accounts : Accounts) (s : State) (f : Flat) (l : ObjectsMatch accounts s f) where
  number_small : (a : Address Step) → or_zero (l.naming.number a) < 2 ^ 64
  number_small a = by (l.naming.number a) refl
    where
      by : (o : Option ℕ) → l.naming.number a ≡ o → or_zero o < 2 ^ 64
      by None e = omega arith
      by (Some q) e = elim (cases_lt q s.next_object) [
        | inl lt ↦ let few = l.numbered in omega (arith, lt, few)
        | inr le ↦ absurd (none-some a (sym ((agreement l).tree.unused q le) ∙ (agreement l).tree.addressed a q e))
      ]

  each_small : (me : ProcName) (ns : List ℕ) → AllByRecursion IsChild (map (listed_by l.naming.number me) ns)
  each_small me [] = tt
  each_small me (n ∷ ns) = ((number_small (home_address (n ∷ me)), number_small (Status ∷ home_address (n ∷ me))), each_small me ns)

  -- the process segment holds the status that the naming determines
  pub holds_status : (me : ProcName) (p : Process) (g : ℕ) → f.processes me ≡ Some p → l.naming.number (Status ∷ home_address me) ≡ Some g
      → IsStatus (bytes_in (s.objects g)) (status_by f.processes l.naming.number me p)
  holds_status me p g is at = record {
    internal = number_small (Inside ∷ home_address me);
    thread = number_small (Runner ∷ Inside ∷ home_address me);
    each = each_small me (children f.processes me p.born);
    spelled =
        sym (bytes_bare (s.objects g))
        ∙ ap (λ (q : Option ℕ). bytes_in (bare (option_and_then s.objects q))) (sym at)
        ∙ ap bytes_in ((agreement l).objects (Status ∷ home_address me) ∙ asked_status accounts l.category f l.naming.number me)
        ∙ ap (λ (o : Option Process). bytes_in (status_object accounts l.category (bytes_for accounts l.category f l.naming.number me o) me o)) is;
  }
