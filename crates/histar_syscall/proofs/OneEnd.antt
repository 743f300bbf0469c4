-- The entries of a run and the state before it determine the state after it.
use Rattle.std.proofs.Common.{◌≡◌, ℕ, ◌⊎◌, inl, inr, [], ◌∷◌, Option, None, Some, sym, ap, ◌∙◌, subst}
use Rattle.std.specs.FinSet as set
use Rattle.std.proofs.lemmas.Bool.Decides.{eqb_tells}
use Rattle.histar_object.specs.Objects.{links_in}
use Rattle.histar_object.specs.State.{State}
use Rattle.histar_container.specs.ObjectsModel.{CutsOff}
use Rattle.histar_container.specs.Tree.{Reached}
use Rattle.histar_container.proofs.Trees.{reached_decided}
use Rattle.histar_rules.specs.declared.raw.Denied.{Denied}
use Rattle.histar_rules.specs.declared.raw.Denied.TheVariants.{NoEntry}
use Rattle.histar_rules.specs.declared.raw.RawCall.{RawCall}
use Rattle.histar_rules.specs.declared.raw.RawCall.TheVariants.{MakeCategory, OwnLabel, SetLabel, SetClearance, MakeSegment, MakeContainer}
use Rattle.histar_rules.specs.declared.raw.RawCall.TheVariants.{MakeThread, MakeGate, Enter, Read, Write, Unlink, LabelOf}
use Rattle.histar_rules.specs.Rules.{check, Changes, Leaves, no_container, no_link}
use Rattle.histar_rules.specs.Sound.{root_number, IsSound}
use Rattle.histar_rules.proofs.Passing.{unless_none, first, rest}
use Rattle.histar_rules.proofs.Sound.{sound_changes}
use Rattle.histar_syscall.specs.Laws.{RunsHaveOneEnd}
use Rattle.histar_syscall.specs.Runs.{IsRun}

-- a cut determines the object at each number
cut_at : (s one other : State) (d o : ℕ) → CutsOff s d o one → CutsOff s d o other
    → ((q : ℕ) → Reached s.objects o q ⊎ (Reached s.objects o q → ⊥)) → (q : ℕ) → one.objects q ≡ other.objects q
cut_at s one other d o first second decided q = elim (decided q) [
  | inl r ↦ first.is_cut.gone q r ∙ sym (second.is_cut.gone q r)
  | inr not ↦ elim (eqb_tells q d) [
    | inl e ↦ ap one.objects e.1 ∙ first.is_cut.unlinked ∙ sym second.is_cut.unlinked ∙ sym (ap other.objects e.1)
    | inr e ↦ first.is_cut.stays q not e.1 ∙ sym (second.is_cut.stays q not e.1)
  ]
]

-- so it determines the state
cut_once : (s one other : State) (t d o : ℕ) → IsSound s → check s t (Unlink d o) ≡ None → CutsOff s d o one → CutsOff s d o other → one ≡ other
cut_once s one other t d o sound e first_cut second_cut =
    let link = first (no_link s t d o) _ e in
    let linked = unless_none (set.contains (links_in (s.objects d)) o) NoEntry (rest (no_container s t d) _ link) in
    let at = cut_at s one other d o first_cut second_cut (reached_decided s.objects root_number s.next_object sound.tree d o linked) in
    λ i. record {
      objects = λ q. at q i;
      next_object = (first_cut.next_object ∙ sym second_cut.next_object) i;
      next_category = (first_cut.next_category ∙ sym second_cut.next_category) i;
    }

-- a granted call determines the state that it leaves
changes_once : (s one other : State) (t : ℕ) (call : RawCall) → IsSound s → check s t call ≡ None → Changes s t call one
    → Changes s t call other → one ≡ other
changes_once s one other t MakeCategory sound e is was = is ∙ sym was
changes_once s one other t OwnLabel sound e is was = is ∙ sym was
changes_once s one other t (SetLabel label) sound e is was = is ∙ sym was
changes_once s one other t (SetClearance clearance) sound e is was = is ∙ sym was
changes_once s one other t (MakeSegment d label bytes) sound e is was = is ∙ sym was
changes_once s one other t (MakeContainer d label) sound e is was = is ∙ sym was
changes_once s one other t (MakeThread d label clearance) sound e is was = is ∙ sym was
changes_once s one other t (MakeGate d label clearance entry) sound e is was = is ∙ sym was
changes_once s one other t (Enter d o wanted clearance verify) sound e is was = is ∙ sym was
changes_once s one other t (Read d o) sound e is was = is ∙ sym was
changes_once s one other t (Write d o keep bytes) sound e is was = is ∙ sym was
changes_once s one other t (Unlink d o) sound e is was = cut_once s one other t d o sound e is was
changes_once s one other t (LabelOf d o) sound e is was = is ∙ sym was

-- so does a call of any outcome, and the state that it leaves is sound
leaves_once : (s one other : State) (t : ℕ) (call : RawCall) (denied : Option Denied) → IsSound s
    → check s t call ≡ denied → Leaves denied s t call one → Leaves denied s t call other → (one ≡ other) × IsSound one
leaves_once s one other t call None sound e is was = (changes_once s one other t call sound e is was, sound_changes s one t call sound e is)
leaves_once s one other t call (Some denied) sound e is was = (is ∙ sym was, subst IsSound (sym is) sound)

-- so a run has one end
pub one_end : RunsHaveOneEnd
one_end s one other [] sound first second = first ∙ sym second
one_end s one other (e ∷ entries) sound first second =
    let step = leaves_once s first.0 second.0 e.thread e.call e.denied sound first.1 first.2 second.2 in
    one_end first.0 one other entries step.1 first.3 (subst (λ (mid : State). IsRun mid entries other) (sym step.0) second.3)
