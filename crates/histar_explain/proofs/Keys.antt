-- The categories at which a test of a denial fails are the keys that the thread lacks.
use Rattle.std.proofs.Common.{◌≡◌, ℕ, Bool, true, false, ◌||◌, refl, sym, ap, ◌∙◌}
use mathlib.Core.Bool.{false≢true}
use Rattle.histar_level.specs.declared.level.Level.{Level}
use Rattle.histar_level.specs.declared.level.Level.TheVariants.{Star, L0, L1, L2, L3}
use Rattle.histar_level.specs.Levels.{Levels, level_of}
use Rattle.histar_object.specs.State.{State}
use Rattle.histar_rules.specs.declared.raw.Denied.{Denied}
use Rattle.histar_rules.specs.declared.raw.Denied.TheVariants.{Observe, Modify, Range, Gate, NoEntry, NoThread, BadKind, TooBig}
use Rattle.histar_rules.specs.declared.raw.RawCall.{RawCall}
use Rattle.histar_rules.specs.declared.raw.RawCall.TheVariants.{MakeCategory, OwnLabel, SetLabel, SetClearance, MakeSegment, MakeContainer}
use Rattle.histar_rules.specs.declared.raw.RawCall.TheVariants.{MakeThread, MakeGate, Enter, Read, Write, Unlink, LabelOf}
use Rattle.histar_explain.specs.Comparisons.{exceeds}
use Rattle.histar_explain.specs.Named.{label_in, clearance_in, observed_by, modified_by}
use Rattle.histar_explain.specs.Tests.{tests_with}
use Rattle.histar_explain.specs.Laws.{some_fails_at, LacksKeys, KeysAreLacking}

-- star is above no level
pub star_below : (l : Level) → exceeds false Star l ≡ false
star_below Star = refl
star_below L0 = refl
star_below L1 = refl
star_below L2 = refl
star_below L3 = refl

-- and where an owner passes, no level is above star
pub star_above : (l : Level) → exceeds true l Star ≡ false
star_above Star = refl
star_above L0 = refl
star_above L1 = refl
star_above L2 = refl
star_above L3 = refl

-- Tests that at each category depend on the thread's level alone, and that star passes, fail exactly at the lacking keys.
by_level : (s : State) (t : ℕ) (own : Levels) (call : RawCall) (denied : Denied) (fails : ℕ → Level → Bool)
    → ((o : Levels) (c : ℕ) → some_fails_at (tests_with o s t call denied) c ≡ fails c (level_of o c))
    → ((c : ℕ) → fails c Star ≡ false) → LacksKeys s t own call denied
by_level s t own call denied fails at star = record {
  enough = λ keyed keys c. at keyed c ∙
      (elim (some_fails_at (tests_with own s t call denied) c) as
      (λ b. some_fails_at (tests_with own s t call denied) c ≡ b → fails c (level_of keyed c) ≡ false) [
        | true ↦ λ failing. ap (fails c) (keys.owned c failing) ∙ star c
        | false ↦ λ passing. ap (fails c) (keys.others c passing) ∙ sym (at own c) ∙ passing
      ] refl);
  each_wanted = λ short k failing same. at short k ∙ ap (fails k) same ∙ sym (at own k) ∙ failing;
}

by_observe : (s : State) (t : ℕ) (own : Levels) (call : RawCall) → LacksKeys s t own call Observe
by_observe s t own call =
    let label = label_in s (observed_by s t call) in
    by_level s t own call Observe (λ c l. exceeds true (level_of label c) l || false) (λ o c. refl)
    (λ c. ap (λ b. b || false) (star_above (level_of label c)))

by_modify : (s : State) (t : ℕ) (own : Levels) (call : RawCall) → LacksKeys s t own call Modify
by_modify s t own call =
    let label = label_in s (modified_by call) in
    by_level s t own call Modify (λ c l. exceeds false l (level_of label c) || (exceeds true (level_of label c) l || false)) (λ o c. refl)
    (λ c i. star_below (level_of label c) i || (star_above (level_of label c) i || false))

-- without tests there are no keys
by_none : (s : State) (t : ℕ) (own : Levels) (call : RawCall)
    → ((o : Levels) (c : ℕ) → some_fails_at (tests_with o s t call Gate) c ≡ false) → LacksKeys s t own call Gate
by_none s t own call none = by_level s t own call Gate (λ c l. false) none (λ c. refl)

by_gate : (s : State) (t : ℕ) (own : Levels) (call : RawCall) → LacksKeys s t own call Gate
by_gate s t own (Enter d o wanted clearance verify) =
    let limit = clearance_in s o in
    by_level s t own (Enter d o wanted clearance verify) Gate
    (λ c l. exceeds false l (level_of limit c) || (exceeds false l (level_of verify c) || false)) (λ o c. refl)
    (λ c i. star_below (level_of limit c) i || (star_below (level_of verify c) i || false))
by_gate s t own MakeCategory = by_none s t own MakeCategory (λ o c. refl)
by_gate s t own OwnLabel = by_none s t own OwnLabel (λ o c. refl)
by_gate s t own (SetLabel label) = by_none s t own (SetLabel label) (λ o c. refl)
by_gate s t own (SetClearance clearance) = by_none s t own (SetClearance clearance) (λ o c. refl)
by_gate s t own (MakeSegment d label bytes) = by_none s t own (MakeSegment d label bytes) (λ o c. refl)
by_gate s t own (MakeContainer d label) = by_none s t own (MakeContainer d label) (λ o c. refl)
by_gate s t own (MakeThread d label clearance) = by_none s t own (MakeThread d label clearance) (λ o c. refl)
by_gate s t own (MakeGate d label clearance entry) = by_none s t own (MakeGate d label clearance entry) (λ o c. refl)
by_gate s t own (Read d o) = by_none s t own (Read d o) (λ o c. refl)
by_gate s t own (Write d o keep bytes) = by_none s t own (Write d o keep bytes) (λ o c. refl)
by_gate s t own (Unlink d o) = by_none s t own (Unlink d o) (λ o c. refl)
by_gate s t own (LabelOf d o) = by_none s t own (LabelOf d o) (λ o c. refl)

pub keys_are_lacking : KeysAreLacking
keys_are_lacking s t own call Observe compared = by_observe s t own call
keys_are_lacking s t own call Modify compared = by_modify s t own call
keys_are_lacking s t own call Gate compared = by_gate s t own call
keys_are_lacking s t own call Range compared = absurd (false≢true compared)
keys_are_lacking s t own call NoEntry compared = absurd (false≢true compared)
keys_are_lacking s t own call NoThread compared = absurd (false≢true compared)
keys_are_lacking s t own call BadKind compared = absurd (false≢true compared)
keys_are_lacking s t own call TooBig compared = absurd (false≢true compared)
