-- The laws of the reasons of a denial.
use Rattle.std.specs.Prelude.{◌≡◌, ◌≢◌, ◌⊎◌, ℕ, true, false, Some, Bool, List, if◌then◌else◌}
use Rattle.std.specs.List.{list_any}
use Rattle.histar_level.specs.declared.level.Level.TheVariants.{Star}
use Rattle.histar_level.specs.Levels.{Levels, level_of}
use Rattle.histar_object.specs.State.{State, observes}
use Rattle.histar_rules.specs.declared.raw.Denied.{Denied}
use Rattle.histar_rules.specs.declared.raw.Denied.TheVariants.{Observe}
use Rattle.histar_rules.specs.Rights.{with_changed, with_label}
use Rattle.histar_rules.specs.declared.raw.RawCall.{RawCall}
use Rattle.histar_rules.specs.Rules.{check}
use Rattle.histar_syscall.specs.Runs.{is_label_refusal}
use Rattle.histar_explain.specs.declared.reasons.Reason.{Reason}
use Rattle.histar_explain.specs.Comparisons.{Comparison, fails_at, Explains, is_shown}
use Rattle.histar_explain.specs.Named.{label_in, container_named, observed_by}
use Rattle.histar_explain.specs.Tests.{Test, tests_with, tests}

-- a reason shows exactly the categories at which its comparison fails
abbrev pub ShowsExactly : Type 0
ShowsExactly = (t : Comparison) (r : Reason) → Explains t r → (c : ℕ) → is_shown r c ≡ fails_at t c

-- whether one of some tests fails at a category
abbrev pub some_fails_at : List Test → ℕ → Bool
some_fails_at some c = list_any (λ test. fails_at test.comparison c) some

-- whether one of some reasons shows a category
abbrev pub some_shown : List Reason → ℕ → Bool
some_shown reasons c = list_any (λ r. is_shown r c) reasons

-- a label that has star at each category at which one of some tests fails, and is as before elsewhere
pub record HasKeys (some : List Test) (own keyed : Levels) : Type 0 where
  pub owned : (c : ℕ) → some_fails_at some c ≡ true → level_of keyed c ≡ Star
  pub others : (c : ℕ) → some_fails_at some c ≡ false → level_of keyed c ≡ level_of own c

-- The categories at which a test of a denial fails are the keys that the thread lacks: with star at all of them its label would pass each
-- test at each category, and with any other label that leaves one of them as it is, a test still fails there.
pub record LacksKeys (s : State) (t : ℕ) (own : Levels) (call : RawCall) (denied : Denied) : Type 0 where
  pub enough : (keyed : Levels) → HasKeys (tests_with own s t call denied) own keyed → (c : ℕ) → some_fails_at (tests_with keyed s t call denied) c ≡ false
  pub each_wanted : (short : Levels) (k : ℕ) → some_fails_at (tests_with own s t call denied) k ≡ true → level_of short k ≡ level_of own k → some_fails_at (tests_with short s t call denied) k ≡ true

-- this holds of each denial that compares the thread's label with that of an object to observe, modify or enter
abbrev pub KeysAreLacking : Type 0
KeysAreLacking = (s : State) (t : ℕ) (own : Levels) (call : RawCall) (denied : Denied) → is_label_refusal (Some denied) ≡ true → LacksKeys s t own call denied

-- where a call is denied by such tests, one of them fails at some category
abbrev pub DenialsRestOnTests : Type 0
DenialsRestOnTests = (s : State) (t : ℕ) (call : RawCall) (denied : Denied) → is_label_refusal (Some denied) ≡ true → check s t call ≡ Some denied
    → (c : ℕ) × (some_fails_at (tests s t call denied) c ≡ true)

-- the state in which the thread has this label
abbrev pub relabelled : State → ℕ → Levels → State
relabelled s t label = with_changed s t (with_label label)

-- With star at all keys that a denial lacks, the same call would not be denied in the same way; but a read whose container was refused may
-- then be refused at its segment.
abbrev pub KeysOpen : Type 0
KeysOpen = (s : State) (t : ℕ) (call : RawCall) (denied : Denied) (keyed : Levels) → is_label_refusal (Some denied) ≡ true → check s t call ≡ Some denied
    → HasKeys (tests s t call denied) (label_in s t) keyed → check (relabelled s t keyed) t call ≡ Some denied
    → (denied ≡ Observe) × (observed_by (relabelled s t keyed) t call ≢ observed_by s t call)

-- for some tests and a label there is a label that has star at all their keys
abbrev pub KeysExist : Type 0
KeysExist = (some : List Test) (own : Levels) → (keyed : Levels) × HasKeys some own keyed

-- a label that has star at some more categories, and is as before elsewhere
abbrev pub OwnsMore : Levels → Levels → Type 0
OwnsMore own label = (c : ℕ) → (level_of label c ≡ Star) ⊎ (level_of label c ≡ level_of own c)

-- A call that was denied is still denied with another label of its thread: in the same way, unless with that label the thread may not observe
-- the container. It may, and is denied at the same object, where it only owns more.
pub record IsStillDenied (s : State) (t : ℕ) (call : RawCall) (denied : Denied) (label : Levels) : Type 0 where
  pub refused : check (relabelled s t label) t call
      ≡ Some (if observes ((relabelled s t label).objects t) ((relabelled s t label).objects (container_named call)) then denied else Observe)
  pub alike : OwnsMore (label_in s t) label → check (relabelled s t label) t call ≡ Some denied
  pub there : OwnsMore (label_in s t) label → observed_by (relabelled s t label) t call ≡ observed_by s t call

-- Each key is needed: with any label that leaves one of them as it is, whatever it has elsewhere, the call is still denied.
abbrev pub KeysAreNeeded : Type 0
KeysAreNeeded = (s : State) (t : ℕ) (call : RawCall) (denied : Denied) (short : Levels) (k : ℕ) → is_label_refusal (Some denied) ≡ true
    → check s t call ≡ Some denied → some_fails_at (tests s t call denied) k ≡ true → level_of short k ≡ level_of (label_in s t) k
    → IsStillDenied s t call denied short
