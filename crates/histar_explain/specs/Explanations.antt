-- The explanation of a denied raw call.
use Rattle.std.specs.Prelude.{◌≡◌, ℕ, true, ◌||◌, MatchOption, Some}
use Rattle.std.specs.List.{AllZip}
use Rattle.histar_object.specs.State.{State}
use Rattle.histar_rules.specs.declared.raw.Denied.{Denied}
use Rattle.histar_rules.specs.declared.raw.RawCall.{RawCall}
use Rattle.histar_rules.specs.Rules.{check}
use Rattle.histar_syscall.specs.Runs.{is_label_refusal}
use Rattle.histar_explain.specs.declared.explanations.Explanation.{Explanation}
use Rattle.histar_explain.specs.Named.{label_in}
use Rattle.histar_explain.specs.Tests.{tests, IsReasonOf}
use Rattle.histar_explain.specs.Unmade.{AreUnmade, is_unmade, labels_of}
use Rattle.histar_explain.specs.Obstacles.{act_of, obstacle_of, IsInTheWay}
use Rattle.histar_explain.specs.Laws.{some_fails_at, some_shown, LacksKeys}

-- the explanation has the action of the call, the categories of its labels that were never made, a reason for each test of the denial in
-- their order, and the obstacle where no label decides
pub record IsExplanationOf (s : State) (t : ℕ) (call : RawCall) (denied : Denied) (e : Explanation) : Type 0 where
  pub act : e.act ≡ act_of s t call denied
  pub unmade : AreUnmade s.next_category (labels_of call denied) e.unmade.items
  pub reasons : AllZip IsReasonOf (tests s t call denied) e.reasons.items
  pub obstacle : e.obstacle ≡ obstacle_of s call denied

-- A denied call has grounds: an obstacle is in its way, or at some category a test of the denial fails or a label of the call names a
-- category that was never made.
abbrev pub HasGrounds : State → ℕ → RawCall → Denied → Type 0
HasGrounds s t call denied = MatchOption (obstacle_of s call denied)
    ((c : ℕ) × ((some_fails_at (tests s t call denied) c || is_unmade s.next_category (labels_of call denied) c) ≡ true)) (IsInTheWay s t call)

-- The explanation of a denial: its reasons show exactly the categories at which a test of the denial fails, with the levels of both labels
-- there; these are the keys that the thread lacks; and where the call is denied in this way, the explanation is not empty.
pub record ExplainsDenial (s : State) (t : ℕ) (call : RawCall) (denied : Denied) (e : Explanation) : Type 0 where
  pub is : IsExplanationOf s t call denied e
  pub exact : (c : ℕ) → some_shown e.reasons.items c ≡ some_fails_at (tests s t call denied) c
  pub keys : is_label_refusal (Some denied) ≡ true → LacksKeys s t (label_in s t) call denied
  pub grounds : check s t call ≡ Some denied → HasGrounds s t call denied

-- each denied call has grounds
abbrev pub DenialsHaveGrounds : Type 0
DenialsHaveGrounds = (s : State) (t : ℕ) (call : RawCall) (denied : Denied) → check s t call ≡ Some denied → HasGrounds s t call denied
