-- A decision of a call whose answer becomes a value of the one type of answers.
use Rattle.std.proofs.Common.{ℕ, Result, Ok, Err, sym, subst}
use Rattle.histar_container.specs.ObjectsModel.{ObjectsModel, state_of}
use Rattle.histar_rules.specs.declared.raw.RawCall.{RawCall}
use Rattle.histar_rules.specs.declared.raw.Refusal.{Refusal}
use Rattle.histar_rules.specs.declared.raw.Refusal.TheVariants as refusals
use Rattle.histar_rules.specs.Rules.{DecidesAs}
use Rattle.histar_syscall.specs.declared.answers.Answer.{Answer}
use Rattle.histar_syscall.specs.Answers.{IsAnswerValue, IsValueOf}

-- a call of a thread, with the objects before it and after it
pub record Turn : Type 0 where
  pub old : ObjectsModel
  pub new : ObjectsModel
  pub thread : ℕ
  pub call : RawCall

-- the turn of a thread that makes a call
abbrev pub turn : ObjectsModel → ObjectsModel → ℕ → RawCall → Turn
turn old new thread call = record { old = old; new = new; thread = thread; call = call }

-- the turn ends so, and what it answers is right
abbrev pub Ends : {A : Type 0} → Turn → Result A Refusal → (A → Type 0) → Type 0
Ends t result IsRight = DecidesAs t.old t.new t.thread t.call result IsRight

-- the answer is the value that the state before the turn determines
abbrev pub IsValueIn : Turn → Answer → Type 0
IsValueIn t value = IsAnswerValue (state_of t.old) t.thread t.call value

module _ {A : Type 0} (t : Turn) (IsRight : A → Type 0) (value : A → Answer) (is_value : (a : A) → IsRight a → IsValueIn t (value a)) where
  -- a turn whose answer becomes a value ends with that value
  pub as_value : (inner : Result A Refusal) (outer : Result Answer Refusal) → Ends t inner IsRight → IsValueOf inner value outer
      → Ends t outer (IsValueIn t)
  as_value (Ok a) outer ends is =
      subst (λ (o : Result Answer Refusal). Ends t o (IsValueIn t)) (sym is) (ends.0, ends.1, is_value a ends.2)
  as_value (Err (refusals.Denied denied)) outer ends is = subst (λ (o : Result Answer Refusal). Ends t o (IsValueIn t)) (sym is) ends
  as_value (Err refusals.OutOfMemory) outer ends is = subst (λ (o : Result Answer Refusal). Ends t o (IsValueIn t)) (sym is) ends
