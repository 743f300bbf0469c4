-- Answers of raw calls as values of one type.
use Rattle.std.specs.Prelude.{◌≡◌, ℕ, Result, Ok, Err}
use Rattle.std.specs.Result.{MatchResult}
use Rattle.histar_object.specs.State.{State}
use Rattle.histar_rules.specs.declared.raw.RawCall.{RawCall}
use Rattle.histar_rules.specs.declared.raw.RawCall.TheVariants.{MakeCategory, OwnLabel, SetLabel, SetClearance, MakeSegment, MakeContainer}
use Rattle.histar_rules.specs.declared.raw.RawCall.TheVariants.{MakeThread, MakeGate, Enter, Read, Write, Unlink, LabelOf}
use Rattle.histar_rules.specs.declared.raw.Refusal.{Refusal}
use Rattle.histar_rules.specs.RawAnswers.{AnswerOf, IsAnswer}
use Rattle.histar_syscall.specs.declared.answers.Answer.{Answer}
use Rattle.histar_syscall.specs.declared.answers.Answer.TheVariants as answers

-- an answer of the call's own type, as a value of the one type that holds the answers of all raw calls
abbrev pub answer_value : (call : RawCall) → AnswerOf call → Answer
answer_value MakeCategory category = answers.Category category
answer_value OwnLabel own = answers.OwnLabel own.0 own.1
answer_value (SetLabel label) done = answers.Done
answer_value (SetClearance clearance) done = answers.Done
answer_value (MakeSegment d label bytes) number = answers.Object number
answer_value (MakeContainer d label) number = answers.Object number
answer_value (MakeThread d label clearance) number = answers.Object number
answer_value (MakeGate d label clearance entry) number = answers.Object number
answer_value (Enter d o wanted clearance verify) entry = answers.Entry entry
answer_value (Read d o) bytes = answers.Bytes bytes
answer_value (Write d o keep bytes) done = answers.Done
answer_value (Unlink d o) done = answers.Done
answer_value (LabelOf d o) label = answers.Label label

-- the value is the answer that the state before a granted call determines, in the call's own type
pub record IsAnswerValue (s : State) (t : ℕ) (call : RawCall) (value : Answer) : Type 0 where
  pub answer : AnswerOf call
  pub determined : IsAnswer s t call answer
  pub is_value : value ≡ answer_value call answer

-- where a call was granted the second outcome has the value of the first one's answer, and it is the same refusal elsewhere
abbrev pub IsValueOf : {A : Type 0} → Result A Refusal → (A → Answer) → Result Answer Refusal → Type 0
IsValueOf outcome value result = MatchResult outcome (λ answer. result ≡ Ok (value answer)) (λ refusal. result ≡ Err refusal)
