-- The answers that a run of a raw session writes.
use Rattle.std.specs.Prelude.{ℕ, ◌⊎◌, List, Option, Result, Ok, Err}
use Rattle.std.specs.Io.KnownBytes.{Keeps}
use Rattle.histar_object.specs.State.{State, empty_state}
use Rattle.histar_script.specs.declared.fault.Fault.{Fault}
use Rattle.histar_script.specs.declared.fault.Fault.TheVariants.{BadScript, TooLong, OutOfMemory, ReadFailed, WriteFailed}
use Rattle.histar_raw_session.specs.declared.read_session.RawLine.{RawLine}
use Rattle.histar_raw_session.specs.Session.{IsSession, IsFaultOf}
use Rattle.histar_raw_session.specs.Answers.{AnswersCalls, BeginsAnswers}

-- the text is a raw session, and each of its calls was answered, from the empty kernel on
pub record AnswersSession (text : List ℕ) (old new : Option (List ℕ)) : Type 0 where
  pub calls : List RawLine
  pub is : IsSession text calls
  pub last : State
  pub answered : AnswersCalls empty_state last old new calls

-- the text is a raw session, and the first of its calls were answered, from the empty kernel on
pub record BeginsSession (text : List ℕ) (old new : Option (List ℕ)) : Type 0 where
  pub calls : List RawLine
  pub is : IsSession text calls
  pub begun : BeginsAnswers empty_state old new calls

-- a relation between a text and the output before and after a run of it
abbrev pub WritesOf : Type 1
WritesOf = List ℕ → Option (List ℕ) → Option (List ℕ) → Type 0

-- A text was run as a raw session: its whole output was written; or its fault is the result and nothing was written; or writing failed
-- after a beginning; or memory ran out, before any output or after a beginning of it.
abbrev pub RunsText : WritesOf → WritesOf → List ℕ → Option (List ℕ) → Option (List ℕ) → Result (Unit {0}) Fault → Type 0
RunsText Whole Begun text old new (Ok done) = Whole text old new
RunsText Whole Begun text old new (Err (BadScript n)) = IsFaultOf text (BadScript n) × Keeps old new
RunsText Whole Begun text old new (Err TooLong) = IsFaultOf text TooLong × Keeps old new
RunsText Whole Begun text old new (Err OutOfMemory) = Keeps old new ⊎ Begun text old new
RunsText Whole Begun text old new (Err ReadFailed) = Keeps old new
RunsText Whole Begun text old new (Err WriteFailed) = Begun text old new

-- The text was run as a raw session, and its calls were answered as far as the result says.
abbrev pub RunsSession : List ℕ → Option (List ℕ) → Option (List ℕ) → Result (Unit {0}) Fault → Type 0
RunsSession = RunsText AnswersSession BeginsSession
