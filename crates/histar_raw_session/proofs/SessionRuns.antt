-- The facts of a run of a session, from those of its parts.
use Rattle.std.proofs.Common.{◌≡◌, ℕ, false, List, Option, Result, Ok, Err, refl, subst}
use Rattle.std.proofs.Common.{inl, inr}
use Rattle.std.specs.Prelude.{IfErr, OnOk, OnErr}
use Rattle.std.proofs.KnownBytes.{Keeps-refl}
use Rattle.histar_object.specs.State.{State, empty_state}
use Rattle.histar_script.specs.declared.fault.Fault.{Fault}
use Rattle.histar_script.specs.declared.fault.Fault.TheVariants.{BadScript, TooLong, OutOfMemory, ReadFailed, WriteFailed}
use Rattle.histar_script.specs.Runs.{IsOutputFault, LeavesSink, is_read_failed}
use Rattle.histar_raw_session.specs.declared.read_session.RawLine.{RawLine}
use Rattle.histar_raw_session.specs.Session.{IsSession, IsFaultOf}
use Rattle.histar_raw_session.specs.Answers.{AnswersCalls, BeginsAnswers}
use Rattle.histar_raw_session.specs.Run.{AnswersSession, BeginsSession, WritesOf, RunsText, RunsSession}

-- the result of a run
abbrev Done : Type 0
Done = Result (Unit {0}) Fault

-- ---- a text that is run

module _ (Whole Begun : WritesOf) where
  -- a text in which reading finds a fault
  pub faulty_text : (text : List ℕ) (w : Option (List ℕ)) (f : Fault) → IsFaultOf text f → RunsText Whole Begun text w w (Err f)
  faulty_text text w (BadScript n) is = (is, Keeps-refl w)
  faulty_text text w TooLong is = (is, Keeps-refl w)
  faulty_text text w OutOfMemory is = inl (Keeps-refl w)
  faulty_text text w ReadFailed is = absurd is.1
  faulty_text text w WriteFailed is = absurd is.1

  -- a text of which a beginning of the expected output was written
  pub begun_text : (text : List ℕ) (old new : Option (List ℕ)) (f : Fault) → IsOutputFault f → Begun text old new
      → RunsText Whole Begun text old new (Err f)
  begun_text text old new (BadScript n) out begun = absurd out
  begun_text text old new TooLong out begun = absurd out
  begun_text text old new OutOfMemory out begun = inr begun
  begun_text text old new ReadFailed out begun = absurd out
  begun_text text old new WriteFailed out begun = begun

-- a text whose calls were answered as far as the result says
pub answered_text : (text : List ℕ) (old new : Option (List ℕ)) (calls : List RawLine) (first last : State)
    (result : Done) → IsSession text calls → first ≡ empty_state → OnOk result (AnswersCalls first last old new calls)
    → OnErr result (BeginsAnswers first old new calls) → IfErr result IsOutputFault → RunsSession text old new result
answered_text text old new calls first last (Ok done) is starts answered begun faults =
    record { calls = calls; is = is; last = last; answered = subst (λ (s : State). AnswersCalls s last old new calls) starts answered }
answered_text text old new calls first last (Err f) is starts answered begun faults =
    begun_text AnswersSession BeginsSession text old new f faults
    (record { calls = calls; is = is; begun = subst (λ (s : State). BeginsAnswers s old new calls) starts begun })

-- ---- a sink that is left alone

-- answering calls ends with none of the faults that leave the sink
pub sink_called : {W : Type 0} (old new : W) (result : Done) → IfErr result IsOutputFault → IfErr result (LeavesSink old new)
sink_called old new (Ok done) h = tt
sink_called old new (Err (BadScript n)) h = absurd h
sink_called old new (Err TooLong) h = absurd h
sink_called old new (Err OutOfMemory) h = tt
sink_called old new (Err ReadFailed) h = absurd h
sink_called old new (Err WriteFailed) h = tt

-- nor with a failed read
pub no_read : (result : Done) → IfErr result IsOutputFault → is_read_failed result ≡ false
no_read (Ok done) h = refl
no_read (Err (BadScript n)) h = refl
no_read (Err TooLong) h = refl
no_read (Err OutOfMemory) h = refl
no_read (Err ReadFailed) h = absurd h
no_read (Err WriteFailed) h = refl
