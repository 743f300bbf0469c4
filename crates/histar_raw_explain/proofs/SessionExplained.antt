-- The facts of a run of a raw session with explanations, from those of its parts.
use Rattle.std.proofs.Common.{◌≡◌, ℕ, List, Option, Result, Ok, Err, subst, inr}
use Rattle.std.specs.Prelude.{IfErr, OnOk, OnErr}
use Rattle.std.specs.Io.KnownBytes.{Appends}
use Rattle.std.proofs.KnownBytes.{Appends-trans}
use Rattle.histar_io.specs.Writing.{AppendsFront}
use Rattle.histar_io.proofs.WritingLemmas.{whole_front}
use Rattle.histar_object.specs.State.{State, empty_state}
use Rattle.histar_script.specs.declared.fault.Fault.{Fault}
use Rattle.histar_script.specs.Runs.{IsOutputFault}
use Rattle.histar_raw_session.specs.declared.read_session.RawLine.{RawLine}
use Rattle.histar_raw_session.specs.Session.{IsSession}
use Rattle.histar_raw_session.specs.Answers.{AnswersCall, BeginsAnswer, AnswersCalls}
use Rattle.histar_raw_session.proofs.CallsAnswered.{front_after}
use Rattle.histar_raw_session.proofs.SessionRuns.{begun_text}
use Rattle.histar_raw_explain.specs.Explained.{ExplainsCalls, ExplainsAnswered, BeginsExplaining, ExplainsSession, BeginsExplained, RunsExplained}

-- a call whose line was written has begun its answer
pub whole_begins : (before after : State) (old new : Option (List ℕ)) (asked : RawLine)
    → AnswersCall before after old new asked → BeginsAnswer before after old new asked
whole_begins before after old new asked one = inr (one.line, one.prints, whole_front old new one.line one.written)

-- the answers were written, and then the explanations
pub all_written : (before after : State) (old mid new : Option (List ℕ)) (calls : List RawLine) (text : List ℕ)
    → AnswersCalls before after old mid calls → ExplainsCalls before calls text after → Appends mid new text
    → ExplainsAnswered before after old new calls
all_written before after old mid new calls text done explains written = record {
  answers = done.text;
  explanations = text;
  prints = done.prints;
  explains = explains;
  written = Appends-trans old mid new done.text text done.written written;
}

-- the answers were written, and then a beginning of the explanations
pub front_written : (before after : State) (old mid new : Option (List ℕ)) (calls : List RawLine) (text : List ℕ)
    → AnswersCalls before after old mid calls → ExplainsCalls before calls text after → AppendsFront mid new text
    → BeginsExplaining before old new calls
front_written before after old mid new calls text done explains begun = inr (record {
  last = after;
  answers = done.text;
  explanations = text;
  prints = done.prints;
  explains = explains;
  written = front_after old mid new done.text text done.written begun;
})

-- a text whose calls were answered and explained as far as the result says
pub explained_text : (text : List ℕ) (old new : Option (List ℕ)) (calls : List RawLine) (first last : State)
    (result : Result (Unit {0}) Fault) → IsSession text calls → first ≡ empty_state
    → OnOk result (ExplainsAnswered first last old new calls) → OnErr result (BeginsExplaining first old new calls)
    → IfErr result IsOutputFault → RunsExplained text old new result
explained_text text old new calls first last (Ok done) is starts explained begun faults =
    record { calls = calls; is = is; last = last; explained = subst (λ (s : State). ExplainsAnswered s last old new calls) starts explained }
explained_text text old new calls first last (Err f) is starts explained begun faults =
    begun_text ExplainsSession BeginsExplained text old new f faults
    (record
    { calls = calls; is = is; begun = subst (λ (s : State). BeginsExplaining s old new calls) starts begun })
