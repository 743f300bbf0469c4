-- Each output of a run follows its replies, and so a page shows no number but boot's without its call.
use Rattle.std.proofs.Common.{ℕ, List}
use Rattle.std.specs.Io.KnownBytes.{Appends}
use Rattle.histar_io.specs.Writing.{AppendsFront}
use Rattle.histar_script.specs.Lines.{lines_of}
use Rattle.histar_page.proofs.SessionLemmas.{sessions_shown}
use Rattle.histar_report.specs.Laws.{CallsHaveTheirOwn, OutputsFollowReplies, ShowsEachUnderItsCall}
use Rattle.histar_report.proofs.CallTexts.{read_lined}
use Rattle.histar_report.proofs.ScriptsInOrder.{script_follows}

-- an output follows its replies
pub outputs_follow_replies : OutputsFollowReplies
outputs_follow_replies text output is =
    let run = is.writes in
    script_follows run.script (read_lined text run.script run.is_read) run.explained.trace run.explained.explanations run.explained.explains output
    run.explained.written

-- so does the output of a page that was written
under_its_call : (Writes : List ℕ → Type 0) → ShowsEachUnderItsCall Writes
under_its_call Writes name version text written =
    (sessions_shown (lines_of text) (lines_of written.output) (lines_of written.reasons)).with_calls
    (outputs_follow_replies text written.output written.is_output)

-- on a page each raw call and each explanation is under its call
pub calls_have_their_own : CallsHaveTheirOwn
calls_have_their_own old new = (under_its_call (Appends old new), under_its_call (AppendsFront old new))
