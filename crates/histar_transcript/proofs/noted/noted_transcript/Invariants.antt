-- The invariants and measures of `noted_transcript` of src/noted.rt.
use Rattle.std.proofs.Common.{◌≡◌, ◌++◌, length, map}
use Rattle.histar_script.specs.Lines.{lines_of}
use Rattle.histar_transcript.specs.Noted.{noted_transcript, with_notes}
use Rattle.histar_transcript.proofs.noted.noted_transcript.Given as goal

abbrev pub decreases-lines : goal.decreases-lines
decreases-lines l = length l.rest

abbrev pub invariant-lines : goal.invariant-lines
invariant-lines l =
    l.text.items
    ++ with_notes (lines_of l.script) (map (λ reason. reason.now) l.reasons) (map (λ denial. denial.now) l.denials) (lines_of l.rest)
    ≡ noted_transcript l.script l.output
