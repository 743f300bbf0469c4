-- The invariants and measures of `transcript_of` of src/transcript.rt.
use Rattle.std.proofs.Common.{◌≡◌, ◌++◌, length, codes}
use Rattle.std.specs.List.{flat_map}
use Rattle.histar_script.specs.Lines.{lines_of}
use Rattle.histar_transcript.specs.Transcript.{transcript_of, with_call}
use Rattle.histar_transcript.proofs.transcript.transcript_of.Given as goal

abbrev pub decreases-lines : goal.decreases-lines
decreases-lines l = length l.rest

abbrev pub invariant-lines : goal.invariant-lines
invariant-lines l =
    l.text.items ++ flat_map (λ line. with_call (lines_of l.script) line ++ codes "\n") (lines_of l.rest) ≡ transcript_of l.script l.output
