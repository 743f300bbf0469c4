-- The invariants and measures of `lines_in` of src/transcript.rt.
use Rattle.std.proofs.Common.{◌≡◌, ◌++◌, length, map}
use Rattle.histar_script.specs.Lines.{lines_of}
use Rattle.histar_transcript.proofs.transcript.lines_in.Given as goal

abbrev pub decreases-lines : goal.decreases-lines
decreases-lines l = length l.rest

abbrev pub invariant-lines : goal.invariant-lines
invariant-lines l = map (λ line. line.now) l.lines.items ++ lines_of l.rest ≡ lines_of l.text
