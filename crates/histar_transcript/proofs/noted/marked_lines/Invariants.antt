-- The invariants and measures of `marked_lines` of src/noted.rt.
use Rattle.std.proofs.Common.{◌≡◌, ◌++◌, length, map}
use Rattle.std.specs.List.{filter}
use Rattle.histar_script.specs.Lines.{lines_of}
use Rattle.histar_transcript.specs.Noted.{is_marked}
use Rattle.histar_transcript.proofs.noted.marked_lines.Given as goal

abbrev pub decreases-lines : goal.decreases-lines
decreases-lines l = length l.rest

abbrev pub invariant-lines : goal.invariant-lines
invariant-lines l =
    map (λ line. line.now) l.found.items ++ filter (is_marked l.mark) (lines_of l.rest)
    ≡ filter (is_marked l.mark) (lines_of l.text)
