-- The invariants and measures of `push_lines` of src/extended.rt.
use Rattle.std.proofs.Common.{◌≡◌, ◌++◌, map, take}
use Rattle.histar_transcript.specs.Extended.{ended_lines}
use Rattle.histar_transcript.proofs.extended.push_lines.Given as goal

abbrev pub invariant-lines : goal.invariant-lines
invariant-lines l = l.text.items ≡ l.fn.text.items ++ ended_lines (map (λ line. line.now) (take l.line-index l.lines))
