-- The invariants and measures of `read_lines` of src/reader.rt.
use Rattle.std.proofs.Common.{◌+◌, ◌≤◌, length}
use Rattle.histar_mixed.proofs.LinesRead.{IsReadSoFar}
use Rattle.histar_mixed.proofs.reader.read_lines.Given as goal

abbrev pub invariant-loop-rest : goal.invariant-loop-rest
invariant-loop-rest l = record {
  so_far : IsReadSoFar l.fn.text l.rest l.count l.script l.marks.items;
  counted : l.count + length l.rest ≤ length l.fn.text;
}

abbrev pub decreases-loop-rest : goal.decreases-loop-rest
decreases-loop-rest l = length l.rest
