-- The invariants and measures of `read_lines` of src/read_session.rt.
use Rattle.std.proofs.Common.{◌+◌, ◌≤◌, length}
use Rattle.histar_raw_session.proofs.LinesRead.{IsReadSoFar}
use Rattle.histar_raw_session.proofs.read_session.read_lines.Given as goal

abbrev pub invariant-loop-rest : goal.invariant-loop-rest
invariant-loop-rest g l = record {
  so_far : IsReadSoFar l.fn.text l.rest l.count l.calls.items;
  counted : l.count + length l.rest ≤ length l.fn.text;
}

abbrev pub decreases-loop-rest : goal.decreases-loop-rest
decreases-loop-rest g l = length l.rest
