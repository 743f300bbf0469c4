-- The invariants and measures of `written_in` of src/written.rt.
use Rattle.std.proofs.Common.{take}
use Rattle.histar_policy.specs.Writes.{AreWrites}
use Rattle.histar_policy.proofs.written.written_in.Given as goal

abbrev pub invariant-notes : goal.invariant-notes
invariant-notes l = AreWrites l.written (take l.note-index l.script)
