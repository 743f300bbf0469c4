-- The invariants and measures of `used_names` of src/warnings.rt.
use Rattle.std.proofs.Common.{take}
use Rattle.histar_policy.specs.Sets.{AreUsed}
use Rattle.histar_policy.proofs.warnings.used_names.Given as goal

abbrev pub invariant-notes : goal.invariant-notes
invariant-notes l = AreUsed l.used (take l.note-index l.script)
