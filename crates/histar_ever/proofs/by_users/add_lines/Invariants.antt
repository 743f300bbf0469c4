-- The invariants and measures of `add_lines` of src/by_users.rt.
use Rattle.std.proofs.Common.{take}
use Rattle.histar_ever.specs.GatheringUsers.{AddsUserLines}
use Rattle.histar_ever.proofs.by_users.add_lines.Given as goal

abbrev pub invariant-loop-line : goal.invariant-loop-line
invariant-loop-line l = AddsUserLines l.users (take l.line-index l.lines) l.fn.letters l.letters
