-- The invariants and measures of `+push_changes_above` of src/changes.rt.
use Rattle.std.proofs.Common.{length}
use Rattle.histar_leak.proofs.changes.+push_changes_above.Given as goal

abbrev pub decreases-push_changes_above : goal.decreases-push_changes_above
decreases-push_changes_above l = length l.names.now
