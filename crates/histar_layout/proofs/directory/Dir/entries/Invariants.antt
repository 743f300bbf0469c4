-- The invariants and measures of `Dir::entries` of src/directory.rt.
use Rattle.std.proofs.Common.{length}
use Rattle.histar_layout.proofs.EntriesRead.{IsReadTo}
use Rattle.histar_layout.proofs.directory.Dir.entries.Given as goal

abbrev pub invariant-entries : goal.invariant-entries
invariant-entries g l = IsReadTo l.rest l.entries.items l.self

abbrev pub decreases-entries : goal.decreases-entries
decreases-entries g l = length l.rest
