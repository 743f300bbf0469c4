-- The invariants and measures of `count_entries` of src/span.rt.
use Rattle.std.proofs.Common.{◌≡◌, ◌≤◌, ◌+◌, List, length}
use Rattle.histar_layout.specs.Directory.{Entries, IsDirectory}
use Rattle.histar_layout.proofs.DirectoryLemmas.{Entry}
use Rattle.histar_layout.proofs.EntriesRead.{IsReadTo}
use Rattle.histar_layout.proofs.span.count_entries.Given as goal

abbrev pub invariant-entries : goal.invariant-entries
invariant-entries l =
    (l.count + length l.rest ≤ length l.bytes)
    × ((dir : Entries) → IsDirectory l.bytes dir
    → (passed : List Entry) × IsReadTo l.rest passed dir × (l.count ≡ length passed))

abbrev pub decreases-entries : goal.decreases-entries
decreases-entries l = length l.rest
