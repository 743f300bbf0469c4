-- The invariants and measures of `span_of` of src/span.rt.
use Rattle.std.proofs.Common.{◌≤◌, length}
use Rattle.histar_layout.specs.Directory.{Entries, IsDirectory}
use Rattle.histar_layout.proofs.Spans.{IsPassed}
use Rattle.histar_layout.proofs.span.span_of.Given as goal

abbrev pub invariant-entries : goal.invariant-entries
invariant-entries l = (length l.rest ≤ length l.bytes) × ((dir : Entries) → IsDirectory l.bytes dir → IsPassed l.bytes l.rest l.name dir)

abbrev pub decreases-entries : goal.decreases-entries
decreases-entries l = length l.rest
