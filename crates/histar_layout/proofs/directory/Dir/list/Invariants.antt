-- The invariants and measures of `Dir::list` of src/directory.rt.
use Rattle.std.proofs.Common.{◌≡◌, ◌+◌, ◌++◌, List, map, length}
use Rattle.std.specs.Vec.{vec_len, vec_capacity}
use Rattle.histar_layout.specs.Listing.{shown_entry}
use Rattle.histar_layout.proofs.DirectoryLemmas.{Entry}
use Rattle.histar_layout.proofs.EntriesRead.{IsReadTo}
use Rattle.histar_layout.proofs.directory.Dir.list.Given as goal

abbrev pub invariant-entries : goal.invariant-entries
invariant-entries l =
    (passed : List Entry) × IsReadTo l.rest passed l.self × (l.names.items ≡ l.fn.names.items ++ map shown_entry passed)
    × (vec_len l.names ≡ vec_len l.fn.names + length passed) × (vec_capacity l.names ≡ vec_capacity l.fn.names)

abbrev pub decreases-entries : goal.decreases-entries
decreases-entries l = length l.rest
