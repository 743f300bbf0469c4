-- The invariants and measures of `push_escaped` of src/escape.rt.
use Rattle.std.proofs.Common.{◌≡◌, ◌++◌, length}
use Rattle.histar_page.specs.Escape.{escaped}
use Rattle.histar_page.proofs.escape.push_escaped.Given as goal

abbrev pub decreases-bytes : goal.decreases-bytes
decreases-bytes l = length l.rest

abbrev pub invariant-bytes : goal.invariant-bytes
invariant-bytes l = l.page.items ++ escaped l.rest ≡ l.fn.page.items ++ escaped l.bytes
