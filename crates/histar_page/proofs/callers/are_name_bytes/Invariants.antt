-- The invariants and measures of `are_name_bytes` of src/callers.rt.
use Rattle.std.proofs.Common.{◌≡◌, length}
use Rattle.std.specs.List.{list_all}
use Rattle.histar_page.specs.Callers.{is_name_byte}
use Rattle.histar_page.proofs.callers.are_name_bytes.Given as goal

abbrev pub decreases-bytes : goal.decreases-bytes
decreases-bytes l = length l.rest

abbrev pub invariant-bytes : goal.invariant-bytes
invariant-bytes l = list_all is_name_byte l.rest ≡ list_all is_name_byte l.word
