-- The invariants and measures of `push_claims` of src/claims.rt.
use Rattle.std.proofs.Common.{◌≡◌, ◌++◌, length}
use Rattle.std.specs.List.{flat_map}
use Rattle.histar_script.specs.Lines.{lines_of}
use Rattle.histar_dialogue.specs.Claims.{claims_on}
use Rattle.histar_dialogue.proofs.claims.push_claims.Given as goal

abbrev pub decreases-lines : goal.decreases-lines
decreases-lines l = length l.rest

abbrev pub invariant-lines : goal.invariant-lines
invariant-lines l =
    l.claims.items ++ flat_map (claims_on l.path) (lines_of l.rest)
    ≡ l.initial.claims.items ++ flat_map (claims_on l.path) (lines_of l.table)
