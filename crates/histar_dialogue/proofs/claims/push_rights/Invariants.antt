-- The invariants and measures of `push_rights` of src/claims.rt.
use Rattle.std.proofs.Common.{◌≡◌, ◌++◌, length}
use Rattle.std.specs.List.{flat_map}
use Rattle.histar_page.specs.Lines.{words_of}
use Rattle.histar_dialogue.specs.Claims.{claim_of}
use Rattle.histar_dialogue.proofs.claims.push_rights.Given as goal

abbrev pub decreases-words : goal.decreases-words
decreases-words l = length l.rest

abbrev pub invariant-words : goal.invariant-words
invariant-words l =
    l.claims.items ++ flat_map (claim_of l.path) (words_of l.rest)
    ≡ l.initial.claims.items ++ flat_map (claim_of l.path) (words_of l.rights)
