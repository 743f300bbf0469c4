-- The invariants and measures of `are_all` of src/claims.rt.
use Rattle.std.proofs.Common.{◌≡◌, length}
use Rattle.std.specs.List.{list_all}
use Rattle.std.specs.Prelude.{map}
use Rattle.histar_test.specs.Steps.{is_process_word}
use Rattle.histar_test.proofs.claims.are_all.Given as goal

abbrev pub decreases-words : goal.decreases-words
decreases-words l = length l.rest

abbrev pub invariant-words : goal.invariant-words
invariant-words l = list_all is_process_word (map (λ word. word.now) l.rest) ≡ list_all is_process_word (map (λ word. word.now) l.words)
