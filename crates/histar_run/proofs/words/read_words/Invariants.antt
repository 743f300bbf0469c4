-- The invariants and measures of `read_words` of src/words.rt.
use Rattle.std.proofs.Common.{◌≡◌, length, map, option_map}
use Rattle.histar_run.specs.Words.{asked_behind, asked_by}
use Rattle.histar_run.proofs.words.read_words.Given as goal

abbrev pub decreases-words : goal.decreases-words
decreases-words l = length l.rest

abbrev pub invariant-words : goal.invariant-words
invariant-words l =
    asked_behind l.tree l.trace (option_map (λ f. f.now) l.file) (map (λ word. word.now) l.rest)
    ≡ asked_by (map (λ word. word.now) l.words)
