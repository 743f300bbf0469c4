-- The invariants and measures of `write_words` of src/values.rt.
use Rattle.std.proofs.Common.{◌≡◌, ◌++◌, length, map}
use denote.Text.{Utf8}
use denote.Shadow.{shadow}
use Rattle.json.specs.Tree.{items_tokens}
use Rattle.histar_output.specs.Cuts.{unmarked, words_of}
use Rattle.histar_output.specs.Parts.{strings}
use Rattle.histar_output.proofs.values.write_words.Given as goal

abbrev pub invariant-words : goal.invariant-words
invariant-words l =
    shadow (Utf8 l.rest)
    × (l.writer.before ≡ l.initial.writer.before)
    × (l.writer.tokens ++ items_tokens (strings (map unmarked (words_of l.rest))) ≡ l.initial.writer.tokens
    ++ items_tokens (strings (map unmarked (words_of l.text))))

abbrev pub decreases-words : goal.decreases-words
decreases-words l = length l.rest
