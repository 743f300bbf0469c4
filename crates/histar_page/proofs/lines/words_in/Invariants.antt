-- The invariants and measures of `words_in` of src/lines.rt.
use Rattle.std.proofs.Common.{◌≡◌, ◌++◌, length}
use Rattle.histar_page.specs.Texts.{texts}
use Rattle.histar_page.specs.Lines.{words_of}
use Rattle.histar_page.proofs.lines.words_in.Given as goal

abbrev pub decreases-words : goal.decreases-words
decreases-words l = length l.rest

abbrev pub invariant-words : goal.invariant-words
invariant-words l =
    texts l.words.items ++ words_of l.rest ≡ words_of l.line
