-- Proves the goals of `words_in` of src/lines.rt that the search leaves open.
use Rattle.std.proofs.Common.{◌≡◌, ◌++◌, length, sym, ap, ◌∙◌, rules, append-nil}
use Rattle.histar_page.specs.Texts.{texts}
use Rattle.histar_page.proofs.WordLemmas.{no_words}
use Rattle.histar_page.proofs.lines.words_in.Goals as goal

pub returns : goal.returns
returns c =
    let found = texts c.words.words.items in
    let none : length c.words.rest.now ≡ 0 = search rules in
    sym (append-nil found) ∙ ap (λ rest. found ++ rest) (sym (no_words c.words.rest.now none)) ∙ c.words.invariant
