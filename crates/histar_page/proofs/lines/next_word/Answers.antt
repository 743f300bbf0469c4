-- Proves the goals of `next_word` of src/lines.rt that the search leaves open.
use Rattle.std.proofs.Common.{◌<◌, ℕ, List, [], ◌∷◌, length, Option, sym, ap, ap₂, ◌∙◌, subst}
use Rattle.std.specs.Prelude.{unwrap_or}
use Rattle.histar_page.specs.Lines.{words_of}
use Rattle.histar_page.proofs.WordLemmas.{after_shorter, words_split}
use Rattle.histar_page.proofs.lines.next_word.Goals as goal

pub returns-clause-first : goal.returns-clause-first
returns-clause-first c =
    let rest = c.or_nothing.ensures ∙ ap (λ (o : Option (List ℕ)). unwrap_or o []) c.split_word.ensures.rest in
    words_split c.args.line.now c.requires ∙ ap₂ (λ (w r : List ℕ). w ∷ words_of r) (sym c.split_word.ensures.word) (sym rest)

pub returns-clause-shorter : goal.returns-clause-shorter
returns-clause-shorter c =
    let rest = c.or_nothing.ensures ∙ ap (λ (o : Option (List ℕ)). unwrap_or o []) c.split_word.ensures.rest in
    let P : List ℕ → Type 0 = λ r. length r < length c.args.line.now in
    subst P (sym rest) (after_shorter c.args.line.now c.requires)
