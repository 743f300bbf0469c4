-- Proves the goals of `next_word` of src/claims.rt that the search leaves open.
use Rattle.std.proofs.Common.{◌<◌, ℕ, List, ◌∷◌, length, sym, ap₂, ◌∙◌, subst}
use Rattle.histar_page.specs.Lines.{words_of}
use Rattle.histar_page.proofs.WordLemmas.{after_shorter, words_split}
use Rattle.histar_dialogue.proofs.claims.next_word.Goals as goal

pub returns-clause-first : goal.returns-clause-first
returns-clause-first c =
    words_split c.args.text.now c.requires
    ∙ ap₂ (λ (w r : List ℕ). w ∷ words_of r) (sym c.split_word.ensures.word) (sym c.after_word.ensures)

pub returns-clause-shorter : goal.returns-clause-shorter
returns-clause-shorter c =
    let P : List ℕ → Type 0 = λ r. length r < length c.args.text.now in
    subst P (sym c.after_word.ensures) (after_shorter c.args.text.now c.requires)
