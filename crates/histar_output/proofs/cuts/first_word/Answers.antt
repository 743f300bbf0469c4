-- Proves the goals of `first_word` of src/cuts.rt that the search leaves open.
use Rattle.std.proofs.Common.{◌≡◌, ℕ, ◌<◌, ◌∷◌, List, [], codes, length, sym, ap, ap₂, ◌∙◌, subst}
use Rattle.std.specs.Prelude.{Option, unwrap_or}
use Rattle.histar_output.specs.Cuts.{cut_at, words_of}
use Rattle.histar_output.proofs.CutLemmas.{behind_shorter, copied_or, first_of}
use Rattle.histar_output.proofs.cuts.first_word.Goals as goal
use Rattle.histar_output.proofs.cuts.first_word.Goals.{After-t8-1}

-- what follows the word
rest_is : (c : After-t8-1) → c.unwrap_or.result.now ≡ unwrap_or (cut_at (codes " ") c.args.text.now).1 []
rest_is c =
    ap (λ b. b.now) c.unwrap_or.ensures ∙ copied_or c.cut_at.result.1 _ ∙ ap (λ (o : Option (List ℕ)). unwrap_or o []) c.cut_at.ensures.behind

pub returns-clause-first : goal.returns-clause-first
returns-clause-first c =
    first_of c.args.text.now c.requires ∙ ap₂ (λ (w r : List ℕ). w ∷ words_of r) (sym c.cut_at.ensures.before) (sym (rest_is c))

pub returns-clause-shorter : goal.returns-clause-shorter
returns-clause-shorter c = subst (λ (r : List ℕ). length r < length c.args.text.now) (sym (rest_is c)) (behind_shorter c.args.text.now c.requires)
