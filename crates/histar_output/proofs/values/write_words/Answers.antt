-- Proves the goals of `write_words` of src/values.rt that the search leaves open.
use Rattle.std.proofs.Common.{◌≡◌, ℕ, ◌++◌, List, length, map, sym, ap, ◌∙◌, rules}
use Rattle.std.proofs.lemmas.Result.{on_ok_weaker}
use Rattle.json.specs.Tree.{items_tokens}
use Rattle.histar_output.specs.Cuts.{unmarked}
use Rattle.histar_output.specs.Parts.{strings}
use Rattle.histar_output.proofs.CutLemmas.{no_words}
use Rattle.histar_output.proofs.values.write_words.Goals as goal

pub returns : goal.returns
returns c =
    let none : length c.words.rest.now ≡ 0 = search rules in
    let words = no_words c.words.rest.now none in
    on_ok_weaker c.end_array.result
    (λ is. (
      c.end_array.ensures.room.0 ∙ c.words.invariant.1,
      is ∙ sym (ap (λ (ws : List (List ℕ)). c.words.writer.tokens ++ items_tokens (strings (map unmarked ws))) words) ∙ c.words.invariant.2,
    ))
    c.end_array.ensures.ok
