-- Proves the goals of `write_holders` of src/values.rt that the search leaves open.
use Rattle.std.proofs.Common.{◌≡◌, ℕ, ◌++◌, List, length, map, sym, ap, ◌∙◌, append_assoc, rules, [], ◌∷◌}
use Rattle.std.specs.Prelude.{filter}
use Rattle.std.proofs.lemmas.Result.{on_ok_weaker}
use Rattle.json.specs.Token.{begin_array}
use Rattle.json.specs.Tree.{items_tokens}
use Rattle.histar_output.specs.Cuts.{holders_in, is_marked, unmarked}
use Rattle.histar_output.specs.Parts.{strings}
use Rattle.histar_output.proofs.CutLemmas.{no_words}
use Rattle.histar_output.proofs.values.write_holders.Goals as goal

pub returns : goal.returns
returns c =
    let none : length c.words.rest.now ≡ 0 = search rules in
    let words = no_words c.words.rest.now none in
    on_ok_weaker c.end_array.result
    (λ is. (
      c.end_array.ensures.room.0 ∙ c.words.invariant.1 ∙ c.in_ok-begin_array.ensures.room.0,
      is ∙ sym (ap (λ (ws : List (List ℕ)). c.words.writer.tokens ++ items_tokens (strings (map unmarked (filter is_marked ws)))) words)
          ∙ c.words.invariant.2 ∙ ap (λ ts. ts ++ (items_tokens (strings (holders_in c.args.text.now)))) c.in_ok-begin_array.ensures.ok
          ∙ append_assoc c.args.writer.now.tokens (begin_array ∷ []) (items_tokens (strings (holders_in c.args.text.now))),
    ))
    c.end_array.ensures.ok
