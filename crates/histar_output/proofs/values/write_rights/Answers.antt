-- Proves the goals of `write_rights` of src/values.rt that the search leaves open.
use Rattle.std.proofs.Common.{◌≡◌, ℕ, ◌++◌, List, length, sym, ap, ◌∙◌, append_assoc, rules, [], ◌∷◌}
use Rattle.std.proofs.lemmas.Result.{on_ok_weaker}
use Rattle.json.specs.Token.{begin_object}
use Rattle.json.specs.Tree.{members_tokens}
use Rattle.histar_output.specs.Cuts.{words_of}
use Rattle.histar_output.specs.Parts.{rights_of}
use Rattle.histar_output.proofs.CutLemmas.{no_words}
use Rattle.histar_output.proofs.values.write_rights.Goals as goal

pub returns : goal.returns
returns c =
    let none : length c.words.rest.now ≡ 0 = search rules in
    let words = no_words c.words.rest.now none in
    on_ok_weaker c.end_object.result
    (λ is. (
      c.end_object.ensures.room.0 ∙ c.words.invariant.1 ∙ c.in_ok-begin_object.ensures.room.0,
      is ∙ sym (ap (λ (ws : List (List ℕ)). c.words.writer.tokens ++ members_tokens (rights_of ws)) words)
          ∙ c.words.invariant.2 ∙ ap (λ ts. ts ++ (members_tokens (rights_of (words_of c.args.text.now)))) c.in_ok-begin_object.ensures.ok
          ∙ append_assoc c.args.writer.now.tokens (begin_object ∷ []) (members_tokens (rights_of (words_of c.args.text.now))),
    ))
    c.end_object.ensures.ok
