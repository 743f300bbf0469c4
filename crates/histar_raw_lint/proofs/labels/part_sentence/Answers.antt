-- Proves the goals of `part_sentence` of src/labels.rt that the search leaves open.
use Rattle.std.proofs.Common.{ℕ, List, map, Bor, sym, ap, ◌∙◌, rules}
use Rattle.std.proofs.lemmas.Result.{IfOk-weaker}
use Rattle.histar_lint.specs.Lines.{first_sentence}
use Rattle.histar_raw_lint.specs.Values.{list_rules, part_rules}
use Rattle.histar_raw_lint.proofs.Steps.{popped}
use Rattle.histar_raw_lint.proofs.labels.part_sentence.Goals as goal

pub returns : goal.returns
returns c =
    let default = c.unwrap_or-default.result in
    let rules_are =
    popped c.in_ok-parts.parts.items c.pop.new.self.items c.pop.result default c.pop.ensures.items
    (λ none. let cases = c.pop.ensures.cases in search rules) (let is = c.unwrap_or-default.ensures in search rules) in
    IfOk-weaker c.list_sentence.result _ _
    (λ said is. is ∙ ap (λ (rest : List (Bor (List ℕ))). first_sentence
    (list_rules default.now (map (λ part. part.now) rest))) c.as_slice.ensures.value
    ∙ ap first_sentence (sym rules_are ∙ ap part_rules c.in_ok-parts.ensures)) c.list_sentence.ensures
