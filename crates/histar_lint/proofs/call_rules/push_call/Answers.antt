-- Proves the goals of `push_call` of src/call_rules.rt that the search leaves open.
use Rattle.std.proofs.Common.{ℕ, List, ◌++◌, codes, ap, ◌∙◌}
use Rattle.std.proofs.lemmas.List.{append_assoc}
use Rattle.histar_lint.proofs.call_rules.push_call.Goals as goal

pub returns : goal.returns
returns c =
    let old = c.args.said.now.items in
    let front = codes " (did you mean " in
    let call = c.args.call.now in
    c.in_ok-extend_from_slice-3.ensures.items
    ∙ ap (λ (text : List ℕ). text ++ codes "?)")
    (c.in_ok-extend_from_slice-2.ensures.items ∙ ap (λ (text : List ℕ). text ++ c.as_bytes.result.now) c.in_ok-extend_from_slice.ensures.items
    ∙ ap (λ (text : List ℕ). (old ++ front) ++ text) c.as_bytes.ensures.value ∙ append_assoc old front call)
    ∙ append_assoc old (front ++ call) (codes "?)")
