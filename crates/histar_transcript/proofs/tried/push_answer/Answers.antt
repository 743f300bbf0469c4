-- Proves the goals of `push_answer` of src/tried.rt that the search leaves open.
use Rattle.std.proofs.Common.{ℕ, List, [], ◌++◌, Option, codes, ap, ap₂, ◌∙◌, arith}
use Rattle.std.specs.Prelude.{decimal, unwrap_or}
use Rattle.std.proofs.lemmas.Result.{on_ok_weaker}
use Rattle.histar_script.specs.Lines.{split_word}
use Rattle.histar_transcript.proofs.Replies.{number_split}
use Rattle.histar_transcript.proofs.tried.push_answer.Goals as goal

pub returns : goal.returns
returns c =
    let call : List ℕ → List ℕ → List ℕ = λ said reply. decimal c.args.number ++ codes "  " ++ said ++ codes "  " ++ reply in
    on_ok_weaker c.push_reply.result
    (λ pushed reply is.
    let rest = c.or_nothing.ensures
    ∙ ap (λ (o : Option (List ℕ)). unwrap_or o []) (c.split_word.ensures.rest ∙ ap (λ (l : List ℕ). (split_word l).1) is
    ∙ number_split c.args.number reply (omega (arith, c.ranges.number))) in
    pushed ∙ ap (λ l. c.args.text.now.items ++ l) (ap₂ call c.call_on-call.ensures rest))
    c.push_reply.ensures
