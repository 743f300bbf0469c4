-- Proves the goals of `push_with_call` of src/transcript.rt that the search leaves open.
use Rattle.std.proofs.Common.{◌≡◌, ℕ, List, [], ◌++◌, Option, Some, codes, map, sym, ap, ap₂, ◌∙◌}
use Rattle.std.specs.Prelude.{decimal, nat_le, unwrap_or}
use Rattle.std.proofs.lemmas.Result.{on_ok_weaker}
use Rattle.histar_flat.specs.Words.{number_of}
use Rattle.histar_script.specs.Lines.{most_script_lines}
use Rattle.histar_transcript.specs.Transcript.{reply_number}
use Rattle.histar_transcript.proofs.Replies.{with_call_is}
use Rattle.histar_transcript.proofs.transcript.push_with_call.Goals as goal

pub returns : goal.returns
returns c =
    let word = ap (number_of (λ n. nat_le n most_script_lines)) (sym c.split_word.ensures.word) in
    let number : reply_number c.args.line.now ≡ Some c.in-Some.number = word ∙ sym c.in-Some.ensures.value in
    let call = with_call_is (map (λ line. line.now) c.args.lines.now) c.args.line.now c.in-Some.number number in
    let rest = c.or_nothing.ensures ∙ ap (λ (o : Option (List ℕ)). unwrap_or o []) c.split_word.ensures.rest in
    let said : List ℕ → List ℕ → List ℕ = λ said reply. decimal c.in-Some.number ++ codes "  " ++ said ++ codes "  " ++ reply in
    on_ok_weaker c.push_reply.result
    (λ pushed. pushed ∙ ap (λ l. c.args.text.now.items ++ l) (ap₂ said c.call_on.ensures rest ∙ sym call))
    c.push_reply.ensures
