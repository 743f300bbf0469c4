-- Proves the goals of `own_lines` of src/session.rt that the search leaves open.
use Rattle.std.proofs.Common.{ℕ, List, take, arith, ◌∙◌, ap}
use Rattle.std.specs.Borrow.{Bor}
use Rattle.std.specs.List.{prefix_len}
use Rattle.std.proofs.lemmas.List.{length-map}
use Rattle.std.proofs.lemmas.List.Sums.{prefix_len-le-length}
use Rattle.histar_page.specs.Texts.{texts}
use Rattle.histar_page.specs.Lines.{is_own}
use Rattle.histar_page.proofs.OwnLemmas.{past_texts, taken_front}
use Rattle.histar_page.proofs.session.own_lines.Goals as goal

pub split_at-requires-2 : goal.split_at-requires-2
split_at-requires-2 c =
    let now : Bor (List ℕ) → List ℕ = λ line. line.now in
    omega (
      arith,
      c.own_count.ensures,
      prefix_len-le-length (is_own c.args.word.now) (texts c.split_at.result.1.now),
      length-map
          c.split_at.result.1.now now,
    )

pub returns-clause-fits : goal.returns-clause-fits
returns-clause-fits c =
    let now : Bor (List ℕ) → List ℕ = λ line. line.now in
    omega (
      arith,
      c.own_count.ensures,
      prefix_len-le-length (is_own c.args.word.now) (texts c.split_at.result.1.now),
      length-map c.split_at.result.1.now now,
      c.split_at.ensures.back_len,
      c.split_at-2.ensures.front_len,
    )

pub returns-clause-front : goal.returns-clause-front
returns-clause-front c =
    let now : Bor (List ℕ) → List ℕ = λ line. line.now in
    let word = c.args.word.now in
    taken_front now word c.args.lines.now c.split_at-2.result.0.now c.args.from c.own_count.result
    (c.own_count.ensures ∙ ap (λ l. prefix_len (is_own word) (texts l)) c.split_at.ensures.back)
    (c.split_at-2.ensures.front ∙ ap (take c.own_count.result) c.split_at.ensures.back)

pub returns-clause-rest : goal.returns-clause-rest
returns-clause-rest c =
    let now : Bor (List ℕ) → List ℕ = λ line. line.now in
    past_texts now c.args.word.now c.args.lines.now c.args.from _
    (c.split_at-2.ensures.front_len ∙ c.own_count.ensures ∙ ap (λ l. prefix_len (is_own c.args.word.now) (texts l)) c.split_at.ensures.back)
