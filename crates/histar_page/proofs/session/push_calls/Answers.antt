-- Proves the goals of `push_calls` of src/session.rt that the search leaves open.
use Rattle.std.proofs.Common.{ℕ, List, refl, rules, ap, drop}
use Rattle.std.specs.Borrow.{Bor}
use Rattle.std.proofs.lemmas.List.{drop_all, drop_more}
use Rattle.std.proofs.lemmas.Result.{on_ok_weaker}
use Rattle.histar_page.specs.Texts.{texts}
use Rattle.histar_page.specs.Items.{items_of}
use Rattle.histar_page.specs.Order.{Marked}
use Rattle.histar_page.proofs.OwnLemmas.{behind_texts}
use Rattle.histar_page.proofs.SessionLemmas.{turns_end, turns_next}
use Rattle.histar_page.proofs.session.push_calls.Goals as goal

pub replies-init : goal.replies-init
replies-init c = (search rules, search rules, search rules, refl)

pub replies-preserved : goal.replies-preserved
replies-preserved c =
    let lines = c.args.lines in
    let marked : Marked = record {
      reasons = drop c.replies.reason_at (texts lines.reasons.now);
      raw_calls = drop c.replies.raw_at (texts lines.raw_calls.now);
      explanations = drop c.replies.why_at (texts lines.explanations.now);
    } in (
      c.own_lines.ensures.fits,
      c.own_lines-in-replies.ensures.fits,
      c.own_lines-in-replies-2.ensures.fits,
      turns_next c.replies.to_fold (texts c.args.script.now) c.replies.before.now marked (items_of c.replies.pieces.items)
          (ap texts (drop_more lines.replies.now c.replies.reply-index _ c.replies-test.true)) c.split_word.ensures.word
          (λ i. record {
            reasons = c.own_lines.ensures.front i;
            raw_calls = c.own_lines-in-replies.ensures.front i;
            explanations = c.own_lines-in-replies-2.ensures.front i;
          })
          (λ i. record {
            reasons = c.own_lines.ensures.rest i;
            raw_calls = c.own_lines-in-replies.ensures.rest i;
            explanations = c.own_lines-in-replies-2.ensures.rest i;
          })
          c.saturating_sub-to_fold.ensures c.in_ok-push_turn.ensures c.replies.invariant.3,
    )

pub returns : goal.returns
returns c =
    let now : Bor (List ℕ) → List ℕ = λ line. line.now in
    let lines = c.args.lines in
    let marked : Marked = record {
      reasons = drop c.replies.reason_at (texts lines.reasons.now);
      raw_calls = drop c.replies.raw_at (texts lines.raw_calls.now);
      explanations = drop c.replies.why_at (texts lines.explanations.now);
    } in
    on_ok_weaker c.push_each-2.result
    (λ e. turns_end c.replies.to_fold (texts c.args.script.now) c.replies.before.now marked (items_of c.replies.pieces.items)
    (ap texts (drop_all c.replies.reply-index lines.replies.now c.replies-test.false)) c.lines_after.ensures
    (behind_texts now lines.raw_calls.now c.split_at.result.1.now c.replies.raw_at c.split_at.ensures.back)
    (behind_texts now lines.explanations.now c.split_at-2.result.1.now c.replies.why_at c.split_at-2.ensures.back)
    c.in_ok-push_notes.ensures c.in_ok-push_each.ensures e c.replies.invariant.3)
    c.push_each-2.ensures
