-- The invariants and measures of `push_calls` of src/session.rt.
use Rattle.std.proofs.Common.{◌≡◌, ◌≤◌, ◌++◌, [], drop, length}
use Rattle.histar_page.specs.Texts.{texts}
use Rattle.histar_page.specs.Items.{items_of}
use Rattle.histar_page.specs.MarkedLines.{marked_in}
use Rattle.histar_page.specs.Session.{turns_from}
use Rattle.histar_page.proofs.session.push_calls.Given as goal

abbrev pub invariant-replies : goal.invariant-replies
invariant-replies l =
    let replies = l.lines.replies.now in
    let reasons = l.lines.reasons.now in
    let raw_calls = l.lines.raw_calls.now in
    let explanations = l.lines.explanations.now in
    (l.reason_at ≤ length reasons) × (l.raw_at ≤ length raw_calls) × (l.why_at ≤ length explanations)
    × (items_of l.pieces.items ++ turns_from l.to_fold (texts l.script) l.before (texts (drop l.reply-index replies)) (record {
      reasons = drop l.reason_at (texts reasons);
      raw_calls = drop l.raw_at (texts raw_calls);
      explanations = drop l.why_at (texts explanations);
    })
    ≡ items_of l.fn.pieces.items ++ turns_from l.folded (texts l.script) [] (texts replies) (marked_in l.lines))
