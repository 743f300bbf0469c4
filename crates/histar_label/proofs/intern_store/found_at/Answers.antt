-- Proves the goals of `found_at` of src/intern_store.rt that the search leaves open.
use Rattle.std.proofs.Common.{◌≡◌, Some, sym, ◌∙◌, rules}
use Rattle.histar_label.proofs.Remembered.{same_comparison}
use Rattle.histar_label.proofs.intern_store.found_at.Goals as goal

pub returns-in-Some : goal.returns-in-Some
returns-in-Some c =
    let found = c.in_ok-answer.ensures.lookup.3 in
    let same : c.in-Some.latest ≡ c.args.comparison =
    sym (same_comparison c.in-Some.latest c.args.comparison (search (rules, c.eq.ensures, c.if-eq.true))) in
    (c.args.place, found.0, sym (found.1 (Some (c.args.comparison, c.in-Some.answer))) ∙ c.in-Some.is ∙ (λ i. Some (same i, c.in-Some.answer)))
