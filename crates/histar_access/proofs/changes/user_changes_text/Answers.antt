-- Proves the goals of `user_changes_text` of src/changes.rt that the search leaves open.
use Rattle.std.proofs.Common.{◌∙◌}
use Rattle.histar_diff.specs.UserTexts.{user_differences_text}
use Rattle.histar_access.proofs.Comparing.{AreComparedForUsers, users_text_between}
use Rattle.histar_access.proofs.changes.user_changes_text.Goals as goal

pub returns : goal.returns
returns c =
    let found = c.in_ok-differences.differences in
    let compared : AreComparedForUsers c.args.options c.args.old.now c.args.new.now found.lone.items found.pairs.items = record {
      before = c.in_ok-before.before;
      after = c.in_ok-after.after;
      is_before = c.in_ok-before.ensures;
      is_after = c.in_ok-after.ensures;
      are = c.in_ok-differences.ensures;
    } in
    users_text_between c.args.options compared c.in_ok-users_text_of.field-0.items
    (c.in_ok-users_text_of.ensures
    ∙ (λ i. user_differences_text (c.shown_users-differences.ensures.lone i) (c.shown_users-differences.ensures.pairs i)))
