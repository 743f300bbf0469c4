-- Proves the goals of `snapshot_titles` of src/titles.rt that the search leaves open.
use Rattle.std.proofs.Common.{◌∙◌}
use Rattle.histar_leak.proofs.ShownTitles.{all_made, none_made}
use Rattle.histar_leak.proofs.titles.snapshot_titles.Goals as goal

pub returns-then-is_too_much : goal.returns-then-is_too_much
returns-then-is_too_much g c =
    let snapshot = c.args.snapshot.now in
    λ f r. none_made r snapshot.members.now c.requires.members snapshot.tree.now c.requires.tree
    (c.as_slice-files.ensures.value ∙ c.in_ok-paths.ensures) c.is_too_much.ensures c.if-is_too_much.true _ c.new-text.ensures.items

pub returns : goal.returns
returns g c =
    let snapshot = c.args.snapshot.now in
    λ f r. all_made r snapshot.members.now c.requires.members snapshot.tree.now c.requires.tree
    (c.as_slice-files.ensures.value ∙ c.in_ok-paths.ensures) c.is_too_much.ensures c.if-is_too_much.false c.new-text.ensures.items
    c.in_ok-push_files.ensures
