-- Proves the goals of `push_changer_login_of` of src/changers.rt that the search leaves open.
use Rattle.std.proofs.Common.{◌++◌, ◌∙◌, ap}
use Rattle.std.specs.Prelude.{codes}
use Rattle.histar_leak.specs.Findings.{login_change_text}
use Rattle.histar_leak.specs.LeakLines.{some_text}
use Rattle.histar_leak.proofs.Pieces.{ok_so, six_behind}
use Rattle.histar_leak.proofs.changers.push_changer_login_of.Goals as goal

pub returns : goal.returns
returns c =
    let place = c.args.place.now in
    let whom = c.args.whom.now in
    let user = c.args.user.now in
    let lines = login_change_text place.groups.now place.classes.now place.changes.now whom user in
    let word = c.in_ok-extend_from_slice.ensures.items in
    let named = c.in_ok-extend_from_slice-2.ensures.items ∙ (λ i. word i ++ c.as_bytes.ensures.value i) in
    let by = c.in_ok-extend_from_slice-3.ensures.items ∙ ap (λ t. t ++ codes " by ") named in
    let some = c.in_ok-push_some.ensures ∙ ap (λ t. t ++ some_text whom) by in
    let line = c.in_ok-extend_from_slice-4.ensures.items ∙ ap (λ t. t ++ codes "\n") some in
    ok_so c.push_login_change.result
    (λ last. last ∙ ap (λ t. t ++ lines) line
    ∙ six_behind c.args.text.now.items (codes "\n# changer-login ") user.name (codes " by ") (some_text whom) (codes "\n") lines)
    c.push_login_change.ensures
