-- Proves the goals of `member_lines` of src/files.rt that the search leaves open.
use Rattle.std.proofs.Common.{[], ◌++◌, ap, ◌∙◌}
use Rattle.histar_trust.specs.Findings.{shown_runners, shown_secrets}
use Rattle.histar_trust.proofs.files.member_lines.Goals as goal

pub returns : goal.returns
returns c =
    c.in_ok-push_secrets.ensures
    ∙ ap (λ t. t ++ shown_secrets c.args.users.now c.args.members.now [] c.args.tree.now)
    (c.in_ok-push_runners.ensures ∙ ap (λ t. t ++ shown_runners c.args.members.now) c.new-text.ensures.items)
