-- Proves the goals of `lines_in` of src/files.rt that the search leaves open.
use Rattle.std.proofs.Common.{[], ◌++◌, ap, ◌∙◌}
use Rattle.std.specs.List.{filter_map}
use Rattle.histar_trust.specs.Findings.{running_node, shown_runners, shown_secrets}
use Rattle.histar_trust.proofs.Pieces.{made_so}
use Rattle.histar_trust.proofs.ShownSecrets.{secrets_there}
use Rattle.histar_trust.proofs.ShownTrust.{has_processes}
use Rattle.histar_trust.proofs.files.lines_in.Goals as goal

pub processes-requires : goal.processes-requires
processes-requires g c = has_processes c.requires.shows.2

pub returns : goal.returns
returns g c =
    let members = c.in_ok-members.members.items in
    let tree = c.args.tree.now in
    let runners = c.in_ok-members.ensures ∙ ap (filter_map running_node) c.as_slice.ensures.value in
    made_so c.member_lines.result
    (λ text is accounts f r. is
    ∙ (λ i. shown_runners (c.as_slice-2.ensures.value i) ++ shown_secrets (c.users.ensures i) (c.as_slice-2.ensures.value i) [] tree)
    ∙ secrets_there r members
    (record { processes = c.in_ok-processes.processes.items; are = c.in_ok-processes.ensures; runners = runners }) tree c.requires.tree)
    c.member_lines.ensures
