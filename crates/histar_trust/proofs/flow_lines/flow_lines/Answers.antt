-- Proves the goals of `flow_lines` of src/flow_lines.rt that the search leaves open.
use Rattle.std.proofs.Common.{ap, ◌∙◌}
use Rattle.std.specs.List.{filter_map}
use Rattle.histar_trust.specs.FlowFindings.{shown_flows}
use Rattle.histar_trust.specs.Findings.{running_node}
use Rattle.histar_trust.proofs.Pieces.{made_so}
use Rattle.histar_trust.proofs.ShownFlows.{flows_there}
use Rattle.histar_trust.proofs.ShownTrust.{has_processes}
use Rattle.histar_trust.proofs.flow_lines.flow_lines.Goals as goal

pub processes-requires : goal.processes-requires
processes-requires g c = has_processes c.requires.2

pub returns : goal.returns
returns g c =
    let members = c.in_ok-members.members.items in
    let runners = c.in_ok-members.ensures ∙ ap (filter_map running_node) c.as_slice.ensures.value in
    made_so c.lines_among.result
    (λ text is accounts f r. is ∙ ap shown_flows c.as_slice-2.ensures.value
    ∙ flows_there r members
    (record { processes = c.in_ok-processes.processes.items; are = c.in_ok-processes.ensures; runners = runners }))
    c.lines_among.ensures
