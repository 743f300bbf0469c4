-- The invariants and measures of `push_flows` of src/flow_lines.rt.
use Rattle.std.proofs.Common.{◌≡◌, ◌++◌, take}
use Rattle.std.specs.List.{flat_map}
use Rattle.histar_trust.specs.FlowFindings.{shown_flow}
use Rattle.histar_trust.proofs.flow_lines.push_flows.Given as goal

abbrev pub invariant-loop-member : goal.invariant-loop-member
invariant-loop-member l = l.text.items ≡ l.fn.text.items ++ flat_map (shown_flow l.members) (take l.member-index l.members)
