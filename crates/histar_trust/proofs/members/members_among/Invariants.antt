-- The invariants and measures of `members_among` of src/members.rt.
use Rattle.std.proofs.Common.{◌≡◌, take}
use Rattle.std.specs.Prelude.{map}
use Rattle.std.specs.List.{filter_map}
use Rattle.histar_trust.specs.Findings.{runner_of, running_node}
use Rattle.histar_trust.proofs.members.members_among.Given as goal

abbrev pub invariant-loop-process : goal.invariant-loop-process
invariant-loop-process l = map runner_of l.members.items ≡ filter_map running_node (take l.process-index l.processes)
