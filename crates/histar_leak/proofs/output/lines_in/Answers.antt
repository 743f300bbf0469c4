-- Proves the goals of `lines_in` of src/output.rt that the search leaves open.
use Rattle.histar_trust.proofs.ShownTrust.{has_processes}
use Rattle.histar_leak.proofs.ShownLeak.{members_found}
use Rattle.histar_leak.proofs.output.lines_in.Goals as goal

pub processes-requires : goal.processes-requires
processes-requires g c = has_processes c.requires.shows.1

pub path_lines-requires-clause-members : goal.path_lines-requires-clause-members
path_lines-requires-clause-members g c =
    members_found c.in_ok-processes.ensures c.in_ok-members.ensures c.as_slice.ensures.value c.as_slice-2.ensures.value
