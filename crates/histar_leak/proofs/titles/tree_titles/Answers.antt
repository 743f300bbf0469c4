-- Proves the goals of `tree_titles` of src/titles.rt that the search leaves open.
use Rattle.histar_trust.proofs.ShownTrust.{has_processes}
use Rattle.histar_leak.proofs.ShownLeak.{members_found}
use Rattle.histar_leak.proofs.titles.tree_titles.Goals as goal

pub processes-requires : goal.processes-requires
processes-requires g c = has_processes c.requires.shows.1

pub snapshot_titles-requires-clause-members : goal.snapshot_titles-requires-clause-members
snapshot_titles-requires-clause-members g c =
    members_found c.in_ok-processes.ensures c.in_ok-members.ensures c.as_slice.ensures.value c.as_slice-2.ensures.value
