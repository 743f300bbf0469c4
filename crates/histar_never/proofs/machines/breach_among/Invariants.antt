-- The invariants and measures of `breach_among` of src/machines.rt.
use Rattle.std.proofs.Common.{◌≡◌, length}
use Rattle.histar_flat.specs.Accounts.{Accounts}
use Rattle.histar_flat.specs.FlatState.{Flat}
use Rattle.histar_shell.specs.Meaning.{Shows}
use Rattle.histar_never.specs.Breaches.{first_of}
use Rattle.histar_never.specs.Machines.{node_breach}
use Rattle.histar_never.proofs.machines.breach_among.Given as goal

abbrev pub invariant-nodes : goal.invariant-nodes
invariant-nodes g l =
    (accounts : Accounts) (f : Flat) → Shows accounts l.machine f
    → first_of (node_breach accounts f l.never) l.nodes ≡ first_of (node_breach accounts f l.never) l.rest

abbrev pub decreases-nodes : goal.decreases-nodes
decreases-nodes g l = length l.rest
