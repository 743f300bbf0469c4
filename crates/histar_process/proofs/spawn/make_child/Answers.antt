-- Proves the goals of `make_child` of src/spawn.rt that the search leaves open.
use Rattle.histar_rules.specs.declared.raw.RawCall.TheVariants.{OwnLabel}
use Rattle.histar_programs.proofs.Running.{refuses}
use Rattle.histar_process.proofs.Spawning.{no_birth, no_labels, with_birth}
use Rattle.histar_process.proofs.spawn.make_child.Goals as goal

pub returns-in_err-own : goal.returns-in_err-own
returns-in_err-own g c status is =
    no_labels c.args.unix.now.users.now _ status _ _ _ _ _ c.from_residual.ensures.1 (refuses _ OwnLabel _ _ _ _ c.in_err-own.ensures.ok
    c.in_err-own.ensures.memory)

pub returns-in_err-bear_child : goal.returns-in_err-bear_child
returns-in_err-bear_child g c status is =
    no_birth c.args.unix.now.users.now _ status _ _ _ _ c.in_ok-own.ensures.ok
    _ _ _ c.from_residual-in_err-bear_child.ensures.1 (c.in_err-bear_child.ensures status is)

pub returns : goal.returns
returns g c status is =
    (with_birth c.args.unix.now.users.now _ status _ _ _ _ c.in_ok-own.ensures.ok
    _ (c.in_ok-bear_child.ensures status is)).leads _ _ c.take_labels.ensures
