-- Proves the goals of `second_kernel` of src/session.rt that the search leaves open.
use Rattle.histar_run_explain.proofs.Turns.{boot_runs, boot_end}
use Rattle.histar_run_explain.proofs.session.second_kernel.Goals as goal

pub replay_all-requires : goal.replay_all-requires
replay_all-requires g c = boot_runs c.args.machine.now.kernel c.requires _ c.in_ok-kernel.ensures.state _ c.trace.ensures

pub returns-in-Ok : goal.returns-in-Ok
returns-in-Ok g c = boot_end c.args.machine.now.kernel c.requires _ c.in_ok-kernel.ensures.state _ c.trace.ensures _ c.in-Ok.ensures
