-- The invariants and measures of `run_raw` of src/raw_calls.rt.
use Rattle.std.proofs.Common.{◌<◌, take}
use Rattle.histar_rules.specs.Sound.{IsSound}
use Rattle.histar_syscall.specs.KernelModel.{state}
use Rattle.histar_syscall.specs.Runs.{MadeAll}
use Rattle.histar_syscall.proofs.raw_calls.run_raw.Given as goal

abbrev pub invariant-loop-asked : goal.invariant-loop-asked
invariant-loop-asked g l =
    record {
      made : MadeAll l.initial.kernel (take l.asked-index l.calls) l.kernel;
      sound : 0 < l.asked-index → IsSound (state l.initial.kernel);
    }
