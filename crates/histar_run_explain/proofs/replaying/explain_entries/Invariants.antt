-- The invariants and measures of `explain_entries` of src/replaying.rt.
use Rattle.std.specs.Prelude.{drop}
use Rattle.histar_syscall.specs.KernelModel.{state}
use Rattle.histar_run_explain.proofs.Replays.{IsReplayed}
use Rattle.histar_run_explain.proofs.replaying.explain_entries.Given as goal

abbrev pub invariant-loop-behind : goal.invariant-loop-behind
invariant-loop-behind g l =
    IsReplayed (g.V.Wording.words l.words) (state l.fn.kernel) (drop l.entries.from l.entries.trace.now.entries) l.behind
    l.fn.text.items l.text.items (state l.kernel)
