-- The lines of a script, one after another, are one run of the kernel.
use Rattle.std.proofs.Common.{List, [], ◌∷◌, ◌++◌, sym, subst}
use Rattle.histar_flat.specs.declared.calls.CallLine.{CallLine}
use Rattle.histar_flat.specs.Accounts.{Accounts}
use Rattle.histar_flat.specs.FlatState.{Flat}
use Rattle.histar_flat.specs.FlatCalls.{flat_after}
use Rattle.histar_object.specs.State.{State}
use Rattle.histar_trace.specs.declared.entries.TraceEntry.{TraceEntry}
use Rattle.histar_syscall.specs.Runs.{IsRun}
use Rattle.histar_sim.specs.Simulation.{SimulatesLines}

-- a run after another is one run
pub run_after : (first mid last : State) (front back : List TraceEntry) → IsRun first front mid → IsRun mid back last
    → IsRun first (front ++ back) last
run_after first mid last [] back before after = subst (λ (s : State). IsRun s back last) before after
run_after first mid last (e ∷ front) back before after = (before.0, before.1, before.2, run_after before.0 mid last front back before.3 after)

-- the lines of a script are a run
pub refinements_run : (accounts : Accounts) (s : State) (f : Flat) (asked : List CallLine) (entries : List TraceEntry)
    (end : State) → SimulatesLines accounts s f asked entries end → IsRun s entries end
refinements_run accounts s f [] entries end refinements = subst (λ (es : List TraceEntry). IsRun s es end) (sym refinements.0) refinements.1
refinements_run accounts s f (line ∷ more) entries end refinements =
    subst (λ (es : List TraceEntry). IsRun s es end) (sym refinements.3)
    (run_after s refinements.2 end refinements.0 refinements.1 refinements.4.line.run
    (refinements_run accounts refinements.2 (flat_after accounts f line.process line.call) more refinements.1
    end refinements.5))
