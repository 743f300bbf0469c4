-- A process whose thread is ready to make a call, in a run of which M says that memory ran out.
use Rattle.std.specs.Prelude.{ℕ}
use Rattle.histar_flat.specs.Words.{ProcName}
use Rattle.histar_flat.specs.Accounts.{Accounts}
use Rattle.histar_flat.specs.FlatState.{Flat}
use Rattle.histar_object.specs.State.{State}
use Rattle.histar_refinement.specs.Lines.{IsThreadOf}
use Rattle.histar_refinement.specs.Represents.{Represents}
use Rattle.histar_sim.specs.Simulation.{AreFilesSmall, IsFirstFree, IsReady, IsRunning}

-- M is that of the run, so that each lemma on a ready process knows it
pub record Ready (M : Type 0) (accounts : Accounts) (s : State) (f : Flat) (me : ProcName) (t : ℕ) : Type 0 where
  pub represents : Represents accounts s f
  pub caller : IsRunning f me
  pub first : IsFirstFree f
  pub small : AreFilesSmall f
  pub thread : IsThreadOf accounts s me t

-- a process that is ready, from this representation
abbrev pub ready_from : (M : Type 0) (accounts : Accounts) (s : State) (f : Flat) (me : ProcName) (t : ℕ) → IsReady accounts s f me t
    → Represents accounts s f → Ready M accounts s f me t
ready_from M accounts s f me t ready from = record {
  represents = from;
  caller = ready.caller;
  first = ready.first;
  small = ready.small;
  thread = ready.thread;
}
