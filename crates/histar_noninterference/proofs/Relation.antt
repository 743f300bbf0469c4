-- Two states that are the same outside a job, and what holds of each state after the job was started.
use Rattle.std.specs.Prelude.{List, None, Option, Some, false, true, ◌≡◌}
use Rattle.histar_flat.specs.Classes.{Process, carries}
use Rattle.histar_flat.specs.Files.{Files, get}
use Rattle.histar_flat.specs.FlatState.{Flat, IsTree, Node, is_dir, is_given}
use Rattle.histar_base.specs.Paths.{same}
use Rattle.histar_flat.specs.PathOrder.{parent, under_process}
use Rattle.histar_flat.specs.Accounts.{has}
use Rattle.histar_flat.specs.Words.{Path, ProcName}
use Rattle.histar_noninterference.specs.Comparison.{lies_in_job}

-- the trees are the same but below the job's directories
pub record SameFiles (job : ProcName) (m n : Files Node) : Type 0 where
  pub same : (q : Path) → lies_in_job job m q ≡ false → get m q ≡ get n q

-- the jobs of a process that is there
abbrev pub chain_of : Option Process → Option (List ProcName)
chain_of None = None
chain_of (Some p) = Some p.chain

-- the states are the same outside the job; the job's first process has the same jobs in both, or is there in neither
pub record SameOutside (job : ProcName) (f g : Flat) : Type 0 where
  pub files : SameFiles job f.files g.files
  pub processes : (q : ProcName) → under_process job q ≡ false → f.processes q ≡ g.processes q
  pub chain : chain_of (f.processes job) ≡ chain_of (g.processes job)

-- what holds of each state after the line that started the job
pub record IsStarted (job : ProcName) (f : Flat) : Type 0 where
  pub tree : IsTree f
  -- the name of the job was given
  pub given : is_given f.processes job ≡ true
  -- a file of the job lies below a directory of the job
  pub files : (q : Path) (n : Node) → get f.files q ≡ Some n → carries job n.class ≡ true → is_dir n ≡ false
      → lies_in_job job f.files q ≡ true
  -- the processes of the job are the job's process and those below it
  pub inside : (q : ProcName) (p : Process) → f.processes q ≡ Some p → has p.chain job ≡ under_process job q
  -- no process but the one that started the job holds it
  pub held : (q : ProcName) (p : Process) → f.processes q ≡ Some p → same (parent job) q ≡ false → has p.held job ≡ false
