-- The program of `kill PROC`.
use Rattle.std.specs.Prelude.{◌≡◌, ℕ, List, [], ◌∷◌, Some, Result}
use Rattle.histar_flat.specs.Words.{ProcName}
use Rattle.histar_flat.specs.declared.replies.Reply.TheVariants.{Done}
use Rattle.histar_rules.specs.Sound.{root_number}
use Rattle.histar_rules.specs.declared.raw.RawCall.TheVariants.{Unlink}
use Rattle.histar_syscall.specs.KernelModel.{KernelModel}
use Rattle.histar_layout.specs.Status.{ProcessStatus, child_at, status_in, without_child}
use Rattle.histar_programs.specs.declared.call_error.CallError.{CallError}
use Rattle.histar_programs.specs.declared.roots.Home.{Home}
use Rattle.histar_programs.specs.declared.roots.Roots.{Roots}
use Rattle.histar_programs.specs.Programs.{Part, Program, RunsPart}
use Rattle.histar_programs.specs.Programs.Program.{Answers}
use Rattle.histar_programs.specs.Parts.{◌>>=◌, ◌>>◌, ask, given}
use Rattle.histar_process.specs.Parts.{find_home, home_of, must_be_there, read_status, write_status}

-- The child of this number is looked up in the status of the process at this home, and its own segment read. Its container is unlinked
-- from the one above it, with all that it holds, and the segment above is written without the child.
abbrev pub kill_known : Home → ProcessStatus → ℕ → Part (Unit {0})
kill_known home status n rest = do
  child ← given (must_be_there (child_at status.children n))
  _ ← read_status (home_of child)
  ask (Unlink home.container child.container)
  write_status home (without_child n status)
  rest tt

-- a child of the process whose segment has these bytes is killed, whatever status they show
abbrev pub KillsKnown : Type 0 → Home → List ℕ → ℕ → KernelModel → KernelModel → ℕ → Result (Unit {0}) CallError → Type 0
KillsKnown M home bytes n old new thread result =
    (status : ProcessStatus) → status_in bytes ≡ Some status → RunsPart M (kill_known home status n) old new thread result

-- The process above is found and its segment read, and the child is killed. Process 0 is linked by the root container, and no segment
-- lists it.
unfoldable pub kill_program : Roots → ProcName → Program
kill_program roots [] = do
  status ← read_status roots.home
  ask (Unlink root_number roots.home.container)
  Answers Done
kill_program roots (n ∷ above) = do
  home ← find_home roots.home above
  status ← read_status home
  kill_known home status n
  Answers Done
