-- Seals of jobs: the containers of a job's processes lead to what is tainted in the job's category alone, whatever
-- bytes its threads write.
use Rattle.std.specs.Prelude.{◌≡◌, ℕ, ◌+◌, ◌*◌, ◌≤◌, List, ◌++◌, length, Some}
use Rattle.histar_flat.specs.Words.{ProcName}
use Rattle.histar_flat.specs.Accounts.{Accounts}
use Rattle.histar_flat.specs.FlatState.{Flat}
use Rattle.histar_secrecy.specs.Leaks.{IsFamily}
use Rattle.histar_level.specs.declared.level.Level.TheVariants.{L3}
use Rattle.histar_level.specs.Levels.{Levels, level_of}
use Rattle.histar_object.specs.declared.objects.Object.{Object}
use Rattle.histar_object.specs.State.{State}
use Rattle.histar_syscall.specs.KernelModel.{state}
use Rattle.histar_programs.specs.declared.roots.Home.{Home}
use Rattle.histar_programs.specs.Caller.{home_at}
use Rattle.histar_programs.specs.Start.{roots_of, declared}
use Rattle.histar_refinement.specs.Represents.{Represents}
use Rattle.histar_shell.specs.Machine.{MachineModel}
use Rattle.histar_unwinding.specs.Sealed.{IsSealed}
use Rattle.histar_outside.specs.Search.{IsInsideCaller}
use Rattle.histar_outside.specs.Attacks.{MixedLine, MakesAttack, AreAlikeMachines}

-- where the container of a process is sealed by v, each process that is found at its name or below it is inside
abbrev pub SealedSearch : Type 0
SealedSearch = (s : State) (v : ℕ) (first : Home) (me : ProcName) (home : Home) → home_at s first me ≡ Some home
    → IsSealed s v home.container
    → (below : ProcName) → IsInsideCaller s v first (below ++ me)

-- what is sealed by v where an attack starts is sealed at its end
abbrev pub AttacksKeepSeals : Type 0
AttacksKeepSeals = (accounts : Accounts) (v d : ℕ) (m clean end : MachineModel) (f : Flat) (lines : List MixedLine)
    → 6 + 2 * declared accounts ≤ v
    → AreAlikeMachines accounts v m clean f → MakesAttack v m lines end → IsSealed (state m.kernel) v d
    → IsSealed (state end.kernel) v d

-- the container of a process is there, and is tainted in v
abbrev pub IsTaintedHome : State → ℕ → Home → Type 0
IsTaintedHome s v home = (o : Object Levels) × (s.objects home.container ≡ Some o) × (level_of o.label v ≡ L3)

-- In a state that represents a flat state in which a child is in the jobs of its parent, a container of a process that
-- is tainted in v is sealed by v.
abbrev pub JobsAreSealed : Type 0
JobsAreSealed = (accounts : Accounts) (v : ℕ) (s : State) (f : Flat) (me : ProcName) (home : Home)
    → Represents accounts s f → IsFamily f
    → home_at s (roots_of (length accounts.users)).home me ≡ Some home → IsTaintedHome s v home
    → IsSealed s v home.container

-- A job's Unix lines stay inside: where the container of a process was tainted in v at the start of an attack, and the
-- process is found in the same container at the end, if it is found, each process that is found at its name or below it
-- is inside, whatever bytes were forged.
abbrev pub JobLinesStayInside : Type 0
JobLinesStayInside = (accounts : Accounts) (v : ℕ) (m end : MachineModel) (f : Flat) (lines : List MixedLine)
    (job : ProcName) (home : Home)
    → 6 + 2 * declared accounts ≤ v → AreAlikeMachines accounts v m m f → IsFamily f → MakesAttack v m lines end
    → home_at (state m.kernel) m.roots.home job ≡ Some home → IsTaintedHome (state m.kernel) v home
    → ((now : Home) → home_at (state end.kernel) end.roots.home job ≡ Some now → now.container ≡ home.container)
    → (below : ProcName) → IsInsideCaller (state end.kernel) v end.roots.home (below ++ job)
