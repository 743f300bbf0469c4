-- Attacks by names: whose Unix calls the lines of an attack are is said by the names of processes, and by no label.
use Rattle.std.specs.Prelude.{◌≡◌, ℕ, true, false, List, [], ◌∷◌, length, Ok}
use Rattle.histar_flat.specs.Calls.{IsCall}
use Rattle.histar_flat.specs.Words.{ProcName}
use Rattle.histar_flat.specs.Accounts.{Accounts}
use Rattle.histar_flat.specs.FlatState.{Flat}
use Rattle.histar_flat.specs.FlatCalls.{flat_after}
use Rattle.histar_flat.specs.Meaning.{RepliedCall, boot, answered_from, flat_end}
use Rattle.histar_flat.specs.PathOrder.{under_process}
use Rattle.histar_noninterference.specs.Comparison.{is_outsider, is_wrap_reply}
use Rattle.histar_secrecy.specs.Noninterference.{IsReached}
use Rattle.histar_object.specs.State.{State, empty_state}
use Rattle.histar_rules.specs.Sound.{IsSound}
use Rattle.histar_rules.specs.Visible.{IsTaintedCaller}
use Rattle.histar_trace.specs.declared.entries.TraceEntry.{TraceEntry}
use Rattle.histar_syscall.specs.KernelModel.{state}
use Rattle.histar_syscall.specs.Runs.{IsRun}
use Rattle.histar_programs.specs.Start.{roots_of}
use Rattle.histar_refinement.specs.Categories.{IsKnown}
use Rattle.histar_refinement.specs.Categories.CategoryName.{OfJob}
use Rattle.histar_refinement.specs.Represents.{Represents}
use Rattle.histar_shell.specs.Answers.{calls_of}
use Rattle.histar_shell.specs.Machine.{MachineModel, AnswersLine}
use Rattle.histar_shell.specs.Meaning.{Shows, ShowsStart}
use Rattle.histar_outside.specs.Attacks.{MixedLine, MakesAttack, IsRawStep, outside_of, AreAlikeMachines}
use Rattle.histar_outside.specs.Attacks.MixedLine.{Outside, Inside, Raw}
use Rattle.histar_outside.specs.Search.{IsOutsideCaller}

-- The machine made these lines, one after another. A Unix call outside is of an outsider of the job, one inside is of a
-- process at or below the job's name, and the thread of a raw call is tainted in v at that time, if it is a thread.
abbrev pub MakesAttackOn : ProcName → ℕ → MachineModel → List MixedLine → MachineModel → Type 0
MakesAttackOn job v m [] end = end ≡ m
MakesAttackOn job v m (Outside a ∷ more) end =
    (mid : MachineModel) × IsCall a.call.call × (is_outsider job a.call.process ≡ true)
    × AnswersLine m mid a.call.line a.call.process a.call.call (Ok a.reply) × MakesAttackOn job v mid more end
MakesAttackOn job v m (Inside a ∷ more) end =
    (mid : MachineModel) × IsCall a.call.call × (under_process job a.call.process ≡ true)
    × AnswersLine m mid a.call.line a.call.process a.call.call (Ok a.reply) × MakesAttackOn job v mid more end
MakesAttackOn job v m (Raw t call ∷ more) end =
    (mid : MachineModel) × IsTaintedCaller (state m.kernel) v t × IsRawStep m mid t call
    × MakesAttackOn job v mid more end

-- The machine runs, and represents a flat state to which calls lead.
pub record IsUnderWay (accounts : Accounts) (m : MachineModel) (f : Flat) : Type 0 where
  pub shows : Shows accounts m f
  pub sound : IsSound (state m.kernel)
  pub runs : m.is_stopped ≡ false
  pub reached : IsReached accounts f

-- In such a state some process is in the job or holds it, and v is the number of the job's category.
pub record HasJob (accounts : Accounts) (job : ProcName) (v : ℕ) (m : MachineModel) (f : Flat) : Type 0 where
  pub under_way : IsUnderWay accounts m f
  pub known : IsKnown f job
  pub number : under_way.shows.represents.matched.category (OfJob job) ≡ v

-- A machine that represents the flat start, and whose state a run of the kernel leads to, is under way.
abbrev pub BootedAreUnderWay : Type 0
BootedAreUnderWay = (accounts : Accounts) (m : MachineModel) (entries : List TraceEntry) → ShowsStart accounts m
    → IsRun empty_state entries (state m.kernel) → m.is_stopped ≡ false → IsUnderWay accounts m (boot accounts)

-- Each line that is answered leads on, to the flat state after its call.
abbrev pub LinesLeadOn : Type 0
LinesLeadOn = (accounts : Accounts) (m mid : MachineModel) (f : Flat) (a : RepliedCall) → IsUnderWay accounts m f
    → IsCall a.call.call → AnswersLine m mid a.call.line a.call.process a.call.call (Ok a.reply)
    → IsUnderWay accounts mid (flat_after accounts f a.call.process a.call.call)

-- After a wrap that is answered with the name of its job the machine has this job, which has a category.
abbrev pub WrapsStartJobs : Type 0
WrapsStartJobs = (accounts : Accounts) (m mid : MachineModel) (f : Flat) (a : RepliedCall) (job : ProcName)
    → IsUnderWay accounts m f
    → IsCall a.call.call → AnswersLine m mid a.call.line a.call.process a.call.call (Ok a.reply)
    → is_wrap_reply job a.call.call a.reply ≡ true
    → (v : ℕ) × HasJob accounts job v mid (flat_after accounts f a.call.process a.call.call)

-- In a state that represents a flat state, to which calls lead, each outsider of a job is outside the job's category.
abbrev pub OutsidersAreOutside : Type 0
OutsidersAreOutside = (accounts : Accounts) (s : State) (f : Flat) (rep : Represents accounts s f) (job me : ProcName)
    → IsReached accounts f → IsKnown f job → is_outsider job me ≡ true
    → IsOutsideCaller s (rep.matched.category (OfJob job)) (roots_of (length accounts.users)).home me

-- Lines that are an attack by names are one by labels: each line of an outsider is outside, and each line of a process
-- at or below the job's name is inside, whatever the lines before it were.
abbrev pub NamedAttacksAreAttacks : Type 0
NamedAttacksAreAttacks = (accounts : Accounts) (job : ProcName) (v : ℕ) (m end : MachineModel) (f : Flat)
    (lines : List MixedLine) → HasJob accounts job v m f → MakesAttackOn job v m lines end → MakesAttack v m lines end

-- By names: whatever raw calls the threads of a job make, and whatever its own processes call, each Unix call of an
-- outsider is answered as the flat meaning of the outsiders' calls alone says, and the machine stays alike, outside the
-- job's category, to one that represents the flat state after these.
abbrev pub NamedAttacksAreUnseen : Type 0
NamedAttacksAreUnseen = (accounts : Accounts) (job : ProcName) (v : ℕ) (m end : MachineModel) (f : Flat)
    (lines : List MixedLine) → HasJob accounts job v m f → MakesAttackOn job v m lines end
    → (outside_of lines ≡ answered_from accounts f (calls_of (outside_of lines)))
    × ((after : MachineModel)
    × AreAlikeMachines accounts v end after (flat_end accounts f (calls_of (outside_of lines))))
