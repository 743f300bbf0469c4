-- An attack: what is written of a mixed session, and what it shows of the Unix library.
use Rattle.std.specs.Prelude.{◌≡◌, ℕ, ◌⊎◌, false, List, [], ◌∷◌, ◌++◌, codes, map, Option, Result, Ok, Err}
use Rattle.std.specs.Global.{Vec}
use Rattle.std.specs.Io.KnownBytes.{Appends, Keeps}
use Rattle.histar_io.specs.Writing.{AppendsFront}
use Rattle.histar_flat.specs.declared.calls.CallLine.{CallLine}
use Rattle.histar_flat.specs.Words.{ProcName}
use Rattle.histar_flat.specs.Accounts.{Accounts}
use Rattle.histar_flat.specs.FlatState.{Flat}
use Rattle.histar_flat.specs.Meaning.{RepliedCall, boot, flat_end, meaning}
use Rattle.histar_secrecy.specs.Noninterference.{IsReached}
use Rattle.histar_script.specs.declared.fault.Fault.{Fault}
use Rattle.histar_script.specs.declared.fault.Fault.TheVariants.{BadScript, TooLong, OutOfMemory, ReadFailed}
use Rattle.histar_script.specs.declared.fault.Fault.TheVariants.{WriteFailed}
use Rattle.histar_syscall.specs.KernelModel.{state}
use Rattle.histar_refinement.specs.Categories.CategoryName.{OfJob}
use Rattle.histar_refinement.specs.Represents.{Represents}
use Rattle.histar_shell.specs.Answers.{answers_text, calls_of}
use Rattle.histar_shell.specs.AnsweredCalls.{AnswersInTurn}
use Rattle.histar_shell.specs.Machine.{MachineModel, IsStart}
use Rattle.histar_outside.specs.Attacks.{AreAlikeMachines}
use Rattle.histar_outside.specs.NamedAttacks.{HasJob, IsUnderWay}
use Rattle.histar_mixed.specs.declared.items.MixedItem.{MixedItem}
use Rattle.histar_mixed.specs.declared.items.MixedItem.TheVariants.{Unix, Raw}
use Rattle.histar_attack.specs.declared.session.AttackOptions.{AttackOptions}
use Rattle.histar_mixed.specs.Mixed.{IsMixed, IsMixedFault}
use Rattle.histar_attack.specs.Answering.{trace_if_asked}
use Rattle.histar_attack.specs.Confinement.{RunsJob}
use Rattle.histar_attack.specs.Handling.{Handled, HandlesInTurn, handled_texts, line_of, replied_of}

-- the Unix calls before the first raw call
abbrev pub first_unix : List MixedItem → List CallLine
first_unix [] = []
first_unix (Unix call ∷ items) = call ∷ first_unix items
first_unix (Raw asked ∷ items) = []

-- the calls from the first raw call on
abbrev pub from_raw : List MixedItem → List MixedItem
from_raw [] = []
from_raw (Unix call ∷ items) = from_raw items
from_raw (Raw asked ∷ items) = Raw asked ∷ items

-- A machine was booted for these accounts and has answered these calls, as the rules say. It is under way.
pub record HasAnswered (accounts : Accounts) (before : List RepliedCall) (m : MachineModel) : Type 0 where
  pub start : MachineModel
  pub starts : IsStart accounts start
  pub answered : AnswersInTurn start before m
  pub meant : before ≡ meaning accounts (calls_of before)
  pub under_way : IsUnderWay accounts m (flat_end accounts (boot accounts) (calls_of before))

-- v is the category of the job, by each naming of each flat state that the machine represents and calls lead to
abbrev pub IsJobCategory : Accounts → ProcName → ℕ → MachineModel → Type 0
IsJobCategory accounts job v m = (f : Flat) (rep : Represents accounts (state m.kernel) f) → IsReached accounts f
    → RunsJob f job → rep.matched.category (OfJob job) ≡ v

-- The Unix calls of processes outside that were made, with those before, are answered as the rules say for a script of
-- these alone, and a machine is alike, outside v, to one that represents the flat state after these.
pub record IsUnseen (accounts : Accounts) (v : ℕ) (calls : List RepliedCall) (end : MachineModel) : Type 0 where
  pub meant : calls ≡ meaning accounts (calls_of calls)
  pub clean : MachineModel
  pub alike : AreAlikeMachines accounts v end clean (flat_end accounts (boot accounts) (calls_of calls))

-- The first process of the job runs when the first raw call comes, and v is the job's category. Each later line is
-- handled as v says, and the attack is not seen outside v, unless calls of processes inside are followed.
pub record Attacks (options : AttackOptions) (job : ProcName) (accounts : Accounts) (before : List RepliedCall)
    (m : MachineModel) (later : List MixedItem) (output : List ℕ) : Type 0 where
  pub runs : RunsJob (flat_end accounts (boot accounts) (calls_of before)) job
  pub v : ℕ
  pub job_has : HasJob accounts job v m (flat_end accounts (boot accounts) (calls_of before))
  pub category : IsJobCategory accounts job v m
  pub handled : List Handled
  pub lines : map line_of handled ≡ later
  pub end : MachineModel
  pub in_turn : HandlesInTurn (record { category = v; follow = options.follow }) m handled end
  pub unseen : options.follow ≡ false → IsUnseen accounts v (before ++ replied_of handled) end
  pub is : output ≡ answers_text before ++ handled_texts handled ++ trace_if_asked options.trace end.kernel.trace

-- The first process of the job doesn't run when the first raw call comes, or at the end if none comes: no call from
-- there on is made, and this alone is written.
pub record FindsNoJob (job : ProcName) (accounts : Accounts) (before : List RepliedCall) (output : List ℕ)
    : Type 0 where
  pub no_job : RunsJob (flat_end accounts (boot accounts) (calls_of before)) job → ⊥
  pub is : output ≡ codes "no job\n"

-- what is written of the mixed session that a text is
pub record IsAttack (options : AttackOptions) (job : ProcName) (text output : List ℕ) : Type 0 where
  pub accounts : Accounts
  pub items : List MixedItem
  pub session : IsMixed text accounts items
  pub before : List RepliedCall
  pub calls : calls_of before ≡ first_unix items
  pub machine : MachineModel
  pub answered : HasAnswered accounts before machine
  pub written : Attacks options job accounts before machine (from_raw items) output
      ⊎ FindsNoJob job accounts before output

-- the output of an attack, or the fault of its text
abbrev pub GivesAttack : AttackOptions → ProcName → List ℕ → Result (Vec ℕ) Fault → Type 0
GivesAttack options job text (Ok output) = IsAttack options job text output.items
GivesAttack options job text (Err fault) = IsMixedFault text fault

-- the text was run, and its output was written as far as the predicate says
abbrev pub Outputs : (List ℕ → Type 0) → AttackOptions → ProcName → List ℕ → Type 0
Outputs Writes options job text = (output : List ℕ) × IsAttack options job text output × Writes output

-- The output was written; or the fault of the text is returned, and nothing was written. At a failed write a beginning
-- was written, and if memory runs out nothing.
abbrev pub WritesAttack : AttackOptions → ProcName → List ℕ → Option (List ℕ) → Option (List ℕ)
    → Result (Unit {0}) Fault → Type 0
WritesAttack options job text old new (Ok done) = Outputs (Appends old new) options job text
WritesAttack options job text old new (Err WriteFailed) = Outputs (AppendsFront old new) options job text
WritesAttack options job text old new (Err OutOfMemory) = Keeps old new
WritesAttack options job text old new (Err (BadScript n)) = IsMixedFault text (BadScript n) × Keeps old new
WritesAttack options job text old new (Err TooLong) = IsMixedFault text TooLong × Keeps old new
WritesAttack options job text old new (Err ReadFailed) = Keeps old new
