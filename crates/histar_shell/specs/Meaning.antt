-- A run against the flat meaning of its script.
use Rattle.std.specs.Prelude.{◌≡◌, ℕ, ◌⊎◌, IsTrue, List, [], ◌++◌, length, Option}
use Rattle.std.specs.Prelude.{Result, Ok, Err, MatchResult, if◌then◌else◌}
use Rattle.std.specs.List.{AllByRecursion}
use Rattle.std.specs.Io.KnownBytes.{Appends, Keeps}
use Rattle.histar_flat.specs.declared.replies.Reply.{Reply}
use Rattle.histar_flat.specs.declared.calls.UnixCall.{UnixCall}
use Rattle.histar_flat.specs.Words.{ProcName}
use Rattle.histar_flat.specs.Accounts.{Accounts}
use Rattle.histar_flat.specs.FlatState.{Flat}
use Rattle.histar_flat.specs.FlatCalls.{reply_to, flat_after}
use Rattle.histar_flat.specs.Meaning.{boot, flat_end, meaning}
use Rattle.histar_object.specs.State.{State, empty_state}
use Rattle.histar_script.specs.Script.{ScriptModel, IsDeclared}
use Rattle.histar_script.specs.declared.fault.Fault.{Fault}
use Rattle.histar_script.specs.declared.fault.Fault.TheVariants.{OutOfMemory, WriteFailed}
use Rattle.histar_flat.specs.declared.calls.CallLine.{CallLine}
use Rattle.histar_trace.specs.declared.entries.TraceEntry.{TraceEntry}
use Rattle.histar_syscall.specs.KernelModel.{state}
use Rattle.histar_syscall.specs.Runs.{IsBy, IsRun}
use Rattle.histar_programs.specs.declared.call_error.Stopped.{Stopped}
use Rattle.histar_layout.specs.UserTable.{without_passwords}
use Rattle.histar_programs.specs.Start.{boot_thread_number}
use Rattle.histar_programs.specs.Start.{roots_of}
use Rattle.histar_refinement.specs.Represents.{Represents}
use Rattle.histar_refinement.specs.Lines.{IsThreadOf}
use Rattle.histar_sim.specs.Simulation.{SimulatesLine, SimulatesLines, IsFirstFree, AreFilesSmall, IsBrokenOff}
use Rattle.histar_io.specs.Writing.{AppendsFront}
use Rattle.histar_readout.specs.TreeLines.{flat_lines}
use Rattle.histar_readout.specs.Laws.{AreShallow}
use Rattle.histar_shell.specs.declared.session.Options.{Options}
use Rattle.histar_shell.specs.Answers.{answers_text}
use Rattle.histar_shell.specs.TreeText.{tree_text}
use Rattle.histar_shell.specs.Ending.{asked_trace}
use Rattle.histar_shell.specs.Machine.{MachineModel}

-- the flat state after all calls of a script
abbrev pub last_state : ScriptModel → Flat
last_state script = flat_end script.accounts (boot script.accounts) script.calls

-- the lines of the files and directories of a flat state, by rising paths, if the tree is asked for
abbrev pub asked_tree : Options → Flat → List ℕ
asked_tree options f = if options.tree then tree_text (flat_lines f) else []

-- the text of a script's meaning: for each call line, its number and the reply that the flat rules give; then the tree after all calls,
-- if it is asked for
abbrev pub meaning_text : Options → ScriptModel → List ℕ
meaning_text options script = answers_text (meaning script.accounts script.calls) ++ asked_tree options (last_state script)

-- A machine of these users and groups, which are those of a script, represents a flat state, in which process 0 is in no job: its kernel
-- does, it has the names and the groups and no passwords, and its places of `/` and of process 0 are those that boot made.
pub record Shows (accounts : Accounts) (m : MachineModel) (f : Flat) : Type 0 where
  pub declared : IsDeclared accounts
  pub users : m.users ≡ without_passwords accounts
  pub roots : m.roots ≡ roots_of (length accounts.users)
  pub represents : Represents accounts (state m.kernel) f
  pub first : IsFirstFree f
  pub small : AreFilesSmall f
  pub shallow : AreShallow f

-- The reply of the line is that of the flat state. The new end of the trace are its raw calls, which refine its rule, and the machine
-- represents the flat state after the call.
pub record AnswersAsMeant (accounts : Accounts) (old new : MachineModel) (f : Flat) (asked : CallLine) (reply : Reply) : Type 0 where
  pub is_reply : reply ≡ reply_to accounts f asked.process asked.call
  pub entries : List TraceEntry
  pub trace : new.kernel.trace ≡ old.kernel.trace ++ entries
  pub refined : SimulatesLine accounts (state old.kernel) f asked entries (state new.kernel)
  pub shows : Shows accounts new (flat_after accounts f asked.process asked.call)

-- The line ended without an answer, since the machine had stopped before or memory ran out, which `M` says: its raw calls are a run of
-- the kernel by the thread of its process, broken off before the reply that the flat state says.
pub record StopsAsMeant (M : Type 0) (accounts : Accounts) (old new : MachineModel) (f : Flat) (asked : CallLine) : Type 0 where
  pub entries : List TraceEntry
  pub trace : new.kernel.trace ≡ old.kernel.trace ++ entries
  pub run : IsBrokenOff (reply_to accounts f asked.process asked.call) (state old.kernel) entries (state new.kernel)
  pub own : AllByRecursion (λ e. (e.line ≡ asked.line) × IsThreadOf accounts (state old.kernel) asked.process e.thread) entries
  pub because : IsTrue old.is_stopped ⊎ M

-- a line that ends in this way
abbrev pub EndsAsMeant : Type 0 → Accounts → MachineModel → MachineModel → Flat → CallLine → Result Reply Stopped → Type 0
EndsAsMeant M accounts old new f asked (Ok reply) = AnswersAsMeant accounts old new f asked reply
EndsAsMeant M accounts old new f asked (Err stopped) = StopsAsMeant M accounts old new f asked

-- For each flat state that the machine represents before the line, with users and groups of its names, the line ends as that state says;
-- `M` says that memory ran out.
abbrev pub FollowsMeaning : Type 0 → MachineModel → MachineModel → ℕ → ProcName → UnixCall → Result Reply Stopped → Type 0
FollowsMeaning M old new line process call result =
    (accounts : Accounts) (f : Flat) → Shows accounts old f
    → EndsAsMeant M accounts old new f (record { line = line; process = process; call = call }) result

-- a machine represents the flat start
abbrev pub ShowsStart : Accounts → MachineModel → Type 0
ShowsStart accounts m = Shows accounts m (boot accounts)

-- The trace of a run: one run of the labelled kernel from its empty state on. It is raw calls of boot, by the boot thread on line 0,
-- which leave a state that represents the flat start; then the raw calls of the lines, each line refining the rule of its call.
pub record IsMeantTrace (script : ScriptModel) (trace : List TraceEntry) : Type 0 where
  pub of_boot : List TraceEntry
  pub of_lines : List TraceEntry
  pub parts : trace ≡ of_boot ++ of_lines
  pub start : State
  pub boot_run : IsRun empty_state of_boot start
  pub boot_own : AllByRecursion (IsBy 0 boot_thread_number) of_boot
  pub boot_represents : Represents script.accounts start (boot script.accounts)
  pub end : State
  pub refinements : SimulatesLines script.accounts start (boot script.accounts) script.calls of_lines end
  pub run : IsRun empty_state trace end

-- What was read is a script; the trace is that of its meaning; and the text of the meaning was written, and then the trace, line by
-- line, if it is asked for.
pub record WritesMeaning (options : Options) (old new : Option (List ℕ)) (read : Result ScriptModel Fault) (trace : List TraceEntry) : Type 0 where
  pub script : ScriptModel
  pub is_read : read ≡ Ok script
  pub recorded : IsMeantTrace script trace
  pub written : Appends old new (meaning_text options script ++ asked_trace options trace)

-- the text of a script's meaning was written, and a beginning of the lines of a trace of that meaning
pub record BeginsTrace (options : Options) (old new : Option (List ℕ)) (script : ScriptModel) : Type 0 where
  pub trace : List TraceEntry
  pub recorded : IsMeantTrace script trace
  pub written : AppendsFront old new (meaning_text options script ++ asked_trace options trace)

-- what was read is a script, and a beginning of the text of its meaning was written, or all of it and the lines of a trace of it
pub record BeginsMeaning (options : Options) (old new : Option (List ℕ)) (read : Result ScriptModel Fault) : Type 0 where
  pub script : ScriptModel
  pub is_read : read ≡ Ok script
  pub written : AppendsFront old new (meaning_text options script) ⊎ BeginsTrace options old new script

-- where memory runs out and after a failed write a beginning of the text was written, and after the other faults nothing
abbrev pub WritesMeaningAtFault : Options → Option (List ℕ) → Option (List ℕ) → Result ScriptModel Fault → Fault → Type 0
WritesMeaningAtFault options old new read OutOfMemory = Keeps old new ⊎ BeginsMeaning options old new read
WritesMeaningAtFault options old new read WriteFailed = BeginsMeaning options old new read
WritesMeaningAtFault options old new read fault = Keeps old new

-- what a run writes, and the trace that it returns, are those of its script's meaning
abbrev pub RunsAsMeant : Options → Option (List ℕ) → Option (List ℕ) → Result ScriptModel Fault → Result (List TraceEntry) Fault → Type 0
RunsAsMeant options old new read result = MatchResult result (WritesMeaning options old new read) (WritesMeaningAtFault options old new read)
