-- Calls that a machine answers, one after another, and what is written of them.
use Rattle.std.specs.Prelude.{◌≡◌, ℕ, Bool, List, [], ◌++◌, codes, slice_get, if◌then◌else◌}
use Rattle.std.specs.Prelude.{MatchOption, Some, Result, Ok}
use Rattle.histar_flat.specs.declared.calls.CallLine.{CallLine}
use Rattle.histar_flat.specs.Calls.{IsCall}
use Rattle.histar_flat.specs.declared.replies.Reply.{Reply}
use Rattle.histar_flat.specs.Words.{ProcName}
use Rattle.histar_flat.specs.Accounts.{Accounts}
use Rattle.histar_flat.specs.FlatState.{Flat}
use Rattle.histar_flat.specs.Meaning.{RepliedCall, answered_from, flat_end}
use Rattle.histar_rules.specs.declared.raw.Denied.{Denied}
use Rattle.histar_trace.specs.declared.entries.TraceEntry.{TraceEntry}
use Rattle.histar_rawtext.specs.RawText.{trace_line, trace_text}
use Rattle.histar_syscall.specs.declared.answers.Answer.{Answer}
use Rattle.histar_syscall.specs.KernelModel.{state}
use Rattle.histar_raw_session.specs.declared.read_session.RawLine.{RawLine}
use Rattle.histar_raw_session.specs.Answers.{line_text as raw_line_text}
use Rattle.histar_shell.specs.Answers.{answers_text, calls_of, line_text}
use Rattle.histar_shell.specs.AnsweredCalls.{AnswersInTurn}
use Rattle.histar_shell.specs.Machine.{MachineModel, AnswersLine}
use Rattle.histar_shell.specs.RawCalls.{MakesRaw}
use Rattle.histar_outside.specs.NamedAttacks.{IsUnderWay}
use Rattle.histar_mixed.specs.declared.items.MixedItem.{MixedItem}
use Rattle.histar_attack.specs.declared.session.AttackOptions.{AttackOptions}
use Rattle.histar_attack.specs.declared.session.Parts.{Parts}
use Rattle.histar_attack.specs.Confinement.{job_category}
use Rattle.histar_attack.specs.Handling.{HandlesItems}

-- Wherever the old machine is under way, the new one is, in the flat state after these calls, and their replies are
-- those of the rules.
abbrev pub LeadsOn : MachineModel → MachineModel → List RepliedCall → Type 0
LeadsOn old new answers = (accounts : Accounts) (f : Flat) → IsUnderWay accounts old f
    → IsUnderWay accounts new (flat_end accounts f (calls_of answers))
    × (answers ≡ answered_from accounts f (calls_of answers))

-- a machine answered these calls, and their replies were added to a text
pub record AnswersEach (old new : MachineModel) (before after : List ℕ) (calls : List CallLine) : Type 0 where
  pub answers : List RepliedCall
  pub each : calls_of answers ≡ calls
  pub in_turn : AnswersInTurn old answers new
  pub leads : LeadsOn old new answers
  pub written : after ≡ before ++ answers_text answers

-- a machine answered this call, and its reply was added to a text
pub record AnswersOne (old new : MachineModel) (before after : List ℕ) (call : CallLine) : Type 0 where
  pub reply : Reply
  pub can : IsCall call.call
  pub answered : AnswersLine old new call.line call.process call.call (Ok reply)
  pub written : after ≡ before ++ line_text call.line reply

-- a machine made this raw call, and its outcome was added to a text
pub record AnswersRawLine (old new : MachineModel) (before after : List ℕ) (asked : RawLine) : Type 0 where
  pub outcome : Result Answer Denied
  pub made : MakesRaw old new asked.line asked.thread asked.call (Ok outcome)
  pub written : after ≡ before ++ raw_line_text asked.line outcome

-- the line of the entry at a place of a trace was added to a text
abbrev pub AddsEntry : List TraceEntry → ℕ → List ℕ → List ℕ → Type 0
AddsEntry entries place before after =
    (entry : TraceEntry) × (slice_get entries place ≡ Some entry) × (after ≡ before ++ trace_line entry)

-- the lines of a trace, if it is asked for
abbrev pub trace_if_asked : Bool → List TraceEntry → List ℕ
trace_if_asked asked trace = if asked then trace_text trace else []

-- the lines of an attack were handled, and then the trace is written, if it is asked for
pub record HandlesAll (options : AttackOptions) (v : ℕ) (mid : MachineModel) (text : List ℕ) (later : List MixedItem)
    (output : List ℕ) : Type 0 where
  pub end : MachineModel
  pub lines : List ℕ
  pub handles : HandlesItems (record { category = v; follow = options.follow }) mid end text lines later
  pub traced : output ≡ lines ++ trace_if_asked options.trace end.kernel.trace

-- What is written of the calls before an attack and of its lines, on a machine: `no job` alone, where the job has no
-- category after the calls before; or the replies, and what became of the lines.
pub record GivesOutput (options : AttackOptions) (job : ProcName) (m : MachineModel) (parts : Parts)
    (output : List ℕ) : Type 0 where
  pub mid : MachineModel
  pub text : List ℕ
  pub answered : AnswersEach m mid [] text parts.before.items
  pub goes : MatchOption (job_category (state mid.kernel) mid.roots.home job) (output ≡ codes "no job\n")
      (λ v. HandlesAll options v mid text parts.later.items output)
