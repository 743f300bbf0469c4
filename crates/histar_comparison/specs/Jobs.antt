-- The jobs that a script starts, each with its verdict.
use Rattle.std.specs.Prelude.{◌≡◌, ℕ, Bool, true, false, List, ◌++◌, codes, map, Option, None, Some, Result, Ok, Err}
use Rattle.std.specs.List.{filter_map}
use Rattle.std.specs.Global.{Vec}
use Rattle.histar_flat.specs.declared.calls.CallLine.{CallLine}
use Rattle.histar_flat.specs.declared.calls.UnixCall.{UnixCall}
use Rattle.histar_flat.specs.declared.calls.UnixCall.TheVariants.{Wrap}
use Rattle.histar_flat.specs.declared.replies.Reply.{Reply}
use Rattle.histar_flat.specs.declared.replies.Reply.TheVariants.{Child}
use Rattle.histar_flat.specs.Words.{ProcName}
use Rattle.histar_flat.specs.Meaning.{RepliedCall, meaning}
use Rattle.histar_flat.specs.Texts.{process_text}
use Rattle.histar_script.specs.declared.fault.Fault.{Fault}
use Rattle.histar_script.specs.Outcome.{Gives}
use Rattle.histar_script.specs.Reading.{script_of}
use Rattle.histar_script.specs.Script.{ScriptModel}
use Rattle.histar_comparison.specs.declared.whole.Whole.{Whole}
use Rattle.histar_comparison.specs.Whole.{IsWhole}
use Rattle.histar_script.specs.Script.{ScriptModel}
use Rattle.histar_comparison.specs.declared.jobs.JobVerdict.{JobVerdict}
use Rattle.histar_comparison.specs.Explained.{explained, found_behind}

-- the call wraps a job
abbrev pub is_wrap : UnixCall → Bool
is_wrap (Wrap q) = true
is_wrap call = false

-- the job that a reply starts, if its call wraps one: the reply is the name of the first process
abbrev pub job_started : Bool → Reply → Option ProcName
job_started true (Child name) = Some name
job_started wraps reply = None

-- the jobs that these answers start, in their order
abbrev pub jobs_started : List RepliedCall → List ProcName
jobs_started answers = filter_map (λ a. job_started (is_wrap a.call.call) a.reply) answers

-- a job of a script with its verdict, and what each run prints where they differ
abbrev pub job_verdict : ScriptModel → ProcName → JobVerdict
job_verdict script job = record { job = job; found = explained job script }

-- each job that a script starts, with its verdict
abbrev pub job_verdicts : ScriptModel → List JobVerdict
job_verdicts script = map (job_verdict script) (jobs_started (meaning script.accounts script.calls))

-- the same for the script of a text, or the fault in it
abbrev pub verdicts_of : Result ScriptModel Fault → Result (List JobVerdict) Fault
verdicts_of (Ok script) = Ok (job_verdicts script)
verdicts_of (Err fault) = Err fault

-- the answer is these verdicts, unless memory ran out
abbrev pub GivesVerdicts : Result (Vec JobVerdict) Fault → Result (List JobVerdict) Fault → Type 0
GivesVerdicts (Ok verdicts) found = Gives (Ok verdicts.items) found
GivesVerdicts (Err fault) found = Gives {A = List JobVerdict} (Err fault) found

-- the text is a script with these calls, and this is its run
pub record IsRunOf (text : List ℕ) (calls : List CallLine) (whole : Whole) : Type 0 where
  pub script : ScriptModel
  pub is_read : script_of text ≡ Ok script
  pub calls_are : calls ≡ script.calls
  pub is : IsWhole script whole

-- the lines of a job: what is printed of its verdict, each behind its first process
abbrev pub job_text : Bool → JobVerdict → List ℕ
job_text why j = found_behind (process_text j.job ++ codes " ") why j.found
