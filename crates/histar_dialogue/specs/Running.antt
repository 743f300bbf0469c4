-- The machine that has made the calls of a session, and its answers.
use Rattle.std.specs.Prelude.{◌≡◌, ℕ, nat_lt, List, [], ◌∷◌, ◌++◌, Result, Ok, Err, if◌then◌else◌}
use Rattle.std.specs.Global.{Vec}
use Rattle.histar_flat.specs.declared.calls.CallLine.{CallLine}
use Rattle.histar_flat.specs.Accounts.{Accounts}
use Rattle.histar_flat.specs.FlatState.{Flat}
use Rattle.histar_flat.specs.FlatCalls.{flat_after, reply_to}
use Rattle.histar_flat.specs.Meaning.{boot, flat_end}
use Rattle.histar_script.specs.declared.fault.Fault.{Fault}
use Rattle.histar_script.specs.declared.fault.Fault.TheVariants.{BadScript, TooLong}
use Rattle.histar_script.specs.declared.fault.Fault.TheVariants.{OutOfMemory, ReadFailed, WriteFailed}
use Rattle.histar_script.specs.Reading.{script_of}
use Rattle.histar_script.specs.Script.{ScriptModel}
use Rattle.histar_shell.specs.Answers.{line_text}
use Rattle.histar_why.specs.Answering.{why_line}
use Rattle.histar_why.specs.Names.{Knows}
use Rattle.histar_dialogue.specs.declared.running.Running.{Running}

-- the answer to a call: the line of the reply of the rules, as `run` writes it, and the line of `run --why` if that is a refusal
abbrev pub answer_text : Accounts → Flat → CallLine → List ℕ
answer_text accounts f c = line_text c.line (reply_to accounts f c.process c.call) ++ why_line accounts f c

-- the answers to calls that are made one after another from this state, but none of those on the first lines
abbrev pub answers_behind : ℕ → Accounts → Flat → List CallLine → List ℕ
answers_behind first accounts f [] = []
answers_behind first accounts f (c ∷ calls) =
    (if nat_lt first c.line then answer_text accounts f c else [])
    ++ answers_behind first accounts (flat_after accounts f c.process c.call) calls

-- the answers to the calls of a script behind its first lines
abbrev pub said_behind : ℕ → ScriptModel → List ℕ
said_behind first script = answers_behind first script.accounts (boot script.accounts) script.calls

-- a machine represents a flat state, and its log has the right births
abbrev pub Represents : Running → Accounts → Flat → Type 0
Represents r accounts f = Knows r.log.births.items accounts r.machine f

-- a machine was booted with these users and groups, and it has the same ones at hand
abbrev pub IsBooted : Accounts → Accounts → Running → Type 0
IsBooted accounts same r = (r.accounts ≡ same) × Represents r accounts (boot accounts)

-- For each flat state that the machine represented, the answer is that of the rules, and it represents the one after the call.
abbrev pub AnswersCall : Running → Running → CallLine → List ℕ → Type 0
AnswersCall old new call said =
    (new.accounts ≡ old.accounts)
    × ((accounts : Accounts) (f : Flat) → Represents old accounts f
    → (said ≡ answer_text accounts f call) × Represents new accounts (flat_after accounts f call.process call.call))

-- For each flat state that the machine represented, it represents the one after these calls, and what was added are the answers to those
-- behind the first lines.
abbrev pub AddsAnswers : ℕ → Running → Running → List ℕ → List ℕ → List CallLine → Type 0
AddsAnswers first old new before after calls =
    (new.accounts ≡ old.accounts)
    × ((accounts : Accounts) (f : Flat) → Represents old accounts f
    → (after ≡ before ++ answers_behind first accounts f calls) × Represents new accounts (flat_end accounts f calls))

-- the text is this script, and the machine has its users and groups and represents the flat state after its calls
pub record HasRun (text : List ℕ) (r : Running) (script : ScriptModel) : Type 0 where
  pub is_script : script_of text ≡ Ok script
  pub accounts : r.accounts ≡ script.accounts
  pub represents : Represents r script.accounts (flat_end script.accounts (boot script.accounts) script.calls)

-- a machine has run the script of the text, and these are the answers to its calls behind the first lines
pub record Ran (first : ℕ) (text : List ℕ) (r : Running) (answers : List ℕ) : Type 0 where
  pub script : ScriptModel
  pub has_run : HasRun text r script
  pub said : answers ≡ said_behind first script

-- the script of the text was run, or its fault is returned, or that memory ran out
abbrev pub RunsText : ℕ → List ℕ → Result (Running × Vec ℕ) Fault → Type 0
RunsText first text (Ok ran) = Ran first text ran.0 ran.1.items
RunsText first text (Err (BadScript n)) = script_of text ≡ Err (BadScript n)
RunsText first text (Err TooLong) = script_of text ≡ Err TooLong
RunsText first text (Err OutOfMemory) = Unit {0}
RunsText first text (Err ReadFailed) = ⊥
RunsText first text (Err WriteFailed) = ⊥
