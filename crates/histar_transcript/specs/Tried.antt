-- The replies to the calls that are tried, each after its call and before the reason of its refusal.
use Rattle.std.specs.Prelude.{◌≡◌, ℕ, ◌++◌, ◌∷◌, List, [], nat_lt, if◌then◌else◌}
use Rattle.histar_flat.specs.declared.calls.CallLine.{CallLine}
use Rattle.histar_flat.specs.Accounts.{Accounts}
use Rattle.histar_flat.specs.FlatState.{Flat}
use Rattle.histar_flat.specs.FlatCalls.{flat_after, reply_to}
use Rattle.histar_flat.specs.Meaning.{boot, flat_end}
use Rattle.histar_flat.specs.Texts.{reply_text}
use Rattle.histar_script.specs.Script.{ScriptModel}
use Rattle.histar_shell.specs.Machine.{MachineModel}
use Rattle.histar_why.specs.Answering.{why_line}
use Rattle.histar_why.specs.Names.{Knows}
use Rattle.histar_transcript.specs.declared.tried.Said.{Said}
use Rattle.histar_transcript.specs.Transcript.{call_and_reply}

-- what is printed of a call that is tried in a state: its reply, as `run --calls` prints it, and the line of `run --why` if that is a refusal
abbrev pub tried_line : List (List ℕ) → Accounts → Flat → CallLine → List ℕ
tried_line lines accounts f c =
    (call_and_reply lines c.line (reply_text (reply_to accounts f c.process c.call)) ++ 10 ∷ []) ++ why_line accounts f c

-- what is printed of a call on a line behind the first ones, and nothing of one on those
abbrev pub line_behind : ℕ → List (List ℕ) → Accounts → Flat → CallLine → List ℕ
line_behind first lines accounts f c = if nat_lt first c.line then tried_line lines accounts f c else []

-- what is printed of calls that are made one after another from a state
abbrev pub lines_behind : ℕ → List (List ℕ) → Accounts → Flat → List CallLine → List ℕ
lines_behind first lines accounts f [] = []
lines_behind first lines accounts f (c ∷ calls) =
    line_behind first lines accounts f c ++ lines_behind first lines accounts (flat_after accounts f c.process c.call) calls

-- what is printed of the calls of a script
abbrev pub tried_text : ℕ → List (List ℕ) → ScriptModel → List ℕ
tried_text first lines script = lines_behind first lines script.accounts (boot script.accounts) script.calls

-- For each flat state that the machine represented, where the log had the right births, it represents the one after these
-- calls, the log has the right births, and what is printed of the calls was added.
pub record AddsReplies (first : ℕ) (lines : List (List ℕ)) (old new : MachineModel) (before after : Said) (calls : List CallLine)
    : Type 0 where
  pub each : (accounts : Accounts) (f : Flat) → Knows before.log.births.items accounts old f
      → (after.text.items ≡ before.text.items ++ lines_behind first lines accounts f calls)
      × Knows after.log.births.items accounts new (flat_end accounts f calls)
