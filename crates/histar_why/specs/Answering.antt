-- A machine answers one call, and the log says why where it is refused.
use Rattle.std.specs.Prelude.{◌≡◌, ℕ, List, ◌++◌}
use Rattle.histar_flat.specs.declared.calls.CallLine.{CallLine}
use Rattle.histar_flat.specs.Accounts.{Accounts}
use Rattle.histar_flat.specs.FlatState.{Flat}
use Rattle.histar_flat.specs.FlatCalls.{flat_after, reply_to}
use Rattle.histar_reasons.specs.Sentences.{line_text as why_line_text, sentence}
use Rattle.histar_shell.specs.Answers.{line_text}
use Rattle.histar_shell.specs.Machine.{MachineModel}
use Rattle.histar_why.specs.declared.session.Log.{Log}
use Rattle.histar_why.specs.Names.{Knows}

-- the line that says why a call is refused in a state, or nothing where it is not
abbrev pub why_line : Accounts → Flat → CallLine → List ℕ
why_line accounts f c = why_line_text c.line (reply_to accounts f c.process c.call) (sentence accounts f c.process c.call)

-- The line is that of the reply of the rules, the log grew by the line that says why it is a refusal, and the machine represents the state
-- after the call.
pub record AnswersAt (accounts : Accounts) (f : Flat) (after : MachineModel) (from to : Log) (call : CallLine) (line : List ℕ) : Type 0 where
  pub reply : line ≡ line_text call.line (reply_to accounts f call.process call.call)
  pub why : to.text.items ≡ from.text.items ++ why_line accounts f call
  pub knows : Knows to.births.items accounts after (flat_after accounts f call.process call.call)

-- this is so of each flat state that the machine represented, if the log has the right births
abbrev pub AnswersWithReason : MachineModel → MachineModel → Log → Log → CallLine → List ℕ → Type 0
AnswersWithReason before after from to call line =
    (accounts : Accounts) (f : Flat) → Knows from.births.items accounts before f → AnswersAt accounts f after from to call line
