-- The run of a whole script, from which each of its jobs is looked at.
use Rattle.std.specs.Prelude.{◌≡◌, List, [], ◌∷◌, ◌++◌, map, Ok}
use Rattle.histar_flat.specs.declared.calls.CallLine.{CallLine}
use Rattle.histar_flat.specs.declared.replies.Reply.{Reply}
use Rattle.histar_flat.specs.Meaning.{RepliedCall, meaning}
use Rattle.histar_script.specs.Script.{ScriptModel}
use Rattle.histar_noninterference.specs.Trees.{tree_lines}
use Rattle.histar_shell.specs.Machine.{MachineModel, AnswersLine}
use Rattle.histar_shell.specs.AnsweredCalls.{AnswersInTurn}
use Rattle.histar_shell.specs.Answers.{calls_of}
use Rattle.histar_shell.specs.Meaning.{last_state}
use Rattle.histar_shell.specs.Ending.{HasTree}
use Rattle.histar_comparison.specs.declared.whole.Whole.{Whole}
use Rattle.histar_comparison.specs.Observation.{ShowsTree}

-- these calls with these replies, one after another
abbrev pub answered : List CallLine → List Reply → List RepliedCall
answered (call ∷ calls) (reply ∷ replies) = record { call = call; reply = reply } ∷ answered calls replies
answered _ _ = []

-- the replies of these answers
abbrev pub replies_of : List RepliedCall → List Reply
replies_of answers = map (λ (a : RepliedCall). a.reply) answers

-- these are the replies that a script means, and the lines of the tree after all its calls
pub record IsWhole (script : ScriptModel) (whole : Whole) : Type 0 where
  pub replies : answered script.calls whole.replies.items ≡ meaning script.accounts script.calls
  pub tree : whole.tree.items ≡ tree_lines (last_state script)

-- the machine answered this call line, and the reply was kept
pub record KeepsAnswer (before after : MachineModel) (old new : List Reply) (call : CallLine) : Type 0 where
  pub reply : Reply
  pub answered : AnswersLine before after call.line call.process call.call (Ok reply)
  pub kept : new ≡ old ++ reply ∷ []

-- the machine answered these call lines, one after another, and the replies were kept
pub record KeepsAnswers (before after : MachineModel) (old new : List Reply) (calls : List CallLine) : Type 0 where
  pub answers : List RepliedCall
  pub each : calls_of answers ≡ calls
  pub in_turn : AnswersInTurn before answers after
  pub kept : new ≡ old ++ replies_of answers

-- a machine that has made these calls has a tree
abbrev pub EndsWithATree : MachineModel → List CallLine → Type 0
EndsWithATree m calls = (end : MachineModel) (old new : List Reply) → KeepsAnswers m end old new calls → HasTree end

-- the machine answered these call lines, and the replies and the tree after the last were kept
pub record RunsWhole (before after : MachineModel) (calls : List CallLine) (whole : Whole) : Type 0 where
  pub replies : KeepsAnswers before after [] whole.replies.items calls
  pub tree : ShowsTree after whole.tree.items
