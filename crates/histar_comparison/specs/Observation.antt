-- The parts of the run of a script that a comparison needs.
use Rattle.std.specs.Prelude.{◌≡◌, List, map, Ok}
use Rattle.std.specs.List.{AllByRecursion}
use Rattle.histar_flat.specs.declared.calls.CallLine.{CallLine}
use Rattle.histar_flat.specs.declared.replies.Reply.{Reply}
use Rattle.histar_flat.specs.Words.{ProcName}
use Rattle.histar_flat.specs.Meaning.{RepliedCall, meaning}
use Rattle.histar_script.specs.Script.{ScriptModel, IsDeclared}
use Rattle.histar_syscall.specs.KernelModel.{state}
use Rattle.histar_flat.specs.Calls.{IsCall}
use Rattle.histar_readout.specs.declared.tree.TreeNode.{TreeNode}
use Rattle.histar_readout.specs.TreeLines.{TreeLine, line_at}
use Rattle.histar_noninterference.specs.Trees.{PathText, tree_lines}
use Rattle.histar_shell.specs.Machine.{MachineModel, AnswersLine}
use Rattle.histar_shell.specs.AnsweredCalls.{AnswersInTurn}
use Rattle.histar_shell.specs.Answers.{calls_of}
use Rattle.histar_shell.specs.Meaning.{last_state}
use Rattle.histar_shell.specs.Ending.{HasTree, IsTreeIn}
use Rattle.histar_shell.specs.TreeText.{node_text}
use Rattle.histar_comparison.specs.Replies.{RepliesModel, no_replies, with_reply, with_replies}

-- users, groups and calls that a script can have
pub record CanRun (script : ScriptModel) : Type 0 where
  pub declared : IsDeclared script.accounts
  pub calls : AllByRecursion (λ (c : CallLine). IsCall c.call) script.calls

-- the machine answered this call line, and the reply was kept
pub record KeepsReply (job : ProcName) (before after : MachineModel) (old new : RepliesModel) (call : CallLine) : Type 0 where
  pub reply : Reply
  pub answered : AnswersLine before after call.line call.process call.call (Ok reply)
  pub kept : new ≡ with_reply job old (record { call = call; reply = reply })

-- the machine answered these call lines, one after another, and the replies were kept
pub record KeepsReplies (job : ProcName) (before after : MachineModel) (old new : RepliesModel) (calls : List CallLine) : Type 0 where
  pub answers : List RepliedCall
  pub each : calls_of answers ≡ calls
  pub in_turn : AnswersInTurn before answers after
  pub kept : new ≡ with_replies job old answers

-- what is kept of the replies that a script means, and the lines of the tree after all its calls
pub record ObservationModel : Type 0 where
  pub replies : RepliesModel
  pub tree : List PathText

-- the parts of the run of a script that a comparison needs
abbrev pub observation : ProcName → ScriptModel → ObservationModel
observation job script = record { replies = with_replies job no_replies (meaning script.accounts script.calls); tree = tree_lines (last_state script) }

-- a path, and what is printed of it
abbrev pub line_text : TreeLine → PathText
line_text line = (line.path, node_text line)

-- these are the lines of the tree that the objects of a machine's kernel list
abbrev pub ShowsTree : MachineModel → List PathText → Type 0
ShowsTree m lines = (tree : List TreeNode) × IsTreeIn m tree × (lines ≡ map (λ node. line_text (line_at (state m.kernel) node)) tree)

-- a machine that has made these calls has a tree
abbrev pub EndsWithTree : ProcName → MachineModel → List CallLine → Type 0
EndsWithTree job m calls = (end : MachineModel) (old new : RepliesModel) → KeepsReplies job m end old new calls → HasTree end

-- the machine answered these call lines, and the replies and the tree after the last were kept
pub record Observes (job : ProcName) (before after : MachineModel) (calls : List CallLine) (seen : ObservationModel) : Type 0 where
  pub replies : KeepsReplies job before after no_replies seen.replies calls
  pub tree : ShowsTree after seen.tree
