-- A machine answers call lines one after another, and its replies are written.
use Rattle.std.specs.Prelude.{◌≡◌, ℕ, List, [], ◌∷◌, ◌++◌, Option, Result, MatchResult, Ok}
use Rattle.std.specs.Io.KnownBytes.{Appends, Keeps}
use Rattle.histar_programs.specs.declared.call_error.Stopped.{Stopped}
use Rattle.histar_flat.specs.declared.replies.Reply.{Reply}
use Rattle.histar_flat.specs.declared.calls.CallLine.{CallLine}
use Rattle.histar_io.specs.Writing.{AppendsFront}
use Rattle.histar_flat.specs.Meaning.{RepliedCall}
use Rattle.histar_shell.specs.Answers.{answers_text, calls_of, line_text}
use Rattle.histar_shell.specs.Machine.{MachineModel, AnswersLine}

-- A machine answered these call lines one after another, each in the state after the one before, and each with the reply that it
-- is listed with.
abbrev pub AnswersInTurn : MachineModel → List RepliedCall → MachineModel → Type 0
AnswersInTurn m [] end = end ≡ m
AnswersInTurn m (a ∷ answers) end = (mid : MachineModel) × AnswersLine m mid a.call.line a.call.process a.call.call (Ok a.reply) × AnswersInTurn mid answers end

-- the machine answered this call line with a reply, and the line of this reply was written
pub record AnswersCall (before after : MachineModel) (old new : Option (List ℕ)) (call : CallLine) : Type 0 where
  pub reply : Reply
  pub answered : AnswersLine before after call.line call.process call.call (Ok reply)
  pub written : Appends old new (line_text call.line reply)

-- The machine was given this call line: if it answered with a reply, a beginning of the line of this reply was
-- written, and if it stopped, nothing was.
pub record BeginsAnswer (before after : MachineModel) (old new : Option (List ℕ)) (call : CallLine) : Type 0 where
  pub outcome : Result Reply Stopped
  pub answered : AnswersLine before after call.line call.process call.call outcome
  pub written : MatchResult outcome (λ reply. AppendsFront old new (line_text call.line reply)) (λ _. Keeps old new)

-- the machine answered each of these call lines, in their order, and the lines of its replies were written
pub record AnswersCalls (before after : MachineModel) (old new : Option (List ℕ)) (calls : List CallLine) : Type 0 where
  pub answers : List RepliedCall
  pub each : calls_of answers ≡ calls
  pub in_turn : AnswersInTurn before answers after
  pub written : Appends old new (answers_text answers)

-- the machine answered the first of these call lines, in their order, and a beginning of the lines of its replies was
-- written
pub record BeginsAnswers (before : MachineModel) (old new : Option (List ℕ)) (calls : List CallLine) : Type 0 where
  pub answers : List RepliedCall
  pub rest : List CallLine
  pub parts : calls ≡ calls_of answers ++ rest
  pub end : MachineModel
  pub in_turn : AnswersInTurn before answers end
  pub written : AppendsFront old new (answers_text answers)
