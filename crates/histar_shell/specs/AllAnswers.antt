-- A machine answers all call lines of a script, and what follows the replies is written.
use Rattle.std.specs.Prelude.{ℕ, ◌⊎◌, List, Option}
use Rattle.histar_flat.specs.declared.calls.CallLine.{CallLine}
use Rattle.histar_shell.specs.declared.session.Options.{Options}
use Rattle.histar_shell.specs.Machine.{MachineModel}
use Rattle.histar_shell.specs.AnsweredCalls.{AnswersCalls, BeginsAnswers}
use Rattle.histar_shell.specs.Ending.{AppendsEnding, HasTree}
use Rattle.histar_shell.specs.Outcome.{BeginsEnding}

-- whenever the machine has answered these call lines, its objects list a tree
abbrev pub EndsWithTree : MachineModel → List CallLine → Type 0
EndsWithTree start calls = (end : MachineModel) (old replied : Option (List ℕ)) → AnswersCalls start end old replied calls → HasTree end

-- the machine answered each of these call lines, the lines of the replies were written, and then what follows them
pub record AnswersAll (options : Options) (start end : MachineModel) (old new : Option (List ℕ)) (calls : List CallLine) : Type 0 where
  pub replied : Option (List ℕ)
  pub answered : AnswersCalls start end old replied calls
  pub ended : AppendsEnding options end replied new

-- it answered the first of these call lines, or all, and what was written is a beginning of the lines of their replies and what follows
abbrev pub BeginsAll : Options → MachineModel → Option (List ℕ) → Option (List ℕ) → List CallLine → Type 0
BeginsAll options start old new calls = BeginsAnswers start old new calls ⊎ BeginsEnding options start old new calls
