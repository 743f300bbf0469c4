-- The objects and the categories of a machine keep their names, along the lines that it answers.
use Rattle.std.specs.Prelude.{List}
use Rattle.std.specs.List.{AllByRecursion}
use Rattle.histar_flat.specs.Accounts.{Accounts}
use Rattle.histar_flat.specs.Calls.{IsCall}
use Rattle.histar_flat.specs.FlatState.{Flat}
use Rattle.histar_flat.specs.Meaning.{RepliedCall, flat_end}
use Rattle.histar_syscall.specs.KernelModel.{state}
use Rattle.histar_refinement.specs.Represents.{Represents}
use Rattle.histar_sim.specs.NamesOfLines.{KeepsNumbers}
use Rattle.histar_shell.specs.Answers.{calls_of}
use Rattle.histar_shell.specs.AnsweredCalls.{AnswersInTurn}
use Rattle.histar_shell.specs.Machine.{MachineModel}
use Rattle.histar_shell.specs.Meaning.{Shows}

-- Whatever names a machine represents a flat state under, after the lines that it answered it represents the flat state after
-- their calls under names that keep their numbers.
abbrev pub MachinesKeepNames : Type 0
MachinesKeepNames =
    (accounts : Accounts) (old new : MachineModel) (f : Flat) (answers : List RepliedCall)
    → Shows accounts old f → AllByRecursion (λ c. IsCall c.call) (calls_of answers) → AnswersInTurn old answers new
    → (from : Represents accounts (state old.kernel) f)
    → (to : Represents accounts (state new.kernel) (flat_end accounts f (calls_of answers)))
    × KeepsNumbers (calls_of answers) from.matched to.matched
