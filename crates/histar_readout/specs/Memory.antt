-- What holds where memory ran out before a tree or processes were read.
use Rattle.std.specs.Prelude.{Result, Ok, Err}
use Rattle.histar_readout.specs.declared.process.ProcessError.{ProcessError}
use Rattle.histar_readout.specs.declared.process.ProcessError.TheVariants as process_errors
use Rattle.histar_readout.specs.declared.tree.TreeError.{TreeError}
use Rattle.histar_readout.specs.declared.tree.TreeError.TheVariants as tree_errors

-- this holds, if the reading of a process ended for want of memory
abbrev pub OnOutOfMemoryOfProcess : {A : Type 0} → Result A ProcessError → Type 0 → Type 0
OnOutOfMemoryOfProcess (Ok read) P = Unit {0}
OnOutOfMemoryOfProcess (Err process_errors.NoProcess) P = Unit {0}
OnOutOfMemoryOfProcess (Err process_errors.OutOfMemory) P = P

-- this holds, if the reading of a tree ended for want of memory
abbrev pub OnOutOfMemoryOfTree : {A : Type 0} → Result A TreeError → Type 0 → Type 0
OnOutOfMemoryOfTree (Ok read) P = Unit {0}
OnOutOfMemoryOfTree (Err tree_errors.NotATree) P = Unit {0}
OnOutOfMemoryOfTree (Err tree_errors.OutOfMemory) P = P
