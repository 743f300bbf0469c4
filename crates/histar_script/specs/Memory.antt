-- What holds where a script was not read for want of memory.
use Rattle.std.specs.Prelude.{Result, Ok, Err}
use Rattle.histar_script.specs.declared.fault.Fault.{Fault}
use Rattle.histar_script.specs.declared.fault.Fault.TheVariants.{BadScript, TooLong, OutOfMemory, ReadFailed, WriteFailed}

-- this holds, if memory ran out
abbrev pub OnOutOfMemory : {A : Type 0} → Result A Fault → Type 0 → Type 0
OnOutOfMemory (Ok x) P = Unit {0}
OnOutOfMemory (Err OutOfMemory) P = P
OnOutOfMemory (Err (BadScript n)) P = Unit {0}
OnOutOfMemory (Err TooLong) P = Unit {0}
OnOutOfMemory (Err ReadFailed) P = Unit {0}
OnOutOfMemory (Err WriteFailed) P = Unit {0}
