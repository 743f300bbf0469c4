-- What holds where the whole of a source was not read for want of memory.
use Rattle.std.specs.Prelude.{Result, Ok, Err}
use Rattle.histar_io.specs.declared.input.InputError.{InputError}
use Rattle.histar_io.specs.declared.input.InputError.TheVariants.{ReadFailed, OutOfMemory}

-- this holds, if the reading ended for want of memory
abbrev pub OnOutOfMemory : {A : Type 0} → Result A InputError → Type 0 → Type 0
OnOutOfMemory (Ok input) P = Unit {0}
OnOutOfMemory (Err ReadFailed) P = Unit {0}
OnOutOfMemory (Err OutOfMemory) P = P
