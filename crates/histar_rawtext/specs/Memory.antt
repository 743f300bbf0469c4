-- What holds where a line was not read for want of memory.
use Rattle.std.specs.Prelude.{Result, Ok, Err}
use Rattle.histar_rawtext.specs.declared.unread.Unread.{Unread}
use Rattle.histar_rawtext.specs.declared.unread.Unread.TheVariants.{NoCall, OutOfMemory}

-- this holds, if memory ran out
abbrev pub OnOutOfMemory : {A : Type 0} → Result A Unread → Type 0 → Type 0
OnOutOfMemory (Ok value) P = Unit {0}
OnOutOfMemory (Err NoCall) P = Unit {0}
OnOutOfMemory (Err OutOfMemory) P = P
