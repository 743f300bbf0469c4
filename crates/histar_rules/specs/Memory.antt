-- What holds where a raw call found no memory.
use Rattle.std.specs.Prelude.{Result, Ok, Err}
use Rattle.histar_rules.specs.declared.raw.Refusal.{Refusal}
use Rattle.histar_rules.specs.declared.raw.Refusal.TheVariants as refusals

-- this holds, if the call ended for want of memory
abbrev pub OnOutOfMemory : {A : Type 0} → Result A Refusal → Type 0 → Type 0
OnOutOfMemory (Ok answer) P = Unit {0}
OnOutOfMemory (Err (refusals.Denied denied)) P = Unit {0}
OnOutOfMemory (Err refusals.OutOfMemory) P = P
