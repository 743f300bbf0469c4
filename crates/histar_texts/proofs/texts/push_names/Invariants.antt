-- The invariants and measures of `push_names` of src/texts.rt.
use Rattle.std.proofs.Common.{◌≡◌, ◌++◌, ◌-◌, drop, length}
use Rattle.histar_flat.specs.Texts.{names_text}
use Rattle.histar_texts.proofs.texts.push_names.Given as goal

abbrev pub invariant-loop-i : goal.invariant-loop-i
invariant-loop-i g l = l.text.items ≡ l.fn.text.items ++ names_text (drop (length l.names - l.i) l.names)
