-- The invariants and measures of `push_process` of src/texts.rt.
use Rattle.std.proofs.Common.{◌≡◌, ◌++◌, ◌-◌, drop, length}
use Rattle.histar_flat.specs.Texts.{process_text}
use Rattle.histar_texts.proofs.texts.push_process.Given as goal

abbrev pub invariant-loop-i : goal.invariant-loop-i
invariant-loop-i g l = l.text.items ≡ l.fn.text.items ++ process_text (drop (length l.numbers - l.i) l.numbers)
