-- The invariants and measures of `push_trace` of src/texts.rt.
use Rattle.std.proofs.Common.{◌≡◌, ◌++◌, take}
use Rattle.histar_rawtext.specs.RawText.{trace_text}
use Rattle.histar_attack.proofs.texts.push_trace.Given as goal

abbrev pub invariant-lines : goal.invariant-lines
invariant-lines l = l.text.items ≡ l.fn.text.items ++ trace_text (take l.at l.trace.entries)
