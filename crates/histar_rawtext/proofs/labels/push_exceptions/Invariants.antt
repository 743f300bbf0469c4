-- The invariants and measures of `push_exceptions` of src/labels.rt.
use Rattle.std.proofs.Common.{◌≡◌, ◌++◌, take}
use Rattle.std.specs.List.{flat_map}
use Rattle.histar_rawtext.specs.RawText.{exception_text}
use Rattle.histar_rawtext.proofs.labels.push_exceptions.Given as goal

abbrev pub invariant-loop-exception : goal.invariant-loop-exception
invariant-loop-exception g l = l.line.items ≡ l.fn.line.items ++ flat_map exception_text (take l.exception-index l.exceptions)
