-- The invariants and measures of `push_digits` of src/words.rt.
use Rattle.std.proofs.Common.{◌≡◌, ◌++◌, take}
use Rattle.std.specs.List.{flat_map}
use Rattle.histar_rawtext.specs.RawText.{byte_text}
use Rattle.histar_rawtext.proofs.words.push_digits.Given as goal

abbrev pub invariant-loop-byte : goal.invariant-loop-byte
invariant-loop-byte g l = l.line.items ≡ l.fn.line.items ++ flat_map byte_text (take l.byte-index l.bytes)
