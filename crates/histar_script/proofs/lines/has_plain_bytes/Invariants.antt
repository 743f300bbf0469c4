-- The invariants and measures of `has_plain_bytes` of src/lines.rt.
use Rattle.std.proofs.Common.{◌≡◌, take}
use Rattle.std.specs.List.{list_all}
use Rattle.histar_script.specs.Lines.{is_plain_byte}
use Rattle.histar_script.proofs.lines.has_plain_bytes.Given as goal

abbrev pub invariant-loop-b : goal.invariant-loop-b
invariant-loop-b l = l.are_plain ≡ list_all is_plain_byte (take l.b-index l.line)
