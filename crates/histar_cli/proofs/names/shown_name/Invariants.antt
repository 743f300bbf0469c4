-- The invariants and measures of `shown_name` of src/names.rt.
use Rattle.std.proofs.Common.{◌≡◌, take}
use Rattle.std.specs.List.{flat_map}
use Rattle.histar_cli.specs.Names.{shown_byte}
use Rattle.histar_cli.proofs.names.shown_name.Given as goal

abbrev pub invariant-loop-byte : goal.invariant-loop-byte
invariant-loop-byte l = l.name.items ≡ flat_map shown_byte (take l.byte-index l.path)
