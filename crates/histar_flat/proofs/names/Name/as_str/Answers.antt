-- Proves the goals of `Name::as_str` of src/names.rt that the search leaves open.
use Rattle.std.proofs.Common.{subst, sym}
use Rattle.std.specs.Str.{IsUtf8}
use Rattle.histar_flat.proofs.NameTexts.{name_is_text}
use Rattle.histar_flat.proofs.names.Name.as_str.Goals as goal

pub unreachable-requires : goal.unreachable-requires
unreachable-requires c =
    c.in-Err.ensures.cases.0
    (subst IsUtf8 (sym c.as_bytes.ensures.value) (name_is_text c.args.self.now c.as_bytes.ensures.right))
