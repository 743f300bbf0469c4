-- Proves the goals of `nobody` of src/by_class.rt that the search leaves open.
use Rattle.std.proofs.Common.{ap, ◌∙◌}
use Rattle.std.specs.Prelude.{is_some}
use Rattle.histar_flat.specs.Words.{is_name, name_of}
use Rattle.histar_cells.proofs.by_class.nobody.Goals as goal

pub unwrap-requires : goal.unwrap-requires
unfolding is_name
unwrap-requires c = ap is_some (c.read_name.ensures ∙ ap name_of c.as_slice.ensures)
