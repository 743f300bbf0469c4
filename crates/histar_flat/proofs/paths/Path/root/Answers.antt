-- Proves the goals of `Path::root` of src/paths.rt that the search leaves open.
use Rattle.std.proofs.Common.{[], refl, arith}
use Rattle.histar_base.specs.Padding.{padded}
use Rattle.histar_base.proofs.Padded.{padded_fits}
use Rattle.histar_flat.specs.Padding.{unused_name}
use Rattle.histar_flat.proofs.paths.Path.root.Goals as goal

pub invariant_of-result : goal.invariant_of-result
unfolding padded
invariant_of-result c = record { padded = rw c.unused_name.ensures (padded_fits 8 unused_name [] (omega arith)); named = refl }
