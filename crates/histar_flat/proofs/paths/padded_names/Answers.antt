-- Proves the goals of `padded_names` of src/paths.rt that the search leaves open.
use Rattle.std.proofs.Common.{ℕ, List, length, refl}
use Rattle.std.proofs.lemmas.List.{drop-replicate}
use Rattle.histar_base.specs.Padding.{padded}
use Rattle.histar_flat.specs.Padding.{unused_name}
use Rattle.histar_flat.proofs.paths.padded_names.Goals as goal

pub returns : goal.returns
unfolding padded
returns c =
    rw (
      c.copy_from_slice.ensures.after,
      c.unused_name-padded.ensures,
      ← drop-replicate {X = List ℕ}
          (length c.args.names.now) 8 unused_name,
    ) refl
