-- Proves the goals of `padded_bytes` of src/words.rt that the search leaves open.
use Rattle.std.proofs.Common.{ℕ, length, refl}
use Rattle.std.proofs.lemmas.List.{drop-replicate}
use Rattle.histar_base.specs.Padding.{padded}
use Rattle.histar_flat.proofs.words.padded_bytes.Goals as goal

pub returns : goal.returns
unfolding padded
returns c = rw (c.copy_from_slice.ensures.after, ← drop-replicate {X = ℕ} (length c.args.text.now) 32 0) refl
