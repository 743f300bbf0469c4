-- Proves the goals of `Word::of` of src/words.rt that the search leaves open.
use Rattle.std.proofs.Common.{refl}
use Rattle.histar_base.proofs.Padded.{padded_fits, take-padded}
use Rattle.histar_flat.proofs.words.Word.of.Goals as goal

pub invariant_of-result : goal.invariant_of-result
invariant_of-result c = rw c.padded_bytes.ensures (padded_fits 32 0 c.args.text.now c.requires)

pub returns : goal.returns
returns c = rw (c.padded_bytes.ensures, take-padded 32 0 c.args.text.now) refl
