-- Proves the goals of `push_entry` of src/push_entry.rt that the search leaves open.
use Rattle.std.proofs.Common.{length, ap, arith}
use Rattle.histar_flat.proofs.WordLemmas.{short_name}
use Rattle.histar_layout.proofs.push_entry.push_entry.Goals as goal

pub overflow_cast-text : goal.overflow_cast-text
overflow_cast-text g c = omega (arith, short_name c.args.name.now c.as_bytes-text.ensures.right, ap length c.as_bytes-text.ensures.value)
