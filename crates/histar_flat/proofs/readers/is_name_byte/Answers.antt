-- Proves the goals of `is_name_byte` of src/readers.rt that the search leaves open.
use Rattle.histar_flat.proofs.NameBytes.{listed_byte}
use Rattle.histar_flat.proofs.readers.is_name_byte.Goals as goal

pub returns : goal.returns
returns c = listed_byte c.args.b c.ranges.b.fits
