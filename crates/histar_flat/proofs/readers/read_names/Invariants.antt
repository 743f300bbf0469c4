-- The invariants and measures of `read_names` of src/readers.rt.
use Rattle.std.proofs.Common.{◌≡◌, ◌-◌, [], length}
use Rattle.histar_flat.specs.Words.{path_from}
use Rattle.histar_flat.proofs.readers.read_names.Given as goal

abbrev pub invariant-loop : goal.invariant-loop
invariant-loop l = (path_from (8 - l.counter) l.path l.rest ≡ path_from 8 [] l.text) × (length l.path ≡ l.counter)
