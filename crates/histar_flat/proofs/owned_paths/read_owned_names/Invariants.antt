-- The invariants and measures of `read_owned_names` of src/owned_paths.rt.
use Rattle.std.proofs.Common.{◌≡◌, ◌-◌, [], length, IsTrue}
use Rattle.std.specs.Prelude.{reverse}
use Rattle.histar_flat.specs.Words.{is_path, path_from}
use Rattle.histar_flat.proofs.owned_paths.read_owned_names.Given as goal

abbrev pub invariant-loop : goal.invariant-loop
invariant-loop g l =
    (path_from (8 - l.counter) (reverse l.names.items) l.rest ≡ path_from 8 [] l.text)
    × (length (reverse l.names.items) ≡ l.counter)
    × IsTrue (is_path (reverse l.names.items))
