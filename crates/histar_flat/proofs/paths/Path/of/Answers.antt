-- Proves the goals of `Path::of` of src/paths.rt that the search leaves open.
use Rattle.std.proofs.Common.{IsTrue, List, ℕ, refl, subst, sym}
use Rattle.std.specs.List.{list_all}
use Rattle.histar_flat.proofs.NamedPaths.{path_is_short, path_is_named}
use Rattle.histar_base.proofs.Padded.{padded_fits, take-padded}
use Rattle.histar_flat.specs.Padding.{unused_name}
use Rattle.histar_flat.specs.Words.{is_name}
use Rattle.histar_flat.proofs.paths.Path.of.Goals as goal

pub invariant_of-result : goal.invariant_of-result
invariant_of-result c = rw c.padded_names.ensures (record {
  padded = padded_fits 8 unused_name c.args.names.now (path_is_short c.args.names.now c.requires);
  named =
      subst (λ (l : List (List ℕ)). IsTrue (list_all is_name l)) (sym (take-padded 8 unused_name c.args.names.now))
      (path_is_named c.args.names.now c.requires);
})

pub returns : goal.returns
returns c = rw (c.padded_names.ensures, take-padded 8 unused_name c.args.names.now) refl
