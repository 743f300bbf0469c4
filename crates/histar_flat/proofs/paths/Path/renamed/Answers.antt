-- Proves the goals of `Path::renamed` of src/paths.rt that the search leaves open.
use Rattle.std.specs.List.{list_all}
use Rattle.std.proofs.Common.{rules, IsTrue, subst, take, ◌≡◌, ◌<◌, ◌≤◌, ◌-◌, ◌∷◌, [], true, false, length, slice_set, ap, sym, ◌∙◌, arith}
use Rattle.std.proofs.lemmas.List.{nil_from_length}
use Rattle.std.proofs.Math.Seq.{take-set-lt}
use Rattle.histar_flat.specs.Words.{Path, most_names, is_name}
use Rattle.histar_flat.proofs.NamedPaths.{named_set}
use Rattle.histar_flat.specs.Padding.{unused_name}
use Rattle.histar_base.specs.Paths.{same}
use Rattle.histar_base.proofs.Padded.{length-kept, padded_set}
use Rattle.histar_flat.specs.PathOrder.{parent, under_path}
use Rattle.histar_flat.specs.FlatState.{moved}
use Rattle.histar_flat.proofs.FileLemmas.{same_path_found}
use Rattle.histar_flat.proofs.Under.{under_is_longer}
use Rattle.histar_flat.proofs.Moved.{moved_aside, moved_below, moved_root}
use Rattle.histar_flat.proofs.paths.Path.renamed.Goals.{then-depth-eq0-via-then-depth-eq0, then-depth-eq0-via-else-depth-eq0+then-not-is_at_or_below}
use Rattle.histar_flat.proofs.paths.Path.renamed.Goals.{After-depth-3}
use Rattle.histar_flat.proofs.paths.Path.renamed.Goals as goal

pub returns-then-depth-eq0 : goal.returns-then-depth-eq0
returns-then-depth-eq0 c = elim c.then-depth-eq0.branch [
  | then-depth-eq0-via-then-depth-eq0 w ↦
      let root : c.args.old.now ≡ [] = nil_from_length c.args.old.now (search (rules, arith)) in
      c.self.view_is
      ∙ sym (ap (λ (old : Path). moved old (c.args.name ∷ parent old) c.args.self.now) root
      ∙ moved_root (c.args.name ∷ []) c.args.self.now)
  | then-depth-eq0-via-else-depth-eq0+then-not-is_at_or_below w ↦
      let aside : under_path c.args.old.now c.args.self.now ≡ false = search rules in
      c.self.view_is ∙ sym (moved_aside c.args.old.now (c.args.name ∷ parent c.args.old.now) c.args.self.now aside)
]

-- the path lies at the old one or below it, so it's as long or longer
below : (c : After-depth-3) → under_path c.args.old.now c.args.self.now ≡ true
below c = search rules

longer : (c : After-depth-3) → length c.args.old.now ≤ length c.args.self.now
longer c = under_is_longer same same_path_found c.args.old.now c.args.self.now (below c)

-- the place of the name that is replaced is one of a name
place_fits : (c : After-depth-3) → c.depth-2.result - c.depth-3.result < c.self.inside.len
place_fits c =
    let depth : length c.args.self.now ≡ c.self.inside.len =
    ap length (sym c.self.view_is)
    ∙ length-kept most_names unused_name c.self.inside.names c.self.inside.len c.self.invariant.padded in
    omega (
      arith,
      longer c,
      depth,
      c.depth.ensures.value,
      c.depth-2.ensures.value,
      c.depth-3.ensures.value,
      c.if-depth-eq0.false,
    )

pub overflow_sub-depth : goal.overflow_sub-depth
overflow_sub-depth c =
    omega (arith, longer (goal.at.overflow_sub-depth c).After-depth-3, c.depth-2.ensures.value, c.depth-3.ensures.value)

pub invariant_of-result-2 : goal.invariant_of-result-2
invariant_of-result-2 c =
    let i = c.depth-2.result - c.depth-3.result in
    let here : i < c.self.inside.len = place_fits (goal.at.invariant_of-result-2 c).After-depth-3 in
    record {
      padded = padded_set most_names unused_name c.args.name c.self.inside.names c.self.inside.len i c.self.invariant.padded here;
      named = subst (λ (l : Path). IsTrue (list_all is_name l)) (sym (take-set-lt c.self.inside.len c.self.inside.names i c.args.name here))
          (named_set (take c.self.inside.len c.self.inside.names) i c.args.name c.as_bytes-text.ensures.right c.self.invariant.named);
    }

pub returns : goal.returns
returns c =
    let place : c.depth-2.result - c.depth-3.result ≡ length c.args.self.now - length c.args.old.now =
    omega (arith, c.depth-2.ensures.value, c.depth-3.ensures.value) in
    let some : 0 < length c.args.old.now = omega (arith, c.depth.ensures.value, c.if-depth-eq0.false) in
    take-set-lt c.self.inside.len c.self.inside.names (c.depth-2.result - c.depth-3.result) c.args.name
    (place_fits (goal.at.returns c).After-depth-3)
    ∙ ap (λ (l : Path). slice_set l (c.depth-2.result - c.depth-3.result) c.args.name) c.self.view_is
    ∙ ap (λ n. slice_set c.args.self.now n c.args.name) place
    ∙ sym (moved_below c.args.old.now c.args.name c.args.self.now some (below (goal.at.returns c).After-depth-3))
