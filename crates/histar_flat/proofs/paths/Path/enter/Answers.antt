-- Proves the goals of `Path::enter` of src/paths.rt that the search leaves open.
use Rattle.std.proofs.Common.{◌≡◌, ◌≤◌, ℕ, List, IsTrue, length, take, ap, subst, sym, ◌∙◌, arith}
use Rattle.std.specs.List.{list_all}
use Rattle.histar_flat.proofs.NamedPaths.{pass_both}
use Rattle.histar_base.proofs.Padded.{padded_front, take_front, length-kept}
use Rattle.histar_flat.specs.Padding.{unused_name}
use Rattle.histar_flat.specs.Words.{is_name}
use Rattle.histar_flat.proofs.paths.Path.enter.Goals as goal

pub invariant_of-self : goal.invariant_of-self
invariant_of-self c =
    let inside = c.self.inside in
    let padded = c.self.invariant.padded in
    let depth : length c.args.self.now ≡ inside.len = ap length (sym c.self.view_is) ∙ length-kept 8 unused_name inside.names inside.len padded in
    let room : inside.len ≤ 7 = omega (arith, depth, c.requires) in
    let named =
    pass_both (is_name c.args.name) (list_all is_name (take inside.len inside.names)) c.as_bytes-text.ensures.right
    c.self.invariant.named in
    rw c.rotate_right.ensures.after (record {
      padded = padded_front 7 unused_name c.args.name inside.names inside.len padded room;
      named =
          subst (λ (l : List (List ℕ)). IsTrue (list_all is_name l))
          (sym (take_front 7 unused_name c.args.name inside.names inside.len padded room)) named;
    })
