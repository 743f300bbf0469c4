-- Proves the goals of `split_at_commas` of src/read_labels.rt that the search leaves open.
use Rattle.std.proofs.Common.{◌++◌, Option, Bor, List, ℕ, map, sym, ap, ◌∙◌}
use Rattle.std.specs.Option.{option_copied}
use Rattle.histar_rawtext.proofs.Commas.{parts_left, goes_on, one_more}
use Rattle.histar_rawtext.proofs.read_labels.split_at_commas.Goals as goal

pub commas-preserved : goal.commas-preserved
commas-preserved g c =
    let shown = λ (p : Bor (List ℕ)). p.now in
    let so_far = ap (λ (o : Option (Bor (List ℕ))). map shown c.commas.parts.items ++ parts_left (option_copied o)) (sym c.in-Some.is)
    ∙ c.commas.invariant in
    one_more c.commas.parts.items c.push.new.list.items c.split_at_first.result.0 c.in-Some.left.now _ _ so_far
    c.split_at_first.ensures.before c.split_at_first.ensures.after c.in_ok-push.ensures.items

pub commas-smaller : goal.commas-smaller
commas-smaller g c = goes_on c.commas.rest c.in-Some.left _ c.in-Some.is c.split_at_first.ensures.after
