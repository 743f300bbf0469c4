-- Proves the goals of `is_under` of src/suffix.rt that the search leaves open.
use Rattle.std.proofs.Common.{rules, tests, ◌≡◌, ◌-◌, false, leb, length, drop, arith, ap, sym, ◌∙◌}
use Rattle.std.specs.Cmp.Lexicographic.{pointwise}
use Rattle.std.proofs.lemmas.List.{take_all, length-drop}
use Rattle.histar_flat.proofs.Under.{under_is_end, shorter}
use Rattle.histar_flat.proofs.suffix.is_under.Goals as goal

pub returns-then-above-names : goal.returns-then-above-names
returns-then-above-names g c =
    let k = length c.args.names.now - length c.args.above.now in
    let whole = take_all (length c.args.names.now - k) (drop k c.args.names.now) (omega (arith, length-drop k c.args.names.now)) in
    c.eq.ensures ∙ ap (pointwise g.T.PartialEq.eq c.args.above.now) whole
    ∙ sym (under_is_end g.T.PartialEq.eq c.args.above.now c.args.names.now c.if-above-names.true)

pub returns-else-above-names : goal.returns-else-above-names
returns-else-above-names g c =
    let e : leb (length c.args.above.now) (length c.args.names.now) ≡ false = search (rules, tests) in
    e ∙ sym (shorter g.T.PartialEq.eq c.args.above.now c.args.names.now c.if-above-names.false)
