-- Proves the goals of `all_made` of src/labels.rt that the search leaves open.
use Rattle.std.proofs.Common.{◌<◌, sym, ap, ◌∙◌, arith}
use Rattle.std.specs.Prelude.{nat_lt}
use Rattle.histar_label.proofs.Made.{made_by_ends}
use Rattle.histar_label.proofs.labels.all_made.Goals as goal

pub returns-then-number-gt0 : goal.returns-then-number-gt0
returns-then-number-gt0 c =
    let found = c.in-Some-Some in
    let low : 0 < found.lowest.now.0 = omega (arith, c.number.ensures, c.if-number-gt0.true) in
    ap (λ k. nat_lt k c.args.next) c.number-then-number-gt0.ensures
    ∙ made_by_ends c.args.next c.args.exceptions.now c.requires found.lowest.now found.greatest.now (sym found.ensures.value)
    (sym found.ensures'.value) low
