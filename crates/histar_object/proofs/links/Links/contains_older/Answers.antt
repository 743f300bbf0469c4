-- Proves the goals of `Links::contains_older` of src/links.rt that the search leaves open.
use Rattle.std.proofs.Common.{◌≡◌, false, sym, ap, ◌∙◌, arith}
use Rattle.std.specs.Prelude.{nat_le}
use Rattle.std.specs.Ordering.{nat_cmp}
use Rattle.std.specs.FinSet as set
use Rattle.std.proofs.lemmas.Bool.Decides.{nat_tests}
use Rattle.histar_object.proofs.LinkLemmas.{none_above}
use Rattle.histar_object.proofs.links.Links.contains_older.Goals as goal

pub returns-else-number-self : goal.returns-else-number-self
returns-else-number-self c =
    let above = c.if-number-self.false in
    let test : nat_le c.number.result c.self.inside.newest ≡ false = grind (arith, nat_tests, above) in
    test ∙ sym (none_above _ _ c.number.result c.self.invariant above)
    ∙ ap (set.contains (set.from_list {R = nat_cmp} c.self.inside.numbers.keys)) c.number.ensures
    ∙ ap (λ s. set.contains s c.args.object) c.self.view_is
