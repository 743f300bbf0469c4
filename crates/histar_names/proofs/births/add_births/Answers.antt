-- Proves the goals of `add_births` of src/births.rt that the search leaves open.
use Rattle.std.proofs.Common.{◌<◌, ◌≤◌, length, refl, sym, ap, ◌∙◌, subst, arith, rules}
use Rattle.std.proofs.lemmas.List.{length-append}
use Rattle.histar_syscall.specs.KernelModel.{state}
use Rattle.histar_names.specs.Births.{born_with}
use Rattle.histar_names.proofs.Remembering.{all_noted, one_noted}
use Rattle.histar_names.proofs.births.add_births.Goals as goal

pub births-init : goal.births-init
births-init g c = record { count = search rules; rest = refl }

pub births-preserved : goal.births-preserved
births-preserved g c =
    let below : length c.births.births.items < c.args.next = subst (λ n. n < c.args.next) (sym c.births.invariant.count) c.births-test.true in
    let purpose = born_with (state c.args.kernel.now) c.args.roots.now.home c.args.child.now in
    let numbered = c.new-category.ensures ∙ sym c.births.invariant.count in
    rw c.in_ok-push.ensures.items
    (record {
      count = omega (arith, length-append c.births.births.items, c.births.invariant.count);
      rest =
          one_noted purpose c.births.births.items c.args.next _ below (c.born_with.ensures ∙ ap purpose numbered) ∙ c.births.invariant.rest;
    })

pub returns : goal.returns
returns g c =
    let all : c.args.next ≤ length c.births.births.items = subst (λ n. c.args.next ≤ n) (sym c.births.invariant.count) c.births-test.false in
    let purpose = born_with (state c.args.kernel.now) c.args.roots.now.home c.args.child.now in
    sym (all_noted purpose c.births.births.items c.args.next all) ∙ c.births.invariant.rest
