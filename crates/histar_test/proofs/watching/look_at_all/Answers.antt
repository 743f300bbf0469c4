-- Proves the goals of `look_at_all` of src/watching.rt that the search leaves open.
use Rattle.std.proofs.Common.{◌<◌, length, rules, subst, sym}
use Rattle.histar_test.proofs.LookLemmas.{AreLookedAt, none_looked, one_looked}
use Rattle.histar_test.proofs.watching.look_at_all.Goals as goal

pub loop-watch-init : goal.loop-watch-init
loop-watch-init c = record {
  looked = subst (AreLookedAt c.args.machine.now c.args.line 0 c.args.watches.now.items) (sym c.deref_mut-watch-items.ensures.value)
      (none_looked c.args.machine.now c.args.line c.args.watches.now.items);
}

pub loop-watch-preserved : goal.loop-watch-preserved
loop-watch-preserved c =
    let lt : c.loop-watch.watch-index < length c.loop-watch.watch-items = search rules in
    record { looked = one_looked c.watch-item.result _ c.loop-watch.invariant.looked lt c.in_ok-look_at.ensures }
