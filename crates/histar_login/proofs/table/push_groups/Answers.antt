-- Proves the goals of `push_groups` of src/table.rt that the search leaves open.
use Rattle.std.proofs.Common.{◌≡◌, ◌<◌, ◌≤◌, ◌++◌}
use Rattle.std.proofs.Common.{List, get_or, subst, length, sym, ap, [], ◌∷◌, ◌∙◌, append-nil, arith}
use Rattle.std.proofs.lemmas.Bool.Decides.{nat_tests}
use Rattle.std.proofs.lemmas.List.{take_all, length-append}
use Rattle.histar_flat.specs.Accounts.{Group}
use Rattle.histar_programs.specs.Start.{numbered, group_entry}
use Rattle.histar_login.proofs.GroupLemmas.{groups_next, groups_all}
use Rattle.histar_login.proofs.table.push_groups.Goals as goal

pub loop-k-init : goal.loop-k-init
loop-k-init g c = record { adds = sym (append-nil _); few = omega arith }

pub loop-k-preserved : goal.loop-k-preserved
loop-k-preserved g c = record {
  adds =
      groups_next _ _ _ _ _ _ _ (subst (λ (groups : List Group). c.loop-k.k < length groups) c.groups-groups.ensures.groups c.loop-k-test.true)
      (subst (λ (groups : List Group). c.index-groups-k.result ≡ get_or groups c.loop-k.k c.index-groups-k.result)
      c.groups-groups.ensures.groups c.index-groups-k.is) c.loop-k.invariant.adds c.in_ok-push_group.ensures.adds;
  few = omega (arith, c.loop-k.invariant.few, c.in_ok-push_group.ensures.few);
}

pub returns-clause-adds : goal.returns-clause-adds
returns-clause-adds g c =
    let some : 0 < length _ =
    subst (λ (groups : List Group). 0 < length groups) c.groups-groups.ensures.groups
    (grind (arith, nat_tests, c.is_empty.ensures, c.if-is_empty.false)) in
    groups_all _ _ _ _ some (c.loop-k.invariant.adds
    ∙ (λ j. c.in_ok-push.ensures.items j
    ++ numbered (group_entry c.args.accounts.now.users) 1 (take_all _ _ (subst (λ (groups : List Group). length groups ≤ c.loop-k.k)
    c.groups-groups.ensures.groups c.loop-k-test.false) j)))

pub returns-clause-few : goal.returns-clause-few
returns-clause-few g c =
    omega (
      arith,
      c.loop-k.invariant.few,
      c.groups-groups.ensures.few.groups,
      ap length c.in_ok-push.ensures.items,
      ap length c.groups-groups.ensures.groups,
      c.loop-k.auto.k-end,
      length-append c.args.table.now.items (0 ∷ []),
    )
