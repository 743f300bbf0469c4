-- Proves the goals of `user_table` of src/table.rt that the search leaves open.
use Rattle.std.proofs.Common.{◌≡◌, ◌<◌, List, length, get_or, ap, subst, arith, rules}
use Rattle.histar_flat.specs.declared.calls.User.{User}
use Rattle.histar_flat.proofs.WordLemmas.{short_name}
use Rattle.histar_login.proofs.StartLemmas.{table_next}
use Rattle.histar_login.proofs.TableLengths.{user_few}
use Rattle.histar_login.proofs.table.user_table.Goals as goal

pub push_user-requires-in-loop-i : goal.push_user-requires-in-loop-i
push_user-requires-in-loop-i g c = rw c.as_bytes.ensures.value (short_name _ c.as_bytes.ensures.right)

pub loop-i-init : goal.loop-i-init
loop-i-init g c = record {
  adds = search rules;
  few = let more = user_few _ _ _ _ _ _ c.in_ok-push_user.ensures.adds (omega arith) in omega (arith, more, ap length c.new-table.ensures.items);
}

pub loop-i-preserved : goal.loop-i-preserved
loop-i-preserved g c = record {
  adds =
      table_next _ _ _ _ _ _ (subst (λ (users : List User). c.loop-i.i < length users) c.users-users.ensures.users c.loop-i-test.true)
      (subst (λ (users : List User). c.index-users-i.result ≡ get_or users c.loop-i.i c.index-users-i.result)
      c.users-users.ensures.users c.index-users-i.is) c.as_bytes.ensures.value c.loop-i.invariant.adds c.in_ok-push_user-2.ensures.adds;
  few =
      let more =
      user_few _ _ _ _ _ _ c.in_ok-push_user-2.ensures.adds (rw c.as_bytes.ensures.value (short_name _ c.as_bytes.ensures.right)) in
      omega (arith, more, c.loop-i.invariant.few);
}
