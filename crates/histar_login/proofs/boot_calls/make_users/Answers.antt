-- Proves the goals of `make_users` of src/boot_calls.rt that the search leaves open.
use Rattle.std.proofs.Common.{◌≡◌, ◌<◌, ◌≤◌, List, length, get_or, ap, subst, arith}
use Rattle.std.proofs.lemmas.List.{take_all}
use Rattle.histar_container.proofs.Keeping.{on_err}
use Rattle.histar_flat.specs.declared.calls.User.{User}
use Rattle.histar_login.specs.Booting.{BootsOn, IsBefore, users_part}
use Rattle.histar_login.proofs.Stages.{users_none, users_next, users_way, users_begun}
use Rattle.histar_login.proofs.boot_calls.make_users.Goals as goal

pub loop-i-init : goal.loop-i-init
loop-i-init g c = users_none c.args.accounts.now _ c.args.accounts.now.users

pub make_user-requires-clause-number : goal.make_user-requires-clause-number
make_user-requires-clause-number g c = omega (arith, ap length c.users-users.ensures.users, c.loop-i-test.true)

pub make_user-requires-clause-begins : goal.make_user-requires-clause-begins
make_user-requires-clause-begins g c =
    users_way _ _ _ _ (subst (λ (users : List User). c.loop-i.i < length users) c.users-users.ensures.users c.loop-i-test.true)
    c.requires c.loop-i.invariant

pub loop-i-preserved : goal.loop-i-preserved
loop-i-preserved g c =
    users_next c.args.accounts.now _ _ _ _ _ _
    (subst (λ (users : List User). c.loop-i.i < length users) c.users-users.ensures.users c.loop-i-test.true)
    (subst (λ (users : List User). c.index-users-i.result ≡ get_or users c.loop-i.i c.index-users-i.result)
    c.users-users.ensures.users c.index-users-i.is) c.loop-i.invariant c.in_ok-make_user.ensures.ok

pub returns-in_err-make_user-clause-err : goal.returns-in_err-make_user-clause-err
returns-in_err-make_user-clause-err g c =
    on_err _ _ (users_begun c.args.accounts.now _ _ _ _ _
    (subst (λ (users : List User). c.loop-i.i < length users) c.users-users.ensures.users c.loop-i-test.true)
    (subst (λ (users : List User). c.index-users-i.result ≡ get_or users c.loop-i.i c.index-users-i.result)
    c.users-users.ensures.users c.index-users-i.is) c.loop-i.invariant c.in_err-make_user.ensures.err)

pub returns-clause-ok : goal.returns-clause-ok
returns-clause-ok g c =
    subst (λ (users : List User). BootsOn c.args.kernel.now c.loop-i.kernel (IsBefore 3) (users_part c.args.accounts.now users)) (take_all _ _
    (subst (λ (users : List User). length users ≤ c.loop-i.i) c.users-users.ensures.users c.loop-i-test.false)) c.loop-i.invariant
