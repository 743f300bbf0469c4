-- Proves the goals of `make_user` of src/boot_calls.rt that the search leaves open.
use Rattle.std.proofs.Common.{length, ◌∙◌, arith}
use Rattle.histar_container.proofs.Keeping.{on_err}
use Rattle.histar_flat.proofs.WordLemmas.{short_password}
use Rattle.histar_syscall.proofs.Runs.{same_kernel}
use Rattle.histar_layout.specs.Categories.{owners_among}
use Rattle.histar_login.specs.Booting.{BeginsUser}
use Rattle.histar_login.proofs.Stages.{password_allowed, login_allowed, user_begun_none, user_begun_one, user_boots, password_made, gate_made}
use Rattle.histar_login.proofs.Stages.{gate_allowed_for}
use Rattle.histar_login.proofs.boot_calls.make_user.Goals as goal

pub returns-in_err-owners-clause-err : goal.returns-in_err-owners-clause-err
returns-in_err-owners-clause-err g c =
    let begun : BeginsUser c.args.kernel.now c.args.kernel.now c.args.accounts.now c.args.number c.args.user.now = λ first p at b.
    user_begun_none c.args.accounts.now _ c.args.user.now first _ p b _ (same_kernel _) in
    on_err _ _ begun

pub make_password-requires : goal.make_password-requires
make_password-requires g c =
    rw c.as_bytes.ensures.value (password_allowed _ _ c.args.user.now c.requires.begins.0 _ c.requires.begins.1 c.requires.begins.3
    c.requires.begins.2 c.ranges.number.fits c.requires.number (omega (arith, short_password _ c.as_bytes.ensures.right)))

pub returns-in_err-make_password-clause-err : goal.returns-in_err-make_password-clause-err
returns-in_err-make_password-clause-err g c =
    let begun : BeginsUser c.args.kernel.now c.make_password.new.kernel c.args.accounts.now c.args.number c.args.user.now = λ first p at b.
    user_begun_none c.args.accounts.now _ c.args.user.now first _ p b _ c.in_err-make_password.ensures.grants in
    on_err _ _ begun

pub make_login_gate-requires : goal.make_login_gate-requires
make_login_gate-requires g c =
    gate_allowed_for c.make_password.new.kernel c.args.number _ _ _ c.as_slice.ensures.value (c.in_ok-owners.ensures.ok
    ∙ (λ i. owners_among (length (c.users-users.ensures.users i)) (c.groups-groups.ensures.groups i) c.args.number c.args.user.now.name))
    (login_allowed _ _ c.args.user.now c.requires.begins.0 _ c.requires.begins.1 c.requires.begins.3 _
    (password_made _ _ _ _ _ c.as_bytes.ensures.value c.in_ok-make_password.ensures.grants.0)
    c.requires.begins.2 c.ranges.number.fits c.requires.number)

pub returns-in_err-make_login_gate-clause-err : goal.returns-in_err-make_login_gate-clause-err
returns-in_err-make_login_gate-clause-err g c =
    let begun : BeginsUser c.args.kernel.now c.make_login_gate.new.kernel c.args.accounts.now c.args.number c.args.user.now = λ first p at b.
    user_begun_one c.args.accounts.now _ c.args.user.now first _ p b _
    (password_made _ _ _ _ _ c.as_bytes.ensures.value c.in_ok-make_password.ensures.grants.0) _ c.in_err-make_login_gate.ensures.grants in
    on_err _ _ begun

pub returns-clause-ok : goal.returns-clause-ok
returns-clause-ok g c = λ first p at b.
    user_boots c.args.accounts.now _ c.args.user.now first _ p b _
    (password_made _ _ _ _ _ c.as_bytes.ensures.value c.in_ok-make_password.ensures.grants.0)
    _ at (gate_made _ _ _ _ _ (c.as_slice.ensures.value ∙ c.in_ok-owners.ensures.ok
    ∙ (λ i. owners_among (length (c.users-users.ensures.users i)) (c.groups-groups.ensures.groups i)
    c.args.number c.args.user.now.name)) c.in_ok-make_login_gate.ensures.grants.0)
