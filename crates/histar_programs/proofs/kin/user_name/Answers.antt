-- Proves the goals of `user_name` of src/kin.rt that the search leaves open.
use Rattle.std.proofs.Common.{◌≡◌, ◌-◌, ◌≤◌, ℕ, length, ap, sym, subst, ◌∙◌, arith}
use Rattle.std.proofs.lemmas.Option.{get_or_from_slice_get}
use Rattle.histar_flat.specs.declared.calls.User.{User}
use Rattle.histar_layout.specs.UserTable.{called}
use Rattle.histar_programs.specs.Kin.{user_name}
use Rattle.histar_programs.proofs.Scanning.{name_at, name_none, name_past}
use Rattle.histar_programs.proofs.kin.user_name.Goals as goal
use Rattle.histar_programs.proofs.kin.user_name.Goals.{else-number-gt0-via-then-number-gt0+else-number-len, else-number-gt0-via-else-number-gt0}

pub returns-then-number-len : goal.returns-then-number-len
returns-then-number-len c =
    let users = c.args.users.now.users in
    let user = called c.name_at.result in
    let most : c.args.number ≤ length users = subst (λ (n : ℕ). c.args.number ≤ n) c.len.ensures.len c.if-number-len.true in
    ap (λ (u : User). u.name) (sym (get_or_from_slice_get users (c.args.number - 1) user user c.name_at.ensures))
    ∙ name_at users c.args.number user (omega arith) most

pub returns : goal.returns
returns c = c.nobody.ensures ∙ elim c.else-number-gt0.branch [
  | else-number-gt0-via-then-number-gt0+else-number-len w ↦ sym (name_past c.args.users.now.users c.args.number (omega arith))
  | else-number-gt0-via-else-number-gt0 w ↦
      let none : c.args.number ≡ 0 = omega arith in
      sym (ap (user_name c.args.users.now.users) none ∙ name_none c.args.users.now.users)
]
