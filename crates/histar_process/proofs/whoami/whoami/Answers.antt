-- Proves the goals of `whoami` of src/whoami.rt that the search leaves open.
use Rattle.std.proofs.Common.{◌≡◌, Result, length, not, sym, ap, subst, ◌∙◌}
use Rattle.std.specs.Borrow.{Bor}
use Rattle.histar_flat.specs.declared.replies.Reply.TheVariants.{User}
use Rattle.histar_level.specs.Levels.{Levels}
use Rattle.histar_rules.specs.declared.raw.RawCall.TheVariants.{OwnLabel}
use Rattle.histar_rules.specs.declared.raw.Refusal.{Refusal}
use Rattle.histar_rules.specs.Memory.{OnOutOfMemory}
use Rattle.histar_syscall.specs.KernelModel.{OwnLent}
use Rattle.histar_layout.specs.Categories.{user_of}
use Rattle.histar_programs.proofs.Running.{grants, refuses, then_call, call_fails, call_fails_so, replies_so}
use Rattle.histar_layout.proofs.UserOf.{user_is}
use Rattle.histar_programs.specs.Kin.{user_name}
use Rattle.histar_process.specs.Whoami.{whoami_program}
use Rattle.histar_process.proofs.whoami.whoami.Given as given
use Rattle.histar_process.proofs.whoami.whoami.Goals.{After-lend_own_label}
use Rattle.histar_process.proofs.whoami.whoami.Goals as goal

-- the kernel lent the thread's own label, or refused to
lent : (g : given.Over) (c : After-lend_own_label g) (result : Result (Bor Levels) Refusal) → c.lend_own_label.result ≡ result
    → OwnLent c.args.kernel.now c.args.unix.now.caller.now.thread result c.lend_own_label.follows.lender-at-none
lent g c result is =
    subst (λ (r : Result _ Refusal). OwnLent c.args.kernel.now c.args.unix.now.caller.now.thread r c.lend_own_label.follows.lender-at-none)
    is c.lend_own_label.follows.holds-at-none

pub returns-in_err-own : goal.returns-in_err-own
unfolding whoami_program
returns-in_err-own g c =
    call_fails_so _ _ _ c.lend_own_label.follows.lender-at-none _ _ c.from_residual.ensures.1
    (call_fails _ _ _ c.lend_own_label.follows.lender-at-none _ _ (refuses _ OwnLabel _ c.lend_own_label.follows.lender-at-none _ _
    (lent g (goal.at.returns-in_err-own g c).After-lend_own_label _ c.in_err-own.was)
    (subst (λ (r : Result _ Refusal). OnOutOfMemory r g.H.Heap.Refused) c.in_err-own.was c.lend_own_label.ensures.memory)))

pub returns : goal.returns
unfolding whoami_program
returns g c =
    let left = lent g (goal.at.returns g c).After-lend_own_label _ c.in_ok-own.was in
    let accounts = c.args.unix.now.users.now in
    let users = accounts.users in
    let own = c.in_ok-own.own.now in
    let labels : Levels × Levels = (own, left.1.0) in
    let number = c.user_of-number.result in
    let number_is = sym (user_is own (length users) number c.user_of-number.ensures) in
    let name_is = c.user_name.ensures ∙ ap (user_name users) number_is in
    then_call _ _ _ c.lend_own_label.follows.lender-at-none _ c.lend_own_label.follows.lender-at-none labels (grants _ OwnLabel _
    c.lend_own_label.follows.lender-at-none labels left.0 left.1.1) _ (replies_so _ c.lend_own_label.follows.lender-at-none
    (User (user_name users (user_of own (length users))) (not _)) _ (λ i. User (name_is i) (c.is_in_job.ensures i)))
