-- Proves the goals of `plan_job` of src/wrap.rt that the search leaves open.
use Rattle.std.proofs.Common.{ap, ◌∙◌}
use Rattle.histar_layout.specs.Categories.{scratch_label}
use Rattle.histar_wrap.proofs.Wrapping.{directory_is, kin_is}
use Rattle.histar_wrap.proofs.wrap.plan_job.Goals as goal

pub returns-clause-plan : goal.returns-clause-plan
returns-clause-plan g c =
    let accounts = c.args.users.now in
    let own = c.args.wrapper.own in
    let job = c.args.job in
    let user = c.user_of-user.result in
    let jobs = c.in_ok-jobs.jobs.items in
    let label_is =
    directory_is accounts own job user jobs c.user_of-user.ensures c.in_ok-jobs.ensures.ok _
    (c.in_ok-label.ensures.ok ∙ ap (scratch_label user) c.as_slice.ensures.value) in
    let kin_so = kin_is accounts own job user jobs c.user_of-user.ensures c.in_ok-jobs.ensures.ok _ c.in_ok-owned.ensures.ok in
    λ i. record { own = (own, c.args.wrapper.clearance); job = job; label = label_is i; kin = kin_so i }
