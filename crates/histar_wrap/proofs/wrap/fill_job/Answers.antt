-- Proves the goals of `fill_job` of src/wrap.rt that the search leaves open.
use Rattle.std.proofs.Common.{◌≡◌}
use Rattle.histar_wrap.specs.Filling.{planned}
use Rattle.histar_wrap.proofs.Wrapping.{held, no_birth, no_scratch}
use Rattle.histar_wrap.proofs.wrap.fill_job.Given as given
use Rattle.histar_wrap.proofs.wrap.fill_job.Goals.{After-give_birth}
use Rattle.histar_wrap.proofs.wrap.fill_job.Goals as goal

-- the first process gets what the plan has for it
kin_is : (g : given.Over) (c : After-give_birth g)
    → record { owned = c.as_slice.result.now; jobs = c.as_slice-2.result.now } ≡ (planned c.args.plan).kin
kin_is g c = λ i. record { owned = c.as_slice.ensures.value i; jobs = c.as_slice-2.ensures.value i }

pub returns-in_err-make_scratch : goal.returns-in_err-make_scratch
returns-in_err-make_scratch g c status is =
    no_scratch _ _ status _ _ _ _ _ _ c.from_residual.ensures.1 c.in_err-make_scratch.ensures

pub returns-in_err-give_birth : goal.returns-in_err-give_birth
returns-in_err-give_birth g c status is =
    no_birth _ _ status _ _ _ _ c.in_ok-make_scratch.ensures _
    (kin_is g (goal.at.returns-in_err-give_birth g c).After-give_birth) _ _ _ c.from_residual-in_err-give_birth.ensures.1
    (c.in_err-give_birth.ensures status is)

pub returns : goal.returns
returns g c status is =
    held _ _ status _ _ _ _ c.in_ok-make_scratch.ensures _
    (kin_is g (goal.at.returns g c).After-give_birth) _ _ (c.in_ok-give_birth.ensures status is) _ c.hold_job.ensures
