-- Proves the goals of `give_birth` of src/birth.rt that the search leaves open.
use Rattle.histar_process.proofs.Births.{with_categories, without_categories}
use Rattle.histar_process.proofs.birth.give_birth.Goals as goal

pub returns-in_err-read : goal.returns-in_err-read
returns-in_err-read g c = λ status revealed.
    without_categories _ _ status
    (record { owned = c.args.inherited.now.owned.now; jobs = c.args.inherited.now.jobs.now }) _ _ _ _ c.from_residual.ensures.1 c.in_err-read.ensures

pub returns : goal.returns
returns g c = λ status revealed.
    (with_categories _ _ status (record { owned = c.args.inherited.now.owned.now; jobs = c.args.inherited.now.jobs.now }) _ _ _
    c.in_ok-read.ensures).leads _ _ (c.make_objects.ensures status revealed)
