-- Proves the goals of `make_guarded` of src/birth.rt that the search leaves open.
use Rattle.std.proofs.Common.{[], ◌∷◌, ◌++◌}
use Rattle.histar_rules.specs.declared.raw.RawCall.TheVariants.{MakeContainer}
use Rattle.histar_layout.specs.Labelling.{guarded_by}
use Rattle.histar_programs.specs.declared.call_error.CallError.TheVariants.{Stopped}
use Rattle.histar_programs.proofs.Running.{grants, refuses, before_ask, fails_so}
use Rattle.histar_process.proofs.Births.{container_so}
use Rattle.histar_process.proofs.birth.make_guarded.Goals as goal

pub returns-in_err-label : goal.returns-in_err-label
returns-in_err-label g c =
    let call = MakeContainer c.args.container (guarded_by (c.args.guard.now.own.now ++ c.args.guard.now.jobs.now) (c.args.guard.now.write ∷ [])) in
    fails_so _ _ _ _ Stopped _ c.from_residual.ensures.1 (before_ask _ call _ c.in_err-label.ensures.memory)

pub returns-in_err-made : goal.returns-in_err-made
returns-in_err-made g c =
    fails_so _ _ _ _ _ _ c.from_residual-in_err-made.ensures.1
    (container_so _ _ _ _ _ _ c.in_ok-label.ensures.ok _ (refuses _ _ _ _ _ _ c.in_err-made.ensures.answered c.in_err-made.ensures.memory))

pub returns : goal.returns
returns g c =
    container_so _ _ _ _ _ _ c.in_ok-label.ensures.ok _ (grants _ _ _ _ _ c.in_ok-made.ensures.answered.0 c.in_ok-made.ensures.answered.1)
