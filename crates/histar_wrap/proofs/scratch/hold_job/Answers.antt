-- Proves the goals of `hold_job` of src/scratch.rt that the search leaves open.
use Rattle.std.proofs.Common.{Ok}
use Rattle.histar_level.specs.declared.level.Level.TheVariants.{Star, L3}
use Rattle.histar_label.specs.Levels.{with_level}
use Rattle.histar_rules.specs.declared.raw.RawCall.TheVariants.{SetLabel, SetClearance}
use Rattle.histar_programs.specs.Parts.{ask}
use Rattle.histar_programs.specs.Programs.{RunsPart}
use Rattle.histar_programs.proofs.Exits.{LeavesPart}
use Rattle.histar_programs.proofs.Running.{before_ask, fails_so, grants, refuses}
use Rattle.histar_wrap.specs.Scratch.{hold_job}
use Rattle.histar_wrap.proofs.Scratching.{clearance_so, label_so, own_of, with_label, without_label}
use Rattle.histar_wrap.proofs.scratch.hold_job.Given as given
use Rattle.histar_wrap.proofs.scratch.hold_job.Goals.{After-set_label}
use Rattle.histar_wrap.proofs.scratch.hold_job.Goals as goal

-- the label that is due was given, and the clearance is still to be given
left : (g : given.Over) (c : After-set_label g)
    → RunsPart g.H.Heap.Refused (ask (SetLabel c.in_ok-label.label)) c.args.kernel.now c.set_label.new.self c.args.wrapper.now.thread (Ok tt)
    → LeavesPart g.H.Heap.Refused (Unit {0}) c.args.wrapper.now.thread (hold_job (own_of c.args.wrapper.now) c.args.job) c.args.kernel.now
    (ask (SetClearance (with_level c.args.wrapper.now.clearance c.args.job L3))) c.set_label.new.self
left g c runs =
    with_label _ (own_of c.args.wrapper.now) _ _ _ (label_so _ _ _ _ _ c.in_ok-label.ensures.value (Ok tt) runs)

pub returns-in_err-label : goal.returns-in_err-label
returns-in_err-label g c =
    without_label _ (own_of c.args.wrapper.now) _ _ _ _ _ c.from_residual.ensures.1
    (before_ask c.args.wrapper.now.thread (SetLabel (with_level c.args.wrapper.now.own c.args.job Star)) c.args.kernel.now
    c.in_err-label.ensures.memory)

pub returns-in_err-set_label : goal.returns-in_err-set_label
returns-in_err-set_label g c =
    without_label _ (own_of c.args.wrapper.now) _ _ _ _ _ c.from_residual-in_err-set_label.ensures.1
    (label_so _ _ _ _ _ c.in_ok-label.ensures.value _ (refuses _ _ _ _ _ _ c.in_err-set_label.ensures.ok
    c.in_err-set_label.ensures.memory))

pub returns-in_err-clearance : goal.returns-in_err-clearance
returns-in_err-clearance g c =
    fails_so _ _ _ _ _ _ c.from_residual-in_err-clearance.ensures.1
    ((left g (goal.at.returns-in_err-clearance g c).After-set_label (grants _ _ _ _ tt c.in_ok-set_label.ensures.ok.0 tt)).leads _ _
    (before_ask c.args.wrapper.now.thread (SetClearance (with_level c.args.wrapper.now.clearance c.args.job L3)) c.set_label.new.self
    c.in_err-clearance.ensures.memory))

pub returns-in_err-set_clearance : goal.returns-in_err-set_clearance
returns-in_err-set_clearance g c =
    fails_so _ _ _ _ _ _ c.from_residual-in_err-set_clearance.ensures.1
    ((left g (goal.at.returns-in_err-set_clearance g c).After-set_label (grants _ _ _ _ tt c.in_ok-set_label.ensures.ok.0 tt)).leads _ _
    (clearance_so _ _ _ _ _ c.in_ok-clearance.ensures.value _ (refuses _ _ _ _ _ _ c.in_err-set_clearance.ensures.ok
    c.in_err-set_clearance.ensures.memory)))

pub returns : goal.returns
returns g c =
    (left g (goal.at.returns g c).After-set_label (grants _ _ _ _ tt c.in_ok-set_label.ensures.ok.0 tt)).leads _ _
    (clearance_so _ _ _ _ _ c.in_ok-clearance.ensures.value _ (grants _ _ _ _ tt c.in_ok-set_clearance.ensures.ok.0 tt))
