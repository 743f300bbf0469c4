-- Proves the goals of `restore` of src/scratch.rt that the search leaves open.
use Rattle.std.proofs.Common.{◌≡◌, Result, Ok}
use Rattle.histar_rules.specs.declared.raw.RawCall.TheVariants.{SetLabel, SetClearance}
use Rattle.histar_programs.specs.Programs.{RunsPart}
use Rattle.histar_programs.specs.declared.call_error.CallError.{CallError}
use Rattle.histar_programs.proofs.Running.{fails_so}
use Rattle.histar_wrap.specs.Steps.{ask_or_stop, stopping}
use Rattle.histar_wrap.proofs.GivingBack.{before_asking, clearance_given, label_fails, label_given, label_then}
use Rattle.histar_wrap.proofs.Scratching.{own_of}
use Rattle.histar_wrap.proofs.scratch.restore.Given as given
use Rattle.histar_wrap.proofs.scratch.restore.Goals.{After-set_label}
use Rattle.histar_wrap.proofs.scratch.restore.Goals as goal

-- the label that the wrapper had was given, or that stopped the call
label_back : (g : given.Over) (c : After-set_label g) (result : Result (Unit {0}) CallError) → result ≡ stopping c.set_label.result
    → RunsPart g.H.Heap.Refused (ask_or_stop (SetLabel c.args.wrapper.now.own)) c.args.kernel.now c.set_label.new.self
    c.args.wrapper.now.thread result
label_back g c = label_given _ _ _ _ _ c.in_ok-copy.ensures.ok _ c.set_label.ensures.ok c.set_label.ensures.memory

pub returns-in_err-copy : goal.returns-in_err-copy
returns-in_err-copy g c =
    fails_so _ _ _ _ _ _ c.from_residual.ensures.1
    (label_fails _ _ _ (own_of c.args.wrapper.now) _ (before_asking c.args.wrapper.now.thread (SetLabel c.args.wrapper.now.own) c.args.kernel.now
    c.in_err-copy.ensures.memory))

pub returns-in_err-stopping : goal.returns-in_err-stopping
returns-in_err-stopping g c =
    fails_so _ _ _ _ _ _ c.from_residual-in_err-stopping.ensures.1 (label_fails _ _ _ (own_of c.args.wrapper.now) _
    (label_back g (goal.at.returns-in_err-stopping g c).After-set_label _ c.in_err-stopping.ensures))

pub returns-in_err-copy-2 : goal.returns-in_err-copy-2
returns-in_err-copy-2 g c =
    fails_so _ _ _ _ _ _ c.from_residual-in_err-copy-2.ensures.1 (label_then _ _ _ (own_of c.args.wrapper.now) _
    (label_back g (goal.at.returns-in_err-copy-2 g c).After-set_label (Ok tt) c.in_ok-stopping.ensures) _
    (before_asking c.args.wrapper.now.thread (SetClearance c.args.wrapper.now.clearance) c.set_label.new.self
    c.in_err-copy-2.ensures.memory))

pub returns : goal.returns
returns g c =
    label_then _ _ _ (own_of c.args.wrapper.now) _ (label_back g (goal.at.returns g c).After-set_label (Ok tt) c.in_ok-stopping.ensures) _
    (clearance_given _ _ _ _ _ c.in_ok-copy-2.ensures.ok _ c.set_clearance.ensures.ok c.set_clearance.ensures.memory _ c.stopping-2.ensures)
