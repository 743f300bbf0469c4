-- Proves the goals of `+push_process` of src/processes.rt that the search leaves open.
use Rattle.std.proofs.Common.{◌≡◌, Ok, Err, length, arith, sym, ap, ◌∙◌}
use Rattle.histar_syscall.specs.KernelModel.{state}
use Rattle.histar_readout.specs.declared.process.ProcessError.TheVariants.{NoProcess}
use Rattle.histar_readout.proofs.AddingProcesses.{adds_none, adds_nothing, adds_all, no_level_more, child_more, fails_below, after_node}
use Rattle.histar_readout.proofs.processes.+push_process.Goals as goal

pub births-init : goal.births-init
births-init g t c =
    adds_none c.args.users.now (state c.args.kernel.now) c.args.found.now.name c.args.found.now.home.segment
    c.in_ok-node.node.born c.push.new.list.items

pub births-preserved-in_default : goal.births-preserved-in_default
births-preserved-in_default g t c =
    adds_nothing c.args.users.now (state c.args.kernel.now) c.args.found.now.name c.args.found.now.home.segment
    c.in_ok-node.node.born c.births.births c.push.new.list.items c.births.processes.items c.births.processes.items
    c.births-test.true c.births.invariant
    (sym c.child_of.ensures ∙ c.in_default.is)

pub returns-then-numbers-eq-MOST_NUMBERS-clause-adds : goal.returns-then-numbers-eq-MOST_NUMBERS-clause-adds
returns-then-numbers-eq-MOST_NUMBERS-clause-adds g t c =
    let s = state c.args.kernel.now in
    after_node c.args.users.now s c.args.found.now.name c.args.found.now.home c.in_ok-node.node c.in_ok-node.ensures.reads c.args.processes.now.items
    c.push.new.list.items
    c.births.processes.items c.in_ok-push.ensures.items (Err NoProcess)
    (no_level_more c.args.users.now s c.args.found.now.name c.args.found.now.home.segment c.in_ok-node.node.born c.births.births c.push.new.list.items
    c.births.processes.items
    c.births.processes.items c.births-test.true c.births.invariant c.in-Some.child
    (sym c.child_of.ensures ∙ c.in-Some.is)
    (sym (ap length c.numbers.ensures.value) ∙ c.if-numbers-eq-MOST_NUMBERS.true))

pub returns-in_err-push_process-clause-adds : goal.returns-in_err-push_process-clause-adds
returns-in_err-push_process-clause-adds g t c =
    let s = state c.args.kernel.now in
    after_node c.args.users.now s c.args.found.now.name c.args.found.now.home c.in_ok-node.node c.in_ok-node.ensures.reads c.args.processes.now.items
    c.push.new.list.items
    c.push_process.new.processes.items c.in_ok-push.ensures.items c.from_residual-in_err-push_process.result
    (fails_below c.args.users.now s c.args.found.now.name c.args.found.now.home.segment c.in_ok-node.node.born c.births.births c.push.new.list.items
    c.births.processes.items
    c.push_process.new.processes.items c.births-test.true c.births.invariant c.in-Some.child
    (sym c.child_of.ensures ∙ c.in-Some.is)
    c.requires (λ e. c.if-numbers-eq-MOST_NUMBERS.false (ap length c.numbers.ensures.value ∙ e)) c.child.result
    c.home_of.result c.child.ensures c.home_of.ensures
    c.in_err-push_process.field-0.0 c.from_residual-in_err-push_process.result
    c.from_residual-in_err-push_process.ensures.1 c.in_err-push_process.ensures.adds)

pub births-preserved : goal.births-preserved
births-preserved g t c =
    child_more c.args.users.now (state c.args.kernel.now) c.args.found.now.name c.args.found.now.home.segment
    c.in_ok-node.node.born c.births.births c.push.new.list.items c.births.processes.items
    c.push_process.new.processes.items c.births-test.true c.births.invariant
    c.in-Some.child (sym c.child_of.ensures ∙ c.in-Some.is)
    c.requires (λ e. c.if-numbers-eq-MOST_NUMBERS.false (ap length c.numbers.ensures.value ∙ e)) c.child.result
    c.home_of.result c.child.ensures c.home_of.ensures
    c.in_ok-push_process.ensures.adds

pub returns-clause-adds : goal.returns-clause-adds
returns-clause-adds g t c =
    let s = state c.args.kernel.now in
    let last : c.births.births ≡ c.in_ok-node.node.born = omega arith in
    after_node c.args.users.now s c.args.found.now.name c.args.found.now.home c.in_ok-node.node c.in_ok-node.ensures.reads c.args.processes.now.items
    c.push.new.list.items
    c.births.processes.items c.in_ok-push.ensures.items (Ok tt)
    (adds_all c.args.users.now s c.args.found.now.name c.args.found.now.home.segment c.in_ok-node.node.born c.births.births c.push.new.list.items
    c.births.processes.items last c.births.invariant)
