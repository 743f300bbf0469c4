-- Proves the goals of `Machine::step` of src/machine.rt that the search leaves open.
use Rattle.std.proofs.Common.{◌≡◌, None, Some, Ok, refl, sym, ◌∙◌, subst}
use Rattle.histar_flat.specs.declared.replies.Reply.TheVariants.{Gone}
use Rattle.histar_programs.specs.Caller.{caller_at}
use Rattle.histar_shell.specs.Machine.{MachineModel, on_line, Makes, AnswersLine}
use Rattle.histar_syscall.specs.KernelModel.{KernelModel, state}
use Rattle.histar_shell.proofs.Lines.{gone_line, line_anyway, step_made}
use Rattle.histar_shell.proofs.CallRefinements.{calls_refine}
use Rattle.histar_shell.proofs.LineMeanings.{line_follows, line_follows_by}
use Rattle.histar_shell.proofs.TraceRuns.{traced_on}
use Rattle.histar_shell.proofs.machine.Machine.step.Goals as goal

-- the trace stays a run from the empty kernel
pub invariant_of-self : goal.invariant_of-self
invariant_of-self g c =
    let made =
    subst (λ (k : KernelModel). Makes g.H.Heap.Refused c.self.inside.users c.self.inside.roots c.args.process.now c.in-Some.caller k
    c.make-outcome.new.kernel c.args.call c.settle-result.result) c.begin.ensures (rw c.settle-result.ensures c.make-outcome.ensures) in
    traced_on c.self.inside.users c.self.inside.roots c.args.process.now c.in-Some.caller
    (on_line c.args.line c.self.inside.kernel) c.make-outcome.new.kernel c.args.call c.settle-result.result
    c.self.invariant made

-- for a process that is not found the answer is `gone`
pub returns-in_default-clause-answers : goal.returns-in_default-clause-answers
returns-in_default-clause-answers g c =
    let before : MachineModel =
    record {
      kernel = c.self.inside.kernel;
      roots = c.self.inside.roots;
      users = c.self.inside.users;
      is_stopped = c.self.inside.is_stopped;
    } in
    let lost : caller_at (state c.self.inside.kernel) c.self.inside.roots.home c.args.process.now ≡ None =
    sym c.find_caller.ensures ∙ c.in_default.is in
    subst (λ (m : MachineModel). AnswersLine m m c.args.line c.args.process.now c.args.call (Ok Gone)) c.self.view_is
    (gone_line (Unit {0}) before c.args.line c.args.process.now c.args.call c.if-self.false lost)

pub returns-in_default-clause-means : goal.returns-in_default-clause-means
returns-in_default-clause-means g c accounts f shows =
    line_follows calls_refine c.args.self.now c.args.self.now c.args.line c.args.process.now c.args.call (Ok Gone)
    c.each_call_is_right.ensures (returns-in_default-clause-answers g c) accounts f shows

-- for a process that is found the call is made
pub returns-clause-answers : goal.returns-clause-answers
returns-clause-answers g c =
    line_anyway g.H.Heap.Refused _ _ c.args.line c.args.process.now c.args.call _
    (step_made c.args.self.now c.self.inside.kernel c.make-outcome.new.kernel c.self.inside.roots c.self.inside.users c.self.inside.is_stopped
    c.is_err-self-inside.result c.args.line c.args.process.now c.in-Some.caller c.args.call c.settle-result.result c.self.view_is c.if-self.false
    (sym c.find_caller.ensures ∙ c.in-Some.is)
    (subst (λ (k : KernelModel). Makes g.H.Heap.Refused c.self.inside.users c.self.inside.roots c.args.process.now c.in-Some.caller k
    c.make-outcome.new.kernel c.args.call c.settle-result.result) c.begin.ensures (rw c.settle-result.ensures c.make-outcome.ensures))
    c.is_err-self-inside.ensures.value)

pub returns-clause-means : goal.returns-clause-means
returns-clause-means g c =
    line_follows_by g.H.Heap.Refused _ _ c.args.line c.args.process.now c.args.call _ c.each_call_is_right.ensures
    (invariant_of-self g c) c.entries_are_counted.ensures
    (step_made c.args.self.now c.self.inside.kernel c.make-outcome.new.kernel c.self.inside.roots c.self.inside.users c.self.inside.is_stopped
    c.is_err-self-inside.result c.args.line c.args.process.now c.in-Some.caller c.args.call c.settle-result.result c.self.view_is c.if-self.false
    (sym c.find_caller.ensures ∙ c.in-Some.is)
    (subst (λ (k : KernelModel). Makes g.H.Heap.Refused c.self.inside.users c.self.inside.roots c.args.process.now c.in-Some.caller k
    c.make-outcome.new.kernel c.args.call c.settle-result.result) c.begin.ensures (rw c.settle-result.ensures c.make-outcome.ensures))
    c.is_err-self-inside.ensures.value)
