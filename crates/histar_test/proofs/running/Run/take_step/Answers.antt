-- Proves the goals of `Run::take_step` of src/running.rt that the search leaves open.
use Rattle.std.proofs.Common.{OnErr, OnOk, subst, sym}
use Rattle.histar_test.specs.declared.steps.Step.{Step}
use Rattle.histar_test.specs.Running.{BeginsStep, TakesStep, WritesStep}
use Rattle.histar_test.proofs.RunLemmas.{claim_taken}
use Rattle.histar_test.proofs.running.Run.take_step.Goals as goal

pub returns-in-Makes-clause-ok : goal.returns-in-Makes-clause-ok
returns-in-Makes-clause-ok g c =
    subst (λ (s : Step). OnOk c.call_next.result (TakesStep c.args.self.now c.call_next.new.self s))
    (sym c.in-Makes.is) c.call_next.ensures.ok

pub returns-in-Makes-clause-written : goal.returns-in-Makes-clause-written
returns-in-Makes-clause-written g c =
    let Written : Step → Type 0 = λ s. OnOk c.call_next.result
    (WritesStep c.args.file.now c.args.self.now s (g.W.Sink.written c.args.writer.now) (g.W.Sink.written c.call_next.new.writer)) in
    subst Written (sym c.in-Makes.is) c.call_next.ensures.written

pub returns-in-Makes-clause-err : goal.returns-in-Makes-clause-err
returns-in-Makes-clause-err g c =
    let Begun : Step → Type 0 = λ s. OnErr c.call_next.result
    (BeginsStep c.args.file.now c.args.self.now s (g.W.Sink.written c.args.writer.now) (g.W.Sink.written c.call_next.new.writer)) in
    subst Begun (sym c.in-Makes.is) c.call_next.ensures.err

pub returns-in-Expects-clause-ok : goal.returns-in-Expects-clause-ok
returns-in-Expects-clause-ok g c =
    subst (λ (s : Step). OnOk c.check_reply.result (TakesStep c.args.self.now c.check_reply.new.self s))
    (sym c.in-Expects.is) c.check_reply.ensures.ok

pub returns-in-Expects-clause-written : goal.returns-in-Expects-clause-written
returns-in-Expects-clause-written g c =
    let Written : Step → Type 0 = λ s. OnOk c.check_reply.result
    (WritesStep c.args.file.now c.args.self.now s (g.W.Sink.written c.args.writer.now) (g.W.Sink.written c.check_reply.new.writer)) in
    subst Written (sym c.in-Expects.is) c.check_reply.ensures.written

pub returns-in-Expects-clause-err : goal.returns-in-Expects-clause-err
returns-in-Expects-clause-err g c =
    let Begun : Step → Type 0 = λ s. OnErr c.check_reply.result
    (BeginsStep c.args.file.now c.args.self.now s (g.W.Sink.written c.args.writer.now) (g.W.Sink.written c.check_reply.new.writer)) in
    subst Begun (sym c.in-Expects.is) c.check_reply.ensures.err

pub returns-in-Asks-clause-ok : goal.returns-in-Asks-clause-ok
returns-in-Asks-clause-ok g c =
    subst (λ (s : Step). OnOk c.check_asked.result (TakesStep c.args.self.now c.check_asked.new.self s))
    (sym c.in-Asks.is) c.check_asked.ensures.ok

pub returns-in-Asks-clause-err : goal.returns-in-Asks-clause-err
returns-in-Asks-clause-err g c =
    let Begun : Step → Type 0 = λ s. OnErr c.check_asked.result
    (BeginsStep c.args.file.now c.args.self.now s (g.W.Sink.written c.args.writer.now) (g.W.Sink.written c.check_asked.new.writer)) in
    subst Begun (sym c.in-Asks.is) c.check_asked.ensures.err

pub returns-clause-ok : goal.returns-clause-ok
returns-clause-ok g c = subst (TakesStep c.args.self.now c.args.self.now) (sym c.in-Forbids.is) (claim_taken c.args.self.now _)
