-- Proves the goals of `make_call` of src/session.rt that the search leaves open.
use Rattle.std.proofs.Common.{None, Some, Err, ap, subst}
use Rattle.histar_rules.specs.declared.raw.Refusal.{Refusal}
use Rattle.histar_syscall.specs.Answers.{IsAnswerValue}
use Rattle.histar_syscall.specs.KernelModel.{state, AnsweredAs}
use Rattle.histar_raw_session.proofs.CallsAnswered.{granted, denied, made_on_line}
use Rattle.histar_raw_session.proofs.session.make_call.Goals as goal

pub returns-in-Ok-clause-prints : goal.returns-in-Ok-clause-prints
returns-in-Ok-clause-prints g c =
    granted (state c.args.kernel.now) c.begin.new.self c.call.new.self c.args.asked c.in-Ok.answer (λ line. line.items)
    c.answer_line.result (ap state c.begin.ensures) c.in-Ok.ensures.answered.0 c.in-Ok.ensures.answered.1
    c.answer_line.ensures.ok

pub returns-in-Ok-clause-made : goal.returns-in-Ok-clause-made
returns-in-Ok-clause-made g c =
    made_on_line c.args.kernel.now c.begin.new.self c.call.new.self c.args.asked None c.answer_line.result
    c.begin.ensures c.in-Ok.ensures.answered.0

pub returns-in-Err-Denied-clause-prints : goal.returns-in-Err-Denied-clause-prints
returns-in-Err-Denied-clause-prints g c =
    let called =
    subst (λ (refusal : Refusal). AnsweredAs c.begin.new.self c.call.new.self c.args.asked.thread c.args.asked.call (Err refusal)
    (λ revealed. IsAnswerValue (state c.begin.new.self) c.args.asked.thread c.args.asked.call revealed)) c.in-Err-Denied.field-0-is
    c.in-Err-Denied.ensures.answered in
    denied (state c.args.kernel.now) c.begin.new.self c.call.new.self c.args.asked c.in-Err-Denied.denied (λ line. line.items)
    c.denial_line.result (ap state c.begin.ensures) called c.denial_line.ensures.ok

pub returns-in-Err-Denied-clause-made : goal.returns-in-Err-Denied-clause-made
returns-in-Err-Denied-clause-made g c =
    let called =
    subst (λ (refusal : Refusal). AnsweredAs c.begin.new.self c.call.new.self c.args.asked.thread c.args.asked.call (Err refusal)
    (λ revealed. IsAnswerValue (state c.begin.new.self) c.args.asked.thread c.args.asked.call revealed)) c.in-Err-Denied.field-0-is
    c.in-Err-Denied.ensures.answered in
    made_on_line c.args.kernel.now c.begin.new.self c.call.new.self c.args.asked (Some c.in-Err-Denied.denied) c.denial_line.result c.begin.ensures
    called
