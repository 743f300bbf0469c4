-- Proves the goals of `answer_with_reason` of src/answering.rt that the search leaves open.
use Rattle.std.proofs.Common.{None, ap, ◌∙◌}
use Rattle.histar_flat.specs.Words.{ProcName}
use Rattle.histar_syscall.specs.KernelModel.{state}
use Rattle.histar_names.specs.Births.{births_after}
use Rattle.histar_why.specs.Session.{LogsCall}
use Rattle.histar_why.proofs.ReasonedCalls.{answers_so}
use Rattle.histar_why.proofs.answering.answer_with_reason.Goals as goal

pub returns-clause-ok : goal.returns-clause-ok
returns-clause-ok g c =
    let one : LogsCall c.args.machine.now c.step.new.self None None c.args.call c.args.log.now c.log_call.new.log = record {
      reply = c.in-Ok.reply;
      answers = record { is_call = c.each_call_is_right.ensures; answered = c.in-Ok.ensures.answers; written = tt };
      births =
          c.in_ok-log_call.ensures.births
          ∙ ap (λ (me : ProcName). births_after (state c.step.new.self.kernel) c.step.new.self.roots me c.args.log.now.births.items)
          c.asked_of-asked.ensures.by;
      asked = c.asked_of-asked.result;
      is_asked = c.asked_of-asked.ensures;
      text = c.in_ok-log_call.ensures.text;
    } in
    answers_so c.args.machine.now c.step.new.self c.args.call c.args.log.now c.log_call.new.log one c.set_reply_line.new.line.items
    c.in_ok-set_reply_line.ensures.ok
