-- Proves the goals of `answer_and_log` of src/session.rt that the search leaves open.
use Rattle.std.proofs.Common.{ap, ◌∙◌}
use Rattle.histar_flat.specs.Words.{ProcName}
use Rattle.histar_syscall.specs.KernelModel.{state}
use Rattle.histar_names.specs.Births.{births_after}
use Rattle.histar_raw_explain.proofs.Errors.{on_err}
use Rattle.histar_why.proofs.Turns.{answer_begins}
use Rattle.histar_why.proofs.session.answer_and_log.Goals as goal

pub returns-in_err-log_call-clause-err : goal.returns-in_err-log_call-clause-err
returns-in_err-log_call-clause-err g c = on_err _ _ (answer_begins _ _ _ _ c.args.call _ c.in_ok-reply.ensures.ok)

pub returns-clause-ok : goal.returns-clause-ok
returns-clause-ok g c = record {
  reply = c.in_ok-reply.reply;
  answers = c.in_ok-reply.ensures.ok;
  births =
      c.in_ok-log_call.ensures.births
      ∙ ap (λ (me : ProcName). births_after (state c.answer.new.machine.kernel) c.answer.new.machine.roots me c.args.log.now.births.items)
      c.asked_of-asked.ensures.by;
  asked = c.asked_of-asked.result;
  is_asked = c.asked_of-asked.ensures;
  text = c.in_ok-log_call.ensures.text;
}
