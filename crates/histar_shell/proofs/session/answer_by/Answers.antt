-- Proves the goals of `answer_by` of src/session.rt that the search leaves open.
use Rattle.std.proofs.Common.{Result, subst}
use Rattle.std.proofs.lemmas.Result.{err_from_is_err_and}
use Rattle.histar_programs.specs.declared.call_error.Stopped.{Stopped}
use Rattle.histar_flat.specs.declared.replies.Reply.{Reply}
use Rattle.histar_shell.specs.Machine.{AnswersLine}
use Rattle.histar_shell.proofs.WantingMemory.{line_shows, line_wants}
use Rattle.histar_shell.proofs.AnswerLemmas.{answers_written, begins_unanswered, begins_unwritten, begins_written}
use Rattle.histar_shell.proofs.session.answer_by.Goals as goal

pub returns-clause-ok : goal.returns-clause-ok
returns-clause-ok g c =
    let answered =
    subst (λ (r : Result Reply Stopped).
    AnswersLine c.args.machine.now c.step.new.self c.args.call.line c.args.call.process c.args.call.call r)
    c.in-Ok.is c.step.ensures.answers in
    answers_written _ _ _ _ c.args.call c.in-Ok.reply c.set_reply_line-made.new.line.items c.as_slice.result.now answered
    (rw c.in_ok-made.was at c.set_reply_line-made.ensures.ok) c.as_slice.ensures.value c.in_ok-write_bytes.ensures.ok

pub returns-in_err-write_bytes-clause-err : goal.returns-in_err-write_bytes-clause-err
returns-in_err-write_bytes-clause-err g c =
    let p = err_from_is_err_and c.from_residual-in_err-write_bytes.result c.from_residual-in_err-write_bytes.ensures.1 in
    let answered =
    subst (λ (r : Result Reply Stopped).
    AnswersLine c.args.machine.now c.step.new.self c.args.call.line c.args.call.process c.args.call.call r)
    c.in-Ok.is c.step.ensures.answers in
    rw p.1 (begins_written _ _ _ _ c.args.call c.in-Ok.reply c.set_reply_line-made.new.line.items c.as_slice.result.now answered
    (rw c.in_ok-made.was at c.set_reply_line-made.ensures.ok) c.as_slice.ensures.value c.in_err-write_bytes.ensures.err)

pub returns-in_default-clause-err : goal.returns-in_default-clause-err
returns-in_default-clause-err g c =
    let answered =
    subst (λ (r : Result Reply Stopped).
    AnswersLine c.args.machine.now c.step.new.self c.args.call.line c.args.call.process c.args.call.call r)
    c.in_default.is c.step.ensures.answers in
    begins_unanswered _ _ _ c.args.call c.in_default.field-0 answered

pub returns-in_err-made-clause-err : goal.returns-in_err-made-clause-err
returns-in_err-made-clause-err g c =
    let p = err_from_is_err_and c.from_residual.result c.from_residual.ensures.1 in
    let answered =
    subst (λ (r : Result Reply Stopped).
    AnswersLine c.args.machine.now c.step.new.self c.args.call.line c.args.call.process c.args.call.call r)
    c.in-Ok.is c.step.ensures.answers in
    rw p.1 (begins_unwritten _ _ _ c.args.call c.in-Ok.reply answered)

pub returns-in_default-clause-memory : goal.returns-in_default-clause-memory
returns-in_default-clause-memory g c =
    line_wants _ _ c.args.call.line c.args.call.process c.args.call.call _ c.in_default.field-0 c.in_default.is c.step.ensures.means

pub returns-clause-shows : goal.returns-clause-shows
returns-clause-shows g c =
    line_shows g.H.Heap.Refused _ _ c.args.call.line c.args.call.process c.args.call.call _ c.in-Ok.reply c.in-Ok.is
    c.step.ensures.answers c.step.ensures.means
