-- Proves the goals of `answer_call` of src/whole.rt that the search leaves open.
use Rattle.histar_shell.proofs.WantingMemory.{line_shows, line_wants}
use Rattle.histar_comparison.proofs.whole.answer_call.Goals as goal

pub returns-clause-ok : goal.returns-clause-ok
returns-clause-ok g c = record { reply = c.in-Ok.reply; answered = c.in-Ok.ensures.answers; kept = c.in_ok-push.ensures.items }

pub returns-clause-shows : goal.returns-clause-shows
returns-clause-shows g c =
    line_shows g.H.Heap.Refused _ _ c.args.call.line c.args.call.process c.args.call.call _ c.in-Ok.reply c.in-Ok.is
    c.step.ensures.answers c.step.ensures.means

pub returns-in_default-clause-memory : goal.returns-in_default-clause-memory
returns-in_default-clause-memory g c =
    line_wants _ _ c.args.call.line c.args.call.process c.args.call.call _ c.in_default.field-0 c.in_default.is c.step.ensures.means
