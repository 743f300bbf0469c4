-- Proves the goal of `event_of` of src/notes.rt that the search leaves open.
use Rattle.std.proofs.Common.{sym, ◌∙◌}
use Rattle.std.proofs.lemmas.Result.{IfOk-weaker}
use Rattle.histar_policy.specs.Answers.{IsEvent, IsWroteEvent}
use Rattle.histar_policy.specs.Notes.{event_by}
use Rattle.histar_policy.proofs.notes.event_of.Goals as goal

pub returns-in-Done-Writes : goal.returns-in-Done-Writes
returns-in-Done-Writes g c =
    let m = c.args.machine.now in
    let me = c.args.process.now in
    IfOk-weaker c.wrote_event.result (IsWroteEvent m me c.in-Done-Writes.path) (IsEvent m me c.args.asked.now c.args.reply.now)
    (λ event is accounts f shows.
    is accounts f shows ∙ sym (λ i. event_by accounts f me (c.in-Done-Writes.is-1 i) (c.in-Done-Writes.is-0 i)))
    c.wrote_event.ensures
