-- Proves the goals of `converse_on` of src/dialogue.rt that the search leaves open.
use Rattle.histar_dialogue.proofs.Talking.{left_on}
use Rattle.histar_dialogue.proofs.dialogue.converse_on.Goals as goal

pub returns-in-Err-OutOfMemory-clause-talks : goal.returns-in-Err-OutOfMemory-clause-talks
returns-in-Err-OutOfMemory-clause-talks g c =
    left_on _ _ _ _ _ (g.W.Sink.written c.talk.new.writer) _ c.talk.new.session.text.items _ c.in-Err-OutOfMemory.field-0 c.leave.result
    c.in-Err-OutOfMemory.field-0-is c.in-Err-OutOfMemory.ensures.talks c.leave.ensures.text
