-- Proves the goals of `ask_rights` of src/questions.rt that the search leaves open.
use Rattle.histar_test.proofs.RunLemmas.{asked_so}
use Rattle.histar_test.proofs.questions.ask_rights.Goals as goal

pub returns : goal.returns
returns c =
    asked_so c.args.machine.now c.args.question c.rights_of-rights.result c.path-asked.result c.in_ok-reply.reply
    c.in_ok-wanted.wanted c.path-asked.ensures
    c.rights_of-rights.ensures c.in_ok-reply.ensures c.in_ok-wanted.ensures
