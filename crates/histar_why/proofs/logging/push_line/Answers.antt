-- Proves the goals of `push_line` of src/logging.rt that the search leaves open.
use Rattle.histar_why.proofs.Lines.{line_added}
use Rattle.histar_why.proofs.logging.push_line.Goals as goal

pub returns-clause-text : goal.returns-clause-text
returns-clause-text g c =
    line_added c.args.machine.now c.args.log.now.births.items c.args.asked.now c.args.reply.now c.extend_from_slice.result
    c.users.result.now c.roots.result.now c.kernel.result.now c.as_slice.result.now c.users.ensures c.roots.ensures c.kernel.ensures
    c.as_slice.ensures.value c.args.log.now.text.items _ _ _ c.in_ok-push_head.ensures c.in_ok-push_words.ensures
    c.extend_from_slice.ensures.items
