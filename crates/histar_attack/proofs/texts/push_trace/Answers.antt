-- Proves the goals of `push_trace` of src/texts.rt that the search leaves open.
use Rattle.histar_attack.proofs.TracedLines.{entry_more}
use Rattle.histar_attack.proofs.texts.push_trace.Goals as goal

pub lines-preserved : goal.lines-preserved
lines-preserved c =
    entry_more c.args.trace.now.entries c.lines.at c.args.text.now.items c.lines.text.items c.push_entry.new.text.items c.lines.invariant
    c.in_ok-push_entry.ensures
