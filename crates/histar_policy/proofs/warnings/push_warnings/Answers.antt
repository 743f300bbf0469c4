-- Proves the goal of `push_warnings` of src/warnings.rt that the search leaves open.
use Rattle.std.proofs.lemmas.Result.{on_ok_weaker}
use Rattle.histar_policy.proofs.Said.{both_added}
use Rattle.histar_policy.proofs.warnings.push_warnings.Goals as goal

pub returns : goal.returns
returns c =
    on_ok_weaker c.push_line-2.result
    (both_added c.args.known.now c.args.file.now c.args.note.now _ _ c.args.text.now.items c.push_line.new.text.items
    c.push_line-2.new.text.items c.in_ok-said.ensures c.in_ok-push_line.ensures c.in_ok-on_writing.ensures)
    c.push_line-2.ensures
