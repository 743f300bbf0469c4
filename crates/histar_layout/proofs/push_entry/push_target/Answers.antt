-- Proves the goals of `push_target` of src/push_entry.rt that the search leaves open.
use Rattle.histar_layout.proofs.WritingLemmas.{target_written}
use Rattle.histar_layout.proofs.push_entry.push_target.Goals as goal

pub returns-clause-written : goal.returns-clause-written
returns-clause-written g c =
    target_written _ _ _ _ _ _ _ _ c.args.target c.letter-letter.ensures c.numbers-object.ensures.value c.to_be_bytes.ensures c.to_be_bytes-2.ensures
    c.in_ok-push.ensures.items c.in_ok-extend.ensures.items c.in_ok-extend-2.ensures.items
