-- Proves the goals of `write_bytes` of src/output.rt that the search leaves open.
use Rattle.std.proofs.Common.{◌≡◌, refl, length, rules}
use Rattle.histar_io.proofs.WritingLemmas.{sent_none, sent_more, sent_kept, sent_all}
use Rattle.histar_io.proofs.output.write_bytes.Goals as goal

pub rest-init : goal.rest-init
rest-init g c = record { sent = sent_none _ _; count = refl }

pub returns-in-Ok-eq0-clause-err : goal.returns-in-Ok-eq0-clause-err
returns-in-Ok-eq0-clause-err g c = (_, sent_more _ _ _ _ _ c.in-Ok-eq0.field-0 c.rest.invariant.sent c.in-Ok-eq0.ensures.bytes)

pub rest-preserved : goal.rest-preserved
rest-preserved g c = record { sent = sent_more _ _ _ _ _ c.in-Ok.n c.rest.invariant.sent c.in-Ok.ensures.bytes; count = search rules }

pub returns-in-Err-clause-err : goal.returns-in-Err-clause-err
returns-in-Err-clause-err g c = (_, sent_kept _ _ _ _ _ c.rest.invariant.sent c.in-Err.ensures.bytes)

pub returns-clause-ok : goal.returns-clause-ok
returns-clause-ok g c = let none : length c.rest.rest.now ≡ 0 = search rules in sent_all _ _ _ _ c.rest.invariant.sent none
