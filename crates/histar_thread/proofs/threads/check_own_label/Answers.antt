-- Proves the goals of `check_own_label` of src/threads.rt that the search leaves open.
use Rattle.std.proofs.Common.{refl}
use Rattle.histar_thread.proofs.threads.check_own_label.Goals as goal

pub returns-in-Some-clause-ok : goal.returns-in-Some-clause-ok
returns-in-Some-clause-ok g c =
    let own = c.in-Some.field-0 in
    rw c.in-Some.ensures (refl, refl, ((own.0.now, own.1.now), (refl, refl)))
