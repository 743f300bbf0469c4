-- Proves the goals of `label_in` of src/linked.rt that the search leaves open.
use Rattle.std.proofs.Common.{Option, sym, subst}
use Rattle.histar_rules.specs.declared.raw.Denied.{Denied}
use Rattle.histar_rules.specs.Rules.{FailsAt}
use Rattle.histar_rules.proofs.LinkedObjects.{label_found}
use Rattle.histar_rules.proofs.linked.label_in.Goals as goal

pub returns-clause-answer : goal.returns-clause-answer
returns-clause-answer g c =
    subst (λ (f : Option Denied). FailsAt f c.label_unless_thread.result)
    (sym (label_found (g.S.LabelStore.labels c.args.store.now) c.args.table.now c.args.access.now.thread c.args.access.now.container
    c.args.access.now.object c.in_ok-linked_in.ensures.answer)) c.label_unless_thread.ensures.answer
