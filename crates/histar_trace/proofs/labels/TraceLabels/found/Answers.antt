-- Proves the goals of `TraceLabels::found` of src/labels.rt that the search leaves open.
use Rattle.std.proofs.Common.{Some, sym, ap, ◌∙◌}
use Rattle.std.specs.List.{slice_get}
use Rattle.std.proofs.lemmas.Option.{slice_get-get_or}
use Rattle.histar_trace.proofs.KeptLabels.{found_kept}
use Rattle.histar_trace.proofs.labels.TraceLabels.found.Goals as goal

pub returns-then-eq-2 : goal.returns-then-eq-2
returns-then-eq-2 c =
    let id = c.in_ok-id.field-0.now in
    let ks = c.self.inside.labels.items in
    let k = c.in_ok-kept.kept.now in
    let looked = rw c.deref-2.ensures.value at c.in_ok-kept.ensures.lookup in
    let there = slice_get-get_or ks id k (looked.3).0 ∙ ap Some (sym ((looked.3).1 k)) in
    let default = rw c.default_level.ensures.value at c.if-eq.ensures in
    let exceptions = rw (c.exceptions.ensures.value, c.deref-3.ensures.value) at c.if-eq-2.ensures in
    ap (λ labels. slice_get labels id) (sym c.self.view_is)
    ∙ found_kept c.self.inside.exceptions.items ks id k c.args.label.now c.self.invariant there default exceptions
