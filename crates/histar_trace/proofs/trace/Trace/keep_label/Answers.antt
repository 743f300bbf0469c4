-- Proves the goals of `Trace::keep_label` of src/trace.rt that the search leaves open.
use Rattle.std.proofs.Common.{ap, ◌∙◌}
use Rattle.histar_trace.specs.Traces.{TraceModel}
use Rattle.histar_trace.proofs.Staying.{more_labels, same_entries}
use Rattle.histar_trace.proofs.trace.Trace.keep_label.Goals as goal

pub returns-clause-entries : goal.returns-clause-entries
returns-clause-entries g c =
    let labels = c.self.inside.labels in
    let bytes = c.self.inside.bytes.items in
    let new = c.keep.new.self in
    same_entries labels bytes new bytes (more_labels labels bytes new c.keep.ensures.keeps)
    c.self.inside.entries.items c.self.invariant
    ∙ ap (λ (t : TraceModel). t.entries) c.self.view_is
