-- Proves the goals of `Trace::entry` of src/trace.rt that the search leaves open.
use Rattle.std.proofs.Common.{ℕ, ◌<◌, refl, sym, subst, ap, ◌∙◌, length}
use Rattle.std.specs.List.{slice_get}
use Rattle.std.proofs.lemmas.List.{length-map}
use Rattle.std.proofs.lemmas.Option.{slice_get_read}
use Rattle.histar_trace.specs.Stored.{call_of}
use Rattle.histar_trace.specs.Traces.{TraceModel}
use Rattle.histar_trace.proofs.Staying.{entry_at}
use Rattle.histar_trace.proofs.trace.Trace.entry.Goals as goal

pub returns-clause-ok : goal.returns-clause-ok
returns-clause-ok g c =
    let labels = c.self.inside.labels in
    let bytes = c.self.inside.bytes.items in
    let es = c.self.inside.entries.items in
    let e = c.index-stored.result.now in
    let within : c.args.at < length es = subst (λ (n : ℕ). c.args.at < n) (ap (λ (t : TraceModel). length t.entries) (sym c.self.view_is) ∙ length-map
    es _) c.requires in
    ap (λ (t : TraceModel). slice_get t.entries c.args.at) (sym c.self.view_is)
    ∙ entry_at labels bytes es c.args.at e c.in_ok-call.field-0 (slice_get_read es (length es) c.args.at e refl within c.index-stored.ensures)
    (c.in_ok-call.ensures.ok ∙ ap (λ (t : TraceModel). call_of t.labels t.bytes e.call) (sym c.self.view_is))
