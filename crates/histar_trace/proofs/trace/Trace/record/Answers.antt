-- Proves the goals of `Trace::record` of src/trace.rt that the search leaves open.
use Rattle.std.proofs.Common.{sym, subst}
use Rattle.std.proofs.lemmas.List.Elements.{All-push}
use Rattle.histar_trace.specs.Stored.{IsStored}
use Rattle.histar_trace.specs.Traces.{TraceModel}
use Rattle.histar_trace.specs.declared.stored.StoredEntry.{StoredEntry}
use Rattle.histar_trace.proofs.trace.Trace.record.Goals as goal

pub invariant_of-self : goal.invariant_of-self
invariant_of-self g c =
    let labels = c.self.inside.labels in
    let bytes = c.self.inside.bytes.items in
    rw c.push_reserved.ensures.items (All-push (λ (e : StoredEntry). IsStored labels bytes e.call) c.self.inside.entries.items _ c.self.invariant
    (subst (λ (t : TraceModel). IsStored t.labels t.bytes c.args.call) (sym c.self.view_is) c.requires.kept))
