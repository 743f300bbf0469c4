-- The lines of a trace, one after another.
use Rattle.std.proofs.Common.{◌≡◌, ℕ, ◌+◌, ◌<◌, List, [], ◌∷◌, ◌++◌, sym, ap}
use Rattle.std.proofs.Common.{◌∙◌, append-nil, append_assoc, get_or, length, take}
use Rattle.std.proofs.lemmas.List.{take_more}
use Rattle.std.proofs.lemmas.List.Concat.{flat_map-append}
use Rattle.std.proofs.lemmas.Option.{get_or_from_slice_get, slice_get_within}
use Rattle.histar_trace.specs.declared.entries.TraceEntry.{TraceEntry}
use Rattle.histar_rawtext.specs.RawText.{trace_line, trace_text}
use Rattle.histar_attack.specs.Answering.{AddsEntry}

-- the lines of the first entries, with one more
with_this : (entries : List TraceEntry) (k : ℕ) (e : TraceEntry) → k < length entries → get_or entries k e ≡ e
    → trace_text (take (k + 1) entries) ≡ trace_text (take k entries) ++ trace_line e
with_this entries k e within is =
    ap trace_text (take_more entries k e within) ∙ flat_map-append trace_line (take k entries) (get_or entries k e ∷ [])
    ∙ ap (λ (l : List ℕ). trace_text (take k entries) ++ l) (append-nil (trace_line (get_or entries k e)) ∙ ap trace_line is)

-- one more line was added
pub entry_more : (entries : List TraceEntry) (k : ℕ) (first before after : List ℕ) → before ≡ first ++ trace_text (take k entries)
    → AddsEntry entries k before after → after ≡ first ++ trace_text (take (k + 1) entries)
entry_more entries k first before after so_far adds =
    adds.2 ∙ ap (λ (t : List ℕ). t ++ trace_line adds.0) so_far ∙ append_assoc first (trace_text (take k entries)) (trace_line adds.0)
    ∙ ap (λ (t : List ℕ). first ++ t) (sym (with_this entries k adds.0 (slice_get_within entries k adds.0 adds.1)
    (get_or_from_slice_get entries k adds.0 adds.0 adds.1)))
