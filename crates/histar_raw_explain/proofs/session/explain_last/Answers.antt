-- Proves the goals of `explain_last` of src/session.rt that the search leaves open.
use Rattle.std.proofs.Common.{◌≡◌, ℕ, ◌-◌, length, Some, sym, ap, ◌∙◌}
use Rattle.std.specs.List.{slice_get}
use Rattle.histar_raw_explain.proofs.CallsExplained.{last_explained}
use Rattle.histar_raw_explain.proofs.session.explain_last.Goals as goal

pub returns : goal.returns
returns g c =
    let S = c.trace-trace.result.now.entries in
    let e = c.in_ok-entry.entry in
    let is : Some e ≡ slice_get S (length S - 1) = sym c.in_ok-entry.ensures.ok ∙ ap (λ (n : ℕ). slice_get S (n - 1)) c.len.ensures in
    last_explained c.args.kernel.now S e c.trace-trace.ensures is c.explain_entry-lines.result c.explain_entry-lines.ensures
