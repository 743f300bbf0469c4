-- Proves the goals of `table_of` of src/session.rt that the search leaves open.
use Rattle.std.specs.Borrow.{Bor}
use Rattle.std.specs.Global.{Vec}
use Rattle.std.specs.Prelude.{◌≡◌, ℕ, List, [], None, Some, Err}
use Rattle.std.proofs.Common.{ap, subst, sym, ◌∙◌}
use Rattle.histar_script.specs.declared.fault.Fault.{Fault}
use Rattle.histar_access.specs.Session.{AccessText}
use Rattle.histar_report.specs.declared.front.Front.{Front}
use Rattle.histar_report.proofs.TableFronts.{front_given}
use Rattle.histar_report.proofs.session.table_of.Goals as goal

pub returns-in-Err-WriteFailed : goal.returns-in-Err-WriteFailed
returns-in-Err-WriteFailed c =
    let failed = c.in-Err-WriteFailed in
    let kept = c.into_kept-in-Err-WriteFailed.result in
    let text_is = ap (λ (b : Bor (List ℕ)). b.now) c.new-reader.ensures.inner in
    let old_is = ap (λ (front : Front). front.kept.items) c.new-writer.ensures.inner ∙ c.new.ensures in
    let kept_is = c.into_kept-in-Err-WriteFailed.ensures ∙ ap (λ (front : Front). front.kept) c.into_inner-in-Err-WriteFailed.ensures in
    let new_is = sym (ap (λ (bytes : Vec ℕ). bytes.items) kept_is) in
    front_given c.args.text.now kept.items c.long_front.result
    (subst (λ (x : List ℕ × List ℕ × List ℕ × Fault). AccessText None x.0 (Some x.1) (Some x.2) (Err x.3))
    (λ i. (text_is i, old_is i, new_is i, failed.field-0-is i)) failed.ensures.known)
    c.long_front.ensures
