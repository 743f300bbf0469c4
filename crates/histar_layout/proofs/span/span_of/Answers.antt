-- Proves the goals of `span_of` of src/span.rt that the search leaves open.
use Rattle.std.proofs.Common.{◌≡◌, List, ℕ, ap, sym, ◌∙◌, arith}
use Rattle.std.specs.declared.cmp.Ordering.{Ordering}
use Rattle.histar_layout.proofs.LookingUp.{slot_shorter}
use Rattle.histar_layout.proofs.MapLemmas.{by_bytes}
use Rattle.histar_layout.proofs.Spans.{none_passed, one_passed, span_at_name, span_before, span_at_end}
use Rattle.histar_layout.proofs.span.span_of.Goals as goal

-- a name compares like its bytes
compares : (text wanted name : List ℕ) (result o : Ordering) → wanted ≡ name → result ≡ by_bytes text wanted → result ≡ o → by_bytes text name ≡ o
compares text wanted name result o is by was = ap (by_bytes text) (sym is) ∙ sym by ∙ was

pub entries-init : goal.entries-init
entries-init c = (omega arith, none_passed c.args.bytes.now c.args.name.now)

pub entries-smaller : goal.entries-smaller
entries-smaller c = slot_shorter _ _ c.in-Some.ensures

pub entries-preserved : goal.entries-preserved
entries-preserved c = (
  omega (arith, c.entries.invariant.0, slot_shorter _ _ c.in-Some.ensures),
  λ dir is.
      one_passed c.args.bytes.now c.entries.rest.now c.args.name.now dir (c.entries.invariant.1 dir is) _ c.in-Some.ensures
      (compares c.in-Some.text.now c.as_bytes-wanted.result.now c.args.name.now c.cmp.result _
      c.as_bytes-wanted.ensures.value c.cmp.ensures c.in-Less.is),
)

pub overflow_sub-result-in-Equal : goal.overflow_sub-result-in-Equal
overflow_sub-result-in-Equal c = omega (arith, c.entries.invariant.0, slot_shorter _ _ c.in-Some.ensures)

pub returns-in-Equal : goal.returns-in-Equal
returns-in-Equal c dir is =
    span_at_name c.args.bytes.now c.entries.rest.now c.args.name.now dir (c.entries.invariant.1 dir is) _ c.in-Some.ensures
    (compares c.in-Some.text.now c.as_bytes-wanted.result.now c.args.name.now c.cmp.result _
    c.as_bytes-wanted.ensures.value c.cmp.ensures c.in-Equal.is)

pub returns-in-Greater : goal.returns-in-Greater
returns-in-Greater c dir is =
    span_before c.args.bytes.now c.entries.rest.now c.args.name.now dir (c.entries.invariant.1 dir is) _ c.in-Some.ensures
    (compares c.in-Some.text.now c.as_bytes-wanted.result.now c.args.name.now c.cmp.result _
    c.as_bytes-wanted.ensures.value c.cmp.ensures c.in-Greater.is)

pub returns : goal.returns
returns c dir is = span_at_end c.args.bytes.now c.entries.rest.now c.args.name.now dir (c.entries.invariant.1 dir is) c.in_default.ensures
