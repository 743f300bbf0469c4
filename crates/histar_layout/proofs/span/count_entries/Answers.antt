-- Proves the goals of `count_entries` of src/span.rt that the search leaves open.
use Rattle.std.proofs.Common.{◌∷◌, [], ap, sym, ◌∙◌, refl, length, length-append, arith}
use Rattle.std.specs.FinMap as map
use Rattle.histar_layout.proofs.LookingUp.{slot_shorter}
use Rattle.histar_layout.proofs.EntriesRead.{none_read, all_passed, one_passed}
use Rattle.histar_layout.proofs.span.count_entries.Goals as goal

pub entries-init : goal.entries-init
entries-init c = (omega arith, λ dir is. ([], none_read c.args.bytes.now dir is, refl))

pub entries-smaller : goal.entries-smaller
entries-smaller c = slot_shorter _ _ c.in-Some.ensures

pub entries-preserved : goal.entries-preserved
entries-preserved c = (
  omega (arith, c.entries.invariant.0, slot_shorter _ _ c.in-Some.ensures),
  λ dir is.
      let h = c.entries.invariant.1 dir is in
      let next = one_passed c.entries.rest.now h.0 dir h.1 _ c.in-Some.ensures in
      (_, next.1, omega (arith, h.2, length-append h.0 (next.0 ∷ []))),
)

pub returns : goal.returns
returns c dir is =
    let h = c.entries.invariant.1 dir is in
    h.2 ∙ ap length (sym (all_passed c.entries.rest.now h.0 dir h.1 c.in_default.ensures)) ∙ sym (map.len-entries dir)
