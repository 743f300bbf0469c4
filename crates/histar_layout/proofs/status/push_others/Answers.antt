-- Proves the goals of `push_others` of src/status.rt that the search leaves open.
use Rattle.std.proofs.Common.{List, ℕ, ◌++◌, true, false, refl, sym, subst, eq-eqb, arith}
use Rattle.std.specs.List.{flat_map}
use Rattle.histar_layout.specs.Status.{child_bytes}
use Rattle.histar_layout.specs.StatusParts.{others}
use Rattle.histar_layout.proofs.ReadingStatuses.{differs}
use Rattle.histar_layout.proofs.WritingStatuses.{IsLeft, child_passed, all_passed}
use Rattle.histar_layout.proofs.status.push_others.Goals as goal

pub children-init : goal.children-init
children-init g c = λ those are. (those, are, refl)

pub children-preserved-in_ok-extend : goal.children-preserved-in_ok-extend
children-preserved-in_ok-extend g c = λ those are.
    let parts = c.in-Some.ensures.cases in
    subst (λ (out : List ℕ). IsLeft c.args.number out c.in-Some.after.now
    (c.args.out.now.items ++ flat_map child_bytes (others c.args.number those)))
    (sym c.in_ok-extend.ensures.items)
    (child_passed c.args.number c.children.out.items c.children.rest.now _ c.in-Some.child.now c.in-Some.after.now
    (omega arith) parts.0 parts.1 (c.children.invariant those are) false (differs _ _ c.if-child-number.true))

pub children-preserved : goal.children-preserved
children-preserved g c = λ those are.
    let parts = c.in-Some.ensures.cases in
    child_passed c.args.number c.children.out.items c.children.rest.now _ c.in-Some.child.now c.in-Some.after.now
    (omega arith) parts.0 parts.1 (c.children.invariant those are) true (eq-eqb _ _ c.if-child-number.false)

pub returns-clause-ok : goal.returns-clause-ok
returns-clause-ok g c = λ those are. let short = c.in_default.ensures.cases in all_passed _ _ _ _ (omega arith) (c.children.invariant those are)
