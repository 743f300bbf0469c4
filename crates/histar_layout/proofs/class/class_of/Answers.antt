-- Proves the goals of `class_of` of src/class.rt that the search leaves open.
use Rattle.std.proofs.Common.{◌≡◌, None, Some, sym, ◌∙◌}
use mathlib.Core.Bool.{true≢false}
use Rattle.histar_layout.specs.ClassLabels.{likely_class}
use Rattle.histar_layout.proofs.ClassLabels.{none_found, other_label, found_class}
use Rattle.histar_layout.proofs.class.class_of.Goals as goal

pub returns-in_default-clause-ok : goal.returns-in_default-clause-ok
returns-in_default-clause-ok g c =
    let none : likely_class c.args.users.now c.args.label.now ≡ None = sym c.in_ok-class.ensures.ok ∙ c.in_default.is in
    none_found c.args.users.now c.args.label.now none

pub returns-then-branch-clause-ok : goal.returns-then-branch-clause-ok
returns-then-branch-clause-ok g c =
    let likely : likely_class c.args.users.now c.args.label.now ≡ Some c.in-Some.class = sym c.in_ok-class.ensures.ok ∙ c.in-Some.is in
    found_class c.args.users.now c.args.label.now c.in-Some.class likely (c.in_ok-has_label.ensures.ok.0 c.if-branch.true)

pub returns-else-branch-clause-ok : goal.returns-else-branch-clause-ok
returns-else-branch-clause-ok g c =
    let likely : likely_class c.args.users.now c.args.label.now ≡ Some c.in-Some.class = sym c.in_ok-class.ensures.ok ∙ c.in-Some.is in
    other_label c.args.users.now c.args.label.now c.in-Some.class likely
    (λ label. true≢false (sym (c.in_ok-has_label.ensures.ok.1 label) ∙ c.if-branch.false))
