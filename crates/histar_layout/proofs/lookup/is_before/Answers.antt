-- Proves the goals of `is_before` of src/lookup.rt that the search leaves open.
use Rattle.std.proofs.Common.{◌≡◌, ℕ, ◌+◌, ◌-◌, ◌≤◌, List, Bool, length, get_or, sym, ap, ◌∙◌, arith}
use Rattle.std.specs.Prelude.{slice_range}
use Rattle.histar_base.specs.Paths.{same}
use Rattle.histar_layout.proofs.LookingUp.{other_bytes, same_bytes}
use Rattle.histar_layout.proofs.lookup.is_before.Goals as goal

-- what lies before a position begins as many bytes before it
lies_before : (name bytes : List ℕ) (end : ℕ) (test : Bool) → length name ≤ end
    → same name (slice_range bytes (end - length name) (end - length name + length name)) ≡ test
    → test ≡ same name (slice_range bytes (end - length name) end)
lies_before name bytes end test room is =
    let to : end - length name + length name ≡ end = omega arith in
    sym is ∙ (λ i. same name (slice_range bytes (end - length name) (to i)))

pub returns-then-bytes-end : goal.returns-then-bytes-end
returns-then-bytes-end c =
    let bytes = c.args.bytes.now in
    let end = c.args.end in
    let place : end - length c.args.name.now + (length c.args.name.now - 1) ≡ end - 1 = omega (arith, c.requires.room, c.requires.some) in
    lies_before c.args.name.now bytes end _ c.requires.room
    (other_bytes c.args.name.now bytes (end - length c.args.name.now) (length c.args.name.now - 1) (omega (arith, c.requires.some))
    (λ e. c.if-bytes-end.true (sym (e ∙ ap (λ k. get_or bytes k 0) place) ∙ sym c.requires.last)))

pub returns-then-name-left : goal.returns-then-name-left
returns-then-name-left c =
    lies_before c.args.name.now c.args.bytes.now c.args.end _ c.requires.room
    (other_bytes c.args.name.now c.args.bytes.now (c.args.end - length c.args.name.now) (c.bytes.left - 1)
    (omega (arith, c.bytes.invariant.0, c.bytes-test.true)) c.if-name-left.true)

pub returns : goal.returns
returns c =
    lies_before c.args.name.now c.args.bytes.now c.args.end _ c.requires.room
    (same_bytes c.args.name.now c.args.bytes.now (c.args.end - length c.args.name.now) (omega (arith, c.requires.room, c.requires.within))
    (λ k below. c.bytes.invariant.1 k (omega (arith, c.bytes-test.false)) below))
