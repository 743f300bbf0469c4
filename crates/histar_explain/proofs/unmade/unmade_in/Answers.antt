-- Proves the goals of `unmade_in` of src/unmade.rt that the search leaves open.
use Rattle.std.proofs.Common.{ℕ, sym, ap, ◌∙◌}
use Rattle.std.specs.Global.{Vec}
use Rattle.histar_explain.proofs.UnmadePasses.{passed_at_first, passed_unmade, passed_made, unmade_at_end}
use Rattle.histar_explain.proofs.unmade.unmade_in.Goals as goal
use Rattle.histar_explain.proofs.unmade.unmade_in.Goals.{then-not-was_made+in_ok-push, else-not-was_made}

pub categories-init : goal.categories-init
categories-init c = rw c.new-unmade.ensures.items
    (passed_at_first _ _ _ _ _ _ _ c.exceptions-firsts.ensures.rising c.exceptions-seconds.ensures.rising c.exceptions-thirds.ensures.rising
    c.exceptions-firsts.ensures.listed c.exceptions-seconds.ensures.listed c.exceptions-thirds.ensures.listed
    c.exceptions-firsts.ensures.value c.exceptions-seconds.ensures.value c.exceptions-thirds.ensures.value)

pub categories-preserved : goal.categories-preserved
categories-preserved c =
    let low = sym c.lowest.ensures ∙ c.in-Some.is in
    let cs = c.categories.unmade.items in
    rw (c.after-firsts.ensures, c.after-seconds.ensures, c.after-thirds.ensures) (elim c.if-not-was_made.branch [
      | then-not-was_made+in_ok-push w ↦ rw (ap (λ (v : Vec ℕ). v.items) w.unmade-is ∙ w.in_ok-push.ensures.items)
          (passed_unmade _ _ _ _ _ _ _ cs c.categories.invariant _ low (sym c.was_made.ensures ∙ w.if-not-was_made.true))
      | else-not-was_made w ↦
          rw (ap (λ (v : Vec ℕ). v.items) w.unmade-is) (passed_made _ _ _ _ _ _ _ cs c.categories.invariant _ low
          (sym c.was_made.ensures ∙ w.if-not-was_made.false))
    ])

pub returns : goal.returns
returns c = unmade_at_end _ _ _ _ _ _ _ _ c.categories.invariant (sym c.lowest.ensures ∙ c.in_default.is)
