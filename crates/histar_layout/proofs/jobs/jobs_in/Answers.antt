-- Proves the goals of `jobs_in` of src/jobs.rt that the search leaves open.
use Rattle.std.proofs.Common.{◌≡◌, true, false, sym, ◌∙◌, append-nil}
use Rattle.histar_layout.specs.Jobs.{is_three}
use Rattle.histar_layout.proofs.Scanning.{passed_more}
use Rattle.histar_layout.proofs.jobs.jobs_in.Goals as goal
use Rattle.histar_layout.proofs.jobs.jobs_in.Goals.{then-is_three+in_ok-push, else-is_three}

pub loop-category-preserved : goal.loop-category-preserved
loop-category-preserved g c =
    passed_more (λ e. is_three e.1) c.exceptions-exceptions.result.now c.loop-category-item.result c.loop-category.category-index
    c.loop-category.jobs.items _ _ c.loop-category-test.true c.loop-category-item.is c.loop-category.invariant
    (elim c.if-is_three.branch [
      | then-is_three+in_ok-push w ↦
          let yes : is_three c.loop-category-item.result.1 ≡ true = sym c.is_three.ensures ∙ w.if-is_three.true in
          rw (yes, w.jobs-is) w.in_ok-push.ensures.items
      | else-is_three w ↦
          let no : is_three c.loop-category-item.result.1 ≡ false = sym c.is_three.ensures ∙ w.if-is_three.false in
          rw (no, w.jobs-is) (sym (append-nil _))
    ])
