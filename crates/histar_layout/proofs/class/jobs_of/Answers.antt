-- Proves the goals of `jobs_of` of src/class.rt that the search leaves open.
use Rattle.std.proofs.Common.{◌≡◌, ℕ, true, false, sym, ap, ◌∙◌, append-nil}
use Rattle.std.specs.Prelude.{◌&&◌, nat_le}
use Rattle.histar_layout.specs.ClassLabels.{first_after_groups}
use Rattle.histar_layout.specs.Jobs.{is_three}
use Rattle.histar_layout.proofs.Scanning.{passed_more}
use Rattle.histar_layout.proofs.class.jobs_of.Goals as goal
use Rattle.histar_layout.proofs.class.jobs_of.Goals.{then-is_of_job+in_ok-push, else-is_of_job}

pub loop-category-preserved : goal.loop-category-preserved
loop-category-preserved g c =
    let first = first_after_groups c.args.users.now in
    let item = c.loop-category-item.result in
    let tested : c.is_of_job.result ≡ (is_three item.1 && nat_le first item.0) =
    c.is_of_job.ensures ∙ ap (λ (n : ℕ). is_three item.1 && nat_le n item.0) c.first_after_groups-first.ensures in
    passed_more (λ e. is_three e.1 && nat_le first e.0) c.exceptions-exceptions.result.now item c.loop-category.category-index
    c.loop-category.jobs.items _ _ c.loop-category-test.true c.loop-category-item.is c.loop-category.invariant
    (elim c.if-is_of_job.branch [
      | then-is_of_job+in_ok-push w ↦
          let yes : (is_three item.1 && nat_le first item.0) ≡ true = sym tested ∙ w.if-is_of_job.true in
          rw (yes, w.jobs-is) w.in_ok-push.ensures.items
      | else-is_of_job w ↦
          let no : (is_three item.1 && nat_le first item.0) ≡ false = sym tested ∙ w.if-is_of_job.false in
          rw (no, w.jobs-is) (sym (append-nil _))
    ])
