-- Proves the goals of `make_category` of src/threads.rt that the search leaves open.
use Rattle.std.proofs.Common.{ℕ, ap, sym, ◌∙◌}
use Rattle.histar_level.specs.declared.level.Level.TheVariants.{Star, L3}
use Rattle.histar_label.specs.Levels.{with_level}
use Rattle.histar_object.specs.Objects.{is_thread, label_there, clearance_there}
use Rattle.histar_object.specs.State.{with_next_category, with_own}
use Rattle.histar_container.specs.ObjectsModel.{state_of}
use Rattle.histar_thread.proofs.Owning.{category_made}
use Rattle.histar_thread.proofs.threads.make_category.Goals as goal

pub returns-clause-ok : goal.returns-clause-ok
returns-clause-ok g c =
    let s = state_of c.args.objects.now in
    let t = c.args.thread in
    let own = c.in_ok-label.ensures.own in
    let number = c.new-category.ensures ∙ c.next_category.ensures in
    let label = c.in_ok-label-2.ensures.value ∙ ap (λ (n : ℕ). with_level c.in_ok-label.label.now n Star) number in
    let clearance = c.in_ok-clearance.ensures.value ∙ ap (λ (n : ℕ). with_level c.in_ok-label.clearance.now n L3) number in (
      c.in_ok-label.ensures.answer,
      c.count_category.ensures ∙ ap with_next_category c.in_ok-set_own.ensures.ok ∙ (λ i. with_next_category (with_own s t (label i) (clearance i)))
          ∙ category_made s t c.in_ok-label.label.now c.in_ok-label.clearance.now (sym (ap label_there own))
          (sym (ap clearance_there own)) (ap is_thread own),
      number,
    )
