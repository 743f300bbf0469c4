-- Proves the goals of `InternStore::answer_anew` of src/intern_store.rt that the search leaves open.
use Rattle.std.proofs.Common.{◌≡◌, Some, ◌∙◌}
use Rattle.std.specs.Prelude.{IfSome}
use Rattle.std.proofs.lemmas.List.Elements.{All-set}
use Rattle.histar_label.specs.InternStore.{IsRight}
use Rattle.histar_label.proofs.intern_store.InternStore.answer_anew.Goals as goal

pub invariant_of-self : goal.invariant_of-self
invariant_of-self c =
    let labels = c.self.inside.labels.keys in
    let same : labels ≡ c.args.self.now = c.self.view_is ∙ c.compare_or_recall-answer.ensures.unchanged in
    record {
      one_id = c.self.invariant.one_id;
      right = c.self.invariant.right;
      right_at_hand = rw c.keep_at.ensures (
          All-set (λ o. IfSome o (λ e. IsRight labels e.0 e.1)) c.self.inside.at_hand.items c.args.place
          (Some (c.args.comparison.now, c.compare_or_recall-answer.result))
          (rw same (record {
            own = c.requires.own;
            first = c.requires.first;
            second = c.requires.second;
            right = c.compare_or_recall-answer.ensures.answer;
          }))
          c.self.invariant.right_at_hand
          );
    }
