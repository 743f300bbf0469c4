-- Proves the goals of `InternStore::compare_or_recall` of src/intern_store.rt that the search leaves open.
use Rattle.std.proofs.Common.{rules, inl, inr}
use Rattle.histar_label.proofs.intern_store.InternStore.compare_or_recall.Goals as goal

pub invariant_of-self : goal.invariant_of-self
invariant_of-self c = record {
  one_id = c.self.invariant.one_id;
  right = λ e there. c.self.invariant.right e (c.in-Some-recall.ensures.kept e there);
  right_at_hand = c.self.invariant.right_at_hand;
}

pub invariant_of-self-2 : goal.invariant_of-self-2
invariant_of-self-2 c = record {
  one_id = c.self.invariant.one_id;
  right = λ e there. elim (c.remember.ensures e there) [
    | inl was ↦ c.self.invariant.right e (c.recall.ensures.kept e was)
    | inr new ↦ rw new (record { own = search rules; first = search rules; second = search rules; right = c.answer-answer.ensures })
  ];
  right_at_hand = c.self.invariant.right_at_hand;
}

pub returns-in-Some-recall-clause-answer : goal.returns-in-Some-recall-clause-answer
returns-in-Some-recall-clause-answer c =
    let right = c.self.invariant.right (c.args.comparison, c.in-Some-recall.answer) c.in-Some-recall.ensures.found in
    rw (← c.self.view_is) right.right
