-- Proves the goals of `InternStore::with_cache` of src/intern_store.rt that the search leaves open.
use Rattle.std.proofs.Common.{◌≡◌, rules, Bool, Option, None, sym, subst}
use Rattle.std.specs.Prelude.{IfSome}
use Rattle.std.proofs.lemmas.List.Elements.{All-weaker}
use Rattle.histar_label.specs.declared.comparisons.Comparison.{Comparison}
use Rattle.histar_label.specs.InternStore.{IsRight}
use Rattle.histar_label.proofs.intern_store.InternStore.with_cache.Goals as goal

-- a fact about a value holds where the value is missing
of_none : (P : Comparison × Bool → Type 0) (o : Option (Comparison × Bool)) → o ≡ None → IfSome o P
of_none P o none = subst (λ (p : Option (Comparison × Bool)). IfSome p P) (sym none) tt

pub invariant_of-result : goal.invariant_of-result
invariant_of-result g c = record {
  one_id = search rules;
  right = search rules;
  right_at_hand = All-weaker _ _ (of_none (λ e. IsRight c.new.result.keys e.0 e.1)) c.in_ok-no_answers.field-0.items c.in_ok-no_answers.ensures.ok;
}
