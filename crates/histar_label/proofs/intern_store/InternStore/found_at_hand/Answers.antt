-- Proves the goals of `InternStore::found_at_hand` of src/intern_store.rt that the search leaves open.
use Rattle.std.proofs.Common.{Some, sym, ap, ◌∙◌}
use Rattle.histar_level.proofs.Equality.{same_label}
use Rattle.histar_label.proofs.intern_store.InternStore.found_at_hand.Goals as goal

pub returns-then-eq : goal.returns-then-eq
returns-then-eq c =
    sym c.in_ok-kept.ensures.label ∙ ap Some (same_label c.in_ok-kept.kept.now c.args.label.now (sym c.if-eq.ensures))
