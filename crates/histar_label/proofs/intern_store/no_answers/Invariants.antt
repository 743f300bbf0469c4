-- The invariants and measures of `no_answers` of src/intern_store.rt.
use Rattle.std.proofs.Common.{◌≡◌, None}
use Rattle.std.specs.List.{All}
use Rattle.histar_label.proofs.intern_store.no_answers.Given as goal

abbrev pub invariant-places : goal.invariant-places
invariant-places g l = All (λ o. o ≡ None) l.places.items
