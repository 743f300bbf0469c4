-- Proves the goals of `InternStore::searched` of src/intern_store.rt that the search leaves open.
use Rattle.std.proofs.Common.{sym, ap, ◌∙◌}
use Rattle.std.specs.Prelude.{position}
use Rattle.histar_level.specs.Same.{is_same}
use Rattle.histar_label.proofs.Finding.{found_label, nothing_found}
use Rattle.histar_label.proofs.intern_store.InternStore.searched.Goals as goal

pub returns-in_err-place-clause-found : goal.returns-in_err-place-clause-found
returns-in_err-place-clause-found c id is =
    absurd (nothing_found c.args.self.now c.args.label.now c.get_index_of.result
    (c.get_index_of.ensures.index ∙ ap (position (is_same c.args.label.now)) c.self.view_is) c.in_err-place.was id is)

pub returns-clause-value : goal.returns-clause-value
returns-clause-value c =
    found_label c.args.self.now c.args.label.now c.in_ok-place.place
    (ap (position (is_same c.args.label.now)) (sym c.self.view_is) ∙ sym c.get_index_of.ensures.index ∙ c.in_ok-place.was)
