-- Proves the goals of `PlainStoreLabelStore::find` of src/stores.rt that the search leaves open.
use Rattle.std.proofs.Common.{sym, ap, ◌∙◌}
use Rattle.std.specs.Prelude.{position}
use Rattle.histar_level.specs.Same.{is_same}
use Rattle.histar_label.proofs.Finding.{found_label, nothing_found}
use Rattle.histar_label.proofs.stores.PlainStoreLabelStore.find.Goals as goal

pub returns-in_err-place-clause-found : goal.returns-in_err-place-clause-found
returns-in_err-place-clause-found c id is =
    absurd (nothing_found c.args.self.now c.args.label.now c.place_among.result
    (c.place_among.ensures ∙ ap (position (is_same c.args.label.now)) (c.as_slice.ensures.value ∙ c.self.view_is)) c.in_err-place.was id is)

pub returns-clause-value : goal.returns-clause-value
returns-clause-value c =
    found_label c.args.self.now c.args.label.now c.in_ok-place.place
    (ap (position (is_same c.args.label.now)) (sym (c.as_slice.ensures.value ∙ c.self.view_is)) ∙ sym c.place_among.ensures ∙ c.in_ok-place.was)
