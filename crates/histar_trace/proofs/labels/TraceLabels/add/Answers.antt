-- Proves the goals of `TraceLabels::add` of src/labels.rt that the search leaves open.
use Rattle.std.proofs.Common.{rules, ◌≡◌, map, ◌++◌, ◌∷◌, [], List, sym, ap, subst, length, ◌∙◌}
use Rattle.std.specs.List.{slice_get}
use Rattle.std.proofs.lemmas.List.{length-map}
use Rattle.histar_level.specs.Levels.{Levels}
use Rattle.histar_label.specs.Store.{Keeps}
use Rattle.histar_trace.specs.Labels.{label_kept}
use Rattle.histar_trace.proofs.KeptLabels.{Adds, keeps_others, last_there, one_more, still_have}
use Rattle.histar_trace.proofs.labels.TraceLabels.add.Given as given
use Rattle.histar_trace.proofs.labels.TraceLabels.add.Goals as goal

-- the label was added to both lists
adds : (g : given.Over) (c : goal.After-set_at_hand g) → Adds c.self.inside.exceptions.items c.extend.new.list.items c.self.inside.labels.items
    c.push_reserved.new.self.items c.args.label.now
adds g c =
    let first : c.len-first.result ≡ length c.self.inside.exceptions.items = search rules in
    let end : c.len.result ≡ length c.extend.new.list.items = search rules in
    record {
      exceptions = c.in_ok-extend.ensures.items ∙ ap (λ es. c.self.inside.exceptions.items ++ es) c.exceptions.ensures.value;
      labels = c.push_reserved.ensures.items ∙ (λ i. c.reserve.ensures.items i
          ++ record { default = c.default_level.ensures.value i; first = first i; end = end i } ∷ []);
    }

-- the labels after the call
made : (g : given.Over) (c : goal.After-set_at_hand g) → map (label_kept c.extend.new.list.items) c.push_reserved.new.self.items
    ≡ c.args.self.now ++ c.args.label.now ∷ []
made g c =
    one_more c.self.inside.exceptions.items c.extend.new.list.items c.self.inside.labels.items c.push_reserved.new.self.items
    c.args.label.now (adds g c) c.self.invariant
    ∙ ap (λ (labels : List Levels). labels ++ c.args.label.now ∷ []) c.self.view_is

pub invariant_of-self-2 : goal.invariant_of-self-2
invariant_of-self-2 g c =
    still_have c.self.inside.exceptions.items c.extend.new.list.items c.self.inside.labels.items c.push_reserved.new.self.items
    c.args.label.now (adds g c) c.self.invariant

pub returns-clause-kept : goal.returns-clause-kept
returns-clause-kept g c =
    let n : c.in_ok-id.id ≡ length c.self.inside.labels.items = search rules in
    let place = n ∙ sym (length-map c.self.inside.labels.items (label_kept c.self.inside.exceptions.items)) ∙ ap length c.self.view_is in
    ap (λ (labels : List Levels). slice_get labels c.in_ok-id.id) (made g c) ∙ last_there c.args.self.now c.args.label.now c.in_ok-id.id place

pub returns-clause-keeps : goal.returns-clause-keeps
returns-clause-keeps g c =
    subst (λ (labels : List Levels). Keeps (slice_get c.args.self.now) (slice_get labels)) (sym (made g c))
    (keeps_others c.args.self.now c.args.label.now)
