-- Proves the goals of `read_label` of src/read_labels.rt that the search leaves open.
use Rattle.std.proofs.Common.{Some, map, sym, ap, ◌∙◌}
use Rattle.histar_label.specs.Levels.{constant}
use Rattle.histar_rawtext.specs.Reading.{level_in, exception_in, ◌>>=◌}
use Rattle.histar_rawtext.proofs.Failing.{fails}
use Rattle.histar_rawtext.proofs.LabelsRead.{with_exceptions, default_first, exception_first, added_to_none, not_added, one_added}
use Rattle.histar_rawtext.proofs.read_labels.read_label.Goals as goal

pub returns-in_err-read_level-clause-exact : goal.returns-in_err-read_level-clause-exact
returns-in_err-read_level-clause-exact g c =
    let texts = map (λ part. part.now) c.pop.new.self.items in
    let first =
    default_first c.args.word.now c.in_ok-parts.parts.items c.pop.new.self.items c.in-Some.default
    c.in-len1-up.len_at_least c.in_ok-parts.ensures.ok c.in-Some.ensures.items in
    fails c.in_err-read_level.field-0.0 _ (level_in c.in-Some.default.now) _ c.in_err-read_level.ensures.exact
    (λ none. first ∙ ap (λ level. with_exceptions texts (level >>= λ default. Some (constant default))) none
    ∙ added_to_none texts) c.from_residual-in_err-read_level.ensures

pub loop-part-init : goal.loop-part-init
loop-part-init g c =
    let texts = map (λ part. part.now) c.pop.new.self.items in
    let first =
    default_first c.args.word.now c.in_ok-parts.parts.items c.pop.new.self.items c.in-Some.default
    c.in-len1-up.len_at_least c.in_ok-parts.ensures.ok c.in-Some.ensures.items in
    sym (first
    ∙ ap (λ level. with_exceptions texts (level >>= λ default. Some (constant default)))
    c.in_ok-read_level.ensures.exact
    ∙ ap (λ label. with_exceptions texts (Some label)) (sym c.new-label.ensures.value))

pub returns-in_err-category-clause-exact : goal.returns-in_err-category-clause-exact
returns-in_err-category-clause-exact g c =
    let texts = map (λ part. part.now) c.pop-in-loop-part.new.self.items in
    let first =
    exception_first c.loop-part.parts.items c.pop-in-loop-part.new.self.items c.in-Some-pop.part
    (Some c.loop-part.label) c.in-Some-pop.ensures.items in
    fails c.in_err-category.field-0.0 _ (exception_in c.in-Some-pop.part.now) _ c.in_err-category.ensures.exact
    (λ none. sym c.loop-part.invariant ∙ first
    ∙ ap (with_exceptions texts) (not_added c.in-Some-pop.part.now c.loop-part.label none)
    ∙ added_to_none texts) c.from_residual-in_err-category.ensures

pub loop-part-preserved : goal.loop-part-preserved
loop-part-preserved g c =
    let texts = map (λ part. part.now) c.pop-in-loop-part.new.self.items in
    let first =
    exception_first c.loop-part.parts.items c.pop-in-loop-part.new.self.items c.in-Some-pop.part
    (Some c.loop-part.label) c.in-Some-pop.ensures.items in
    let added = one_added c.in-Some-pop.part.now c.loop-part.label c.in_ok-category.category c.in_ok-category.level c.in_ok-category.ensures.exact in
    let label = ap (λ label. with_exceptions texts (Some label)) (sym c.in_ok-set.ensures.ok) in
    sym (sym c.loop-part.invariant ∙ first ∙ ap (with_exceptions texts) added ∙ label)
