-- Proves the goals of `Label::below_as` of src/labels.rt that the search leaves open.
use Rattle.std.proofs.Common.{ℕ, refl, sym, ◌∙◌}
use mathlib.Core.Bool.{false≢true}
use Rattle.histar_label.specs.declared.levels.Test.TheVariants.{BelowJoin}
use Rattle.histar_label.specs.Levels.{Fits}
use Rattle.histar_label.proofs.Fronts.{lower_is_lowest, defaults_fit, left_at_first, all_fit, front_fits, left_after}
use Rattle.histar_label.proofs.Tests.{answer_is, refused}
use Rattle.histar_label.proofs.labels.Label.below_as.Goals as goal

pub returns-then-not-fits-clause-value : goal.returns-then-not-fits-clause-value
returns-then-not-fits-clause-value c = refused _ _ _ (BelowJoin c.args.reading) (λ all. false≢true (sym c.if-not-fits.true ∙ c.fits.ensures.1
    (rw (c.default_level-own_default.ensures.value, c.default_level-other_default.ensures.value)
    (defaults_fit (BelowJoin c.args.reading) _ _ _ all))))

pub categories-init : goal.categories-init
categories-init c =
    left_at_first (BelowJoin c.args.reading) _ _ _ _ _ _ c.exceptions-own.ensures.rising
    c.exceptions-others.ensures.rising c.exceptions-others.ensures.rising c.exceptions-own.ensures.value
    c.exceptions-others.ensures.value c.exceptions-others.ensures.value

pub returns-then-not-fits-2 : goal.returns-then-not-fits-2
returns-then-not-fits-2 c =
    let unfit : ((q : ℕ) → Fits c.args.self.now c.args.other.now c.args.other.now (BelowJoin c.args.reading) q) → ⊥ = λ all. false≢true
    (sym c.if-not-fits-2.true ∙ c.fits-in-Some.ensures.1
    (rw (c.in-Some.ensures.first, c.in-Some.ensures.second, c.default_level-own_default.ensures.value, c.default_level-other_default.ensures.value)
    (front_fits (BelowJoin c.args.reading) _ _ _ _ _ _ c.categories.invariant _ (lower_is_lowest _ _ ∙ sym c.in-Some.ensures.category) all))) in
    record { order = (λ t. absurd (false≢true t), λ all. absurd (unfit all)); value = refused _ _ _ (BelowJoin c.args.reading) unfit }

pub categories-preserved : goal.categories-preserved
categories-preserved c =
    let default_fits = c.fits.ensures.0 c.if-not-fits.false in
    let fits = c.fits-in-Some.ensures.0 c.if-not-fits-2.false in
    rw (c.in-Some.ensures.first_left, c.in-Some.ensures.second_left)
    (left_after (BelowJoin c.args.reading) _ _ _ _ _ _ c.categories.invariant _ (lower_is_lowest _ _ ∙ sym c.in-Some.ensures.category)
    (rw (sym c.default_level-own_default.ensures.value, sym c.default_level-other_default.ensures.value) default_fits)
    (rw (
      sym c.default_level-own_default.ensures.value,
      sym c.default_level-other_default.ensures.value,
      sym
          c.in-Some.ensures.first,
      sym c.in-Some.ensures.second,
    ) fits))

pub returns-clause-value : goal.returns-clause-value
returns-clause-value c =
    let default_fits = c.fits.ensures.0 c.if-not-fits.false in
    answer_is _ _ _ (BelowJoin c.args.reading) _ (
      λ t. all_fit (BelowJoin c.args.reading) _ _ _ _ _ _ c.categories.invariant (lower_is_lowest _ _ ∙ sym c.in_default.ensures.category)
          (rw (sym c.default_level-own_default.ensures.value, sym c.default_level-other_default.ensures.value) default_fits),
      λ all. refl,
    )
