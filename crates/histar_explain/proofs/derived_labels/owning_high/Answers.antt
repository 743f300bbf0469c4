-- Proves the goals of `owning_high` of src/derived_labels.rt that the search leaves open.
use Rattle.std.proofs.Common.{◌≡◌, ℕ, ◌+◌, ◌<◌, List, [], ◌∷◌, ◌++◌, length, get_or, take, refl, sym, ap, ◌∙◌}
use Rattle.std.proofs.lemmas.List.{take_more, take_all}
use Rattle.histar_level.specs.declared.level.Level.{Level}
use Rattle.histar_level.specs.Levels.{Levels, level_of, default_of}
use Rattle.histar_label.specs.Levels.{constant, with_level, refilled}
use Rattle.histar_explain.specs.Tests.{high, owning_high}
use Rattle.histar_explain.proofs.derived_labels.owning_high.Goals as goal

-- one more category is filled in last
refilled_more : (f : ℕ → Level) (es : List (ℕ × Level)) (e : ℕ × Level) (L : Levels)
    → refilled f (es ++ e ∷ []) L ≡ with_level (refilled f es L) e.0 (f e.0)
refilled_more f [] e L = refl
refilled_more f (d ∷ es) e L = refilled_more f es e (with_level L d.0 (f d.0))

filled : (f : ℕ → Level) (es : List (ℕ × Level)) (i : ℕ) (e : ℕ × Level) (L label new : Levels) (level : Level)
    → i < length es → e ≡ get_or es i e → label ≡ refilled f (take i es) L → level ≡ f e.0
    → new ≡ with_level label e.0 level → new ≡ refilled f (take (i + 1) es) L
filled f es i e L label new level lt is so_far at made =
    made ∙ (λ j. with_level (so_far j) e.0 (at j)) ∙ sym (refilled_more f (take i es) e L)
    ∙ ap (λ (x : ℕ × Level). refilled f (take i es ++ x ∷ []) L) is ∙ ap (λ xs. refilled f xs L) (sym (take_more es i e lt))

pub loop-exception-preserved : goal.loop-exception-preserved
loop-exception-preserved c =
    filled (λ q. high (level_of c.args.own.now q)) c.exceptions-exception-items.result.now
    c.loop-exception.exception-index c.exception-item.result (constant (high (default_of c.args.own.now)))
    c.loop-exception.label c.set.new.self c.high-in-loop-exception.result
    c.loop-exception-test.true c.exception-item.is c.loop-exception.invariant
    (c.high-in-loop-exception.ensures ∙ ap high c.get.ensures) c.in_ok-set.ensures.ok

pub returns : goal.returns
unfolding owning_high
returns c = c.loop-exception.invariant
    ∙ ap (λ es. refilled (λ q. high (level_of c.args.own.now q)) es (constant (high (default_of c.args.own.now))))
    (take_all c.loop-exception.exception-index c.exceptions-exception-items.result.now c.loop-exception-test.false
    ∙ c.exceptions-exception-items.ensures.value)
