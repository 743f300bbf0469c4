-- The invariants and measures of `owning_high` of src/derived_labels.rt.
use Rattle.std.proofs.Common.{◌≡◌, take}
use Rattle.histar_level.specs.Levels.{level_of, default_of}
use Rattle.histar_label.specs.Levels.{constant, refilled}
use Rattle.histar_explain.specs.Tests.{high}
use Rattle.histar_explain.proofs.derived_labels.owning_high.Given as goal

abbrev pub invariant-loop-exception : goal.invariant-loop-exception
invariant-loop-exception l =
    l.label
    ≡ refilled (λ c. high (level_of l.own c)) (take l.exception-index l.exception-items)
    (constant (high (default_of l.own)))
