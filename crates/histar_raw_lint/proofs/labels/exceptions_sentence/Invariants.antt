-- The invariants and measures of `exceptions_sentence` of src/labels.rt.
use Rattle.std.proofs.Common.{◌≡◌, drop}
use Rattle.std.specs.Prelude.{map}
use Rattle.histar_lint.specs.Lines.{first_sentence}
use Rattle.histar_raw_lint.specs.Values.{exceptions_rules}
use Rattle.histar_raw_lint.proofs.labels.exceptions_sentence.Given as goal

abbrev pub invariant-parts : goal.invariant-parts
invariant-parts l =
    first_sentence (exceptions_rules l.default 0 (map (λ part. part.now) l.parts))
    ≡ first_sentence (exceptions_rules l.default l.before (map (λ part. part.now) (drop l.part-index l.parts)))
