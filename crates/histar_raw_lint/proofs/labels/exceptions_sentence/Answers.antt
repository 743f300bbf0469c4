-- Proves the goals of `exceptions_sentence` of src/labels.rt that the search leaves open.
use Rattle.std.proofs.Common.{◌+◌, ℕ, drop, map, sym, ap, ◌∙◌}
use Rattle.histar_lint.specs.Lines.{first_sentence}
use Rattle.histar_raw_lint.specs.Values.{exceptions_rules}
use Rattle.histar_raw_lint.proofs.Steps.{part_behind, part_front}
use Rattle.histar_raw_lint.proofs.labels.exceptions_sentence.Goals as goal

pub returns-in-Some : goal.returns-in-Some
returns-in-Some c =
    sym (c.parts.invariant ∙ part_front (λ v. v.items) c.args.default.now c.parts.before c.args.parts.now
    _ c.parts-test.true c.in_ok-said.ensures c.in-Some.is)

pub parts-preserved : goal.parts-preserved
parts-preserved c =
    c.parts.invariant ∙ part_behind (λ v. v.items) c.args.default.now c.parts.before c.args.parts.now
    _ c.parts-test.true c.in_ok-said.ensures c.in_default.is
    ∙ ap (λ (n : ℕ). first_sentence (exceptions_rules c.args.default.now n (map (λ part. part.now) (drop (c.parts.part-index + 1) c.args.parts.now))))
    (sym c.category_of-before.ensures)
