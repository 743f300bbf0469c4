-- Proves the goals of `push_kinds` of src/kinds.rt that the search leaves open.
use Rattle.std.proofs.Common.{codes, ◌++◌}
use Rattle.histar_raw_lint.specs.Rules.{kind_name}
use Rattle.histar_raw_lint.proofs.Steps.{flat_mapped_more}
use Rattle.histar_raw_lint.proofs.kinds.push_kinds.Goals as goal

pub kinds-preserved : goal.kinds-preserved
kinds-preserved c =
    flat_mapped_more (λ k. codes " " ++ kind_name k) c.args.kinds.now _ c.kinds.kind-index _ _ _ c.kinds-test.true c.kinds.invariant
    c.in_ok-push_kind.ensures
