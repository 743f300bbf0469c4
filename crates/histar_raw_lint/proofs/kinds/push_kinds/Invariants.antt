-- The invariants and measures of `push_kinds` of src/kinds.rt.
use Rattle.std.proofs.Common.{◌≡◌, ◌++◌, codes, drop}
use Rattle.std.specs.List.{flat_map}
use Rattle.histar_raw_lint.specs.Rules.{kind_name}
use Rattle.histar_raw_lint.proofs.kinds.push_kinds.Given as goal

abbrev pub invariant-kinds : goal.invariant-kinds
invariant-kinds l = l.said.items ++ flat_map (λ k. codes " " ++ kind_name k) (drop l.kind-index l.kinds) ≡ l.fn.said.items ++ flat_map
    (λ k. codes " " ++ kind_name k) l.kinds
