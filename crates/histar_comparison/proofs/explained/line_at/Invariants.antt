-- The invariants and measures of `line_at` of src/explained.rt.
use Rattle.std.proofs.Common.{◌≡◌, drop}
use Rattle.histar_comparison.specs.Explained.{line_at_path}
use Rattle.histar_comparison.proofs.explained.line_at.Given as goal

abbrev pub invariant-loop-line : goal.invariant-loop-line
invariant-loop-line l = line_at_path l.path l.tree ≡ line_at_path l.path (drop l.line-index l.tree)
