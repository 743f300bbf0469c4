-- Proves the goals of `each_bad_mixed_line_breaks_one` of src/attack_lint_laws.rt that the search leaves open.
use Rattle.histar_attack_lint.proofs.MixedLines.{each_bad_mixed_line_breaks_one}
use Rattle.histar_attack_lint.proofs.attack_lint_laws.each_bad_mixed_line_breaks_one.Goals as goal

pub returns : goal.returns
returns c = each_bad_mixed_line_breaks_one
