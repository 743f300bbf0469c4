-- Proves the goals of `no_right_mixed_line_breaks_one` of src/attack_lint_laws.rt that the search leaves open.
use Rattle.histar_attack_lint.proofs.MixedLines.{no_right_mixed_line_breaks_one}
use Rattle.histar_attack_lint.proofs.attack_lint_laws.no_right_mixed_line_breaks_one.Goals as goal

pub returns : goal.returns
returns c = no_right_mixed_line_breaks_one
