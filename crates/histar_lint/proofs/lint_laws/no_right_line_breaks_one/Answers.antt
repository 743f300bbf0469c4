-- Proves the goals of `no_right_line_breaks_one` of src/lint_laws.rt that the search leaves open.
use Rattle.histar_lint.proofs.LinesRight.{no_right_line_breaks_one}
use Rattle.histar_lint.proofs.lint_laws.no_right_line_breaks_one.Goals as goal

pub returns : goal.returns
returns c = no_right_line_breaks_one
