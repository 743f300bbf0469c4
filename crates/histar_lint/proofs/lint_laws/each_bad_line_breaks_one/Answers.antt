-- Proves the goals of `each_bad_line_breaks_one` of src/lint_laws.rt that the search leaves open.
use Rattle.histar_lint.proofs.BrokenRules.{each_bad_line_breaks_one}
use Rattle.histar_lint.proofs.lint_laws.each_bad_line_breaks_one.Goals as goal

pub returns : goal.returns
returns c = each_bad_line_breaks_one
