-- Proves the goals of `each_bad_raw_line_breaks_one` of src/raw_lint_laws.rt that the search leaves open.
use Rattle.histar_raw_lint.proofs.BrokenRules.{each_bad_raw_line_breaks_one}
use Rattle.histar_raw_lint.proofs.raw_lint_laws.each_bad_raw_line_breaks_one.Goals as goal

pub returns : goal.returns
returns c = each_bad_raw_line_breaks_one
