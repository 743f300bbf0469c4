-- The invariants and measures of `push_titles` of src/titles.rt.
use Rattle.std.proofs.Common.{◌≡◌, ◌++◌, length}
use Rattle.histar_script.specs.Lines.{lines_of}
use Rattle.histar_leak.specs.Titles.{title_lines}
use Rattle.histar_leak.proofs.titles.push_titles.Given as goal

abbrev pub decreases-lines : goal.decreases-lines
decreases-lines l = length l.rest

abbrev pub invariant-lines : goal.invariant-lines
invariant-lines l = l.text.items ++ title_lines (lines_of l.rest) ≡ l.fn.text.items ++ title_lines (lines_of l.lines)
