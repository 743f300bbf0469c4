-- The invariants and measures of `fact_lines` of src/facts.rt.
use Rattle.std.proofs.Common.{◌≡◌, ◌++◌, length}
use Rattle.std.specs.List.{flat_map}
use Rattle.histar_script.specs.Lines.{lines_of}
use Rattle.histar_output.specs.Written.{fact_line}
use Rattle.histar_output.proofs.facts.fact_lines.Given as goal

abbrev pub invariant-lines : goal.invariant-lines
invariant-lines l = l.out.items ++ flat_map (fact_line l.form) (lines_of l.rest) ≡ flat_map (fact_line l.form) (lines_of l.text)

abbrev pub decreases-lines : goal.decreases-lines
decreases-lines l = length l.rest
