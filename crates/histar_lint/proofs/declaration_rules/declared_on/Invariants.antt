-- The invariants and measures of `declared_on` of src/declaration_rules.rt.
use Rattle.std.proofs.Common.{◌≡◌, ◌+◌, ◌≤◌, length}
use Rattle.histar_script.specs.Lines.{lines_of}
use Rattle.histar_lint.specs.Rules.{declared_from, declared_on}
use Rattle.histar_lint.proofs.declaration_rules.declared_on.Given as goal

abbrev pub decreases-lines : goal.decreases-lines
decreases-lines l = length l.rest

abbrev pub invariant-lines : goal.invariant-lines
invariant-lines l = record {
  so_far : declared_on (lines_of l.text) l.name ≡ declared_from l.number (lines_of l.rest) l.name;
  counted : l.number + length l.rest ≤ length l.text + 1;
}
