-- The invariants and measures of `count_lines` of src/texts.rt.
use Rattle.std.proofs.Common.{◌≡◌, ◌+◌, ◌≤◌, length}
use Rattle.histar_script.specs.Lines.{lines_of}
use Rattle.histar_dialogue.proofs.texts.count_lines.Given as goal

abbrev pub decreases-lines : goal.decreases-lines
decreases-lines l = length l.rest

abbrev pub invariant-lines : goal.invariant-lines
invariant-lines l = record {
  counted : l.count + length (lines_of l.rest) ≡ length (lines_of l.text);
  few : l.count + length l.rest ≤ length l.text;
}
