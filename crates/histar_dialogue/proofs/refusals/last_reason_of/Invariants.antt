-- The invariants and measures of `last_reason_of` of src/refusals.rt.
use Rattle.std.proofs.Common.{◌≡◌, length}
use Rattle.histar_script.specs.Lines.{lines_of}
use Rattle.histar_dialogue.specs.Refusals.{last_reason, last_reason_of}
use Rattle.histar_dialogue.proofs.refusals.last_reason_of.Given as goal

abbrev pub decreases-lines : goal.decreases-lines
decreases-lines l = length l.rest

abbrev pub invariant-lines : goal.invariant-lines
invariant-lines l = last_reason l.said.items (lines_of l.rest) ≡ last_reason_of l.answers
