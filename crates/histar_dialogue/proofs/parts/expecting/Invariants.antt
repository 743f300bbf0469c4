-- The invariants and measures of `expecting` of src/parts.rt.
use Rattle.std.proofs.Common.{◌≡◌, None, length}
use Rattle.std.specs.Prelude.{option_map}
use Rattle.histar_script.specs.Lines.{lines_of}
use Rattle.histar_dialogue.specs.Parts.{expecting}
use Rattle.histar_dialogue.proofs.parts.expecting.Given as goal

abbrev pub decreases-lines : goal.decreases-lines
decreases-lines l = length l.rest

abbrev pub invariant-lines : goal.invariant-lines
invariant-lines l = expecting (option_map (λ line. line.items) l.found) (lines_of l.rest) ≡ expecting None (lines_of l.replies)
