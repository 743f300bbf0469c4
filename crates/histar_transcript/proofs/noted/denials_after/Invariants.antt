-- The invariants and measures of `denials_after` of src/noted.rt.
use Rattle.std.proofs.Common.{◌≡◌, length, map}
use Rattle.histar_transcript.specs.Noted.{denials_after}
use Rattle.histar_transcript.proofs.noted.denials_after.Given as goal

abbrev pub decreases-denials : goal.decreases-denials
decreases-denials l = length l.rest

abbrev pub invariant-denials : goal.invariant-denials
invariant-denials l =
    denials_after l.line (map (λ denial. denial.now) l.rest) ≡ denials_after l.line (map (λ denial. denial.now) l.denials)
