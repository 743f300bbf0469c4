-- The invariants and measures of `push_denials` of src/noted.rt.
use Rattle.std.proofs.Common.{◌≡◌, ◌++◌, length, map}
use Rattle.histar_transcript.specs.Noted.{denials_behind}
use Rattle.histar_transcript.proofs.noted.push_denials.Given as goal

abbrev pub decreases-denials : goal.decreases-denials
decreases-denials l = length l.left

abbrev pub invariant-denials : goal.invariant-denials
invariant-denials l =
    l.text.items ++ denials_behind l.line (map (λ denial. denial.now) l.left)
    ≡ l.fn.text.items ++ denials_behind l.line (map (λ denial. denial.now) l.denials)
