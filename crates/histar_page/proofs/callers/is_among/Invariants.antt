-- The invariants and measures of `is_among` of src/callers.rt.
use Rattle.std.proofs.Common.{◌≡◌, length}
use Rattle.histar_page.specs.Texts.{texts}
use Rattle.histar_page.specs.Callers.{is_among}
use Rattle.histar_page.proofs.callers.is_among.Given as goal

abbrev pub decreases-words : goal.decreases-words
decreases-words l = length l.rest

abbrev pub invariant-words : goal.invariant-words
invariant-words l = is_among (texts l.rest) l.word ≡ is_among (texts l.words) l.word
