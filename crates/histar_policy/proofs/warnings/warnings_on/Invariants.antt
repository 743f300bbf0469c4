-- The invariants and measures of `warnings_on` of src/warnings.rt.
use Rattle.histar_policy.proofs.Said.{IsAt}
use Rattle.histar_policy.proofs.warnings.warnings_on.Given as goal

abbrev pub invariant-notes : goal.invariant-notes
invariant-notes l = IsAt l.file l.script l.note-index l.known l.text.items
