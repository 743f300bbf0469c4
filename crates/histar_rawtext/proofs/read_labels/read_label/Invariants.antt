-- The invariants and measures of `read_label` of src/read_labels.rt.
use Rattle.std.proofs.Common.{◌≡◌, Some, length, map}
use Rattle.histar_rawtext.specs.Reading.{label_in}
use Rattle.histar_rawtext.proofs.LabelsRead.{with_exceptions}
use Rattle.histar_rawtext.proofs.read_labels.read_label.Given as goal

abbrev pub invariant-loop-part : goal.invariant-loop-part
invariant-loop-part g l = with_exceptions (map (λ part. part.now) l.parts.items) (Some l.label) ≡ label_in l.fn.word

abbrev pub decreases-loop-part : goal.decreases-loop-part
decreases-loop-part g l = length l.parts.items
