-- The invariants and measures of `split_at_commas` of src/read_labels.rt.
use Rattle.std.proofs.Common.{◌≡◌, ◌++◌, map}
use Rattle.std.specs.Prelude.{◌==◌}
use Rattle.std.specs.List.{slice_split}
use Rattle.std.specs.Option.{option_copied}
use Rattle.histar_rawtext.proofs.Commas.{parts_left, size_left}
use Rattle.histar_rawtext.proofs.read_labels.split_at_commas.Given as goal

abbrev pub invariant-commas : goal.invariant-commas
invariant-commas g l = map (λ part. part.now) l.parts.items ++ parts_left (option_copied l.rest) ≡ slice_split (λ b. b == 44) l.text

abbrev pub decreases-commas : goal.decreases-commas
decreases-commas g l = size_left (option_copied l.rest)
