-- The invariants and measures of `label_at_both` of src/gates.rt.
use Rattle.std.proofs.Common.{◌≡◌, take}
use Rattle.histar_layout.specs.Labelling.{labelled}
use Rattle.histar_programs.specs.Start.{at_both}
use Rattle.histar_login.proofs.gates.label_at_both.Given as goal

abbrev pub invariant-loop-owner : goal.invariant-loop-owner
invariant-loop-owner g l = l.label ≡ labelled (at_both l.fn.level (take l.owner-index l.owners)) l.fn.default
