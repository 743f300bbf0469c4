-- The invariants and measures of `push_each_runner` of src/files.rt.
use Rattle.std.proofs.Common.{◌≡◌, ◌++◌, take}
use Rattle.std.specs.List.{flat_map}
use Rattle.histar_trust.specs.Findings.{shown_runner}
use Rattle.histar_trust.proofs.files.push_each_runner.Given as goal

abbrev pub invariant-loop-member : goal.invariant-loop-member
invariant-loop-member l = l.text.items ≡ l.fn.text.items ++ flat_map shown_runner (take l.member-index l.members)
