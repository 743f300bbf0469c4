-- The invariants and measures of `push_all_lone` of src/texts.rt.
use Rattle.std.proofs.Common.{◌≡◌, ◌++◌, take}
use Rattle.std.specs.List.{flat_map}
use Rattle.histar_diff.specs.Texts.{lone_text}
use Rattle.histar_diff.proofs.texts.push_all_lone.Given as goal

abbrev pub invariant-loop-process : goal.invariant-loop-process
invariant-loop-process l = l.text.items ≡ l.fn.text.items ++ flat_map lone_text (take l.process-index l.lone)
