-- The invariants and measures of `push_differences` of src/user_texts.rt.
use Rattle.std.proofs.Common.{◌≡◌, ◌++◌, take}
use Rattle.std.specs.List.{flat_map}
use Rattle.histar_diff.specs.UserTexts.{user_difference_text}
use Rattle.histar_diff.proofs.user_texts.push_differences.Given as goal

abbrev pub invariant-loop-difference : goal.invariant-loop-difference
invariant-loop-difference l = l.text.items ≡ l.fn.text.items ++ flat_map user_difference_text (take l.difference-index l.differences)
