-- The invariants and measures of `push_all_lone` of src/user_texts.rt.
use Rattle.std.proofs.Common.{◌≡◌, ◌++◌, take}
use Rattle.std.specs.List.{flat_map}
use Rattle.histar_diff.specs.UserTexts.{lone_user_text}
use Rattle.histar_diff.proofs.user_texts.push_all_lone.Given as goal

abbrev pub invariant-loop-user : goal.invariant-loop-user
invariant-loop-user l = l.text.items ≡ l.fn.text.items ++ flat_map lone_user_text (take l.user-index l.lone)
