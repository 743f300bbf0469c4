-- The invariants and measures of `push_differences` of src/user_differences.rt.
use Rattle.std.proofs.Common.{◌≡◌, ◌++◌, take}
use Rattle.std.specs.Option.{option_copied}
use Rattle.histar_diff.specs.UserTables.{shared_differences}
use Rattle.histar_diff.proofs.user_differences.push_differences.Given as goal

abbrev pub invariant-loop-user : goal.invariant-loop-user
invariant-loop-user l = l.differences.items
    ≡ l.fn.differences.items ++ shared_differences (take l.user-index l.shared) l.path (option_copied l.before) (option_copied l.after)
