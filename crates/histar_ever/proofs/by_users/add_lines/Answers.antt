-- Proves the goals of `add_lines` of src/by_users.rt that the search leaves open.
use Rattle.std.proofs.Common.{rules}
use Rattle.histar_ever.specs.GatheringUsers.{user_letters_at, user_line_letters}
use Rattle.histar_ever.proofs.Adding.{one_added}
use Rattle.histar_ever.proofs.by_users.add_lines.Goals as goal

pub loop-line-preserved : goal.loop-line-preserved
loop-line-preserved c q user =
    one_added c.args.lines.now c.loop-line.line-index c.line-item.result (search rules) c.line-item.is
    (user_line_letters c.args.users.now q user) (user_letters_at c.args.letters.now q user) (user_letters_at c.loop-line.letters q user)
    (user_letters_at c.add_row.new.letters q user) (c.loop-line.invariant q user) ((rw c.as_slice.ensures.value at c.in_ok-add_row.ensures) q user)
