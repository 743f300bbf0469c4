-- Proves the goals of `add_lines` of src/gathering.rt that the search leaves open.
use Rattle.std.proofs.Common.{rules}
use Rattle.histar_ever.specs.Gathering.{letters_at, line_letters}
use Rattle.histar_ever.proofs.Adding.{one_added}
use Rattle.histar_ever.proofs.gathering.add_lines.Goals as goal

pub loop-line-preserved : goal.loop-line-preserved
loop-line-preserved c q p =
    one_added c.args.lines.now c.loop-line.line-index c.line-item.result (search rules) c.line-item.is
    (line_letters c.args.runners.now q p) (letters_at c.args.letters.now q p) (letters_at c.loop-line.letters q p)
    (letters_at c.add_row.new.letters q p) (c.loop-line.invariant q p) ((rw c.as_slice.ensures.value at c.in_ok-add_row.ensures) q p)
