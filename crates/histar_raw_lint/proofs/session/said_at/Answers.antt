-- Proves the goals of `said_at` of src/session.rt that the search leaves open.
use Rattle.std.proofs.Common.{sym}
use Rattle.histar_raw_lint.proofs.FirstBadLine.{says_something}
use Rattle.histar_lint.proofs.Sayings.{none_unpacked, unpacked}
use Rattle.histar_raw_lint.proofs.session.said_at.Goals as goal

pub unreachable-requires : goal.unreachable-requires
unreachable-requires c =
    none_unpacked (λ v. v.items) c.in_ok-said.field-0 _ (sym c.in_ok-said.ensures) c.in-None.is
    (says_something c.args.text.now c.args.bad c.bad_line.result.now c.bad_line.ensures)

pub returns : goal.returns
returns c = record {
  line = c.bad_line.result.now;
  first = c.bad_line.ensures;
  broken = unpacked (λ v. v.items) c.in_ok-said.field-0 c.in-Some.said _ (sym c.in_ok-said.ensures) c.in-Some.is;
}
