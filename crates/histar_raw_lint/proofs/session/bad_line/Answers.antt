-- Proves the goals of `bad_line` of src/session.rt that the search leaves open.
use Rattle.std.proofs.Common.{length, inl, inr, arith}
use Rattle.std.proofs.lemmas.Bool.{cases_lt}
use Rattle.histar_raw_lint.proofs.FirstBadLine.{bad_is, one_less, some_left}
use Rattle.histar_raw_lint.proofs.session.bad_line.Goals as goal

pub split_line-requires : goal.split_line-requires
split_line-requires c =
    elim (cases_lt 0 (length c.ahead.rest.now)) [
      | inl some ↦ some
      | inr none ↦ absurd (some_left c.args.text.now c.ahead.rest.now c.ahead.left c.args.bad c.ahead.invariant (omega arith))
    ]

pub ahead-preserved : goal.ahead-preserved
ahead-preserved c =
    let more = c.ahead-test.true in
    one_less c.ahead.invariant c.split_line.ensures.first more (omega (arith, more))

pub split_line-requires-2 : goal.split_line-requires-2
split_line-requires-2 c =
    elim (cases_lt 0 (length c.ahead.rest.now)) [
      | inl some ↦ some
      | inr none ↦ absurd (some_left c.args.text.now c.ahead.rest.now c.ahead.left c.args.bad c.ahead.invariant (omega arith))
    ]

pub returns : goal.returns
returns c = bad_is c.split_line-2.result.1.now c.ahead.invariant c.split_line-2.ensures.first c.ahead-test.false
