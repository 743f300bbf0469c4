-- Proves the goals of `first_near` of src/call_rules.rt that the search leaves open.
use Rattle.std.proofs.Common.{sym, ◌∙◌}
use Rattle.histar_raw_lint.proofs.Steps.{near_behind, near_end, near_front}
use Rattle.histar_raw_lint.proofs.call_rules.first_near.Goals as goal

pub returns-then-branch : goal.returns-then-branch
returns-then-branch c =
    sym (c.calls.invariant ∙ near_front c.args.calls.now _ c.args.word.now c.calls-test.true
    c.as_bytes.ensures.value c.in_ok-is_near.ensures c.if-branch.true)

pub calls-preserved : goal.calls-preserved
calls-preserved c =
    c.calls.invariant ∙ near_behind c.args.calls.now _ c.args.word.now c.calls-test.true
    c.as_bytes.ensures.value c.in_ok-is_near.ensures c.if-branch.false

pub returns : goal.returns
returns c = sym (c.calls.invariant ∙ near_end c.args.word.now c.args.calls.now c.calls.call-index c.calls-test.false)
