-- Proves the goals of `sentence_on` of src/session.rt that the search leaves open.
use Rattle.std.proofs.Common.{◌≡◌, length, sym, subst, arith}
use Rattle.std.proofs.lemmas.Bool.{cases_lt}
use Rattle.std.proofs.Common.{inl, inr}
use Rattle.histar_script.specs.Script.{ScriptModel}
use Rattle.histar_script.proofs.LineLemmas.{no_lines}
use Rattle.histar_attack_lint.proofs.LinesBefore.{IsAt, at_start, has_line, is_finding, is_right, is_said_of, went_on}
use Rattle.histar_attack_lint.proofs.session.sentence_on.Goals as goal

pub right-init : goal.right-init
right-init c =
    subst (λ (s : ScriptModel). IsAt c.args.text.now c.args.text.now s 0 c.args.bad) (sym c.new-script.ensures)
    (at_start c.args.text.now c.args.bad c.requires)

pub overflow_add-count : goal.overflow_add-count
overflow_add-count c = let ahead = c.right.invariant.ahead in grind (arith, ahead, c.ranges.bad.fits)

pub split_line-requires : goal.split_line-requires
split_line-requires c =
    elim (cases_lt 0 (length c.right.rest.now)) [
      | inl some ↦ some
      | inr none ↦
          let empty : length c.right.rest.now ≡ 0 = omega arith in
          absurd (has_line c.args.text.now c.right.rest.now c.right.script c.right.count c.args.bad c.right.invariant
          c.right-test.true (no_lines c.right.rest.now empty))
    ]

pub pass_line-requires : goal.pass_line-requires
pass_line-requires c =
    is_right c.args.text.now c.right.rest.now c.right.script c.right.count c.args.bad c.right.invariant c.split_line.result.0.now
    c.split_line.result.1.now c.split_line.ensures.first c.right-test.true

pub right-preserved : goal.right-preserved
right-preserved c =
    went_on c.args.text.now c.right.rest.now c.right.script c.right.count c.args.bad c.right.invariant c.split_line.result.0.now
    c.split_line.result.1.now c.split_line.ensures.first c.pass_line.new.script c.right-test.true c.in_ok-pass_line.ensures.ok

pub said_of-requires : goal.said_of-requires
said_of-requires c = is_said_of c.args.text.now c.right.rest.now c.right.script c.right.count c.args.bad c.right.invariant c.right-test.false

pub returns-clause-ok : goal.returns-clause-ok
returns-clause-ok c =
    is_finding c.args.text.now c.right.rest.now c.right.script c.right.count c.args.bad c.right.invariant c.right-test.false
    c.in_ok-said.said.items c.in_ok-said.ensures
