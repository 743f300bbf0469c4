-- Proves the goals of `first_fault` of src/faults.rt that the search leaves open.
use Rattle.std.proofs.Common.{◌≡◌, None, Option, Some, ap, false, length, rules, subst, sym, ◌∙◌, Bool}
use Rattle.std.specs.Prelude.{is_none}
use Rattle.histar_script.specs.Lines.{lines_of}
use Rattle.histar_test.specs.Faults.{fault_in, last_after, line_fault}
use Rattle.histar_test.specs.Steps.{steps_from}
use Rattle.histar_test.proofs.FaultLaws.{IsBehind, at_first, found, none_found, says_same, went_on}
use Rattle.histar_test.proofs.faults.first_fault.Goals as goal

pub lines-init : goal.lines-init
lines-init c = record { is_behind = at_first c.args.accounts.now (lines_of c.args.text.now) }

pub returns-in-Some : goal.returns-in-Some
returns-in-Some c =
    let line = c.split_line.result.0.now in
    let rest = lines_of c.split_line.result.1.now in
    let says : line_fault c.args.accounts.now c.lines.last line ≡ Some c.in-Some.said.now = search rules in
    let broken : is_none (line_fault c.args.accounts.now c.lines.last line) ≡ false = ap is_none says in
    let whole = found line rest c.split_line.ensures.first c.lines.invariant.is_behind broken ∙ says in
    let accounts = c.args.accounts.now in
    let lines = lines_of c.args.text.now in
    says_same c.copied.result (Some c.in-Some.said.now) (fault_in accounts lines (steps_from accounts 1 false lines)) (sym whole) c.copied.ensures

pub lines-preserved : goal.lines-preserved
lines-preserved c =
    let line = c.split_line.result.0.now in
    let rest = lines_of c.split_line.result.1.now in
    let kept : line_fault c.args.accounts.now c.lines.last line ≡ None = search rules in
    let after : last_after c.lines.last line ≡ c.in_ok-last.last = sym c.in_ok-last.ensures in
    record {
      is_behind =
          subst (λ (last : Option Bool). IsBehind c.args.accounts.now (lines_of c.args.text.now) last rest) after
          (went_on line rest c.split_line.ensures.first c.lines.invariant.is_behind kept);
    }

pub returns : goal.returns
returns c =
    let none : length c.lines.rest.now ≡ 0 = search rules in
    sym (none_found c.lines.rest.now none c.lines.invariant.is_behind)
