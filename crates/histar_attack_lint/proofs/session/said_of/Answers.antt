-- Proves the goals of `said_of` of src/session.rt that the search leaves open.
use Rattle.std.proofs.Common.{◌≡◌, length, Some, List, ℕ, sym, ap, ◌∙◌, rules}
use Rattle.std.proofs.lemmas.Result.{IfOk-weaker}
use Rattle.histar_script.specs.Lines.{lines_of}
use Rattle.histar_script.proofs.LineLemmas.{no_lines}
use Rattle.histar_lint.proofs.Sayings.{none_unpacked, unpacked}
use Rattle.histar_attack_lint.specs.Session.{said_of}
use Rattle.histar_attack_lint.proofs.Saying.{said_is}
use Rattle.histar_attack_lint.proofs.session.said_of.Goals as goal

pub returns-then-is_empty : goal.returns-then-is_empty
returns-then-is_empty c =
    let none : length c.args.rest.now ≡ 0 = search rules in
    let said = ap (said_of (lines_of c.args.text.now) c.args.script) (no_lines c.args.rest.now none) in
    IfOk-weaker c.from_slice.result _ _
    (λ v items. said ∙ ap (λ (text : List ℕ). Some text) (sym (items ∙ c.as_slice.ensures)))
    c.from_slice.ensures.items

pub unreachable-requires : goal.unreachable-requires
unreachable-requires c =
    let said =
    said_is (lines_of c.args.text.now) (lines_of c.args.rest.now) _ c.args.script _ _ c.split_line.result.0.now _
    c.into_parts-accounts.ensures.accounts
    (c.as_slice-2.ensures.value ∙ c.into_parts-accounts.ensures.calls) c.split_line.ensures.first c.in_ok-said.ensures in
    none_unpacked _ c.in_ok-said.field-0 _ said c.in-None.is c.requires

pub returns : goal.returns
returns c =
    let said =
    said_is (lines_of c.args.text.now) (lines_of c.args.rest.now) _ c.args.script _ _ c.split_line.result.0.now _
    c.into_parts-accounts.ensures.accounts
    (c.as_slice-2.ensures.value ∙ c.into_parts-accounts.ensures.calls) c.split_line.ensures.first c.in_ok-said.ensures in
    unpacked _ c.in_ok-said.field-0 c.in-Some.said _ said c.in-Some.is
