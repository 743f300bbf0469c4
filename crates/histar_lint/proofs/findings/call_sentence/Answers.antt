-- Proves the goals of `call_sentence` of src/findings.rt that the search leaves open.
use Rattle.std.proofs.Common.{◌∙◌}
use Rattle.std.proofs.lemmas.Result.{IfOk-weaker}
use Rattle.histar_lint.specs.Calls.{call_word_rules}
use Rattle.histar_lint.specs.Rules.{call_place_rules, read_so_far}
use Rattle.histar_lint.proofs.Sayings.{behind_says, front_says}
use Rattle.histar_lint.proofs.findings.call_sentence.Goals as goal

pub returns-in-Some : goal.returns-in-Some
returns-in-Some c =
    front_says (λ v. v.items) (call_word_rules c.args.process.now c.args.words.now)
    (call_place_rules (read_so_far c.args.accounts.now c.args.calls.now) c.args.words.now)
    c.in_ok-said.field-0 c.in_ok-said.ensures c.in-Some.said c.in-Some.is

pub returns-in_ok-call_place_sentence-in-None : goal.returns-in_ok-call_place_sentence-in-None
returns-in_ok-call_place_sentence-in-None c =
    behind_says (λ v. v.items) (call_word_rules c.args.process.now c.args.words.now)
    (call_place_rules (read_so_far c.args.accounts.now c.args.calls.now) c.args.words.now)
    c.in_ok-said.field-0 c.in_ok-said.ensures c.copied.result c.in-None.is
    (IfOk-weaker c.copied.result _ _ (λ copy is. is ∙ c.in_ok-call_place_sentence-in-None.ensures) c.copied.ensures)
