-- Proves the goals of `printed_sentence` of src/findings.rt that the search leaves open.
use Rattle.std.proofs.Common.{None, ◌∙◌}
use Rattle.histar_lint.specs.Lines.{space_rules}
use Rattle.histar_lint.proofs.Sayings.{behind_says, front_says}
use Rattle.histar_attack_lint.specs.Rules.{raw_word_rules}
use Rattle.histar_attack_lint.proofs.findings.printed_sentence.Goals as goal

pub returns-in-Some : goal.returns-in-Some
returns-in-Some c =
    front_says (λ v. v.items) (space_rules c.args.line.now None) (raw_word_rules c.args.call.now) c.in_ok-said.field-0
    (c.in_ok-said.ensures ∙ c.space_sentence.ensures) c.in-Some.said c.in-Some.is

pub returns-in-None : goal.returns-in-None
returns-in-None c =
    behind_says (λ v. v.items) (space_rules c.args.line.now None) (raw_word_rules c.args.call.now) c.in_ok-said.field-0
    (c.in_ok-said.ensures ∙ c.space_sentence.ensures) c.word_sentence.result c.in-None.is c.word_sentence.ensures
