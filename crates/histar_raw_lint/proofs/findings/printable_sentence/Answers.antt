-- Proves the goals of `printable_sentence` of src/findings.rt that the search leaves open.
use Rattle.std.proofs.Common.{◌++◌, ◌∙◌}
use Rattle.histar_lint.specs.Lines.{rest_of, word_of}
use Rattle.histar_raw_lint.specs.Rules.{call_rules, thread_rules, word_rules}
use Rattle.histar_lint.proofs.Sayings.{behind_says, front_says}
use Rattle.histar_raw_lint.proofs.findings.printable_sentence.Goals as goal

pub returns-in-Some : goal.returns-in-Some
returns-in-Some c =
    front_says (λ v. v.items) (word_rules c.args.line.now) (thread_rules (word_of c.args.line.now) ++ call_rules (rest_of c.args.line.now))
    c.in_ok-said.field-0
    (c.in_ok-said.ensures ∙ c.word_sentence.ensures) c.in-Some.said c.in-Some.is

pub returns-in-None : goal.returns-in-None
returns-in-None c =
    behind_says (λ v. v.items) (word_rules c.args.line.now) (thread_rules (word_of c.args.line.now) ++ call_rules (rest_of c.args.line.now))
    c.in_ok-said.field-0
    (c.in_ok-said.ensures ∙ c.word_sentence.ensures) c.thread_call_sentence.result c.in-None.is c.thread_call_sentence.ensures
