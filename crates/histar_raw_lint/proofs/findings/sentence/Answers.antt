-- Proves the goals of `sentence` of src/findings.rt that the search leaves open.
use Rattle.std.proofs.Common.{◌++◌}
use Rattle.histar_lint.specs.Lines.{byte_rules, rest_of, word_of}
use Rattle.histar_raw_lint.specs.Rules.{call_rules, thread_rules, word_rules}
use Rattle.histar_lint.proofs.Sayings.{behind_says, front_says}
use Rattle.histar_raw_lint.proofs.findings.sentence.Goals as goal

pub returns-in-Some : goal.returns-in-Some
returns-in-Some c =
    front_says (λ v. v.items) (byte_rules c.args.line.now) (word_rules c.args.line.now ++
    (thread_rules (word_of c.args.line.now) ++ call_rules (rest_of c.args.line.now))) c.in_ok-said.field-0
    c.in_ok-said.ensures c.in-Some.said c.in-Some.is

pub returns-in-None : goal.returns-in-None
returns-in-None c =
    behind_says (λ v. v.items) (byte_rules c.args.line.now) (word_rules c.args.line.now ++
    (thread_rules (word_of c.args.line.now) ++ call_rules (rest_of c.args.line.now))) c.in_ok-said.field-0
    c.in_ok-said.ensures c.printable_sentence.result c.in-None.is c.printable_sentence.ensures
