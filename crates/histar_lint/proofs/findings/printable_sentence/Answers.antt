-- Proves the goals of `printable_sentence` of src/findings.rt that the search leaves open.
use Rattle.std.proofs.Common.{◌∙◌}
use Rattle.histar_script.specs.Lines.{lines_of}
use Rattle.histar_lint.specs.FreeParts.{word_rules}
use Rattle.histar_lint.specs.Rules.{kind_rules, read_so_far}
use Rattle.histar_lint.proofs.Sayings.{behind_says, front_says}
use Rattle.histar_lint.proofs.findings.printable_sentence.Goals as goal

pub returns-in-Some : goal.returns-in-Some
returns-in-Some c =
    front_says (λ v. v.items) (word_rules c.args.line.now)
    (kind_rules (lines_of c.args.text.now) (read_so_far c.args.accounts.now c.args.calls.now) c.args.line.now)
    c.in_ok-said.field-0 (c.in_ok-said.ensures ∙ c.word_sentence.ensures) c.in-Some.said c.in-Some.is

pub returns-in-None : goal.returns-in-None
returns-in-None c =
    behind_says (λ v. v.items) (word_rules c.args.line.now)
    (kind_rules (lines_of c.args.text.now) (read_so_far c.args.accounts.now c.args.calls.now) c.args.line.now)
    c.in_ok-said.field-0 (c.in_ok-said.ensures ∙ c.word_sentence.ensures) c.kind_sentence.result c.in-None.is c.kind_sentence.ensures
