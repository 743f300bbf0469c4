-- Proves the goals of `sentence` of src/findings.rt that the search leaves open.
use Rattle.histar_script.specs.Lines.{lines_of}
use Rattle.histar_lint.specs.Lines.{byte_rules}
use Rattle.histar_lint.specs.Rules.{read_so_far, said_rules}
use Rattle.histar_lint.proofs.Sayings.{behind_says, front_says}
use Rattle.histar_lint.proofs.findings.sentence.Goals as goal

pub returns-in-Some : goal.returns-in-Some
returns-in-Some c =
    front_says (λ v. v.items) (byte_rules c.args.line.now)
    (said_rules (lines_of c.args.text.now) (read_so_far c.args.accounts.now c.args.calls.now) c.args.line.now)
    c.in_ok-said.field-0
    c.in_ok-said.ensures c.in-Some.said c.in-Some.is

pub returns-in-None : goal.returns-in-None
returns-in-None c =
    behind_says (λ v. v.items) (byte_rules c.args.line.now)
    (said_rules (lines_of c.args.text.now) (read_so_far c.args.accounts.now c.args.calls.now) c.args.line.now)
    c.in_ok-said.field-0
    c.in_ok-said.ensures c.said_sentence.result c.in-None.is c.said_sentence.ensures
