-- Proves the goals of `word_sentence` of src/line_rules.rt that the search leaves open.
use Rattle.std.proofs.Common.{None, sym}
use Rattle.histar_lint.specs.Lines.{space_rules}
use Rattle.histar_lint.proofs.Rules.{said_in_front}
use Rattle.histar_raw_lint.specs.Rules.{second_word_rules}
use Rattle.histar_raw_lint.proofs.line_rules.word_sentence.Goals as goal

pub returns-in-Some : goal.returns-in-Some
returns-in-Some c =
    let line = c.args.line.now in
    sym (said_in_front (space_rules line None) (second_word_rules line) c.in-Some.said.now (sym c.in-Some.ensures))
