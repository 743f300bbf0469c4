-- Proves the goals of `word_sentence` of src/word_rules.rt that the search leaves open.
use Rattle.std.proofs.Common.{◌≡◌, ℕ, List, Option, Some, sym, ap, ◌∙◌}
use Rattle.histar_lint.specs.Lines.{first_sentence, space_rules}
use Rattle.histar_lint.specs.FreeParts.{free_of, second_word_rules}
use Rattle.histar_lint.proofs.Rules.{said_in_front}
use Rattle.histar_lint.proofs.word_rules.word_sentence.Goals as goal

pub returns-in-Some : goal.returns-in-Some
returns-in-Some c =
    let line = c.args.line.now in
    let said : first_sentence (space_rules line (free_of line)) ≡ Some c.in-Some.said.now =
    ap (λ (free : Option (List ℕ)). first_sentence (space_rules line free)) (sym c.free_of.ensures) ∙ sym c.in-Some.ensures in
    sym (said_in_front (space_rules line (free_of line)) (second_word_rules line) c.in-Some.said.now said)
