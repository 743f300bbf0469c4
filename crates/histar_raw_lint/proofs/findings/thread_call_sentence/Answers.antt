-- Proves the goals of `thread_call_sentence` of src/findings.rt that the search leaves open.
use Rattle.std.proofs.Common.{List, ℕ, ap, ◌∙◌}
use Rattle.std.proofs.lemmas.Result.{IfOk-weaker}
use Rattle.histar_lint.specs.Lines.{first_sentence, rest_of, word_of}
use Rattle.histar_raw_lint.specs.Rules.{call_rules, thread_rules}
use Rattle.histar_lint.proofs.Sayings.{behind_says, front_says}
use Rattle.histar_raw_lint.proofs.findings.thread_call_sentence.Goals as goal

pub returns-in-Some : goal.returns-in-Some
returns-in-Some c =
    front_says (λ v. v.items) (thread_rules (word_of c.args.line.now)) (call_rules (rest_of c.args.line.now)) c.in_ok-said.field-0
    (c.in_ok-said.ensures ∙ ap (λ (w : List ℕ). first_sentence (thread_rules w)) c.split_word.ensures.word) c.in-Some.said c.in-Some.is

pub returns-in-None : goal.returns-in-None
returns-in-None c =
    behind_says (λ v. v.items) (thread_rules (word_of c.args.line.now)) (call_rules (rest_of c.args.line.now)) c.in_ok-said.field-0
    (c.in_ok-said.ensures ∙ ap (λ (w : List ℕ). first_sentence (thread_rules w)) c.split_word.ensures.word) c.call_sentence.result c.in-None.is
    (IfOk-weaker c.call_sentence.result _ _ (λ said is. is
    ∙ ap (λ (w : List ℕ). first_sentence (call_rules w)) c.rest_of.ensures) c.call_sentence.ensures)
