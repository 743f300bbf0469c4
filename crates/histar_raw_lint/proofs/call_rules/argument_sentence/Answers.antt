-- Proves the goals of `argument_sentence` of src/call_rules.rt that the search leaves open.
use Rattle.std.proofs.Common.{◌+◌, Option, List, ℕ, Bor, drop, sym, ap, ◌∙◌}
use Rattle.std.specs.Option.{option_copied}
use Rattle.histar_lint.specs.Lines.{first_sentence}
use Rattle.histar_raw_lint.specs.Rules.{argument_rules}
use Rattle.histar_raw_lint.specs.declared.kinds.Kind.TheVariants.{Container}
use Rattle.histar_raw_lint.proofs.Steps.{argument_behind, argument_front, rules_none}
use Rattle.histar_raw_lint.proofs.call_rules.argument_sentence.Goals as goal

pub returns-in_default : goal.returns-in_default
returns-in_default c =
    sym (c.kinds.invariant ∙ ap (λ (o : Option (Bor (List ℕ))). first_sentence
    (argument_rules (drop c.kinds.kind-index c.args.kinds.now) (option_copied o))) c.in_default.is
    ∙ ap first_sentence (rules_none c.args.kinds.now c.kinds.kind-index Container c.kinds-test.true))

pub returns-in-Some-2 : goal.returns-in-Some-2
returns-in-Some-2 c =
    sym (c.kinds.invariant ∙ ap (λ (o : Option (Bor (List ℕ))). first_sentence
    (argument_rules (drop c.kinds.kind-index c.args.kinds.now) (option_copied o))) c.in-Some.is
    ∙ argument_front (λ v. v.items) c.args.kinds.now _ c.in-Some.text.now c.kinds-test.true c.split_word.ensures.word c.in_ok-said.ensures
    c.in-Some-2.is)

pub kinds-preserved : goal.kinds-preserved
kinds-preserved c =
    c.kinds.invariant ∙ ap (λ (o : Option (Bor (List ℕ))). first_sentence
    (argument_rules (drop c.kinds.kind-index c.args.kinds.now) (option_copied o))) c.in-Some.is
    ∙ argument_behind (λ v. v.items) c.args.kinds.now _ c.in-Some.text.now c.kinds-test.true c.split_word.ensures.word c.in_ok-said.ensures
    c.in_default-2.is
    ∙ ap (λ (o : Option (List ℕ)). first_sentence (argument_rules (drop (c.kinds.kind-index + 1) c.args.kinds.now) o)) (sym c.split_word.ensures.rest)
