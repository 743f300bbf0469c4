-- The invariants and measures of `argument_sentence` of src/call_rules.rt.
use Rattle.std.proofs.Common.{◌≡◌, drop}
use Rattle.std.specs.Option.{option_copied}
use Rattle.histar_lint.specs.Lines.{first_sentence}
use Rattle.histar_raw_lint.specs.Rules.{argument_rules}
use Rattle.histar_raw_lint.proofs.call_rules.argument_sentence.Given as goal

abbrev pub invariant-kinds : goal.invariant-kinds
invariant-kinds l =
    first_sentence (argument_rules l.kinds (option_copied l.words)) ≡ first_sentence
    (argument_rules (drop l.kind-index l.kinds) (option_copied l.rest))
