-- Proves the goals of `fits` of src/call_rules.rt that the search leaves open.
use Rattle.std.proofs.Common.{◌+◌, Option, List, ℕ, Bor, drop, sym, ap, ◌∙◌}
use Rattle.std.specs.Option.{option_copied}
use Rattle.histar_raw_lint.specs.Rules.{fits}
use Rattle.histar_raw_lint.specs.declared.kinds.Kind.TheVariants.{Container}
use Rattle.histar_raw_lint.proofs.Steps.{fits_none, fits_step}
use Rattle.histar_raw_lint.proofs.call_rules.fits.Goals as goal

pub returns-in_default : goal.returns-in_default
returns-in_default c =
    sym (c.kinds.invariant ∙ ap (λ (o : Option (Bor (List ℕ))). fits (drop c.kinds._kind-index c.args.kinds.now) (option_copied o)) c.in_default.is
    ∙ fits_none c.args.kinds.now c.kinds._kind-index Container c.kinds-test.true)

pub kinds-preserved : goal.kinds-preserved
kinds-preserved c =
    c.kinds.invariant ∙ ap (λ (o : Option (Bor (List ℕ))). fits (drop c.kinds._kind-index c.args.kinds.now) (option_copied o)) c.in-Some.is
    ∙ fits_step c.args.kinds.now c.kinds._kind-index Container c.in-Some.text.now c.kinds-test.true
    ∙ ap (fits (drop (c.kinds._kind-index + 1) c.args.kinds.now)) (sym c.split_word.ensures.rest)
