-- The invariants and measures of `fits` of src/call_rules.rt.
use Rattle.std.proofs.Common.{◌≡◌, drop}
use Rattle.std.specs.Option.{option_copied}
use Rattle.histar_raw_lint.specs.Rules.{fits}
use Rattle.histar_raw_lint.proofs.call_rules.fits.Given as goal

abbrev pub invariant-kinds : goal.invariant-kinds
invariant-kinds l = fits l.kinds (option_copied l.words) ≡ fits (drop l._kind-index l.kinds) (option_copied l.rest)
