-- The invariants and measures of `first_near` of src/call_rules.rt.
use Rattle.std.proofs.Common.{◌≡◌, drop}
use Rattle.std.specs.Prelude.{map}
use Rattle.histar_lint.specs.Calls.{first_near}
use Rattle.histar_raw_lint.proofs.call_rules.first_near.Given as goal

abbrev pub invariant-calls : goal.invariant-calls
invariant-calls l = first_near l.word (map (λ call. call.now) l.calls) ≡ first_near l.word (map (λ call. call.now) (drop l.call-index l.calls))
