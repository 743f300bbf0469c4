-- The invariants and measures of `left` of src/causes.rt.
use Rattle.std.proofs.Common.{◌≡◌, drop}
use Rattle.histar_flat.specs.Accounts.{has}
use Rattle.histar_reasons.specs.Causes.{first_not, left}
use Rattle.histar_why.specs.Names.{process_of}
use Rattle.histar_why.proofs.causes.left.Given as goal

abbrev pub invariant-loop-job : goal.invariant-loop-job
invariant-loop-job l = left (process_of l.caller) l.jobs ≡ first_not (has l.jobs) (drop l.job-index l.chain)
