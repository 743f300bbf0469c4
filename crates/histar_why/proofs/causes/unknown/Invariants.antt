-- The invariants and measures of `unknown` of src/causes.rt.
use Rattle.std.proofs.Common.{◌≡◌, drop}
use Rattle.histar_flat.specs.Classes.{knows}
use Rattle.histar_reasons.specs.Causes.{first_not, unknown}
use Rattle.histar_why.specs.Names.{process_of}
use Rattle.histar_why.proofs.causes.unknown.Given as goal

abbrev pub invariant-loop-job : goal.invariant-loop-job
invariant-loop-job l = unknown (process_of l.caller) l.jobs ≡ first_not (knows (process_of l.caller)) (drop l.job-index l.jobs)
