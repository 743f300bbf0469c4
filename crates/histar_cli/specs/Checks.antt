-- What was found of each job.
use Rattle.std.specs.Prelude.{Bool, true, false}
use Rattle.histar_comparison.specs.declared.jobs.JobVerdict.{JobVerdict}
use Rattle.histar_noninterference.specs.declared.verdict.Verdict.{Verdict}
use Rattle.histar_noninterference.specs.declared.verdict.Verdict.TheVariants.{Same}

-- outsiders can't distinguish the two runs
abbrev pub is_same : Verdict → Bool
is_same Same = true
is_same verdict = false

-- they can't distinguish the run without this job
abbrev pub is_same_without : JobVerdict → Bool
is_same_without j = is_same j.found.verdict
