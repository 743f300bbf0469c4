-- The invariants and measures of `compare_each` of src/jobs.rt.
use Rattle.std.proofs.Common.{◌≡◌, map, take, Ok}
use Rattle.histar_script.specs.Script.{ScriptModel}
use Rattle.histar_script.specs.Reading.{script_of}
use Rattle.histar_comparison.specs.Jobs.{job_verdict}
use Rattle.histar_comparison.proofs.jobs.compare_each.Given as goal

abbrev pub invariant-jobs : goal.invariant-jobs
invariant-jobs g l =
    (l.tree.items ≡ l.initial.tree.items)
    × ((script : ScriptModel) → script_of l.text ≡ Ok script → l.verdicts.items ≡ map (job_verdict script) (take l.job-index l.job-items))
