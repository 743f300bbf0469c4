-- The invariants and measures of `jobs_in` of src/jobs.rt.
use Rattle.std.proofs.Common.{◌≡◌, ◌++◌, length}
use Rattle.std.specs.List.{flat_map}
use Rattle.histar_page.specs.Texts.{texts}
use Rattle.histar_page.specs.Drawing.{job_on}
use Rattle.histar_page.proofs.jobs.jobs_in.Given as goal

abbrev pub decreases-replies : goal.decreases-replies
decreases-replies l = length l.rest

abbrev pub invariant-replies : goal.invariant-replies
invariant-replies l =
    texts l.jobs.items ++ flat_map (job_on (texts l.script)) (texts l.rest) ≡ flat_map (job_on (texts l.script)) (texts l.replies)
