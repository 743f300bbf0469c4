-- The invariants and measures of `verdict_lines` of src/tasks.rt.
use Rattle.std.proofs.Common.{◌≡◌, ◌++◌, length}
use Rattle.std.specs.List.{flat_map}
use Rattle.histar_comparison.specs.Jobs.{job_text}
use Rattle.histar_cli.proofs.tasks.verdict_lines.Given as goal

abbrev pub decreases-verdicts : goal.decreases-verdicts
decreases-verdicts l = length l.rest

abbrev pub invariant-verdicts : goal.invariant-verdicts
invariant-verdicts l =
    l.text.items ++ flat_map (job_text l.why) l.rest ≡ flat_map (job_text l.why) l.verdicts
