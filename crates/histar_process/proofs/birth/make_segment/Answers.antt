-- Proves the goals of `make_segment` of src/birth.rt that the search leaves open.
use Rattle.histar_programs.proofs.Running.{grants, refuses, fails_so}
use Rattle.histar_process.proofs.Births.{before_segment, segment_so}
use Rattle.histar_process.proofs.birth.make_segment.Goals as goal

pub returns-in_err-label : goal.returns-in_err-label
returns-in_err-label g c =
    fails_so _ _ _ _ _ _ c.from_residual.ensures.1
    (before_segment _ c.args.body.now c.args.newborn.now.jobs.now c.args.newborn.now.write _ c.in_err-label.ensures.memory)

pub returns-in_err-bytes : goal.returns-in_err-bytes
returns-in_err-bytes g c =
    fails_so _ _ _ _ _ _ c.from_residual-in_err-bytes.ensures.1
    (before_segment _ c.args.body.now c.args.newborn.now.jobs.now c.args.newborn.now.write _ c.in_err-bytes.ensures.memory)

pub returns-in_err-made : goal.returns-in_err-made
returns-in_err-made g c =
    fails_so _ _ _ _ _ _ c.from_residual-in_err-made.ensures.1 (segment_so _ _ _ _ _ _ _ _ c.in_ok-label.ensures.ok c.in_ok-bytes.ensures.ok _
    (refuses _ _ _ _ _ _ c.in_err-made.ensures.answered c.in_err-made.ensures.memory))

pub returns : goal.returns
returns g c =
    segment_so _ _ _ _ _ _ _ _ c.in_ok-label.ensures.ok c.in_ok-bytes.ensures.ok _
    (grants _ _ _ _ _ c.in_ok-made.ensures.answered.0 c.in_ok-made.ensures.answered.1)
