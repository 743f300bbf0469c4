-- Proves the goals of `explain_comparison` of src/explained.rt that the search leaves open.
use Rattle.histar_comparison.proofs.Verdicts.{can_run}
use Rattle.histar_comparison.proofs.explained.explain_comparison.Goals as goal

pub observe-requires : goal.observe-requires
observe-requires g c = can_run c.args.job.now c.args.text.now c.in_ok-script.script c.in_ok-script.ensures.exact

pub explain_against-requires : goal.explain_against-requires
explain_against-requires g c = record { script = c.in_ok-script.script; is_read = c.in_ok-script.ensures.exact; is = c.in_ok-first.ensures.ok }
