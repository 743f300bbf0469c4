-- Proves the goals of `lone_processes` of src/lone.rt that the search leaves open.
use Rattle.std.proofs.Common.{arith}
use Rattle.std.proofs.lemmas.Grind.{common_steps}
use Rattle.std.proofs.lemmas.List.Elements.{filter_map-append}
use Rattle.histar_diff.proofs.lone.lone_processes.Goals as goal

pub loop-column-preserved : goal.loop-column-preserved
loop-column-preserved c = grind (arith, common_steps, filter_map-append)
