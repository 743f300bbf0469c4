-- Proves the goals of `is_open_way` of src/output.rt that the search leaves open.
use Rattle.std.proofs.Common.{◌∙◌}
use Rattle.histar_trust.proofs.Places.{open_mapped}
use Rattle.histar_trust.proofs.output.is_open_way.Goals as goal

pub returns : goal.returns
returns c = c.are_for_everyone.ensures ∙ open_mapped c.args.classes.now
