-- Proves the goals of `access_line` of src/table.rt that the search leaves open.
use Rattle.std.proofs.Common.{arith}
use Rattle.std.proofs.lemmas.Grind.{common_steps}
use Rattle.histar_access.proofs.Writing.{texts_shown}
use Rattle.histar_access.proofs.table.access_line.Goals as goal

pub returns : goal.returns
returns c = grind (arith, common_steps, texts_shown c.args.row.now)
