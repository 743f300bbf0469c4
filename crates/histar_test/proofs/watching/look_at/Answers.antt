-- Proves the goals of `look_at` of src/watching.rt that the search leaves open.
use Rattle.std.proofs.Common.{rules}
use Rattle.histar_test.proofs.LookLemmas.{looked_first}
use Rattle.histar_test.proofs.watching.look_at.Goals as goal

pub returns : goal.returns
returns c = looked_first c.args.machine.now c.args.line c.args.watch.now c.in-Some.breach (search rules) (search rules)
