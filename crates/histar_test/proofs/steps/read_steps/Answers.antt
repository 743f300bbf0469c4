-- Proves the goals of `read_steps` of src/steps.rt that the search leaves open.
use Rattle.std.proofs.Common.{◌≡◌, length, rules}
use Rattle.histar_test.proofs.StepLemmas.{all_read}
use Rattle.histar_test.proofs.steps.read_steps.Goals as goal

pub returns : goal.returns
returns c =
    let none : length c.lines.rest.now ≡ 0 = search rules in
    all_read c.lines.rest.now none c.lines.invariant.so_far
