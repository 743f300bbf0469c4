-- Proves the goals of `claimed_sentence` of src/faults.rt that the search leaves open.
use Rattle.std.proofs.Common.{◌≡◌, Some, false, rules, true}
use Rattle.std.specs.Option.{option_copied}
use Rattle.histar_test.specs.Steps.{are_processes}
use Rattle.histar_test.proofs.FaultLemmas.{processes_broken, processes_kept}
use Rattle.histar_test.proofs.faults.claimed_sentence.Goals as goal

pub returns-then-branch : goal.returns-then-branch
returns-then-branch c =
    let is : option_copied c.args.names ≡ Some c.in-Some.text.now = search rules in
    let are : are_processes c.in-Some.text.now ≡ true = search rules in
    processes_kept (option_copied c.args.names) c.in-Some.text.now is are

pub returns : goal.returns
returns c =
    let is : option_copied c.args.names ≡ Some c.in-Some.text.now = search rules in
    let are : are_processes c.in-Some.text.now ≡ false = search rules in
    processes_broken (option_copied c.args.names) c.in-Some.text.now is are
