-- Proves the goals of `read_again` of src/session.rt that the search leaves open.
use Rattle.std.proofs.Common.{ℕ, List, subst}
use Rattle.histar_script.specs.Outcome.{Gives}
use Rattle.histar_test.specs.Steps.{test_of}
use Rattle.histar_test.proofs.FileLemmas.{read_as_test, read_fails}
use Rattle.histar_test.proofs.session.read_again.Goals as goal

pub returns : goal.returns
returns c =
    let text = c.args.file.now.text.items in
    let gives = subst (λ (t : List ℕ). Gives c.read_test.result (test_of t)) c.as_slice.ensures.value c.read_test.ensures in
    record { ok = read_as_test c.read_test.result (test_of text) gives; faults = read_fails c.read_test.result (test_of text) c.requires gives }
