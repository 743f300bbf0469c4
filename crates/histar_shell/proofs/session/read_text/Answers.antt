-- Proves the goals of `read_text` of src/session.rt that the search leaves open.
use Rattle.std.proofs.Common.{ℕ, List, subst}
use Rattle.histar_script.specs.Outcome.{Gives}
use Rattle.histar_script.specs.Reading.{script_of}
use Rattle.histar_shell.proofs.session.read_text.Goals as goal

pub returns-clause-exact : goal.returns-clause-exact
returns-clause-exact g c =
    subst (λ (b : List ℕ). Gives c.read_script.result (script_of b)) c.as_slice.ensures.value c.read_script.ensures.exact
