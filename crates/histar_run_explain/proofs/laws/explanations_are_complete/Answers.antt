-- Proves the goals of `explanations_are_complete` of src/laws.rt that the search leaves open.
use Rattle.histar_run_explain.proofs.CompleteLines.{explanations_are_complete}
use Rattle.histar_run_explain.proofs.laws.explanations_are_complete.Goals as goal

pub returns : goal.returns
returns c = explanations_are_complete
