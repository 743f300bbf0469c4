-- Proves the goals of `behind` of src/cuts.rt that the search leaves open.
use Rattle.std.proofs.Common.{ℕ, List, [], ap, ◌∙◌}
use Rattle.std.specs.Prelude.{Option, unwrap_or}
use Rattle.histar_output.proofs.CutLemmas.{copied_or}
use Rattle.histar_output.proofs.cuts.behind.Goals as goal

pub returns : goal.returns
returns c =
    ap (λ b. b.now) c.unwrap_or.ensures ∙ copied_or c.cut_at.result.1 _ ∙ ap (λ (o : Option (List ℕ)). unwrap_or o []) c.cut_at.ensures.behind
