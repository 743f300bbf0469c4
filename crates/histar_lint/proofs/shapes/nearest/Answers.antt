-- Proves the goals of `nearest` of src/shapes.rt that the search leaves open.
use Rattle.std.proofs.Common.{ap, ◌∙◌}
use Rattle.std.specs.Prelude.{map}
use Rattle.std.proofs.lemmas.Result.{IfOk-weaker}
use Rattle.histar_lint.specs.Calls.{first_near}
use Rattle.histar_lint.proofs.shapes.nearest.Goals as goal

pub returns : goal.returns
returns c =
    IfOk-weaker c.first_near.result _ _
    (λ call is. is ∙ ap (λ calls. first_near c.args.word.now (map (λ other. other.now) calls)) c.as_slice.ensures)
    c.first_near.ensures
