-- Proves the goal of `takers_among` of src/takers.rt that the search leaves open.
use Rattle.std.proofs.Common.{◌≡◌, [], List, Bool, sym, ap, ◌∙◌}
use Rattle.std.specs.Prelude.{if◌then◌else◌}
use Rattle.std.proofs.lemmas.Result.{IfOk-weaker}
use Rattle.histar_flat.specs.Words.{Name}
use Rattle.histar_policy.specs.Answers.{takers_by, those_that_remove}
use Rattle.histar_policy.proofs.takers.takers_among.Goals as goal

pub returns : goal.returns
returns c =
    let those : List Name = those_that_remove c.args.maker c.args.rights.now in
    IfOk-weaker c.those_that_remove.result (λ users. users ≡ those) (λ users. users ≡ takers_by c.args.maker c.args.rights.now)
    (λ users is. is ∙ ap (λ (b : Bool). if b then [] else those) (sym c.if-is_for_everyone.false ∙ c.is_for_everyone.ensures))
    c.those_that_remove.ensures
