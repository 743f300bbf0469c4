-- Proves the goal of `writers_among` of src/takers.rt that the search leaves open.
use Rattle.std.proofs.Common.{◌≡◌, [], List, Bool, sym, ap, ◌∙◌}
use Rattle.std.specs.Prelude.{if◌then◌else◌}
use Rattle.std.proofs.lemmas.Result.{IfOk-weaker}
use Rattle.histar_flat.specs.Words.{Name}
use Rattle.histar_policy.specs.Answers.{those_that_write, writers_by}
use Rattle.histar_policy.proofs.takers.writers_among.Goals as goal

pub returns : goal.returns
returns c =
    let those : List Name = those_that_write c.args.maker c.args.rights.now in
    IfOk-weaker c.those_that_write.result (λ users. users ≡ those) (λ users. users ≡ writers_by c.args.maker c.args.shared c.args.rights.now)
    (λ users is. is ∙ ap (λ (b : Bool). if b then those else []) (sym c.if-not-shared.false)) c.those_that_write.ensures
