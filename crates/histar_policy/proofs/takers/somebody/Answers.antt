-- Proves the goals of `somebody` of src/takers.rt that the search leaves open.
use Rattle.std.proofs.Common.{◌∷◌, [], ◌++◌, sym, ap, ◌∙◌}
use Rattle.histar_flat.specs.Classes.{nobody}
use Rattle.histar_policy.proofs.MadeThings.{names_more}
use Rattle.histar_policy.proofs.takers.somebody.Goals as goal

pub loop-place-preserved : goal.loop-place-preserved
loop-place-preserved c =
    c.in_ok-push-2.ensures.items
    ∙ ap (λ ns. ns ++ c.name_at.result ∷ []) c.loop-place.invariant
    ∙ ap (λ ns. nobody ∷ ns) (sym (names_more c.args.users.now.users c.loop-place.place c.name_at.result c.name_at.ensures))
