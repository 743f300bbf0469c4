-- Proves the goals of `starting` of src/users.rt that the search leaves open.
use Rattle.std.proofs.Common.{◌∷◌, [], ◌++◌, sym, ap, ◌∙◌}
use Rattle.histar_flat.specs.Classes.{nobody}
use Rattle.histar_cells.specs.ByClass.{from_above}
use Rattle.histar_access.proofs.ByUsers.{names_more}
use Rattle.histar_access.proofs.users.starting.Goals as goal

pub loop-place-preserved : goal.loop-place-preserved
loop-place-preserved c =
    c.in_ok-push-2.ensures.items
    ∙ (λ i. c.loop-place.invariant i ++ c.from_above-in-loop-place.ensures i ∷ [])
    ∙ ap (λ us. from_above nobody ∷ us) (sym (names_more c.args.users.now.users c.loop-place.place c.name_at.result c.name_at.ensures))
