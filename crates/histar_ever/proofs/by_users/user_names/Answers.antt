-- Proves the goals of `user_names` of src/by_users.rt that the search leaves open.
use Rattle.std.proofs.Common.{◌∷◌, [], ◌++◌, sym, ap, ◌∙◌}
use Rattle.histar_flat.specs.Classes.{nobody}
use Rattle.histar_ever.proofs.UsersGathered.{names_more}
use Rattle.histar_ever.proofs.by_users.user_names.Goals as goal

pub loop-place-preserved : goal.loop-place-preserved
loop-place-preserved c =
    c.in_ok-push-2.ensures.items
    ∙ (λ i. c.loop-place.invariant i ++ c.name_at.result ∷ [])
    ∙ ap (λ us. nobody ∷ us) (sym (names_more c.args.users.now.users c.loop-place.place c.name_at.result c.name_at.ensures))
