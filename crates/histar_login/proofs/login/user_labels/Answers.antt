-- Proves the goals of `user_labels` of src/login.rt that the search leaves open.
use Rattle.std.proofs.Common.{sym, ap, ◌∙◌}
use Rattle.histar_level.specs.declared.level.Level.TheVariants.{Star, L3}
use Rattle.histar_level.specs.Levels.{Levels}
use Rattle.histar_label.specs.Levels.{with_level}
use Rattle.histar_login.proofs.UserLabels.{user_label-own_last, user_clearance-own_last}
use Rattle.histar_login.proofs.login.user_labels.Goals as goal

pub returns-clause-ok : goal.returns-clause-ok
returns-clause-ok g c =
    let r = c.args.caller.now.read in
    let w = c.args.caller.now.write in (
      c.in_ok-label.ensures.ok
          ∙ ap (λ (L : Levels). with_level (with_level L r Star) w Star) c.args.given.label_is
          ∙ sym (user_label-own_last c.args.caller.now c.args.given.owners.now),
      c.in_ok-clearance.ensures.ok
          ∙ ap (λ (L : Levels). with_level (with_level L r L3) w L3) c.args.given.clearance_is
          ∙ sym (user_clearance-own_last c.args.caller.now c.args.given.owners.now),
    )
