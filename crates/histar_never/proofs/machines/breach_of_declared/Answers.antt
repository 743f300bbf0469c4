-- Proves the goals of `breach_of_declared` of src/machines.rt that the search leaves open.
use Rattle.std.proofs.Common.{ap, sym, ◌∙◌}
use Rattle.std.specs.Prelude.{slice_get}
use Rattle.histar_flat.specs.Accounts.{Accounts}
use Rattle.histar_never.proofs.OnMachines.{user_breaks, user_keeps}
use Rattle.histar_never.proofs.machines.breach_of_declared.Goals as goal

pub returns-then-is_some : goal.returns-then-is_some
returns-then-is_some g c =
    user_breaks c.args.machine.now c.args.never.now c.args.machine.now.users.users c.loop-place.place c.loop-place.invariant
    c.name_at.result
    (ap (λ (a : Accounts). slice_get a.users c.loop-place.place) (sym c.users-users.ensures) ∙ c.name_at.ensures)
    c.in_ok-breach.breach c.in_ok-breach.ensures (sym c.is_some.ensures ∙ c.if-is_some.true)

pub loop-place-preserved : goal.loop-place-preserved
loop-place-preserved g c =
    user_keeps c.args.machine.now c.args.never.now c.args.machine.now.users.users c.loop-place.place c.loop-place.invariant
    c.name_at.result
    (ap (λ (a : Accounts). slice_get a.users c.loop-place.place) (sym c.users-users.ensures) ∙ c.name_at.ensures)
    c.in_ok-breach.breach c.in_ok-breach.ensures (sym c.is_some.ensures ∙ c.if-is_some.false)
