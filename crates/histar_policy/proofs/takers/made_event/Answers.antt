-- Proves the goals of `made_event` of src/takers.rt that the search leaves open.
use Rattle.std.proofs.Common.{ap, ◌∙◌, subst}
use Rattle.histar_rights.specs.Users.{somebody}
use Rattle.histar_cells.specs.Whose.{IsUserOfProcess}
use Rattle.histar_policy.specs.Answers.{AreRightsOfThese, takers_by, writers_by}
use Rattle.histar_policy.proofs.MadeThings.{made_as, none_made}
use Rattle.histar_policy.proofs.takers.made_event.Goals as goal

pub returns-in_default : goal.returns-in_default
returns-in_default g c =
    none_made c.args.machine.now c.args.process.now c.args.path.now c.args.shared
    (subst (IsUserOfProcess c.args.machine.now c.args.process.now) c.in_default.is c.user_of_process.ensures)

pub returns : goal.returns
returns g c =
    made_as
    (record {
      whose = subst (IsUserOfProcess c.args.machine.now c.args.process.now) c.in-Some.is c.user_of_process.ensures;
      have = subst (λ us. AreRightsOfThese c.args.machine.now c.args.path.now us c.in_ok-rights.rights.items)
          (c.as_slice.ensures.value ∙ c.in_ok-users.ensures ∙ ap somebody c.users.ensures) c.in_ok-rights.ensures;
    })
    c.args.shared c.in_ok-path.ensures.ok
    (c.in_ok-takers.ensures ∙ ap (takers_by c.in-Some.maker) c.as_slice-2.ensures.value)
    (c.in_ok-writers.ensures ∙ ap (writers_by c.in-Some.maker c.args.shared) c.as_slice-3.ensures.value)
