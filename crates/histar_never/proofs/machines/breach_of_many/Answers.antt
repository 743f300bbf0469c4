-- Proves the goals of `breach_of_many` of src/machines.rt that the search leaves open.
use Rattle.std.proofs.Common.{subst, sym, ◌∙◌}
use Rattle.histar_never.specs.Machines.{IsBreachAmong}
use Rattle.histar_never.proofs.OnMachines.{on_ok, process_breaks, processes_keep}
use Rattle.histar_never.proofs.machines.breach_of_many.Goals as goal

pub returns-then-is_some : goal.returns-then-is_some
returns-then-is_some g c =
    process_breaks c.args.machine.now c.args.never.now c.in_ok-processes.processes.items c.breach_among-breach.result
    c.in_ok-processes.ensures
    (subst (λ nodes. IsBreachAmong c.args.machine.now c.args.never.now nodes c.breach_among-breach.result)
    c.as_slice.ensures.value c.breach_among-breach.ensures)
    (sym c.is_some.ensures ∙ c.if-is_some.true)

pub returns : goal.returns
returns g c =
    on_ok (λ found.
    processes_keep c.args.machine.now c.args.never.now c.in_ok-processes.processes.items c.breach_among-breach.result found
    c.in_ok-processes.ensures
    (subst (λ nodes. IsBreachAmong c.args.machine.now c.args.never.now nodes c.breach_among-breach.result)
    c.as_slice.ensures.value c.breach_among-breach.ensures)
    (sym c.is_some.ensures ∙ c.if-is_some.false))
    c.breach_of_users.result c.breach_of_users.ensures
