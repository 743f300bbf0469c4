-- Proves the goals of `make_containers` of src/birth.rt that the search leaves open.
use Rattle.histar_programs.proofs.Running.{fails_so}
use Rattle.histar_process.proofs.Births.{no_container, no_internal, containers}
use Rattle.histar_process.proofs.birth.make_containers.Goals as goal

pub returns-in_err-container : goal.returns-in_err-container
returns-in_err-container g c =
    let end = c.make_guarded.new.kernel in
    fails_so _ _ _ end _ _ c.from_residual.ensures.1 (no_container _ _ end _ _ _ _ _ c.in_err-container.ensures)

pub returns-in_err-internal : goal.returns-in_err-internal
returns-in_err-internal g c =
    fails_so _ _ _ _ _ _ c.from_residual-in_err-internal.ensures.1 (no_internal _ _ _ _ _ _ _ _ _ c.in_ok-container.ensures _
    c.in_err-internal.ensures)

pub returns : goal.returns
returns g c =
    containers _ _ _ _ _ _ _ _ _ c.in_ok-container.ensures _ c.in_ok-internal.ensures
