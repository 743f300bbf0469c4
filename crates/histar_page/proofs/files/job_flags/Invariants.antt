-- The invariants and measures of `job_flags` of src/files.rt.
use Rattle.std.proofs.Common.{◌≡◌, ◌++◌, length, map}
use Rattle.histar_page.specs.Texts.{texts}
use Rattle.histar_page.specs.Files.{is_job_cell}
use Rattle.histar_page.proofs.files.job_flags.Given as goal

abbrev pub decreases-cells : goal.decreases-cells
decreases-cells l = length l.rest

abbrev pub invariant-cells : goal.invariant-cells
invariant-cells l =
    l.flags.items ++ map (is_job_cell (texts l.jobs)) (texts l.rest) ≡ map (is_job_cell (texts l.jobs)) (texts l.cells)
