-- The invariants and measures of `one_changes` of src/bands.rt.
use Rattle.std.proofs.Common.{◌≡◌, length}
use Rattle.std.specs.List.{list_any}
use Rattle.histar_page.specs.Texts.{texts}
use Rattle.histar_page.specs.Drawing.{changes_by}
use Rattle.histar_page.proofs.bands.one_changes.Given as goal

abbrev pub decreases-cells : goal.decreases-cells
decreases-cells l = length l.rest

abbrev pub invariant-cells : goal.invariant-cells
invariant-cells l =
    list_any (changes_by l.job) (texts l.rest) ≡ list_any (changes_by l.job) (texts l.cells)
