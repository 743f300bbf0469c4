-- The invariants and measures of `push_jobs` of src/bands.rt.
use Rattle.std.proofs.Common.{◌≡◌, ◌++◌, length}
use Rattle.std.specs.List.{flat_map}
use Rattle.histar_page.specs.Items.{items_of}
use Rattle.histar_page.specs.Texts.{texts}
use Rattle.histar_page.specs.Drawing.{bands_of}
use Rattle.histar_page.proofs.bands.push_jobs.Given as goal

abbrev pub decreases-jobs : goal.decreases-jobs
decreases-jobs l = length l.rest

abbrev pub invariant-jobs : goal.invariant-jobs
invariant-jobs l =
    items_of l.pieces.items ++ flat_map (bands_of (texts l.cells) (texts l.lines)) (texts l.rest)
    ≡ items_of l.fn.pieces.items ++ flat_map (bands_of (texts l.cells) (texts l.lines)) (texts l.jobs)
