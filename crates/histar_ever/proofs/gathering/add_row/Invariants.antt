-- The invariants and measures of `add_row` of src/gathering.rt.
use Rattle.std.proofs.Common.{◌≡◌, length}
use Rattle.histar_flat.specs.Words.{Path, ProcName}
use Rattle.histar_ever.specs.Ever.{either}
use Rattle.histar_ever.specs.Gathering.{letters_at, row_letters}
use Rattle.histar_ever.proofs.gathering.add_row.Given as goal

abbrev pub invariant-cells : goal.invariant-cells
invariant-cells l = (q : Path) (p : ProcName) → either (letters_at l.letters q p) (row_letters l.path l.runners l.rights q p)
    ≡ either (letters_at l.fn.letters q p) (row_letters l.path l.fn.runners l.fn.rights q p)

abbrev pub decreases-cells : goal.decreases-cells
decreases-cells l = length l.runners
