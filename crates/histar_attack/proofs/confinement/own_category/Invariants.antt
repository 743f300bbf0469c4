-- The invariants and measures of `own_category` of src/confinement.rt.
use Rattle.std.proofs.Common.{◌≡◌, ◌&&◌, not, drop}
use Rattle.histar_level.specs.Levels.{level_of}
use Rattle.histar_layout.specs.Jobs.{is_three}
use Rattle.histar_programs.specs.Caller.{read_category_in}
use Rattle.histar_programs.proofs.Scanning.{first_passed}
use Rattle.histar_attack.proofs.confinement.own_category.Given as goal

abbrev pub invariant-loop-category : goal.invariant-loop-category
invariant-loop-category l =
    read_category_in l.outer l.inner
    ≡ first_passed (λ e. is_three e.1 && not (is_three (level_of l.outer e.0))) (drop l.category-index l.exceptions)
