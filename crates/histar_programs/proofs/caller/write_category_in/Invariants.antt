-- The invariants and measures of `write_category_in` of src/caller.rt.
use Rattle.std.proofs.Common.{◌≡◌, drop}
use Rattle.histar_programs.specs.Caller.{is_zero, write_category_in}
use Rattle.histar_programs.proofs.Scanning.{first_passed}
use Rattle.histar_programs.proofs.caller.write_category_in.Given as goal

abbrev pub invariant-loop-category : goal.invariant-loop-category
invariant-loop-category l = write_category_in l.outer ≡ first_passed (λ e. is_zero e.1) (drop l.category-index l.exceptions)
