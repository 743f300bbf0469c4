-- The invariants and measures of `make_categories` of src/boot_calls.rt.
use Rattle.histar_login.specs.Booting.{BootsOn, IsAnywhere, categories_part}
use Rattle.histar_login.proofs.boot_calls.make_categories.Given as goal

abbrev pub invariant-loop : goal.invariant-loop
invariant-loop g l = BootsOn l.initial.kernel l.kernel IsAnywhere (categories_part l.counter)
