-- Proves the goals of `make_categories` of src/boot_calls.rt that the search leaves open.
use Rattle.std.proofs.Common.{◌≡◌, ℕ, subst, arith}
use Rattle.histar_container.proofs.Keeping.{on_err}
use Rattle.histar_login.specs.Booting.{BootsOn, IsAnywhere, categories_part}
use Rattle.histar_login.proofs.Stages.{categories_none, categories_next, categories_room, categories_begun}
use Rattle.histar_login.proofs.boot_calls.make_categories.Goals as goal

pub loop-init : goal.loop-init
loop-init g c = categories_none _

pub loop-preserved : goal.loop-preserved
loop-preserved g c =
    categories_next _ _ _ _ c.loop.invariant c.in_ok-make_two_categories.ensures.ok

pub make_two_categories-requires : goal.make_two_categories-requires
make_two_categories-requires g c =
    categories_room _ _ _ _ c.loop-test.true c.requires c.loop.invariant

pub returns-clause-ok : goal.returns-clause-ok
returns-clause-ok g c =
    let all : c.loop.counter ≡ c.args.count = omega (arith, c.loop-test.false, c.loop.auto.counter-end) in
    subst (λ (n : ℕ). BootsOn c.args.kernel.now c.loop.kernel IsAnywhere (categories_part n)) all c.loop.invariant

pub returns-in_err-make_two_categories-clause-err : goal.returns-in_err-make_two_categories-clause-err
returns-in_err-make_two_categories-clause-err g c =
    on_err _ _ (categories_begun _ _ _ _ _ c.loop-test.true c.loop.invariant c.in_err-make_two_categories.ensures.err)
