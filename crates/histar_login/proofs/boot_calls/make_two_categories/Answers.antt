-- Proves the goals of `make_two_categories` of src/boot_calls.rt that the search leaves open.
use Rattle.histar_container.proofs.Keeping.{on_err}
use Rattle.histar_login.specs.Booting.{BeginsOn, IsAnywhere, two_categories}
use Rattle.histar_login.proofs.Stages.{first_allowed, second_allowed, two_begun_none, two_begun_one, two_boot}
use Rattle.histar_login.proofs.boot_calls.make_two_categories.Goals as goal

pub make_category-requires : goal.make_category-requires
make_category-requires g c = let way = c.requires in first_allowed way.0 c.args.kernel.now way.1 way.3 way.2

pub make_category-requires-2 : goal.make_category-requires-2
make_category-requires-2 g c =
    let way = c.requires in second_allowed way.0 _ way.1 way.3 _ c.in_ok-make_category.ensures.grants.0 way.2

pub returns-clause-ok : goal.returns-clause-ok
returns-clause-ok g c = λ first p at b.
    two_boot first _ p b _ c.in_ok-make_category.ensures.grants.0 _ c.in_ok-make_category-2.ensures.grants.0

pub returns-in_err-make_category-clause-err : goal.returns-in_err-make_category-clause-err
returns-in_err-make_category-clause-err g c =
    on_err c.from_residual.result (BeginsOn c.args.kernel.now c.make_category.new.kernel IsAnywhere two_categories) (λ first p at b.
    two_begun_none first c.args.kernel.now p b c.make_category.new.kernel c.in_err-make_category.ensures.grants)

pub returns-in_err-make_category-2-clause-err : goal.returns-in_err-make_category-2-clause-err
returns-in_err-make_category-2-clause-err g c =
    on_err c.from_residual-in_err-make_category-2.result (BeginsOn c.args.kernel.now c.make_category-2.new.kernel IsAnywhere two_categories)
    (λ first p at b. two_begun_one first c.args.kernel.now p b c.make_category.new.kernel c.in_ok-make_category.ensures.grants.0
    c.make_category-2.new.kernel c.in_err-make_category-2.ensures.grants)
