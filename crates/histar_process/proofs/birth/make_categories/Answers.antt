-- Proves the goals of `make_categories` of src/birth.rt that the search leaves open.
use Rattle.histar_rules.specs.declared.raw.RawCall.TheVariants.{MakeCategory}
use Rattle.histar_programs.proofs.Running.{grants, refuses, fails_so}
use Rattle.histar_process.specs.Births.{make_categories}
use Rattle.histar_process.proofs.Births.{no_read, no_write, categories}
use Rattle.histar_process.proofs.birth.make_categories.Goals as goal

pub returns-in_err-read : goal.returns-in_err-read
returns-in_err-read g c =
    let end = c.make_category.new.self in
    fails_so _ make_categories _ end _ _ c.from_residual.ensures.1 (no_read _ _ end _ (refuses _ MakeCategory _ end _ _ c.in_err-read.ensures.ok
    c.in_err-read.ensures.memory))

pub returns-in_err-write : goal.returns-in_err-write
returns-in_err-write g c =
    fails_so _ make_categories _ _ _ _ c.from_residual-in_err-write.ensures.1 (no_write _ _ _ _ _
    (grants _ MakeCategory _ _ _ c.in_ok-read.ensures.ok.0 c.in_ok-read.ensures.ok.1) _ (refuses _ MakeCategory _ _ _ _ c.in_err-write.ensures.ok
    c.in_err-write.ensures.memory))

pub returns : goal.returns
returns g c =
    categories _ _ _ _ _ (grants _ MakeCategory _ _ _ c.in_ok-read.ensures.ok.0 c.in_ok-read.ensures.ok.1) _
    (grants _ MakeCategory _ _ _ c.in_ok-write.ensures.ok.0 c.in_ok-write.ensures.ok.1)
