-- Proves the goals of `home_at` of src/caller.rt that the search leaves open.
use Rattle.std.proofs.Common.{sym, ◌∙◌}
use Rattle.histar_syscall.specs.KernelModel.{state}
use Rattle.histar_programs.proofs.Homes.{onwards}
use Rattle.histar_programs.proofs.caller.home_at.Goals as goal

pub returns-in_err-home : goal.returns-in_err-home
returns-in_err-home g c =
    c.from_residual.ensures
    ∙ sym (onwards (state c.args.kernel.now) c.numbers.home c.numbers.rest.now c.in-len1-up.len_at_least
    (sym c.child_home.ensures ∙ c.in_err-home.was))
    ∙ c.numbers.invariant

pub numbers-preserved : goal.numbers-preserved
numbers-preserved g c =
    sym (onwards (state c.args.kernel.now) c.numbers.home c.numbers.rest.now c.in-len1-up.len_at_least
    (sym c.child_home.ensures ∙ c.in_ok-home.was))
    ∙ c.numbers.invariant
