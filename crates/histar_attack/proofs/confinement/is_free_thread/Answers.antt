-- Proves the goals of `is_free_thread` of src/confinement.rt that the search leaves open.
use Rattle.std.proofs.Common.{ap, sym, ◌∙◌}
use Rattle.std.specs.Option.{option_copied}
use Rattle.histar_syscall.specs.KernelModel.{state}
use Rattle.histar_attack.proofs.Deciding.{free_decided}
use Rattle.histar_attack.proofs.confinement.is_free_thread.Goals as goal

pub returns-in-Some-label : goal.returns-in-Some-label
returns-in-Some-label g c =
    rw c.is_free.ensures (free_decided (state c.args.kernel.now) c.args.category c.args.home.now c.in-Some.caller
    (sym c.caller_in.ensures ∙ c.in-Some.is) c.in-Some-label.own.now (sym c.label.ensures ∙ ap option_copied c.in-Some-label.is))
