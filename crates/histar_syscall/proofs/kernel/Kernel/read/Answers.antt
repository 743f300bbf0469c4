-- Proves the goals of `Kernel::read` of src/kernel.rt that the search leaves open.
use Rattle.std.proofs.Common.{refl, ap, ◌∙◌}
use Rattle.histar_object.specs.Objects.{bytes_in}
use Rattle.histar_object.specs.State.{State}
use Rattle.histar_syscall.proofs.kernel.Kernel.read.Goals as goal

pub returns : goal.returns
returns g c =
    let called = c.in_ok-make_read.ensures.ok.0 in (
      (refl, (λ _. tt), (called, c.bytes_of.ensures ∙ ap (λ (s : State). bytes_in (s.objects c.args.segment)) called.state)),
      record { lends = tt; memory = tt },
    )
