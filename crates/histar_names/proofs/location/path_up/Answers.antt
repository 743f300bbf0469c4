-- Proves the goals of `path_up` of src/location.rt that the search leaves open.
use Rattle.std.proofs.Common.{sym, ap, ◌∙◌}
use Rattle.histar_flat.specs.Words.{Path}
use Rattle.histar_syscall.specs.KernelModel.{state}
use Rattle.histar_names.specs.Location.{is_target, target_at}
use Rattle.histar_names.proofs.Parts.{path_here}
use Rattle.histar_names.proofs.location.path_up.Goals as goal

pub returns-then-is_target : goal.returns-then-is_target
returns-then-is_target g c =
    path_here (state c.args.kernel.now) c.args.roots.now c.args.object c.args.path.now
    (ap (λ (names : Path). is_target c.args.object (target_at (state c.args.kernel.now) c.args.roots.now names)) (sym c.names-names.ensures.names)
    ∙ ap (is_target c.args.object) (sym c.target_at.ensures) ∙ sym c.is_target.ensures ∙ c.if-is_target.true)
