-- Proves the goal of `narrowed` of src/by_user.rt that the search leaves open.
use Rattle.histar_syscall.specs.KernelModel.{state}
use Rattle.histar_layout.specs.Listing.{object_of}
use Rattle.histar_cells.proofs.UserSpots.{no_class}
use Rattle.histar_cells.proofs.by_user.narrowed.Goals as goal

pub returns-in_default : goal.returns-in_default
returns-in_default g c =
    no_class c.args.source.now.users.now (state c.args.source.now.kernel.now) c.object.result (object_of c.args.target) c.in_ok-class.field-0
    c.object.ensures c.in_default.is c.in_ok-class.ensures
