-- Proves the goals of `+spot_at` of src/one_path.rt that the search leaves open.
use Rattle.histar_syscall.specs.KernelModel.{state}
use Rattle.histar_cells.proofs.Spots.{nowhere_above, nowhere_listed, slash_found, spot_found}
use Rattle.histar_cells.proofs.one_path.+spot_at.Goals as goal

pub returns-in_default : goal.returns-in_default
returns-in_default g t c =
    slash_found (state c.args.kernel.now) c.args.roots.now c.args.visitor.now c.args.names.now c.in_default.len_below c.spot_below.result
    c.spot_below.ensures

pub returns-in_err-directory : goal.returns-in_err-directory
returns-in_err-directory g t c =
    nowhere_above (state c.args.kernel.now) c.args.roots.now c.args.visitor.now c.args.names.now c.name-item.result c.in-len1-up.len_at_least
    c.name-item.is c.in_err-directory.ensures c.from_residual.result c.from_residual.ensures

pub returns-in_err-target : goal.returns-in_err-target
returns-in_err-target g t c =
    nowhere_listed (state c.args.kernel.now) c.args.roots.now c.args.visitor.now c.args.names.now c.name-item.result c.in-len1-up.len_at_least
    c.name-item.is c.in_ok-directory.directory c.in_ok-directory.ensures c.in_err-target.ensures c.from_residual-in_err-target.result
    c.from_residual-in_err-target.ensures

pub returns : goal.returns
returns g t c =
    spot_found (state c.args.kernel.now) c.args.roots.now c.args.visitor.now c.args.names.now c.name-item.result c.in-len1-up.len_at_least
    c.name-item.is c.in_ok-directory.directory c.in_ok-directory.ensures c.in_ok-target.target c.in_ok-target.ensures c.spot_below-2.result
    c.spot_below-2.ensures
