-- Proves the goals of `+spot_at` of src/by_user.rt that the search leaves open.
use Rattle.std.proofs.lemmas.Result.{IfOk-weaker}
use Rattle.histar_syscall.specs.KernelModel.{state}
use Rattle.histar_cells.proofs.UserSpots.{found_below, none_above, none_listed, slash_found}
use Rattle.histar_cells.proofs.by_user.+spot_at.Goals as goal

pub returns-in_default : goal.returns-in_default
returns-in_default g t c =
    IfOk-weaker c.narrowed.result _ _
    (slash_found c.args.source.now.users.now (state c.args.source.now.kernel.now) c.args.source.now.roots.now c.args.user c.args.names.now
    c.in_default.len_below c.from_above.result c.from_above.ensures)
    c.narrowed.ensures

pub returns-in_default-2 : goal.returns-in_default-2
returns-in_default-2 g t c =
    none_above c.args.source.now.users.now (state c.args.source.now.kernel.now) c.args.source.now.roots.now c.args.user c.args.names.now
    c.name-item.result c.in-len1-up.len_at_least c.name-item.is c.in_ok-directory.field-0 c.in_default-2.is c.in_ok-directory.ensures

pub returns-in_default-entry_at : goal.returns-in_default-entry_at
returns-in_default-entry_at g t c =
    none_listed c.args.source.now.users.now (state c.args.source.now.kernel.now) c.args.source.now.roots.now c.args.user c.args.names.now
    c.name-item.result c.in-len1-up.len_at_least c.name-item.is c.in-Some.directory c.in_ok-directory.field-0 c.in-Some.is
    c.in_ok-directory.ensures c.in_default-entry_at.ensures

pub returns : goal.returns
returns g t c =
    IfOk-weaker c.narrowed-2.result _ _
    (found_below c.args.source.now.users.now (state c.args.source.now.kernel.now) c.args.source.now.roots.now c.args.user c.args.names.now
    c.name-item.result c.in-len1-up.len_at_least c.name-item.is c.in-Some.directory c.in_ok-directory.field-0 c.in-Some.is
    c.in_ok-directory.ensures c.in-Some-entry_at.target c.in-Some-entry_at.ensures)
    c.narrowed-2.ensures
