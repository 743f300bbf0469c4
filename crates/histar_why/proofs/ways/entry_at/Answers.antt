-- Proves the goals of `entry_at` of src/ways.rt that the search leaves open.
use Rattle.histar_syscall.specs.KernelModel.{state}
use Rattle.histar_why.proofs.Spots.{entry_found, none_in_file, none_unlisted}
use Rattle.histar_why.proofs.ways.entry_at.Goals as goal

pub returns-in_default : goal.returns-in_default
returns-in_default g c = none_in_file (state c.args.kernel.now) c.args.above.now c.args.name.now c.in_default.field-0 c.in_default.is

pub returns-in_default-look_up_checked : goal.returns-in_default-look_up_checked
returns-in_default-look_up_checked g c =
    none_unlisted (state c.args.kernel.now) c.args.above.now c.args.name.now c.in-Directory.field-0 c.in-Directory.listing c.in-Directory.is
    c.bytes.result.now c.bytes.ensures c.in_default-look_up_checked.field-0 c.in_default-look_up_checked.ensures

pub returns : goal.returns
returns g c =
    entry_found (state c.args.kernel.now) c.args.above.now c.args.name.now c.in-Directory.field-0 c.in-Directory.listing c.in-Directory.is
    c.bytes.result.now c.bytes.ensures c.in-Ok.found c.in-Ok.ensures
