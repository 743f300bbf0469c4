-- Proves the goals of `+way_to` of src/ways.rt that the search leaves open.
use Rattle.std.proofs.Common.{refl, sym}
use Rattle.histar_syscall.specs.KernelModel.{state}
use Rattle.histar_why.specs.Names.{process_of}
use Rattle.histar_why.proofs.Lists.{no_element, parts}
use Rattle.histar_why.proofs.Spots.{way_below, way_root}
use Rattle.histar_why.proofs.ways.+way_to.Goals as goal

pub returns-in_default : goal.returns-in_default
returns-in_default g t c =
    way_root c.args.reader.now.users.now c.args.reader.now.roots.now c.args.reader.now.births.now (state c.args.reader.now.kernel.now)
    (process_of c.args.caller.now) c.args.names.now (no_element c.args.names.now c.in_default.len_below) _ refl refl c.in_ok-here.ensures

pub returns : goal.returns
returns g t c =
    way_below c.args.reader.now.users.now c.args.reader.now.roots.now c.args.reader.now.births.now (state c.args.reader.now.kernel.now)
    (process_of c.args.caller.now) _ c.name-item.result c.in_ok-way.way c.in_ok-way.ensures c.args.names.now
    (sym (parts c.args.names.now c.name-item.result c.in-len1-up.len_at_least c.name-item.is)) _
    c.barrier_into.ensures.into c.barrier_into.ensures.near refl
    c.in_ok-spot_below.ensures
