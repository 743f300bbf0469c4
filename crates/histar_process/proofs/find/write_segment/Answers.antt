-- Proves the goals of `write_segment` of src/find.rt that the search leaves open.
use Rattle.histar_rules.specs.declared.raw.RawCall.TheVariants.{Write}
use Rattle.histar_programs.proofs.Running.{asks}
use Rattle.histar_process.proofs.find.write_segment.Goals as goal

pub returns : goal.returns
returns g c =
    asks c.args.thread (Write c.args.home.now.container c.args.home.now.segment 0 c.args.bytes) c.args.kernel.now
    c.write.new.self c.write.result c.write.ensures.ok c.write.ensures.memory c.written.result c.written.ensures
