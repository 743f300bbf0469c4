-- Proves the goals of `write_entries` of src/directory.rt that the search leaves open.
use Rattle.histar_programs.proofs.Directories.{writes}
use Rattle.histar_programs.proofs.directory.write_entries.Goals as goal

pub returns : goal.returns
returns g c =
    writes c.args.thread c.args.kernel.now c.write.new.self c.args.place c.args.entries c.into_bytes-bytes.result
    c.into_bytes-bytes.ensures c.write.result c.write.ensures.ok c.write.ensures.memory c.written.result c.written.ensures
