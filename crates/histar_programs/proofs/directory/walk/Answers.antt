-- Proves the goals of `walk` of src/directory.rt that the search leaves open.
use Rattle.histar_programs.specs.Parts.{walk_to}
use Rattle.histar_programs.proofs.Running.{fails_so}
use Rattle.histar_programs.proofs.Directories.{walk_fails, walk_ends}
use Rattle.histar_programs.proofs.directory.walk.Goals as goal

pub returns-in_err-place : goal.returns-in_err-place
returns-in_err-place g c =
    fails_so c.args.thread (walk_to c.args.roots.now c.args.names.now) c.args.kernel.now c.find_place.new.kernel
    c.in_err-place.field-0.0 _ c.from_residual.ensures.1
    (walk_fails c.args.thread c.args.roots.now c.args.kernel.now c.find_place.new.kernel c.args.names.now
    c.in_err-place.field-0.0 c.in_err-place.ensures)

pub returns : goal.returns
returns g c =
    walk_ends c.args.thread c.args.roots.now c.args.kernel.now c.read.new.kernel c.args.names.now
    c.find_place.new.kernel c.in_ok-place.place c.in_ok-place.ensures c.read.result c.read.ensures
