-- Proves the goals of `+find_place` of src/directory.rt that the search leaves open.
use Rattle.std.proofs.Common.{◌-◌, length, take, drop, Ok, Err, arith}
use Rattle.histar_programs.specs.declared.call_error.CallError.TheVariants.{Refused}
use Rattle.histar_programs.specs.Parts.{find_place}
use Rattle.histar_programs.proofs.Running.{fails_so}
use Rattle.histar_programs.proofs.Directories.{no_names, first_of_names, into_fails, into_place, into_none, finds_slash, find_fails, finds_on}
use Rattle.histar_programs.proofs.directory.+find_place.Goals as goal

pub returns-in_default : goal.returns-in_default
returns-in_default g t c =
    finds_slash c.args.thread c.args.roots.now c.args.kernel.now c.args.kernel.now c.args.names.now
    (no_names c.args.names.now (omega arith))

pub returns-in_err-above : goal.returns-in_err-above
returns-in_err-above g t c =
    fails_so c.args.thread (find_place c.args.roots.now c.args.names.now) c.args.kernel.now c.find_place.new.kernel
    c.in_err-above.field-0.0 _ c.from_residual.ensures.1
    (find_fails c.args.thread c.args.roots.now c.args.kernel.now c.find_place.new.kernel c.args.names.now
    c.name-item.result (take (length c.args.names.now - 1) (drop 1 c.args.names.now))
    (first_of_names c.args.names.now c.name-item.result (omega arith) c.name-item.is) c.in_err-above.field-0.0
    c.in_err-above.ensures)

pub returns-in_err-target : goal.returns-in_err-target
returns-in_err-target g t c =
    fails_so c.args.thread (find_place c.args.roots.now c.args.names.now) c.args.kernel.now c.look_in.new.kernel
    c.in_err-target.field-0.0 _ c.from_residual-in_err-target.ensures.1
    (finds_on c.args.thread c.args.roots.now c.args.kernel.now c.look_in.new.kernel c.args.names.now c.name-item.result
    (take (length c.args.names.now - 1) (drop 1 c.args.names.now))
    (first_of_names c.args.names.now c.name-item.result (omega arith) c.name-item.is) c.find_place.new.kernel
    c.in_ok-above.above c.in_ok-above.ensures (Err c.in_err-target.field-0.0)
    (into_fails c.args.thread c.find_place.new.kernel c.look_in.new.kernel c.name-item.result c.in_ok-above.above
    c.in_err-target.field-0.0 c.in_err-target.ensures))

pub returns-in_err-place : goal.returns-in_err-place
returns-in_err-place g t c =
    fails_so c.args.thread (find_place c.args.roots.now c.args.names.now) c.args.kernel.now c.look_in.new.kernel
    (Refused c.in_err-place.field-0.0) _ c.from_residual-in_err-place.ensures.1
    (finds_on c.args.thread c.args.roots.now c.args.kernel.now c.look_in.new.kernel c.args.names.now c.name-item.result
    (take (length c.args.names.now - 1) (drop 1 c.args.names.now))
    (first_of_names c.args.names.now c.name-item.result (omega arith) c.name-item.is) c.find_place.new.kernel
    c.in_ok-above.above c.in_ok-above.ensures (Err (Refused c.in_err-place.field-0.0))
    (into_none c.args.thread c.find_place.new.kernel c.look_in.new.kernel c.name-item.result c.in_ok-above.above
    c.in_ok-target.target c.in_ok-target.ensures c.in_err-place.field-0.0 c.in_err-place.ensures))

pub returns : goal.returns
returns g t c =
    finds_on c.args.thread c.args.roots.now c.args.kernel.now c.look_in.new.kernel c.args.names.now c.name-item.result
    (take (length c.args.names.now - 1) (drop 1 c.args.names.now))
    (first_of_names c.args.names.now c.name-item.result (omega arith) c.name-item.is) c.find_place.new.kernel
    c.in_ok-above.above c.in_ok-above.ensures (Ok c.in_ok-place.place)
    (into_place c.args.thread c.find_place.new.kernel c.look_in.new.kernel c.name-item.result c.in_ok-above.above
    c.in_ok-target.target c.in_ok-target.ensures c.in_ok-place.place c.in_ok-place.ensures)
