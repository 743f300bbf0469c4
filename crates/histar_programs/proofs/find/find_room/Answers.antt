-- Proves the goals of `find_room` of src/find.rt that the search leaves open.
use Rattle.std.proofs.Common.{◌-◌, [], length, take, drop, refl, ap, arith, Err}
use Rattle.std.specs.Prelude.{◌==◌}
use Rattle.std.specs.FinMap as map
use Rattle.histar_flat.specs.declared.replies.Errno.TheVariants.{EEXIST}
use Rattle.histar_flat.specs.FlatCalls.{most_entries}
use Rattle.histar_programs.specs.declared.directory.Directory.{Directory}
use Rattle.histar_programs.specs.declared.find.Room.{Room}
use Rattle.histar_programs.specs.declared.call_error.CallError.TheVariants.{Refused}
use Rattle.histar_programs.specs.Parts.{given, room_at, target_named, find_room}
use Rattle.histar_programs.proofs.Running.{fails_so, part_as, refuses_at_once}
use Rattle.histar_programs.proofs.Directories.{no_names, first_of_names}
use Rattle.histar_programs.proofs.Finding.{walk_failed, walked, decides, decides_not}
use Rattle.histar_programs.proofs.find.find_room.Goals as goal

pub returns-in_default-clause-runs : goal.returns-in_default-clause-runs
unfolding find_room
returns-in_default-clause-runs g c =
    part_as c.args.thread (find_room c.args.roots.now c.args.path.now) c.args.kernel.now c.args.kernel.now
    (find_room c.args.roots.now []) (ap (find_room c.args.roots.now) (no_names c.args.path.now (omega arith))) _
    (refuses_at_once c.args.thread Room c.args.kernel.now EEXIST)

pub returns-in_err-directory-clause-runs : goal.returns-in_err-directory-clause-runs
unfolding find_room
returns-in_err-directory-clause-runs g c =
    fails_so c.args.thread (find_room c.args.roots.now c.args.path.now) c.args.kernel.now c.walk.new.kernel
    c.in_err-directory.field-0.0 _ c.from_residual.ensures.1
    (walk_failed c.args.thread c.args.roots.now c.args.kernel.now c.walk.new.kernel (find_room c.args.roots.now)
    c.args.path.now c.name-item.result (take (length c.args.path.now - 1) (drop 1 c.args.path.now))
    (first_of_names c.args.path.now c.name-item.result (omega arith) c.name-item.is)
    (λ (directory : Directory) (rest : Room → _).
    given (room_at (target_named directory c.name-item.result) (map.len directory.entries == most_entries))
    (λ _.
    rest (record { place = directory.place; entries = directory.entries; name = c.name-item.result })))
    refl c.in_err-directory.field-0.0 c.in_err-directory.ensures)

pub returns-in_err-room_at-clause-runs : goal.returns-in_err-room_at-clause-runs
unfolding find_room
returns-in_err-room_at-clause-runs g c =
    fails_so c.args.thread (find_room c.args.roots.now c.args.path.now) c.args.kernel.now c.walk.new.kernel
    (Refused c.in_err-room_at.field-0.0) _ c.from_residual-in_err-room_at.ensures.1
    (walked c.args.thread c.args.roots.now c.args.kernel.now c.walk.new.kernel (find_room c.args.roots.now)
    c.args.path.now c.name-item.result (take (length c.args.path.now - 1) (drop 1 c.args.path.now))
    (first_of_names c.args.path.now c.name-item.result (omega arith) c.name-item.is)
    (λ (directory : Directory) (rest : Room → _).
    given (room_at (target_named directory c.name-item.result) (map.len directory.entries == most_entries))
    (λ _.
    rest (record { place = directory.place; entries = directory.entries; name = c.name-item.result })))
    refl c.walk.new.kernel c.in_ok-directory.directory c.in_ok-directory.ensures
    (Err (Refused c.in_err-room_at.field-0.0))
    (decides_not c.args.thread c.walk.new.kernel (λ _. record {
      place = c.in_ok-directory.directory.place;
      entries = c.in_ok-directory.directory.entries;
      name = c.name-item.result;
    }) (room_at (target_named c.in_ok-directory.directory c.name-item.result)
    (map.len c.in_ok-directory.directory.entries == most_entries)) c.in_err-room_at.field-0.0
    c.in_err-room_at.ensures))

pub returns-clause-runs : goal.returns-clause-runs
unfolding find_room
returns-clause-runs g c =
    walked c.args.thread c.args.roots.now c.args.kernel.now c.walk.new.kernel (find_room c.args.roots.now)
    c.args.path.now c.name-item.result (take (length c.args.path.now - 1) (drop 1 c.args.path.now))
    (first_of_names c.args.path.now c.name-item.result (omega arith) c.name-item.is)
    (λ (directory : Directory) (rest : Room → _).
    given (room_at (target_named directory c.name-item.result) (map.len directory.entries == most_entries))
    (λ _.
    rest (record { place = directory.place; entries = directory.entries; name = c.name-item.result })))
    refl c.walk.new.kernel c.in_ok-directory.directory c.in_ok-directory.ensures _
    (decides c.args.thread c.walk.new.kernel (λ _. record {
      place = c.in_ok-directory.directory.place;
      entries = c.in_ok-directory.directory.entries;
      name = c.name-item.result;
    }) (room_at (target_named c.in_ok-directory.directory c.name-item.result)
    (map.len c.in_ok-directory.directory.entries == most_entries)) tt c.in_ok-room_at.ensures)
