-- Proves the goals of `find_file` of src/find.rt that the search leaves open.
use Rattle.std.proofs.Common.{ℕ, ◌-◌, [], length, take, drop, refl, ap, arith, Ok, Err}
use Rattle.histar_flat.specs.declared.replies.Errno.TheVariants.{EISDIR}
use Rattle.histar_programs.specs.declared.roots.Place.{Place}
use Rattle.histar_programs.specs.declared.find.FoundFile.{FoundFile}
use Rattle.histar_programs.specs.declared.call_error.CallError.TheVariants.{Refused}
use Rattle.histar_programs.specs.Parts.{file_at, find_file}
use Rattle.histar_programs.proofs.Running.{fails_so, part_as, refuses_at_once}
use Rattle.histar_programs.proofs.Directories.{no_names, first_of_names}
use Rattle.histar_programs.proofs.Finding.{decides, decides_not, place_fails, look_fails, led}
use Rattle.histar_programs.proofs.find.find_file.Goals as goal

-- the file of a segment in a directory
abbrev file_of : Place → ℕ → FoundFile
file_of place segment = record { container = place.container; segment = segment }

pub returns-in_default : goal.returns-in_default
unfolding find_file
returns-in_default g c =
    part_as c.args.thread (find_file c.args.roots.now c.args.path.now) c.args.kernel.now c.args.kernel.now
    (find_file c.args.roots.now []) (ap (find_file c.args.roots.now) (no_names c.args.path.now (omega arith))) _
    (refuses_at_once c.args.thread FoundFile c.args.kernel.now EISDIR)

pub returns-in_err-place : goal.returns-in_err-place
unfolding find_file
returns-in_err-place g c =
    fails_so c.args.thread (find_file c.args.roots.now c.args.path.now) c.args.kernel.now c.find_place.new.kernel
    c.in_err-place.field-0.0 _ c.from_residual.ensures.1
    (place_fails c.args.thread c.args.roots.now c.args.kernel.now c.find_place.new.kernel (find_file c.args.roots.now)
    c.args.path.now c.name-item.result (take (length c.args.path.now - 1) (drop 1 c.args.path.now))
    (first_of_names c.args.path.now c.name-item.result (omega arith) c.name-item.is) file_at file_of refl
    c.in_err-place.field-0.0 c.in_err-place.ensures)

pub returns-in_err-target : goal.returns-in_err-target
unfolding find_file
returns-in_err-target g c =
    fails_so c.args.thread (find_file c.args.roots.now c.args.path.now) c.args.kernel.now c.look_in.new.kernel
    c.in_err-target.field-0.0 _ c.from_residual-in_err-target.ensures.1
    (look_fails c.args.thread c.args.roots.now c.args.kernel.now c.look_in.new.kernel (find_file c.args.roots.now)
    c.args.path.now c.name-item.result (take (length c.args.path.now - 1) (drop 1 c.args.path.now))
    (first_of_names c.args.path.now c.name-item.result (omega arith) c.name-item.is) file_at file_of refl
    c.find_place.new.kernel c.in_ok-place.place c.in_ok-place.ensures c.in_err-target.field-0.0
    c.in_err-target.ensures)

pub returns-in_err-segment : goal.returns-in_err-segment
unfolding find_file
returns-in_err-segment g c =
    fails_so c.args.thread (find_file c.args.roots.now c.args.path.now) c.args.kernel.now c.look_in.new.kernel
    (Refused c.in_err-segment.field-0.0) _ c.from_residual-in_err-segment.ensures.1
    (led c.args.thread c.args.roots.now c.args.kernel.now c.look_in.new.kernel (find_file c.args.roots.now)
    c.args.path.now c.name-item.result (take (length c.args.path.now - 1) (drop 1 c.args.path.now))
    (first_of_names c.args.path.now c.name-item.result (omega arith) c.name-item.is) file_at file_of refl
    c.find_place.new.kernel c.in_ok-place.place c.in_ok-place.ensures c.in_ok-target.target c.in_ok-target.ensures
    (Err (Refused c.in_err-segment.field-0.0))
    (decides_not c.args.thread c.look_in.new.kernel (file_of c.in_ok-place.place) (file_at c.in_ok-target.target)
    c.in_err-segment.field-0.0 c.in_err-segment.ensures))

pub returns : goal.returns
unfolding find_file
returns g c =
    led c.args.thread c.args.roots.now c.args.kernel.now c.look_in.new.kernel (find_file c.args.roots.now)
    c.args.path.now c.name-item.result (take (length c.args.path.now - 1) (drop 1 c.args.path.now))
    (first_of_names c.args.path.now c.name-item.result (omega arith) c.name-item.is) file_at file_of refl
    c.find_place.new.kernel c.in_ok-place.place c.in_ok-place.ensures c.in_ok-target.target c.in_ok-target.ensures
    (Ok _)
    (decides c.args.thread c.look_in.new.kernel (file_of c.in_ok-place.place) (file_at c.in_ok-target.target)
    c.in_ok-segment.segment c.in_ok-segment.ensures)
