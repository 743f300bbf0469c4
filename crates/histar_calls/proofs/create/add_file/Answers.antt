-- Proves the goals of `add_file` of src/create.rt that the search leaves open.
use Rattle.std.proofs.Common.{Err, sym, ap, refl}
use Rattle.histar_rules.specs.declared.raw.RawCall.TheVariants.{Write}
use Rattle.histar_layout.specs.Directory.{spelling}
use Rattle.histar_programs.specs.declared.call_error.CallError.TheVariants.{Stopped}
use Rattle.histar_programs.specs.Parts.{write_entries}
use Rattle.histar_calls.specs.Create.{add_file}
use Rattle.histar_programs.proofs.Exits.{LeavesPart, ends_in_so, further_in, whole_part}
use Rattle.histar_programs.proofs.Making.{makes}
use Rattle.histar_calls.proofs.MakingFiles.{after_segment, grown}
use Rattle.histar_programs.proofs.Running.{before_ask, fails_so, grants, part_as, refuses}
use Rattle.histar_calls.proofs.create.add_file.Given as given
use Rattle.histar_calls.proofs.create.add_file.Goals as goal
use Rattle.histar_calls.proofs.create.add_file.Goals.{In_ok-file}

pub returns-in_err-file : goal.returns-in_err-file
returns-in_err-file g c =
    ends_in_so _ (after_segment _) (whole_part _ _ _) _ _ _ c.from_residual.ensures.1 (makes _ _ _ _ _ _ _ refl c.new-empty.ensures _
    (refuses _ _ _ _ _ _ c.in_err-file.ensures.answered c.in_err-file.ensures.memory))

-- once the segment was made, the entry is left
entering : (g : given.Over) (c : In_ok-file g)
    → LeavesPart g.H.Heap.Refused (Unit {0}) c.args.thread (add_file c.args.label c.args.room) c.args.kernel.now
    (after_segment c.args.room c.in_ok-file.file) c.make_segment.new.self
entering g c =
    further_in _ (after_segment _) (whole_part _ _ _) _ _ (makes _ _ _ _ _ _ _ refl c.new-empty.ensures _ (grants _ _ _ _
    _ c.in_ok-file.ensures.answered.0 c.in_ok-file.ensures.answered.1))

pub returns-in_err-insert : goal.returns-in_err-insert
returns-in_err-insert g c =
    fails_so _ _ _ _ Stopped _ c.from_residual-in_err-insert.ensures.1
    ((entering g (goal.at.returns-in_err-insert g c).In_ok-file).leads c.make_segment.new.self (Err Stopped)
    (before_ask _ (Write c.args.room.place.container c.args.room.place.listing 0 (spelling (grown c.args.room _))) _ c.in_err-insert.ensures.memory))

pub returns : goal.returns
returns g c =
    (entering g (goal.at.returns g c).In_ok-file).leads c.write_entries.new.kernel c.write_entries.result (part_as _ (after_segment _ _) _ _ _
    (ap (write_entries c.args.room.place) (sym c.in_ok-insert.ensures.ok)) _ c.write_entries.ensures)
