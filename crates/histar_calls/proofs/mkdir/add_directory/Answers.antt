-- Proves the goals of `add_directory` of src/mkdir.rt that the search leaves open.
use Rattle.std.proofs.Common.{Err, sym, ap}
use Rattle.histar_rules.specs.declared.raw.RawCall.TheVariants.{Write}
use Rattle.histar_layout.specs.Directory.{spelling}
use Rattle.histar_programs.specs.declared.call_error.CallError.TheVariants.{Stopped}
use Rattle.histar_programs.specs.Parts.{write_entries}
use Rattle.histar_calls.specs.Mkdir.{add_directory}
use Rattle.histar_programs.proofs.Exits.{LeavesPart, ends_in_so, further_in, whole_part}
use Rattle.histar_programs.proofs.Making.{makes}
use Rattle.histar_calls.proofs.MakingDirectories.{after_container, after_listing, before_adding, grown}
use Rattle.histar_programs.proofs.Running.{before_ask, fails_so, grants, part_as, refuses}
use Rattle.histar_calls.proofs.mkdir.add_directory.Given as given
use Rattle.histar_calls.proofs.mkdir.add_directory.Goals as goal
use Rattle.histar_calls.proofs.mkdir.add_directory.Goals.{In_ok-container, In_ok-listing}

pub returns-in_err-same : goal.returns-in_err-same
returns-in_err-same g c =
    fails_so _ _ _ _ Stopped _ c.from_residual.ensures.1 (before_adding _ _ _ _ c.in_err-same.ensures.memory)

pub returns-in_err-container : goal.returns-in_err-container
returns-in_err-container g c =
    ends_in_so _ (after_container _ _) (whole_part _ _ _) _ _ _ c.from_residual-in_err-container.ensures.1 (refuses _ _ _ _ _
    _ c.in_err-container.ensures.answered c.in_err-container.ensures.memory)

-- once the container was made, its directory segment is left, and what comes after it
listing_it : (g : given.Over) (c : In_ok-container g)
    → LeavesPart g.H.Heap.Refused (Unit {0}) c.args.thread (add_directory c.args.label c.args.room) c.args.kernel.now
    (after_container c.args.label c.args.room c.in_ok-container.container) c.make_container.new.self
listing_it g c =
    further_in _ (after_container _ _) (whole_part _ _ _) _ _
    (grants _ _ _ _ _ c.in_ok-container.ensures.answered.0 c.in_ok-container.ensures.answered.1)

pub returns-in_err-listing : goal.returns-in_err-listing
returns-in_err-listing g c =
    ends_in_so _ (after_listing _ _) (listing_it g (goal.at.returns-in_err-listing g c).In_ok-container) _ _ _
    c.from_residual-in_err-listing.ensures.1 (makes _ _ _ _ _ _ _ c.in_ok-same.ensures.ok c.new-empty.ensures _ (refuses _ _ _
    _ _ _ c.in_err-listing.ensures.answered c.in_err-listing.ensures.memory))

-- once the directory segment was made, the entry is left
entering : (g : given.Over) (c : In_ok-listing g)
    → LeavesPart g.H.Heap.Refused (Unit {0}) c.args.thread (add_directory c.args.label c.args.room) c.args.kernel.now
    (after_container c.args.label c.args.room c.in_ok-container.container) c.make_container.new.self
    → LeavesPart g.H.Heap.Refused (Unit {0}) c.args.thread (add_directory c.args.label c.args.room) c.args.kernel.now
    (after_listing c.args.room c.in_ok-container.container c.in_ok-listing.listing) c.make_segment.new.self
entering g c way =
    further_in _ (after_listing _ _) way _ _ (makes _ _ _ _ _ _ _ c.in_ok-same.ensures.ok c.new-empty.ensures _ (grants _ _ _
    _ _ c.in_ok-listing.ensures.answered.0 c.in_ok-listing.ensures.answered.1))

pub returns-in_err-insert : goal.returns-in_err-insert
returns-in_err-insert g c =
    fails_so _ _ _ _ Stopped _ c.from_residual-in_err-insert.ensures.1
    ((entering g (goal.at.returns-in_err-insert g c).In_ok-listing (listing_it g (goal.at.returns-in_err-insert g c).In_ok-container)).leads
    c.make_segment.new.self (Err Stopped) (before_ask _ (Write c.args.room.place.container c.args.room.place.listing 0
    (spelling (grown c.args.room _ _))) _ c.in_err-insert.ensures.memory))

pub returns : goal.returns
returns g c =
    (entering g (goal.at.returns g c).In_ok-listing (listing_it g (goal.at.returns g c).In_ok-container)).leads
    c.write_entries.new.kernel c.write_entries.result (part_as _ (after_listing _ _ _) _
    _ _ (ap (write_entries c.args.room.place) (sym c.in_ok-insert.ensures.ok)) _ c.write_entries.ensures)
