-- Proves the goals of `make_scratch` of src/scratch.rt that the search leaves open.
use Rattle.std.proofs.Common.{[], ℕ, Result, Ok, sym, ap}
use Rattle.histar_rules.specs.declared.raw.RawCall.TheVariants.{MakeSegment}
use Rattle.histar_programs.specs.Parts.{ask, write_entries}
use Rattle.histar_programs.specs.Programs.{RunsPart}
use Rattle.histar_programs.specs.declared.call_error.CallError.{CallError}
use Rattle.histar_programs.proofs.Exits.{LeavesPart}
use Rattle.histar_programs.proofs.Making.{makes}
use Rattle.histar_programs.proofs.Running.{fails_so, grants, part_as, refuses}
use Rattle.histar_wrap.specs.Scratch.{make_scratch}
use Rattle.histar_wrap.proofs.Scratching.{after_listing, before_entries, grown, own_of, with_listing, without_container, without_listing}
use Rattle.histar_wrap.proofs.Wrapping.{before_scratch}
use Rattle.histar_wrap.proofs.scratch.make_scratch.Given as given
use Rattle.histar_wrap.proofs.scratch.make_scratch.Goals.{After-make_segment}
use Rattle.histar_wrap.proofs.scratch.make_scratch.Goals as goal

module _ (g : given.Over) (c : After-make_segment g) where
  -- the directory segment that is made is empty, and has the label that is due
  listed : (result : Result ℕ CallError)
      → RunsPart {A = ℕ} g.H.Heap.Refused (ask (MakeSegment c.in_ok-container.container c.in_ok-same.same c.new-empty.result))
      c.make_or_give_back.new.kernel c.make_segment.new.self c.args.wrapper.now.thread result
      → RunsPart {A = ℕ} g.H.Heap.Refused (ask (MakeSegment c.in_ok-container.container c.args.label []))
      c.make_or_give_back.new.kernel c.make_segment.new.self c.args.wrapper.now.thread result
  listed = makes _ _ _ _ _ _ _ c.in_ok-same.ensures.ok c.new-empty.ensures

  -- the directory segment is made, and the entry is still to be made
  left : (listing : ℕ)
      → RunsPart {A = ℕ} g.H.Heap.Refused (ask (MakeSegment c.in_ok-container.container c.in_ok-same.same c.new-empty.result))
      c.make_or_give_back.new.kernel c.make_segment.new.self c.args.wrapper.now.thread (Ok listing)
      → LeavesPart g.H.Heap.Refused (Unit {0}) c.args.wrapper.now.thread (make_scratch (own_of c.args.wrapper.now) c.args.label c.args.room)
      c.args.kernel.now (after_listing c.args.room c.in_ok-container.container listing) c.make_segment.new.self
  left listing made =
      with_listing c.args.wrapper.now.thread (own_of c.args.wrapper.now) c.args.label c.args.room c.args.kernel.now c.make_or_give_back.new.kernel
      c.in_ok-container.container c.in_ok-container.ensures.runs c.make_segment.new.self listing (listed (Ok listing) made)

pub returns-in_err-same : goal.returns-in_err-same
returns-in_err-same g c =
    fails_so _ _ _ _ _ _ c.from_residual.ensures.1 (before_scratch _ (own_of c.args.wrapper.now) _ _ _ c.in_err-same.ensures.memory)

pub returns-in_err-container : goal.returns-in_err-container
returns-in_err-container g c =
    without_container _ (own_of c.args.wrapper.now) _ _ _ _ _ _ c.from_residual-in_err-container.ensures.1 c.in_err-container.ensures.runs

pub returns-in_err-listing : goal.returns-in_err-listing
returns-in_err-listing g c =
    without_listing _ (own_of c.args.wrapper.now) _ _ _ _ _ c.in_ok-container.ensures.runs _ _ _ c.from_residual-in_err-listing.ensures.1
    (listed g (goal.at.returns-in_err-listing g c).After-make_segment _ (refuses _ _ _ _ _ _ c.in_err-listing.ensures.answered
    c.in_err-listing.ensures.memory))

pub returns-in_err-insert : goal.returns-in_err-insert
returns-in_err-insert g c =
    fails_so _ _ _ _ _ _ c.from_residual-in_err-insert.ensures.1
    ((left g (goal.at.returns-in_err-insert g c).After-make_segment c.in_ok-listing.listing
    (grants _ _ _ _ _ c.in_ok-listing.ensures.answered.0 c.in_ok-listing.ensures.answered.1)).leads _ _
    (before_entries _ _ (grown c.args.room _ _) _ c.in_err-insert.ensures.memory))

pub returns : goal.returns
returns g c =
    (left g (goal.at.returns g c).After-make_segment c.in_ok-listing.listing
    (grants _ _ _ _ _ c.in_ok-listing.ensures.answered.0 c.in_ok-listing.ensures.answered.1)).leads _ _
    (part_as _ _ _ _ _ (ap (write_entries c.args.room.place) (sym c.in_ok-insert.ensures.ok)) _ c.write_entries.ensures)
