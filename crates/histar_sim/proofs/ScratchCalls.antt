-- The kernel's checks of raw calls that make the directory segment of a scratch directory and write its entry, once the container is made.
use Rattle.std.proofs.Common.{◌≡◌, ◌≢◌, ℕ, ◌+◌, ◌<◌, ◌≤◌, ◌&&◌, ◌==◌, true, false, List, [], ◌∷◌, length, None, Some, refl, sym, ap, ◌∙◌}
use Rattle.std.specs.Prelude.{option_map}
use Rattle.std.specs.FinSet as set
use mathlib.Core.Bool.{true≢false}
use Rattle.histar_base.specs.Refusals.{unless}
use Rattle.histar_flat.specs.Words.{Path, ProcName}
use Rattle.histar_flat.specs.Accounts.{Accounts, has, user_number}
use Rattle.histar_flat.specs.Classes.{Process, may_write}
use Rattle.histar_flat.specs.FlatState.{Flat, into}
use Rattle.histar_flat.specs.FlatState.Content.{Dir}
use Rattle.histar_level.specs.declared.level.Level.TheVariants.{Star, L3}
use Rattle.histar_level.specs.Levels.{Levels}
use Rattle.histar_label.specs.Levels.{with_level, is_below, is_below_raised}
use Rattle.histar_layout.specs.Directory.{spelling}
use Rattle.histar_object.specs.declared.objects.Kind.TheVariants.{Segment, Container, Thread}
use Rattle.histar_object.specs.declared.objects.Object.{Object}
use Rattle.histar_object.specs.Objects.{is_thread}
use Rattle.histar_rules.specs.Rights.{with_star_at, with_category}
use Rattle.histar_object.specs.State.{State, with_object, with_segment_bytes}
use Rattle.histar_container.proofs.TableMoves.{changed_here, changed_other}
use Rattle.histar_rules.specs.declared.raw.Denied.TheVariants.{TooBig}
use Rattle.histar_rules.specs.declared.raw.RawCall.TheVariants.{MakeSegment, Write}
use Rattle.histar_rules.specs.Rules.{check, has_number}
use Rattle.histar_refinement.specs.Accounts.{AreAccounts}
use Rattle.histar_refinement.specs.Categories.{among, IsUsed}
use Rattle.histar_refinement.specs.Categories.CategoryName.{OfJob}
use Rattle.histar_refinement.specs.Guards.{guard_label}
use Rattle.histar_refinement.specs.Addresses.{address_of}
use Rattle.histar_refinement.specs.Addresses.Step.{Listing}
use Rattle.histar_layout.proofs.Members.{second_of}
use Rattle.histar_refinement.proofs.RawChecks.{object}
use Rattle.histar_sim.proofs.Ready.{Ready}
use Rattle.histar_sim.proofs.FoundObjects.{label, clearance, container, listing, entries, directory_class, directory_agrees, directory_guard}
use Rattle.histar_sim.proofs.FoundObjects.{has_listing, thread_below, below, container_numbered, listing_numbered}
use Rattle.histar_sim.proofs.NewEntries.{HasSegment, segment_written, still_there, there_then}
use Rattle.histar_sim.proofs.BirthObjects.{holder_made, held_thread}
use Rattle.histar_sim.proofs.BirthChecks.{IsModified, segment_said}
use Rattle.histar_wrap.specs.Scratch.{directory_label}
use Rattle.histar_sim.proofs.ScratchLabels.{directory_modified, above_modified}

-- A thread, a container and the segment that it links are still there once the thread has made a category, which it owns.
module _ (s : State) (t d n : ℕ) (own own_clearance above : Levels) (old : List ℕ) (there : HasSegment s t d n own own_clearance above old) where
  holder_apart : d ≢ t
  holder_apart e = true≢false (sym (ap (λ (q : ℕ). is_thread (s.objects q)) e ∙ ap is_thread there.thread) ∙ ap is_thread there.holder)

  segment_apart : n ≢ t
  segment_apart e = true≢false (sym (ap (λ (q : ℕ). is_thread (s.objects q)) e ∙ ap is_thread there.thread) ∙ ap is_thread there.segment)

  there_owning : HasSegment (with_category s t) t d n (with_level own s.next_category Star) (with_level own_clearance s.next_category L3) above old
  there_owning = record {
    links = there.links;
    thread = changed_here s.objects t (with_star_at s.next_category) ∙ ap (option_map (with_star_at s.next_category)) there.thread;
    holder = changed_other s.objects t (with_star_at s.next_category) d holder_apart ∙ there.holder;
    segment = changed_other s.objects t (with_star_at s.next_category) n segment_apart ∙ there.segment;
    linked = there.linked;
  }

module _ {M : Type 0} (accounts : Accounts) (ok : AreAccounts accounts) (s : State) (f : Flat) (me : ProcName) (t : ℕ)
    (ready : Ready M accounts s f me t) (d : Path) (open_so_far : into accounts f ready.caller.process d ≡ None)
    (unused : ¬ IsUsed accounts f (OfJob ((ready.caller.process.born + 1) ∷ me))) (i : ℕ)
    (declared : user_number accounts ready.caller.process.user ≡ Some i) where
  abbrev p : Process
  p = ready.caller.process

  -- the thread's label and clearance with the job, and the label of the scratch directory
  abbrev pub own_then : Levels
  own_then = with_level (label accounts ok s f me t ready) s.next_category Star

  abbrev pub later_clearance : Levels
  later_clearance = with_level (clearance accounts ok s f me t ready) s.next_category L3

  abbrev pub due : Levels
  due = directory_label accounts (label accounts ok s f me t ready) s.next_category

  abbrev above : Levels
  above = guard_label ready.represents.matched.category (directory_guard accounts ok s f me t ready d open_so_far).0

  abbrev held : Object Levels
  held = record { label = due; kind = Container set.empty }

  -- the state with the container, and with the directory segment in it
  abbrev pub with_container : State
  with_container = with_object (with_category s t) (container accounts ok s f me t ready d) (record { label = due; kind = Container set.empty })

  abbrev pub with_segment : State
  with_segment = with_object with_container s.next_object (record { label = due; kind = Segment [] })

  there : HasSegment (with_category s t) t (container accounts ok s f me t ready d)
      (listing accounts ok s f me t ready d) own_then later_clearance above
      (spelling (entries accounts ok s f me t ready d))
  there =
      there_owning s t (container accounts ok s f me t ready d) (listing accounts ok s f me t ready d)
      (label accounts ok s f me t ready) (clearance accounts ok s f me t ready) above
      (spelling (entries accounts ok s f me t ready d))
      (has_listing accounts ok s f me t ready d open_so_far)

  container_below : container accounts ok s f me t ready d < s.next_object
  container_below =
      below accounts ok s f me t ready (address_of d) (container accounts ok s f me t ready d)
      (container_numbered accounts ok s f me t ready d open_so_far)

  listing_below : listing accounts ok s f me t ready d < s.next_object
  listing_below =
      below accounts ok s f me t ready (Listing ∷ address_of d) (listing accounts ok s f me t ready d)
      (listing_numbered accounts ok s f me t ready d open_so_far)

  still : HasSegment with_container t (container accounts ok s f me t ready d) (listing accounts ok s f me t ready d)
      own_then later_clearance above (spelling (entries accounts ok s f me t ready d))
  still =
      still_there (with_category s t) t (container accounts ok s f me t ready d) (listing accounts ok s f me t ready d)
      own_then later_clearance above (spelling (entries accounts ok s f me t ready d)) there
      (thread_below accounts ok s f me t ready) container_below listing_below held

  then : HasSegment with_segment t (container accounts ok s f me t ready d) (listing accounts ok s f me t ready d)
      own_then later_clearance above (spelling (entries accounts ok s f me t ready d))
  then =
      there_then (with_category s t) t (container accounts ok s f me t ready d) (listing accounts ok s f me t ready d)
      own_then later_clearance above (spelling (entries accounts ok s f me t ready d)) there
      (thread_below accounts ok s f me t ready) container_below listing_below held (record { label = due; kind = Segment [] })

  -- The directory segment is made unless there is no number for it.
  pub make_said : check with_container t (MakeSegment s.next_object due []) ≡ unless (has_number with_container) TooBig
  make_said =
      let is : IsModified own_then later_clearance due (s.next_category + 1) =
      directory_modified accounts s f ready.represents.matched me p ready.caller.agrees unused i declared in
      segment_said with_container t own_then later_clearance still.thread s.next_object due
      (holder_made (with_category s t) (container accounts ok s f me t ready d) due) is.above is.seen due is [] refl

  module _
      (may : may_write accounts ready.caller.process (directory_class accounts ok s f me t ready d open_so_far) ≡ true)
      (stranger : has ready.caller.process.chain ((ready.caller.process.born + 1) ∷ me) ≡ false)
      (not_secret : among (directory_guard accounts ok s f me t ready d open_so_far).0.secret (OfJob ((ready.caller.process.born + 1) ∷ me)) ≡ false)
      (not_written : among (directory_guard accounts ok s f me t ready d open_so_far).0.written
      (OfJob ((ready.caller.process.born + 1) ∷ me)) ≡ false) where
    modified : (is_below own_then above && is_below_raised above own_then) ≡ true
    modified =
        above_modified accounts s f ready.represents.matched me p ready.caller.agrees unused ok d
        (record { class = directory_class accounts ok s f me t ready d open_so_far; content = Dir })
        (directory_agrees accounts ok s f me t ready d open_so_far)
        (directory_guard accounts ok s f me t ready d open_so_far).0
        (directory_guard accounts ok s f me t ready d open_so_far).1 stranger not_secret not_written ∙ may

    -- The directory above is written with few bytes.
    pub write_said : (bytes : List ℕ) → length bytes ≤ 4096
        → check with_segment t
        (Write (container accounts ok s f me t ready d) (listing accounts ok s f me t ready d) 0 bytes) ≡ None
    write_said bytes few =
        segment_written with_segment t (container accounts ok s f me t ready d) (listing accounts ok s f me t ready d)
        own_then later_clearance above (spelling (entries accounts ok s f me t ready d)) then
        (second_of (is_below own_then above) (is_below_raised above own_then) modified) modified bytes few

  -- The thread has the job's category then.
  pub thread_then : (bytes : List ℕ)
      → (with_segment_bytes with_segment (listing accounts ok s f me t ready d) bytes).objects t
      ≡ object own_then (Thread later_clearance)
  thread_then bytes = held_thread (t == listing accounts ok s f me t ready d) bytes (with_segment.objects t) own_then later_clearance then.thread
