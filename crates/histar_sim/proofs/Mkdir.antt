-- The program of `mkdir` refines its rule.
use Rattle.std.proofs.Common.{◌≡◌, ℕ, ◌+◌, Bool, true, false, List, [], ◌∷◌, ◌++◌, None, Result, arith, refl, ap, ◌∙◌, subst, length}
use Rattle.std.specs.Prelude.{IsTrue, not, nat_lt, is_some}
use Rattle.std.specs.FinMap as map
use Rattle.std.specs.FinSet as set
use Rattle.std.proofs.lemmas.Bool.{ltb-true}
use Rattle.histar_base.specs.Refusals.{◌orelse◌, unless}
use Rattle.histar_flat.specs.declared.calls.Mode.{Mode}
use Rattle.histar_flat.specs.declared.calls.UnixCall.{UnixCall}
use Rattle.histar_flat.specs.declared.calls.UnixCall.TheVariants as calls
use Rattle.histar_flat.specs.declared.replies.Reply.{Reply}
use Rattle.histar_flat.specs.declared.replies.Reply.TheVariants.{Done}
use Rattle.histar_flat.specs.Words.{Name, Path, ProcName, is_name}
use Rattle.histar_flat.specs.Accounts.{Accounts}
use Rattle.histar_flat.specs.Files.{get}
use Rattle.histar_flat.specs.Classes.{Process, may_write, class_made}
use Rattle.histar_flat.specs.FlatState.{Flat, entries_in, into}
use Rattle.histar_flat.specs.FlatState.Content.{Dir}
use Rattle.histar_flat.specs.FlatCalls.{most_entries}
use Rattle.histar_reasons.specs.Reasons.{unmade}
use Rattle.histar_level.specs.Levels.{Levels}
use Rattle.histar_object.specs.declared.objects.Kind.TheVariants.{Segment, Container}
use Rattle.histar_object.specs.declared.objects.Object.{Object}
use Rattle.histar_object.specs.State.{State, Found, with_object, in_range}
use Rattle.histar_rules.specs.declared.raw.Denied.TheVariants.{Range, TooBig}
use Rattle.histar_rules.specs.declared.raw.RawCall.{RawCall}
use Rattle.histar_rules.specs.declared.raw.RawCall.TheVariants as raw
use Rattle.histar_rules.specs.Rules.{check, has_number, greatest}
use Rattle.histar_syscall.specs.KernelModel.{KernelModel, state, Called}
use Rattle.histar_layout.specs.declared.entry.Target.TheVariants as targets
use Rattle.histar_syscall.proofs.Runs.{same_kernel}
use Rattle.histar_programs.specs.declared.call_error.Stopped.{Stopped}
use Rattle.histar_programs.specs.declared.find.Room.{Room}
use Rattle.histar_programs.specs.Programs.{Program, Runs}
use Rattle.histar_programs.specs.Programs.Program.{Answers}
use Rattle.histar_programs.specs.Parts.{ask, write_entries}
use Rattle.histar_calls.specs.Mkdir.{mkdir_program}
use Rattle.histar_refinement.specs.Accounts.{AreAccounts}
use Rattle.histar_refinement.specs.Guards.{guard_label}
use Rattle.histar_refinement.specs.Addresses.{address_of}
use Rattle.histar_refinement.specs.Represents.{ObjectsMatch}
use Rattle.histar_refinement.proofs.ClassTests.{observes_class, modifies_class}
use Rattle.histar_refinement.proofs.Creating.{matched_directory_created, names_of_directory}
use Rattle.histar_refinement.proofs.FileChecks.{is_known}
use Rattle.histar_refinement.proofs.Tested.{guard_owns_nothing}
use Rattle.histar_sim.specs.RawCalls.{plain, requests_of, writes_entries}
use Rattle.histar_sim.proofs.Requests.{AreLeft, left_then}
use Rattle.histar_sim.proofs.Ready.{Ready}
use Rattle.histar_sim.specs.Laws.{MkdirRefines}
use Rattle.histar_sim.proofs.CallErrors.{from_each}
use Rattle.histar_sim.proofs.Chains.{all_granted, Chain}
use Rattle.histar_sim.proofs.Steps.{Goal, granted_step, exhausted_step}
use Rattle.histar_sim.proofs.Walks.{runs, walk_reads, among_then}
use Rattle.histar_sim.proofs.FoundObjects.{container, listing, directory_class, directory_agrees, container_numbered, listing_numbered, may_look}
use Rattle.histar_sim.proofs.FoundObjects.{below, entries, listing_still, listing_then, inside_passes, container_made}
use Rattle.histar_sim.proofs.Makers.{MakesClass}
use Rattle.histar_sim.proofs.FoundRoom.{slash_agrees, the_room}
use Rattle.histar_sim.proofs.MadeEntries.{MakesEntry, asked, among_asked, GoesOn, entry_step, entry_written}
use Rattle.histar_sim.proofs.NewEntries.{last_name}

-- a mkdir makes a directory
mkdir_makes : (accounts : Accounts) (f : Flat) (me : ProcName) (p : Process) (q : Path) (mode : Mode)
    → MakesEntry accounts f me p q mode Dir (calls.Mkdir q mode)
mkdir_makes accounts f me p q mode =
    record {
      needs = record {
        refuses = refl;
        path = refl;
        named = unless (is_some (class_made accounts p mode)) (unmade mode);
        explains = refl;
        reads = λ s reply entries walk. walk;
      };
      names = refl;
      changes = refl;
      answers = refl;
    }

-- the container is made, its directory segment in it, and the directory is written
abbrev make : ℕ → Levels → RawCall
make container x = raw.MakeContainer container x

abbrev call_error : Room → ℕ → ℕ → Program
call_error room inner segment = write_entries room.place (map.insert room.entries room.name (targets.Directory inner segment)) (λ _. Answers Done)

abbrev within : Room → Levels → ℕ → Program
within room x inner = ask (raw.MakeSegment inner x []) (call_error room inner)

module _ {M : Type 0} (accounts : Accounts) (ok : AreAccounts accounts) (old new : KernelModel) (f : Flat) (me : ProcName) (t : ℕ)
    (ready : Ready M accounts (state old) f me t) (m : Name) (named : IsTrue (is_name m)) (d : Path) (mode : Mode)
    (result : Result Reply Stopped) where
  abbrev call : UnixCall
  call = calls.Mkdir (m ∷ d) mode

  abbrev Refined : Type 0
  Refined = Goal accounts f me call old new t ready result

  abbrev l : ObjectsMatch accounts (state old) f
  l = ready.represents.matched

  makes : MakesEntry accounts f me ready.caller.process (m ∷ d) mode Dir call
  makes = mkdir_makes accounts f me ready.caller.process (m ∷ d) mode

  abbrev above : ℕ
  above = container accounts ok (state old) f me t ready d

  abbrev room_here : Room
  room_here = the_room accounts ok (state old) f me t ready d m

  -- then the directory segment is made, and the directory is written
  abbrev more : Levels → List RawCall
  more x = raw.MakeSegment (state old).next_object x []
      ∷ writes_entries accounts ready.represents.matched d (map.insert (entries accounts ok (state old) f me t ready d) m
      (targets.Directory (state old).next_object ((state old).next_object + 1))) ∷ []

  -- the number of the container
  abbrev new_container : ℕ
  new_container = (state old).next_object

  module _ (open_so_far : into accounts f ready.caller.process d ≡ None) (absent : get f.files (m ∷ d) ≡ None)
      (room : nat_lt (length (entries_in f d)) most_entries ≡ true)
      (made : MakesClass accounts ok (state old) f me t ready mode) (is_may : may_write accounts ready.caller.process
      (directory_class accounts ok (state old) f me t ready d open_so_far) ≡ true) where
    abbrev due : Levels
    due = guard_label ready.represents.matched.category made.guard

    -- the state once the container is made
    abbrev held : Object Levels
    held = record { label = due; kind = Container set.empty }

    abbrev with_container : State
    with_container = with_object (state old) above held

    -- the directory segment is made in the container, if there is a number for it
    abbrev next : RawCall
    next = raw.MakeSegment new_container due []

    next_said : (more : Bool) → has_number with_container ≡ more → check with_container t next ≡ unless more TooBig
    next_said more is =
        let p = ready.caller.process in
        let reads_inside = observes_class accounts me p l.category l.different ok made.class made.guard made.guarded ∙ made.reads in
        let writes_inside = modifies_class accounts me p l.category l.different ok made.class made.guard made.guarded ∙ made.writes in
        let opens = inside_passes accounts ok (state old) f me t ready d open_so_far due reads_inside writes_inside in
        let ranged : in_range (with_container.objects t) due ≡ true =
        ap (λ (o : Found). in_range o due)
        (listing_still accounts ok (state old) f me t ready d open_so_far held).thread ∙ made.within in
        let is_known_now =
        is_known accounts (state old) f l ok me p t (runs accounts ok (state old) f me t ready) d
        (directory_class accounts ok (state old) f me t ready d open_so_far)
        (directory_agrees accounts ok (state old) f me t ready d open_so_far) above
        (listing accounts ok (state old) f me t ready d)
        (container_numbered accounts ok (state old) f me t ready d open_so_far)
        (listing_numbered accounts ok (state old) f me t ready d open_so_far)
        (may_look accounts ok (state old) f me t ready d open_so_far) made.class made.known made.guard made.guarded in
        λ i. opens i orelse unless (ranged i) Range orelse unless (is_known_now i) Range
        orelse unless (not (guard_owns_nothing l.category made.guard i)) Range orelse unless (is i) TooBig

    -- once the container is made
    module _ (linked : KernelModel) (linked_state : state linked ≡ with_container)
        (so_far : Chain old t (all_granted (asked accounts ok (state old) f me t ready d ++ make above due ∷ []))
        linked)
        (left : AreLeft (requests_of accounts ready.represents.matched me ready.caller.process call)
        (asked accounts ok (state old) f me t ready d ++ make above due ∷ []) (plain (more due))) where
      abbrev before : List RawCall
      before = asked accounts ok (state old) f me t ready d ++ make above due ∷ []

      -- once the directory segment is made too the directory is written
      written : has_number with_container ≡ true → (inside : KernelModel) (number : ℕ)
          → Called linked inside t next None → number ≡ (state linked).next_object
          → Chain old t (all_granted (before ++ next ∷ [])) inside
          → Runs M (call_error room_here new_container number) inside new t result → Refined
      written more inside number called number_is chain rest =
          let segment : Object Levels = record { label = due; kind = Segment [] } in
          let class = directory_class accounts ok (state old) f me t ready d open_so_far in
          let agrees = directory_agrees accounts ok (state old) f me t ready d open_so_far in
          let listing_there = listing accounts ok (state old) f me t ready d in
          let at_container = container_numbered accounts ok (state old) f me t ready d open_so_far in
          let at_listing = listing_numbered accounts ok (state old) f me t ready d open_so_far in
          let low = below accounts ok (state old) f me t ready (address_of d) above at_container in
          let number_left = ltb-true (new_container + 1) greatest more in
          let later =
          matched_directory_created accounts (state old) f l d class agrees above listing_there at_container
          at_listing m absent made.class made.fits made.guard made.guarded named
          (ltb-true (length (entries_in f d)) most_entries room) number_left in
          let names =
          names_of_directory accounts (state old) f l d class agrees above listing_there at_container
          at_listing m absent made.class made.fits made.guard made.guarded number_left made.known _ later.0 later.1 later.2 in
          entry_written accounts ok old new f me t ready m d mode Dir call result makes named open_so_far absent room made is_may
          (targets.Directory new_container (new_container + 1))
          ((omega (arith, low), omega (arith, number_left)), (omega (arith, low), omega (arith, number_left)))
          (with_object with_container new_container segment) (listing_then accounts ok (state old) f me t ready d open_so_far held segment)
          (before ++ next ∷ []) (among_then old.line t (walk_reads accounts ok (state old) f me t ready d) before (next ∷ [])
          (among_asked accounts ok (state old) f me t ready d old.line (make above due ∷ [])))
          (left_then _ before next _ left) inside
          (called.state ∙ ap (λ (s : State). with_object s new_container segment) linked_state) chain later.0 names
          (subst (λ (q : ℕ). Runs M (call_error room_here new_container q) inside new t result)
          (number_is ∙ ap (λ (s : State). s.next_object) linked_state) rest)

      by_more : (more : Bool) → has_number with_container ≡ more
          → Runs M (ask next (call_error room_here new_container)) linked new t result → Refined
      by_more false is on =
          exhausted_step accounts f me call old new t ready result before linked so_far next
          (call_error room_here new_container)
          (ap (λ (s : State). check s t next) linked_state ∙ next_said false is) refl
          (ap has_number linked_state ∙ is) on
      by_more true is on =
          granted_step accounts f me call old new t ready result before linked so_far next
          (call_error room_here new_container) (ap (λ (s : State). check s t next) linked_state ∙ next_said true is)
          on
          (λ inside number called number_is chain rest. written is inside number called number_is chain rest)

  -- once the container is made its directory segment is
  goes_on : GoesOn accounts ok old new f me t ready m d mode Dir call result makes make within more refl
  goes_on open_so_far absent room made is_may has mid stays linked inner called inner_is chain left rest =
      let label : Levels = guard_label ready.represents.matched.category made.guard in
      let held : Object Levels = record { label = label; kind = Container set.empty } in
      by_more open_so_far absent room made is_may linked
      (called.state ∙ ap (λ (s : State). with_object s above held) stays) chain left
      (has_number (with_object (state old) above held)) refl
      (subst (λ (q : ℕ). Runs M (within room_here label q) linked new t result) (inner_is ∙ ap (λ (s : State). s.next_object) stays) rest)

-- the program of `mkdir` refines its rule
pub mkdir_refines : {M : Type 0} → MkdirRefines M
unfolding mkdir_program
mkdir_refines {M} accounts ok [] mode right me old new f t result ready run =
    from_each M accounts f me (calls.Mkdir [] mode) old new t result ready (λ ready.
    slash_agrees accounts old new f me t ready (calls.Mkdir [] mode) result _
    (mkdir_makes accounts f me ready.caller.process [] mode).needs [] old refl (same_kernel old) refl _ run)
mkdir_refines {M} accounts ok (m ∷ d) mode right me old new f t result ready run =
    from_each M accounts f me (calls.Mkdir (m ∷ d) mode) old new t result ready (λ ready.
    entry_step accounts ok old new f me t ready m d mode Dir (calls.Mkdir (m ∷ d) mode) result
    (mkdir_makes accounts f me ready.caller.process (m ∷ d) mode) make within
    (more accounts ok old new f me t ready m (last_name m d right) d mode result) refl
    (λ open_so_far. container_made accounts ok (state old) f me t ready d open_so_far) run
    (goes_on accounts ok old new f me t ready m (last_name m d right) d mode result))
