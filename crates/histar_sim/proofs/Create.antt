-- The program of `create` refines its rule.
use Rattle.std.proofs.Common.{ℕ, List, [], ◌∷◌, ◌++◌, Result, arith, refl, ap, ◌∙◌, subst, length}
use Rattle.std.specs.Prelude.{IsTrue, is_some}
use Rattle.std.specs.FinMap as map
use Rattle.std.proofs.lemmas.Bool.{ltb-true}
use Rattle.histar_flat.specs.declared.calls.Mode.{Mode}
use Rattle.histar_flat.specs.declared.calls.UnixCall.{UnixCall}
use Rattle.histar_flat.specs.declared.calls.UnixCall.TheVariants as calls
use Rattle.histar_flat.specs.declared.replies.Reply.{Reply}
use Rattle.histar_flat.specs.declared.replies.Reply.TheVariants.{Done}
use Rattle.histar_flat.specs.Words.{Name, Path, ProcName, is_name}
use Rattle.histar_flat.specs.Accounts.{Accounts}
use Rattle.histar_flat.specs.Classes.{Process, class_made}
use Rattle.histar_flat.specs.FlatState.{Flat, entries_in}
use Rattle.histar_flat.specs.FlatState.Content.{File}
use Rattle.histar_flat.specs.FlatCalls.{most_entries}
use Rattle.histar_reasons.specs.Reasons.{unmade}
use Rattle.histar_base.specs.Refusals.{unless}
use Rattle.histar_level.specs.Levels.{Levels}
use Rattle.histar_object.specs.declared.objects.Kind.TheVariants.{Segment}
use Rattle.histar_object.specs.declared.objects.Object.{Object}
use Rattle.histar_object.specs.State.{State, with_object}
use Rattle.histar_rules.specs.declared.raw.RawCall.{RawCall}
use Rattle.histar_rules.specs.declared.raw.RawCall.TheVariants as raw
use Rattle.histar_rules.specs.Rules.{greatest}
use Rattle.histar_syscall.specs.KernelModel.{KernelModel, state}
use Rattle.histar_layout.specs.declared.entry.Target.TheVariants as targets
use Rattle.histar_syscall.proofs.Runs.{same_kernel}
use Rattle.histar_programs.specs.declared.call_error.Stopped.{Stopped}
use Rattle.histar_programs.specs.declared.find.Room.{Room}
use Rattle.histar_programs.specs.Programs.{Program, Runs}
use Rattle.histar_programs.specs.Programs.Program.{Answers}
use Rattle.histar_programs.specs.Parts.{write_entries}
use Rattle.histar_calls.specs.Create.{create_program}
use Rattle.histar_refinement.specs.Accounts.{AreAccounts}
use Rattle.histar_refinement.specs.Guards.{guard_label}
use Rattle.histar_refinement.specs.Addresses.{address_of}
use Rattle.histar_refinement.proofs.Creating.{matched_created, names_created}
use Rattle.histar_sim.specs.RawCalls.{writes_entries}
use Rattle.histar_sim.proofs.Ready.{Ready}
use Rattle.histar_sim.specs.Laws.{CreateRefines}
use Rattle.histar_sim.proofs.CallErrors.{from_each}
use Rattle.histar_sim.proofs.FoundObjects.{container, listing, directory_agrees, directory_class, container_numbered, listing_numbered, below}
use Rattle.histar_sim.proofs.FoundObjects.{entries, listing_still, segment_made}
use Rattle.histar_sim.proofs.FoundRoom.{slash_agrees, the_room}
use Rattle.histar_sim.proofs.MadeEntries.{MakesEntry, asked, among_asked, GoesOn, entry_step, entry_written}
use Rattle.histar_sim.proofs.NewEntries.{last_name}

-- a create makes an empty file
create_makes : (accounts : Accounts) (f : Flat) (me : ProcName) (p : Process) (q : Path) (mode : Mode)
    → MakesEntry accounts f me p q mode (File []) (calls.Create q mode)
create_makes accounts f me p q mode =
    record {
      needs = record {
        refuses = refl;
        path = refl;
        named = unless (is_some (class_made accounts p mode)) (unmade mode);
        explains = refl;
        reads = λ s reply entries walk. walk;
      };
      names = refl;
      changes = refl;
      answers = refl;
    }

-- the segment of the file is made, and the directory is written
abbrev make : ℕ → Levels → RawCall
make container x = raw.MakeSegment container x []

abbrev within : Room → Levels → ℕ → Program
within room x file = write_entries room.place (map.insert room.entries room.name (targets.File file)) (λ _. Answers Done)

module _ {M : Type 0} (accounts : Accounts) (ok : AreAccounts accounts) (old new : KernelModel) (f : Flat) (me : ProcName) (t : ℕ)
    (ready : Ready M accounts (state old) f me t) (m : Name) (named : IsTrue (is_name m)) (d : Path) (mode : Mode)
    (result : Result Reply Stopped) where
  abbrev call : UnixCall
  call = calls.Create (m ∷ d) mode

  makes : MakesEntry accounts f me ready.caller.process (m ∷ d) mode (File []) call
  makes = create_makes accounts f me ready.caller.process (m ∷ d) mode

  -- then the directory is written with the file
  abbrev more : Levels → List RawCall
  more x = writes_entries accounts ready.represents.matched d (map.insert (entries accounts ok (state old) f me t ready d) m
      (targets.File (state old).next_object)) ∷ []

  -- once the file is made the directory is written
  goes_on : GoesOn accounts ok old new f me t ready m d mode (File []) call result makes make within more refl
  goes_on open_so_far absent room made is_may has mid stays linked number called number_is chain left rest =
      let above = container accounts ok (state old) f me t ready d in
      let file : Object Levels = record { label = guard_label ready.represents.matched.category made.guard; kind = Segment [] } in
      let at_container = container_numbered accounts ok (state old) f me t ready d open_so_far in
      let low = below accounts ok (state old) f me t ready (address_of d) above at_container in
      let next_below = ltb-true (state old).next_object greatest has in
      let later =
      matched_created accounts (state old) f ready.represents.matched d
      (directory_class accounts ok (state old) f me t ready d open_so_far)
      (directory_agrees accounts ok (state old) f me t ready d open_so_far) above
      (listing accounts ok (state old) f me t ready d)
      at_container (listing_numbered accounts ok (state old) f me t ready d open_so_far) m absent made.class made.fits
      made.guard made.guarded named (ltb-true (length (entries_in f d)) most_entries room) next_below in
      let names =
      names_created accounts (state old) f ready.represents.matched d
      (directory_class accounts ok (state old) f me t ready d open_so_far)
      (directory_agrees accounts ok (state old) f me t ready d open_so_far) above
      (listing accounts ok (state old) f me t ready d)
      at_container (listing_numbered accounts ok (state old) f me t ready d open_so_far) m absent made.class made.fits
      made.guard made.guarded next_below made.known _ later.0 later.1 later.2 in
      let making : RawCall = make above (guard_label ready.represents.matched.category made.guard) in
      entry_written accounts ok old new f me t ready m d mode (File []) call result makes named open_so_far absent room made is_may
      (targets.File (state old).next_object) (omega (arith, low), omega (arith, next_below))
      (with_object (state old) above file) (listing_still accounts ok (state old) f me t ready d open_so_far file)
      (asked accounts ok (state old) f me t ready d ++ making ∷ []) (among_asked accounts ok (state old) f me t ready d old.line (making ∷ []))
      left linked (called.state ∙ ap (λ (s : State). with_object s above file) stays) chain later.0 names
      (subst (λ (q : ℕ). Runs M (within (the_room accounts ok (state old) f me t ready d m)
      (guard_label ready.represents.matched.category made.guard) q) linked new t result)
      (number_is ∙ ap (λ (s : State). s.next_object) stays) rest)

-- the program of `create` refines its rule
pub create_refines : {M : Type 0} → CreateRefines M
unfolding create_program
create_refines {M} accounts ok [] mode right me old new f t result ready run =
    from_each M accounts f me (calls.Create [] mode) old new t result ready (λ ready.
    slash_agrees accounts old new f me t ready (calls.Create [] mode) result _
    (create_makes accounts f me ready.caller.process [] mode).needs [] old refl (same_kernel old) refl _ run)
create_refines {M} accounts ok (m ∷ d) mode right me old new f t result ready run =
    from_each M accounts f me (calls.Create (m ∷ d) mode) old new t result ready (λ ready.
    entry_step accounts ok old new f me t ready m d mode (File []) (calls.Create (m ∷ d) mode) result
    (create_makes accounts f me ready.caller.process (m ∷ d) mode) make within
    (more accounts ok old new f me t ready m (last_name m d right) d mode result) refl
    (λ open_so_far. segment_made accounts ok (state old) f me t ready d open_so_far) run
    (goes_on accounts ok old new f me t ready m (last_name m d right) d mode result))
