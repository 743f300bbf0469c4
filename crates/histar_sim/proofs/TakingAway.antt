-- An entry is removed: its object is unlinked with all below it, and then the directory is written without it.
use Rattle.std.proofs.Common.{◌≡◌, ◌≢◌, ℕ, ◌&&◌, Bool, true, false, List, [], ◌∷◌, ◌++◌, Option, None, Some, Result, refl, sym, ap, ◌∙◌, subst}
use Rattle.std.proofs.Common.{inr}
use Rattle.std.specs.FinMap as map
use Rattle.std.specs.FinSet as set
use Rattle.std.specs.Prelude.{not, option_map}
use Rattle.std.proofs.lemmas.Bool.{ne_eqb}
use mathlib.Core.Bool.{true≢false}
use Rattle.histar_base.specs.Refusals.{◌orelse◌, unless}
use Rattle.histar_flat.specs.declared.calls.UnixCall.{UnixCall}
use Rattle.histar_flat.specs.declared.replies.Errno.TheVariants.{EACCES}
use Rattle.histar_flat.specs.declared.replies.Reply.{Reply}
use Rattle.histar_flat.specs.declared.replies.Reply.TheVariants.{Done}
use Rattle.histar_flat.specs.Words.{Name, Path, ProcName}
use Rattle.histar_flat.specs.Accounts.{Accounts}
use Rattle.histar_flat.specs.Files.{get}
use Rattle.histar_flat.specs.Classes.{Class, Process, may_read, may_write}
use Rattle.histar_flat.specs.FlatState.{Flat, Node, Content, is_some_and, is_dir_at, writes, into, without_below}
use Rattle.histar_flat.specs.FlatState.Content.{Dir}
use Rattle.histar_flat.specs.FlatCalls as flat
use Rattle.histar_flat.specs.FlatCalls.{refused, changed}
use Rattle.histar_flat.specs.PathOrder.{parent}
use Rattle.histar_flat.specs.CallRules.{path_of}
use Rattle.histar_reasons.specs.Reasons.{not_written, why}
use Rattle.histar_reasons.specs.Reasons.Reason.{MayNotWrite}
use Rattle.histar_level.specs.Levels.{Levels}
use Rattle.histar_label.specs.Levels.{is_below, is_below_raised}
use Rattle.histar_object.specs.declared.objects.Kind.TheVariants.{Segment, Container, Thread}
use Rattle.histar_object.specs.Objects.{Numbers as Links, is_container, links_in, unlinking}
use Rattle.histar_object.specs.State.{State, Found, with_segment_bytes}
use Rattle.histar_container.specs.ObjectsModel.{CutsOff}
use Rattle.histar_container.specs.Tree.{Address, under, is_under, objects_at}
use Rattle.histar_container.proofs.Addresses.{above}
use Rattle.histar_container.proofs.Links.{unlinked_links}
use Rattle.histar_container.proofs.Reaching.{not_reached}
use Rattle.histar_rules.specs.declared.raw.Denied.TheVariants.{Modify, TooBig}
use Rattle.histar_rules.specs.declared.raw.RawCall.{RawCall}
use Rattle.histar_rules.specs.declared.raw.RawCall.TheVariants as raw
use Rattle.histar_rules.specs.Rules.{check}
use Rattle.histar_syscall.specs.KernelModel.{KernelModel, state}
use Rattle.histar_layout.specs.Directory.{Entries, IsListable, spelling}
use Rattle.histar_layout.proofs.MapLemmas.{listable_remove}
use Rattle.histar_programs.specs.declared.call_error.Stopped.{Stopped}
use Rattle.histar_programs.specs.Programs.{Program, Runs}
use Rattle.histar_programs.specs.Programs.Program.{Answers}
use Rattle.histar_programs.specs.Parts.{ask}
use Rattle.histar_moves.specs.Parts.{take_away}
use Rattle.histar_refinement.specs.Accounts.{AreAccounts}
use Rattle.histar_refinement.specs.Guards.{Guard, guard_label, rights_label, rights_clearance}
use Rattle.histar_refinement.specs.Labels.{class_guard, thread_rights}
use Rattle.histar_refinement.specs.Addresses.{Step, same_step, address_of, home_address}
use Rattle.histar_refinement.specs.Addresses.Step.{Listing, Named, Inside, Runner}
use Rattle.histar_refinement.specs.Directories.{directory_of}
use Rattle.histar_refinement.proofs.Expected.{expected}
use Rattle.histar_refinement.specs.Represents.{ObjectsMatch}
use Rattle.histar_refinement.specs.KeptNames.{RepresentsStill}
use Rattle.histar_refinement.specs.Laws.{RunsAs}
use Rattle.histar_refinement.proofs.Steps.{step_tests_equality}
use Rattle.histar_refinement.proofs.Moving.{one_address}
use Rattle.histar_refinement.proofs.ClassTests.{observes_class, modifies_class}
use Rattle.histar_refinement.proofs.DirectoryLaws.{spelling_fits}
use Rattle.histar_refinement.proofs.RawChecks.{object, write_check}
use Rattle.histar_refinement.proofs.FileChecks.{fits, unlink_said}
use Rattle.histar_refinement.proofs.Removing.{under_home, still_removed}
use Rattle.histar_refinement.proofs.Agreeing.{thread_found, guard_at, container_found, listing_found, step_linked}
use Rattle.histar_sim.proofs.Ready.{Ready}
use Rattle.histar_sim.specs.Reads.{AreAmong}
use Rattle.histar_sim.proofs.Chains.{Step as Made, all_granted, entries_of, Chain}
use Rattle.histar_sim.specs.RawCalls.{plain, removes, requests_of, unless_refused}
use Rattle.histar_sim.proofs.Requests.{AreLeft, request, left_allowed, left_by_denial, left_then, all_made, made_to_denial}
use Rattle.histar_sim.proofs.CallErrors.{IsBacked, ReadsAmong, IsDenialNamed}
use Rattle.histar_sim.proofs.Steps.{Goal, granted_step, refused_step, answered_step}
use Rattle.histar_sim.proofs.Walks.{runs, place_at, agrees, at_container, at_listing, dir, seen, among_granted_all, among_then, among_also}
use Rattle.histar_sim.proofs.Entries.{object_at, entry_of, object_led_to, object_numbered, object_found}
use Rattle.histar_sim.proofs.FirstReasons.{unwritten_at, named_by}
use Rattle.histar_sim.specs.Named.{UnlinksAt}
use Rattle.histar_refinement.proofs.Agreement.{agreement}

-- ---- the state between the two raw calls

module _ (accounts : Accounts) (s : State) (f : Flat) (l : ObjectsMatch accounts s f) (ok : AreAccounts accounts)
    (me : ProcName) (p : Process) (t : ℕ) (runs : RunsAs accounts s f l me p t)
    (d : Path) (class : Class) (at : get f.files d ≡ Some (record { class = class; content = Dir })) (D N : ℕ)
    (at_directory : l.naming.number (address_of d) ≡ Some D)
    (at_listing : l.naming.number (Listing ∷ address_of d) ≡ Some N)
    (m : Name) (O : ℕ) (at_entry : l.naming.number (address_of (m ∷ d)) ≡ Some O) (mid : State) (cuts : CutsOff s D O mid) where
  abbrev top : Address Step
  top = Named m ∷ address_of d

  abbrev label : Levels
  label = rights_label l.category (thread_rights accounts me p)

  abbrev clearance : Levels
  clearance = rights_clearance l.category (thread_rights accounts me p)

  guard : (g : Guard) × (class_guard accounts class ≡ Some g)
  guard = guard_at accounts s f l d (record { class = class; content = Dir }) at

  abbrev due : Levels
  due = guard_label l.category guard.0

  thread : s.objects t
      ≡ object (rights_label l.category (thread_rights accounts me p))
      (Thread (rights_clearance l.category (thread_rights accounts me p)))
  thread = thread_found accounts s f l me p runs.0 runs.1 t runs.2

  abbrev links : Links
  links = (container_found accounts s f l d class at guard.0 guard.1 D at_directory).0

  holder : s.objects D ≡ object due (Container links)
  holder = (container_found accounts s f l d class at guard.0 guard.1 D at_directory).1

  segment : s.objects N ≡ object due (Segment (spelling (directory_of f.files l.naming.number d)))
  segment = listing_found accounts s f l d class at guard.0 guard.1 N at_listing

  -- an object elsewhere is as it was, but for the directory's container
  stays : (b : Address Step) (q : ℕ) → l.naming.number b ≡ Some q → under same_step top b ≡ false → q ≢ D → mid.objects q ≡ s.objects q
  stays b q at_q outside other =
      cuts.is_cut.stays q
      (not_reached same_step step_tests_equality s.objects s.next_object (objects_at s.objects l.naming) l.naming
      (agreement l).tree O top ((agreement l).tree.addressed top O at_entry) q
      (ap (is_under same_step top) ((agreement l).tree.addressed b q at_q) ∙ outside)) other

  other_thread : t ≢ D
  other_thread e = true≢false (sym (ap is_container (ap s.objects e ∙ holder)) ∙ ap is_container thread)

  other_listing : N ≢ D
  other_listing e = true≢false (sym (ap is_container (ap s.objects e ∙ holder)) ∙ ap is_container segment)

  -- the thread, the directory segment and the directory's container then
  thread_then : mid.objects t ≡ object label (Thread clearance)
  thread_then = stays (Runner ∷ Inside ∷ home_address me) t runs.2 (under_home (m ∷ d) me) other_thread ∙ thread

  listing_then : mid.objects N ≡ object due (Segment (spelling (directory_of f.files l.naming.number d)))
  listing_then = stays (Listing ∷ address_of d) N at_listing (above same_step step_tests_equality (address_of d) (Named m)) other_listing ∙ segment

  holder_then : mid.objects D ≡ object due (Container (set.remove links O))
  holder_then = cuts.is_cut.unlinked ∙ ap (option_map (unlinking O)) holder

  -- the directory segment is another object than the one that was unlinked
  other_object : N ≢ O
  other_object e =
      let same = one_address same_step step_tests_equality s l.naming (expected accounts l.category f l.naming.number)
      (agreement l) (Listing ∷ address_of d) top N at_listing (at_entry ∙ ap Some (sym e)) in absurd cc

  -- the directory segment is still linked
  linked_then : set.contains (set.remove links O) N ≡ true
  linked_then =
      unlinked_links (Some (record { label = due; kind = Container links })) O N
      ∙ (λ i. not (ne_eqb N O other_object i) && sym (ap (λ (o : Found). set.contains (links_in o) N) holder) i)
      ∙ step_linked accounts s f l Listing (address_of d) D N at_directory at_listing

  -- where the directory may be read and written, its segment is written with any directory that can be listed
  pub written_then : may_read accounts p class ≡ true → may_write accounts p class ≡ true → (entries : Entries)
      → IsListable entries → check mid t (raw.Write D N 0 (spelling entries)) ≡ None
  written_then sees may entries listable =
      let old = spelling (directory_of f.files l.naming.number d) in
      let observed : is_below_raised due label ≡ true = observes_class accounts me p l.category l.different ok class guard.0 guard.1 ∙ sees in
      let changes : (is_below label due && is_below_raised due label) ≡ true =
      modifies_class accounts me p l.category l.different ok class guard.0 guard.1 ∙ may in
      write_check mid t label clearance thread_then D due (set.remove links O) holder_then observed N linked_then due
      old listing_then 0 (spelling entries)
      ∙ (λ i. unless (changes i) Modify orelse unless (fits old (spelling entries) (spelling_fits entries listable) i) TooBig)

-- ---- the two raw calls

module _ {M : Type 0} (accounts : Accounts) (ok : AreAccounts accounts) (old new : KernelModel) (f : Flat) (me : ProcName) (t : ℕ)
    (ready : Ready M accounts (state old) f me t) (m : Name) (d : Path) (call : UnixCall)
    (result : Result Reply Stopped) where
  abbrev p : Process
  p = ready.caller.process

  -- the container of its directory, its directory segment, and what the entry leads to
  abbrev container : ℕ
  container = (place_at accounts ok (state old) f me t ready d).container

  abbrev listing : ℕ
  listing = (place_at accounts ok (state old) f me t ready d).listing

  abbrev o : ℕ
  o = object_at accounts ok (state old) f me t ready m d

  abbrev entries : Entries
  entries = directory_of f.files ready.represents.matched.naming.number d

  -- The flat rule removes the entry where the directory that it lies in may be written.
  pub record TakesAway : Type 0 where
    pub refuses : refused accounts f me p call ≡ unless (writes accounts f p d) EACCES
    pub path : path_of call ≡ m ∷ d
    pub explains : why accounts f me p call ≡ not_written accounts f p d
    pub removes : changed accounts f me p call ≡ without_below f (m ∷ d)
    pub answers : flat.answer f me p call ≡ Done

  module _ (rule : TakesAway) (open_so_far : into accounts f p d ≡ None) (class : Class) (content : Content)
      (at : get f.files (m ∷ d) ≡ Some (record { class = class; content = content }))
      (calls : List RawCall) (has_reads : (steps : List Made) (r : Reply) → AreAmong calls (entries_of old.line t steps)
      → ReadsAmong accounts f me call old new t ready steps r)
      (left : AreLeft (requests_of accounts ready.represents.matched me ready.caller.process call) calls
      (unless_refused (refused accounts f me ready.caller.process call) (plain (removes accounts ready.represents.matched d m))))
      (mid : KernelModel) (same : state mid ≡ state old) (chain : Chain old t (all_granted calls) mid) where
    abbrev Refined : Type 0
    Refined = Goal accounts f me call old new t ready result

    is_dir_here : is_dir_at f d ≡ true
    is_dir_here = dir accounts ok (state old) f me t ready d open_so_far

    abbrev root : Class
    root = (agrees accounts ok (state old) f me t ready d (dir accounts ok (state old) f me t ready d open_so_far)).0

    root_at : get f.files d ≡ Some (record { class = root; content = Dir })
    root_at = (agrees accounts ok (state old) f me t ready d (dir accounts ok (state old) f me t ready d open_so_far)).1

    at_D : ready.represents.matched.naming.number (address_of d) ≡ Some container
    at_D = at_container accounts ok (state old) f me t ready d is_dir_here

    at_N : ready.represents.matched.naming.number (Listing ∷ address_of d) ≡ Some listing
    at_N = at_listing accounts ok (state old) f me t ready d is_dir_here

    at_O : ready.represents.matched.naming.number (address_of (m ∷ d)) ≡ Some o
    at_O = object_numbered accounts ok (state old) f me t ready m d class content at

    sees : may_read accounts p root ≡ true
    sees = seen accounts ok (state old) f me t ready d open_so_far

    refused_so : (may : Bool) → may_write accounts p root ≡ may → refused accounts f me p call ≡ unless may EACCES
    refused_so may is =
        rule.refuses
        ∙ ap (λ (b : Bool). unless b EACCES)
        (ap (λ (x : Option Node). is_some_and x (λ n. may_write accounts p n.class)) root_at ∙ is)

    abbrev unlinks : RawCall
    unlinks = raw.Unlink container o

    -- the raw call is on what the reason names that the directory may not be written
    unlinks_named : may_write accounts p root ≡ false → IsDenialNamed accounts f me call old new t ready unlinks
    unlinks_named fails =
        let cause = unwritten_at accounts f p d (record { class = root; content = Dir }) root_at fails in
        let at_path : UnlinksAt accounts (state old) (m ∷ d) unlinks =
        (container, o, object_found accounts ok (state old) f me t ready m d class is_dir_here content at, refl) in
        named_by accounts (state old) f me p call unlinks (MayNotWrite d cause.0) (rule.explains ∙ cause.1)
        (inr (inr (inr (ap parent rule.path, subst (λ (q : Path). UnlinksAt accounts (state old) q unlinks) (sym rule.path) at_path))))

    abbrev writing : RawCall
    writing = raw.Write container listing 0 (spelling (map.remove entries m))

    abbrev call_error : Program
    call_error = ask writing (λ _. Answers Done)

    -- the kernel's check is the flat rule
    said : (may : Bool) → may_write accounts p root ≡ may → check (state mid) t unlinks ≡ unless may Modify
    said may is =
        ap (λ (s : State). check s t unlinks) same
        ∙ unlink_said accounts (state old) f ready.represents.matched ok me p t
        (runs accounts ok (state old) f me t ready) d root root_at container listing at_D at_N sees m o at_O
        ∙ ap (λ (b : Bool). unless b Modify) is

    among : (more : List RawCall) → AreAmong calls (entries_of old.line t (all_granted (calls ++ more)))
    among more = among_then old.line t calls calls more (among_granted_all old.line t calls)

    module _ (may : may_write accounts p root ≡ true) (cut : KernelModel)
        (cuts : CutsOff (state old) container o (state cut))
        (so_far : Chain old t (all_granted (calls ++ unlinks ∷ [])) cut) where
      write_said : check (state cut) t writing ≡ None
      write_said =
          written_then accounts (state old) f ready.represents.matched ok me p t
          (runs accounts ok (state old) f me t ready) d root root_at container listing at_D at_N m o at_O
          (state cut) cuts sees may
          (map.remove entries m) (listable_remove entries m (ready.represents.matched.listable d is_dir_here))

      matched_after : RepresentsStill ready.represents (with_segment_bytes (state cut) listing (spelling (map.remove entries m)))
          (without_below f (m ∷ d))
      matched_after =
          still_removed accounts (state old) f ready.represents.matched m d container listing o at_D at_N at_O
          (state cut) cuts ready.represents.jobs_given is_dir_here

      -- the directory is written, and the call is answered
      written : Runs M call_error cut new t result → Refined
      written on =
          granted_step accounts f me call old new t ready result (calls ++ unlinks ∷ []) cut so_far
          writing (λ _. Answers Done) write_said on
          (λ end done wrote right whole last.
          let all = (calls ++ unlinks ∷ []) ++ writing ∷ [] in
          let left_all = left_allowed _ calls _ (plain (removes accounts ready.represents.matched d m)) (refused_so true may) left in
          let left_none = left_then _ (calls ++ unlinks ∷ []) writing [] (left_then _ calls unlinks (request writing ∷ []) left_all) in
          let among_all = among_then old.line t calls (calls ++ unlinks ∷ []) (writing ∷ []) (among (unlinks ∷ [])) in
          answered_step accounts f me call old new t ready result all end whole Done (sym rule.answers) (refused_so true may)
          (subst (IsBacked (state old) (entries_of old.line t (all_granted all))) (sym rule.answers) tt)
          (has_reads (all_granted all) (flat.answer f me p call) among_all, all_made _ old.line t all left_none)
          (subst (RepresentsStill ready.represents (state end)) (sym rule.removes)
          (subst (λ (s : State). RepresentsStill ready.represents s (without_below f (m ∷ d))) (sym wrote.state)
          matched_after)) last)

    by_right : (may : Bool) → may_write accounts p root ≡ may → Runs M (ask unlinks (λ _. call_error)) mid new t result → Refined
    by_right false is on =
        refused_step accounts f me call old new t ready result calls mid chain same
        EACCES (refused_so false is) unlinks (λ _. call_error) Modify (said false is) refl refl (unlinks_named is) (
          has_reads _ _ (among_also old.line t calls calls ((unlinks, Some Modify) ∷ []) (among_granted_all old.line t calls)),
          made_to_denial _ old.line t calls (request unlinks) (request writing ∷ []) Modify (left_by_denial _ calls _ EACCES
              (plain (removes accounts ready.represents.matched d m)) (refused_so false is) refl left),
        ) on
    by_right true is on =
        granted_step accounts f me call old new t ready result calls mid chain unlinks (λ _. call_error) (said true is) on
        (λ cut done called right longer rest. written is cut (subst (λ (s : State). CutsOff s container o (state cut)) same called.state) longer rest)

    -- the entry is removed, or the call is refused
    pub take_away_step :
        Runs M (take_away (entry_of accounts ok (state old) f me t ready m d content) (λ _. Answers Done)) mid new t result
        → Refined
    unfolding take_away
    take_away_step run =
        by_right (may_write accounts p root) refl (subst (λ (q : ℕ). Runs M (ask (raw.Unlink container q) (λ _. call_error)) mid new t result)
        (object_led_to accounts ok (state old) f me t ready m d content) run)
