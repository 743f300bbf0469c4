-- A call that makes an entry, as `create` and `mkdir` do: there is room for it, the thread makes the object with the label of what it makes
-- in the mode, and the directory is written with the entry; or the call is refused as the flat rules refuse it.
use Rattle.std.proofs.Common.{◌≡◌, ℕ, ◌<◌, Bool, true, false, List, [], ◌∷◌, ◌++◌, Option, None, Some, Result, arith, refl, sym, ap, ◌∙◌, subst}
use Rattle.std.proofs.Common.{length}
use Rattle.std.specs.Prelude.{IsTrue, is_some, nat_lt}
use Rattle.std.specs.FinMap as map
use Rattle.std.proofs.lemmas.Bool.{ltb-true}
use Rattle.std.proofs.lemmas.Option.{same_Some}
use Rattle.histar_base.specs.Refusals.{◌orelse◌, unless}
use Rattle.histar_flat.specs.declared.calls.Mode.{Mode}
use Rattle.histar_flat.specs.declared.calls.UnixCall.{UnixCall}
use Rattle.histar_flat.specs.declared.replies.Errno.{Errno}
use Rattle.histar_flat.specs.declared.replies.Errno.TheVariants.{EACCES, EPERM}
use Rattle.histar_flat.specs.declared.replies.Reply.{Reply}
use Rattle.histar_flat.specs.declared.replies.Reply.TheVariants.{Done}
use Rattle.histar_flat.specs.Words.{Name, Path, ProcName, is_name}
use Rattle.histar_flat.specs.Accounts.{Accounts}
use Rattle.histar_flat.specs.Files.{get}
use Rattle.histar_flat.specs.Classes.{Class, Process, class_made, may_write}
use Rattle.histar_flat.specs.FlatState.{Flat, Content, entries_in, with_node, into}
use Rattle.histar_flat.specs.FlatCalls as flat
use Rattle.histar_flat.specs.FlatCalls.{refused, changed, most_entries, class_or_open}
use Rattle.histar_reasons.specs.Reasons.{unmade}
use Rattle.histar_level.specs.Levels.{Levels}
use Rattle.histar_object.specs.Objects.{label_there}
use Rattle.histar_object.specs.State.{State, with_segment_bytes}
use Rattle.histar_rules.specs.declared.raw.Denied.{Denied}
use Rattle.histar_rules.specs.declared.raw.Denied.TheVariants.{Modify, Range, TooBig}
use Rattle.histar_rules.specs.declared.raw.RawCall.{RawCall}
use Rattle.histar_rules.specs.declared.raw.RawCall.TheVariants as raw
use Rattle.histar_rules.specs.Rules.{check, has_number}
use Rattle.histar_syscall.specs.KernelModel.{KernelModel, state, Called}
use Rattle.histar_syscall.proofs.Runs.{same_kernel}
use Rattle.histar_layout.specs.Directory.{IsTarget, spelling, Entries}
use Rattle.histar_layout.specs.declared.entry.Target.{Target}
use Rattle.histar_layout.proofs.MapLemmas.{listable_insert}
use Rattle.histar_programs.specs.declared.call_error.Stopped.{Stopped}
use Rattle.histar_programs.specs.Refusals.{errno_of}
use Rattle.histar_layout.specs.Categories.{label_made}
use Rattle.histar_programs.specs.Programs.{AnswerOf, IsAnswer, Program, Runs}
use Rattle.histar_programs.specs.Programs.Program.{Answers}
use Rattle.histar_programs.specs.Parts.{ask, write_entries, find_room}
use Rattle.histar_programs.specs.declared.find.Room.{Room}
use Rattle.histar_programs.specs.declared.roots.Place.{Place}
use Rattle.histar_programs.specs.Start.{roots_of}
use Rattle.histar_refinement.specs.Accounts.{AreAccounts}
use Rattle.histar_refinement.specs.Guards.{guard_label}
use Rattle.histar_refinement.specs.Represents.{ObjectsMatch}
use Rattle.histar_refinement.specs.KeptNames.{KeepsNames, RepresentsStill}
use Rattle.histar_refinement.proofs.ClassTests.{observes_class, modifies_class}
use Rattle.histar_refinement.proofs.DirectoryLaws.{spelling_fits}
use Rattle.histar_refinement.proofs.Making.{count_entries, jobs_made}
use Rattle.histar_refinement.proofs.RawChecks.{caller_passes}
use Rattle.histar_sim.specs.Simulation.{errno_by_rule}
use Rattle.histar_sim.proofs.Ready.{Ready}
use Rattle.histar_sim.specs.Reads.{AreAmong}
use Rattle.histar_sim.proofs.FirstReasons.{about_unmade}
use Rattle.histar_sim.proofs.Chains.{all_granted, entries_of, Chain, Step}
use Rattle.histar_sim.specs.RawCalls.{Request, plain, requests_of, unless_refused}
use Rattle.histar_sim.proofs.Requests.{AreLeft, request, left_allowed, left_by_denial, left_then, of_denial, all_made, made_to_denial}
use Rattle.histar_sim.proofs.CallErrors.{IsBacked, IsDenialNamed, ReadsAmong}
use Rattle.histar_sim.proofs.Steps.{Goal, granted_step, refused_step, exhausted_step, answered_step}
use Rattle.histar_sim.proofs.Walks.{place_at, walk_reads, holds, among_granted_all, among_then, among_also}
use Rattle.histar_sim.proofs.FoundObjects.{label, clearance, thread, entries, is_dir, directory_class, may_look, directory_guard, HasListing}
use Rattle.histar_sim.proofs.FoundObjects.{MakesObject}
use Rattle.histar_sim.proofs.FoundRoom.{NeedsRoom, the_room, has_reads, refused_in_room, unwritten_named, unmade_named, room_step}
use Rattle.histar_sim.proofs.Makers.{own, MakesClass, makes}
use Rattle.histar_sim.proofs.NewEntries.{segment_written}

-- What the flat rules say of a call that makes an entry with this content: that it needs room and a class for it, what they change, and their answer.
pub record MakesEntry (accounts : Accounts) (f : Flat) (me : ProcName) (p : Process) (q : Path) (mode : Mode)
    (content : Content) (call : UnixCall) : Type 0 where
  pub needs : NeedsRoom accounts f me p q call (unless (is_some (class_made accounts p mode)) EPERM)
  pub names : needs.named ≡ unless (is_some (class_made accounts p mode)) (unmade mode)
  pub changes : changed accounts f me p call ≡ with_node f q (class_or_open (class_made accounts p mode)) content
  pub answers : flat.answer f me p call ≡ Done

module _ {M : Type 0} (accounts : Accounts) (ok : AreAccounts accounts) (s : State) (f : Flat) (me : ProcName) (t : ℕ)
    (ready : Ready M accounts s f me t) (d : Path) where
  abbrev walk : List RawCall
  walk = walk_reads accounts ok s f me t ready d

  -- the raw calls up to the make call
  abbrev pub asked : List RawCall
  asked = walk_reads accounts ok s f me t ready d ++ raw.OwnLabel ∷ []

  -- the reads of the walk are among all that begins with them
  pub among_asked : (line : ℕ) (more : List RawCall) → AreAmong walk (entries_of line t (all_granted (asked ++ more)))
  among_asked line more = among_then line t walk asked more (among_then line t walk walk (raw.OwnLabel ∷ []) (among_granted_all line t walk))

module _ {M : Type 0} (accounts : Accounts) (ok : AreAccounts accounts) (old new : KernelModel) (f : Flat) (me : ProcName) (t : ℕ)
    (ready : Ready M accounts (state old) f me t) (m : Name) (d : Path) (mode : Mode) (content : Content)
    (call : UnixCall) (result : Result Reply Stopped)
    (entry : MakesEntry accounts f me ready.caller.process (m ∷ d) mode content call) where
  abbrev Refined : Type 0
  Refined = Goal accounts f me call old new t ready result

  abbrev p : Process
  p = ready.caller.process

  abbrev place : Place
  place = place_at accounts ok (state old) f me t ready d

  abbrev listed : Entries
  listed = entries accounts ok (state old) f me t ready d

  abbrev reads : List RawCall
  reads = walk_reads accounts ok (state old) f me t ready d

  abbrev calls : List RawCall
  calls = asked accounts ok (state old) f me t ready d

  abbrev room_here : Room
  room_here = the_room accounts ok (state old) f me t ready d m

  -- after the walk there must be a class for it
  abbrev no_class : Option Errno
  no_class = unless (is_some (class_made accounts p mode)) EPERM

  -- the reads of the walk are reads that the call cannot do without
  has_reads_made : (steps : List Step) (reply : Reply) → AreAmong reads (entries_of old.line t steps)
      → ReadsAmong accounts f me call old new t ready steps reply
  has_reads_made steps reply among = has_reads accounts ok old new f me t ready m d call result no_class entry.needs steps reply among

  -- the directory has room
  abbrev roomy : Bool
  roomy = nat_lt (length (entries_in f d)) most_entries

  -- once there is room the directory may be written and the process makes something of this mode, or the call is refused
  refused_then : (open_so_far : into accounts f p d ≡ None) → get f.files (m ∷ d) ≡ None → roomy ≡ true
      → (may makes : Bool)
      → may_write accounts p (directory_class accounts ok (state old) f me t ready d open_so_far) ≡ may
      → is_some (class_made accounts p mode) ≡ makes
      → refused accounts f me p call ≡ (unless may EACCES orelse unless makes EPERM)
  refused_then open_so_far absent room may makes is_may is_makes =
      refused_in_room accounts ok old new f me t ready m d call result no_class entry.needs open_so_far absent room may
      is_may ∙ ap (λ (b : Bool). unless may EACCES orelse unless b EPERM) is_makes

  -- ---- the object is made

  -- what the process makes in this mode, and its label
  abbrev Made : Type 0
  Made = MakesClass accounts ok (state old) f me t ready mode

  abbrev due : Made → Levels
  due made = guard_label ready.represents.matched.category made.guard

  -- the thread's own label
  abbrev mine : Levels
  mine = own accounts ok (state old) f me t ready mode

  -- the label that it asks for, and the requests of the call
  abbrev wanted : Levels
  wanted = label_made accounts (own accounts ok (state old) f me t ready mode) mode

  abbrev requests : List Request
  requests = requests_of accounts ready.represents.matched me p call

  -- The object is made of a label in the directory, and after it these raw calls are made.
  module _ (make : ℕ → Levels → RawCall) (within : (room : Room) (x : Levels) → AnswerOf (make room.place.container x) → Program)
      (more : Levels → List RawCall)
      (asks : AreLeft (requests_of accounts ready.represents.matched me ready.caller.process call) []
      (plain (walk_reads accounts ok (state old) f me t ready d)
      ++ unless_refused (refused accounts f me ready.caller.process call) (plain (raw.OwnLabel
      ∷ make (place_at accounts ok (state old) f me t ready d).container
      (label_made accounts (own accounts ok (state old) f me t ready mode) mode)
      ∷ more (label_made accounts (own accounts ok (state old) f me t ready mode) mode))))) where
    -- the object is made with a label
    abbrev making : Levels → Program
    making x = ask (make place.container x) (within room_here x)

    -- what is left once the thread has its own label, by the label that it asks for
    left_own : (x : Levels) → wanted ≡ x → AreLeft requests reads (plain (raw.OwnLabel ∷ make place.container wanted ∷ more wanted))
        → AreLeft requests calls (plain (make place.container x ∷ more x))
    left_own x is left =
        subst (λ (y : Levels). AreLeft requests calls (plain (make place.container y ∷ more y))) is
        (left_then requests reads raw.OwnLabel (plain (make place.container wanted ∷ more wanted)) left)

    -- what is left once the object is made with that label
    left_made : (x : Levels) → wanted ≡ x → refused accounts f me p call ≡ None
        → AreLeft requests (calls ++ make place.container x ∷ []) (plain (more x))
    left_made x is allowed =
        left_then requests calls (make place.container x) (plain (more x))
        (left_own x is (left_allowed requests reads _ (plain (raw.OwnLabel ∷ make place.container wanted ∷ more wanted)) allowed asks))

    -- the call goes on once it is made with this label
    abbrev GoesOnWith : KernelModel → Levels → Type 0
    GoesOnWith mid x =
        (linked : KernelModel) (answer : AnswerOf (make place.container x))
        → Called mid linked t (make place.container x) None → IsAnswer (state mid) t (make place.container x) answer
        → Chain old t (all_granted (calls ++ make place.container x ∷ [])) linked
        → AreLeft requests (calls ++ make place.container x ∷ []) (plain (more x))
        → Runs M (within room_here x answer) linked new t result → Refined

    -- The call goes on once the object is made: the way is open, the name is free, there is room, and the process may write the directory.
    abbrev pub GoesOn : Type 0
    GoesOn =
        (open_so_far : into accounts f p d ≡ None) → get f.files (m ∷ d) ≡ None → roomy ≡ true → (made : Made)
        → may_write accounts p (directory_class accounts ok (state old) f me t ready d open_so_far) ≡ true
        → has_number (state old) ≡ true
        → (mid : KernelModel) → state mid ≡ state old → GoesOnWith mid (due made)

    module _ (open_so_far : into accounts f p d ≡ None) (absent : get f.files (m ∷ d) ≡ None) (room : roomy ≡ true)
        (object : MakesObject accounts ok (state old) f me t ready d open_so_far (make place.container))
        (mid : KernelModel) (stays : state mid ≡ state old) (chain : Chain old t (all_granted calls) mid) where
      -- the directory may be written
      abbrev may : Bool
      may = may_write accounts p (directory_class accounts ok (state old) f me t ready d open_so_far)

      -- the make call is denied, and so the Unix call is refused
      denied : (x : Levels) → wanted ≡ x → (why : Denied) (errno : Errno) → check (state mid) t (make place.container x) ≡ Some why
          → errno_of why ≡ Some errno → errno_by_rule why ≡ Some errno
          → IsDenialNamed accounts f me call old new t ready (make place.container x) → refused accounts f me p call ≡ Some errno
          → Runs M (making x) mid new t result → Refined
      denied x is_wanted why errno fails revealed by_rule named is on =
          refused_step accounts f me call old new t ready result calls mid chain stays
          errno is (make place.container x) (within room_here x) why fails
          (object.reveals x why ∙ revealed) by_rule named (
            has_reads_made _ _ (among_also old.line t reads calls ((make place.container x, Some why) ∷ [])
                (among_then old.line t reads reads (raw.OwnLabel ∷ []) (among_granted_all old.line t reads))),
            made_to_denial requests old.line t calls (request (make place.container x)) (plain (more x)) why
                (left_own x is_wanted (left_by_denial requests reads _ errno _ is (of_denial why errno by_rule) asks)),
          ) on

      -- if the label is in range exactly where the flat rules let the process make something, the make call is granted or denied as they do
      by_right : (x : Levels) → wanted ≡ x → (can makes has : Bool) → may ≡ can → is_some (class_made accounts p mode) ≡ makes
          → has_number (state old) ≡ has
          → check (state mid) t (make place.container x)
          ≡ (unless can Modify orelse unless makes Range orelse unless has TooBig)
          → (may ≡ true → makes ≡ true → has_number (state old) ≡ true → GoesOnWith mid x)
          → Runs M (making x) mid new t result → Refined
      by_right x is_wanted false makes has is_may is_makes is_has said go_on on =
          denied x is_wanted Modify EACCES said refl refl
          (unwritten_named accounts ok old new f me t ready m d call result no_class entry.needs open_so_far absent room
          (make place.container x) (object.makes x) is_may)
          (refused_then open_so_far absent room false makes is_may is_makes) on
      by_right x is_wanted true false has is_may is_makes is_has said go_on on =
          denied x is_wanted Range EPERM said refl refl
          (unmade_named accounts ok old new f me t ready m d call result no_class entry.needs open_so_far absent room
          (make place.container x) (object.makes x) is_may (unmade mode)
          (entry.names ∙ ap (λ (b : Bool). unless b (unmade mode)) is_makes)
          (about_unmade accounts (state old) call (make place.container x) mode))
          (refused_then open_so_far absent room true false is_may is_makes) on
      by_right x is_wanted true true false is_may is_makes is_has said go_on on =
          exhausted_step accounts f me call old new t ready result calls mid chain
          (make place.container x) (within room_here x) said (object.reveals x TooBig)
          (ap has_number stays ∙ is_has) on
      by_right x is_wanted true true true is_may is_makes is_has said go_on on =
          granted_step accounts f me call old new t ready result calls mid chain
          (make place.container x) (within room_here x) said on
          (λ linked answer called right longer rest. go_on is_may refl is_has linked answer called right longer
          (left_made x is_wanted (refused_then open_so_far absent room true true is_may is_makes)) rest)

      -- the thread makes the object with this label
      made_step : GoesOn → Runs M (making (label_made accounts mine mode)) mid new t result → Refined
      made_step go_on on =
          makes accounts ok (state old) f me t ready mode
          (λ nothing.
          by_right _ nothing.label_is may false (has_number (state old)) refl nothing.nothing refl
          (ap (λ (s : State).
          check s t (make place.container (guard_label ready.represents.matched.category nothing.guard)))
          stays ∙ object.outside nothing.guard nothing.outside) (λ is_may is_false is_has. absurd cc)
          (subst (λ (x : Levels). Runs M (making x) mid new t result) nothing.label_is on))
          (λ made.
          by_right _ made.label_is may true (has_number (state old)) refl (ap is_some made.class_is) refl
          (ap (λ (s : State). check s t (make place.container (due made))) stays
          ∙ object.within made.class made.known made.guard made.guarded
          ∙ (λ k. unless may Modify orelse unless (made.within k) Range
          orelse unless (has_number (state old)) TooBig))
          (λ is_may is_true is_has. go_on open_so_far absent room made is_may is_has mid stays)
          (subst (λ (x : Levels). Runs M (making x) mid new t result) made.label_is on))

    -- There is room, the thread asks for its own label and makes the object, or the call is refused.
    pub entry_step : ((open_so_far : into accounts f p d ≡ None)
        → MakesObject accounts ok (state old) f me t ready d open_so_far (make place.container))
        → Runs M (find_room (roots_of (length accounts.users)) (m ∷ d) (λ room.
        ask raw.OwnLabel (λ labels. ask (make room.place.container (label_made accounts labels.0 mode))
        (within room (label_made accounts labels.0 mode))))) old new t result
        → GoesOn → Refined
    entry_step object run go_on =
        let there = thread accounts ok (state old) f me t ready in
        room_step accounts ok old new f me t ready m d call result no_class entry.needs [] old refl (same_kernel old) _ asks
        (λ room. ask raw.OwnLabel (λ labels. ask (make room.place.container (label_made accounts labels.0 mode))
        (within room (label_made accounts labels.0 mode)))) run
        (λ open_so_far absent room mid stays chain on.
        granted_step accounts f me call old new t ready result reads mid chain raw.OwnLabel
        (λ labels. making (label_made accounts labels.0 mode))
        (ap (λ (s : State). check s t raw.OwnLabel) stays
        ∙ caller_passes (state old) t (label accounts ok (state old) f me t ready)
        (clearance accounts ok (state old) f me t ready) there) on
        (λ later labels called right longer rest.
        let is_own : labels.0 ≡ mine =
        same_Some labels.0 mine
        (right.0 ∙ ap (λ (s : State). label_there (s.objects t)) stays ∙ ap label_there there) in
        made_step open_so_far absent room (object open_so_far) later (called.state ∙ stays) longer go_on
        (subst (λ (x : Levels). Runs M (making (label_made accounts x mode)) later new t result) is_own rest)))

  -- ---- the directory is written

  module _ (named : IsTrue (is_name m)) (open_so_far : into accounts f p d ≡ None) (absent : get f.files (m ∷ d) ≡ None)
      (room : roomy ≡ true) (made : Made)
      (is_may : may_write accounts p (directory_class accounts ok (state old) f me t ready d open_so_far) ≡ true)
      (target : Target) (is_target : IsTarget target) (later : State)
      (there : HasListing accounts ok (state old) f me t ready d open_so_far later) where
    -- what the directory segment holds then, and the state
    abbrev bytes : List ℕ
    bytes = spelling (map.insert listed m target)

    abbrev after : State
    after = with_segment_bytes later place.listing bytes

    write_said : check later t (raw.Write place.container place.listing 0 bytes) ≡ None
    write_said =
        let l = ready.represents.matched in
        let above = directory_class accounts ok (state old) f me t ready d open_so_far in
        let guard = directory_guard accounts ok (state old) f me t ready d open_so_far in
        let count = count_entries accounts (state old) f l d in
        let few : length (entries_in f d) < most_entries = ltb-true (length (entries_in f d)) most_entries room in
        let room_left : map.len listed < 64 = omega (arith, count, few) in
        let listable = (holds accounts ok (state old) f me t ready d (is_dir accounts ok (state old) f me t ready d open_so_far)).listable in
        segment_written later t place.container place.listing (label accounts ok (state old) f me t ready)
        (clearance accounts ok (state old) f me t ready) (guard_label l.category guard.0) (spelling listed) there
        (observes_class accounts me p l.category l.different ok above guard.0 guard.1
        ∙ may_look accounts ok (state old) f me t ready d open_so_far)
        (modifies_class accounts me p l.category l.different ok above guard.0 guard.1 ∙ is_may)
        bytes (spelling_fits (map.insert listed m target) (listable_insert listed m target listable room_left (named, is_target)))

    changed_is : changed accounts f me p call ≡ with_node f (m ∷ d) made.class content
    changed_is = entry.changes ∙ ap (λ (o : Option Class). with_node f (m ∷ d) (class_or_open o) content) made.class_is

    -- The directory is written with the entry, and the call is done, if the objects then match the flat state with the new entry.
    pub entry_written : (before : List RawCall) → AreAmong reads (entries_of old.line t (all_granted before))
        → AreLeft requests before (request (raw.Write place.container place.listing 0 bytes) ∷ [])
        → (linked : KernelModel) → state linked ≡ later → Chain old t (all_granted before) linked
        → (matched : ObjectsMatch accounts after (with_node f (m ∷ d) made.class content))
        → KeepsNames ready.represents.matched matched
        → Runs M (write_entries room_here.place (map.insert room_here.entries m target) (λ _. Answers Done)) linked new t result → Refined
    entry_written before among left linked is_later chain matched names on =
        let write : RawCall = raw.Write place.container place.listing 0 bytes in
        let jobs =
        jobs_made accounts (state old) f ready.represents.matched d m made.class content absent made.fits made.known
        ready.represents.jobs_given in
        let still : RepresentsStill ready.represents after (with_node f (m ∷ d) made.class content) =
        record { represents = record { matched = matched; jobs_given = jobs }; names = names } in
        granted_step accounts f me call old new t ready result before linked chain write
        (λ _. Answers Done) (ap (λ (s : State). check s t write) is_later ∙ write_said) on
        (λ end done wrote right whole last.
        let end_state : state end ≡ after = wrote.state ∙ ap (λ (s : State). with_segment_bytes s place.listing bytes) is_later in
        answered_step accounts f me call old new t ready result (before ++ write ∷ []) end whole
        Done (sym entry.answers) (refused_then open_so_far absent room true true is_may (ap is_some made.class_is))
        (subst (λ (r : Reply). IsBacked (state old) (entries_of old.line t (all_granted (before ++ write ∷ []))) r)
        (sym entry.answers) tt) (
          has_reads_made _ _ (among_then old.line t reads before (write ∷ []) among),
          all_made requests old.line t (before ++ write ∷ []) (left_then requests before write [] left),
        )
        (subst (λ (s : State). RepresentsStill ready.represents s (changed accounts f me p call)) (sym end_state)
        (subst (RepresentsStill ready.represents after) (sym changed_is) still)) last)
