-- The walk into a directory, at a state that represents a flat state: it is refused as the flat rules refuse it, or each directory on
-- the way is read, and the last one is passed on.
use Rattle.std.proofs.Common.{◌≡◌, ℕ, ◌&&◌, Bool, true, false, List, [], ◌∷◌, ◌++◌, Option, None, Some, Result, inl, inr, refl, sym, ap, ◌∙◌, subst}
use Rattle.std.proofs.Common.{append_assoc, length, if◌then◌else◌}
use Rattle.std.proofs.lemmas.List.{map-append, append-nil}
use Rattle.std.specs.Prelude.{not, map, is_some, option_map, option_and_then}
use Rattle.std.specs.List.{AllByRecursion}
use Rattle.std.specs.FinMap as finite
use Rattle.histar_base.specs.Refusals.{◌orelse◌, unless}
use Rattle.histar_flat.specs.declared.calls.UnixCall.{UnixCall}
use Rattle.histar_flat.specs.declared.replies.Errno.{Errno}
use Rattle.histar_flat.specs.declared.replies.Errno.TheVariants.{EACCES, ENOENT, ENOTDIR}
use Rattle.histar_flat.specs.declared.replies.Reply.{Reply}
use Rattle.histar_flat.specs.declared.replies.Reply.TheVariants.{Refused}
use Rattle.histar_flat.specs.Words.{Name, Path, ProcName}
use Rattle.histar_flat.specs.Accounts.{Accounts}
use Rattle.histar_flat.specs.Files.{get}
use Rattle.histar_flat.specs.Classes.{Class, Process, may_read}
use Rattle.histar_flat.specs.FlatState.{Flat, Node, Content, is_some_and, is_dir, is_there, is_dir_at, reads, into}
use Rattle.histar_flat.specs.FlatState.Content.{Dir, File}
use Rattle.histar_flat.specs.FlatCalls.{refused}
use Rattle.histar_flat.proofs.Refusals.{passed, three_pass}
use Rattle.histar_reasons.specs.Causes.{Cause}
use Rattle.histar_reasons.specs.Reasons.{Reason, not_read, why_into, why}
use Rattle.histar_reasons.specs.Reasons.Reason.{MayNotRead, IsMissing, HasFile}
use Rattle.histar_reasons.proofs.Agreeing.{into_agrees, directory_there as something_there}
use Rattle.histar_object.specs.Objects.{bytes_in}
use Rattle.histar_object.specs.State.{State}
use Rattle.histar_rules.specs.declared.raw.Denied.{Denied}
use Rattle.histar_rules.specs.declared.raw.Denied.TheVariants.{Observe}
use Rattle.histar_rules.specs.declared.raw.RawCall.{RawCall}
use Rattle.histar_rules.specs.declared.raw.RawCall.TheVariants as raw
use Rattle.histar_rules.specs.Rules.{check}
use Rattle.histar_syscall.specs.KernelModel.{KernelModel, state}
use Rattle.histar_trace.specs.declared.entries.TraceEntry.{TraceEntry}
use Rattle.histar_syscall.proofs.Runs.{same_kernel, entry_of}
use Rattle.histar_layout.specs.Directory.{Entries, IsDirectory}
use Rattle.histar_layout.specs.Found.{found_in}
use Rattle.histar_layout.specs.declared.entry.Target.{Target}
use Rattle.histar_layout.specs.declared.entry.Target.TheVariants as targets
use Rattle.histar_layout.proofs.LookingUp.{found_in_directory}
use Rattle.histar_programs.specs.declared.call_error.Stopped.{Stopped}
use Rattle.histar_programs.specs.declared.directory.Directory.{Directory}
use Rattle.histar_programs.specs.declared.roots.Place.{Place}
use Rattle.histar_programs.specs.Programs.{Program, Runs}
use Rattle.histar_programs.specs.Parts.{ask, given, list, read_directory, look_in, find_place, walk_to, directory_at}
use Rattle.histar_programs.specs.Start.{roots_of}
use Rattle.histar_refinement.specs.Accounts.{AreAccounts}
use Rattle.histar_refinement.specs.Addresses.{AddressNumbers, address_of, slash_number, slash_listing_number}
use Rattle.histar_refinement.specs.Addresses.Step.{Slash, Listing}
use Rattle.histar_refinement.specs.Directories.{both_numbers, directory_of, target_for}
use Rattle.histar_refinement.specs.Laws.{RunsAs}
use Rattle.histar_refinement.specs.Lines.{IsDirectoryAt}
use Rattle.histar_refinement.specs.Processes.{or_zero}
use Rattle.histar_refinement.proofs.ListedFiles.{numbered_path, numbered_listing}
use Rattle.histar_refinement.proofs.FileChecks.{read_listing_said}
use Rattle.histar_refinement.proofs.DirectoryLaws.{get_directory}
use Rattle.histar_refinement.proofs.LinesMatched.{holds_directory, directory_found}
use Rattle.histar_refinement.proofs.Agreeing.{root_is_dir}
use Rattle.histar_refinement.proofs.StatusFound.{thread_back}
use Rattle.histar_refinement.proofs.CallerFound.{is_or_zero}
use Rattle.histar_sim.proofs.Ready.{Ready}
use Rattle.histar_sim.specs.Reads.{AreAmong, tested}
use Rattle.histar_sim.specs.Named.{IsFileAt}
use Rattle.histar_sim.proofs.ReadsByCall.{AreReadsOf, HasWay, HasWalk}
use Rattle.histar_sim.proofs.Chains.{Step, all_granted, entries_of, Chain}
use Rattle.histar_sim.proofs.FirstReasons.{no_reason, unread_at, read_at, named_by}
use Rattle.histar_sim.specs.RawCalls.{is_of_denial}
use Rattle.histar_sim.proofs.Requests.{EndWith}
use Rattle.histar_sim.proofs.CallErrors.{IsDenialNamed, AreItsCalls}
use Rattle.histar_sim.proofs.Steps.{Goal, granted_step, refused_step, listed_step, refused_at_once}

-- a directory is there
dir_there : (o : Option Node) → is_some_and o is_dir ≡ true → (class : Class) × (o ≡ Some (record { class = class; content = Dir }))
dir_there None is = cc
dir_there (Some node) is = by node.content is node refl
  where
    by : (c : Content) → elim c as (λ _. Bool) [ Dir ↦ true | File bytes ↦ false ] ≡ true → (n : Node) → n.content ≡ c
        → (class : Class) × (Some n ≡ Some (record { class = class; content = Dir }))
    by Dir is n e = (n.class, ap (λ (c : Content). Some (record { class = n.class; content = c })) e)
    by (File bytes) is n e = cc

-- what holds of all elements of two lists holds of those of both together
pub all_joined : {A : Type 0} (P : A → Type 0) (xs ys : List A) → AllByRecursion P xs → AllByRecursion P ys → AllByRecursion P (xs ++ ys)
all_joined P [] ys all more = more
all_joined P (x ∷ xs) ys all more = (all.0, all_joined P xs ys all.1 more)

module _ (line t : ℕ) where
  -- what is among entries is among more of them
  among_more : (wanted : List RawCall) (entries more : List TraceEntry) → AreAmong wanted entries → AreAmong wanted (entries ++ more)
  among_more [] entries more among = tt
  among_more (call ∷ wanted) [] more among = absurd among
  among_more (call ∷ wanted) (e ∷ entries) more among = elim among [
    | inl here ↦ inl (here.0, among_more wanted entries more here.1)
    | inr later ↦ inr (among_more (call ∷ wanted) entries more later)
  ]

  -- granted raw calls are among their entries
  pub among_granted_all : (calls : List RawCall) → AreAmong calls (entries_of line t (all_granted calls))
  among_granted_all [] = tt
  among_granted_all (call ∷ calls) = inl (refl, among_granted_all calls)

  -- what is among the entries of granted calls is among those of more of them
  pub among_then : (wanted calls more : List RawCall) → AreAmong wanted (entries_of line t (all_granted calls))
      → AreAmong wanted (entries_of line t (all_granted (calls ++ more)))
  among_then wanted calls more among =
      subst (AreAmong wanted) (sym (ap (entries_of line t) (map-append (λ (c : RawCall). (c, None)) calls more)
      ∙ map-append (λ (s : Step). entry_of line t s.0 s.1) (all_granted calls) (all_granted more)))
      (among_more wanted (entries_of line t (all_granted calls)) (entries_of line t (all_granted more)) among)

  -- they are among the entries of these steps and any steps after them
  pub among_also : (wanted calls : List RawCall) (steps : List Step)
      → AreAmong wanted (entries_of line t (all_granted calls))
      → AreAmong wanted (entries_of line t (all_granted calls ++ steps))
  among_also wanted calls steps among =
      subst (AreAmong wanted) (sym (map-append (λ (s : Step). entry_of line t s.0 s.1) (all_granted calls) steps))
      (among_more wanted (entries_of line t (all_granted calls)) (entries_of line t steps) among)

  -- a last raw call that was refused is among them too
  pub among_refused : (calls : List RawCall) (last : RawCall) (denied : Denied)
      → AreAmong (calls ++ last ∷ []) (entries_of line t (all_granted calls ++ (last, Some denied) ∷ []))
  among_refused [] last denied = inl (refl, tt)
  among_refused (call ∷ calls) last denied = inl (refl, among_refused calls last denied)

  -- what is among entries is among them after one more
  among_after : (wanted : List RawCall) (e : TraceEntry) (entries : List TraceEntry) → AreAmong wanted entries → AreAmong wanted (e ∷ entries)
  among_after [] e entries among = tt
  among_after (call ∷ wanted) e entries among = inr among

  -- what is among entries is among them after more granted calls
  pub among_behind : (wanted before : List RawCall) (steps : List Step) → AreAmong wanted (entries_of line t steps)
      → AreAmong wanted (entries_of line t (all_granted before ++ steps))
  among_behind wanted [] steps among = among
  among_behind wanted (call ∷ before) steps among =
      among_after wanted (entry_of line t call None) (entries_of line t (all_granted before ++ steps))
      (among_behind wanted before steps among)

  -- granted calls after others are among the entries of all
  pub among_granted_behind : (before calls : List RawCall) → AreAmong calls (entries_of line t (all_granted (before ++ calls)))
  among_granted_behind before calls =
      subst (λ (steps : List Step). AreAmong calls (entries_of line t steps))
      (sym (map-append (λ (c : RawCall). (c, None)) before calls))
      (among_behind calls before (all_granted calls) (among_granted_all calls))

  -- granted calls after others, and a last one that was refused, are among the entries of all
  among_refused_behind : (before calls : List RawCall) (last : RawCall) (denied : Denied)
      → AreAmong (calls ++ last ∷ []) (entries_of line t (all_granted (before ++ calls) ++ (last, Some denied) ∷ []))
  among_refused_behind [] calls last denied = among_refused calls last denied
  among_refused_behind (call ∷ before) calls last denied =
      among_after (calls ++ last ∷ []) (entry_of line t call None)
      (entries_of line t (all_granted (before ++ calls) ++ (last, Some denied) ∷ []))
      (among_refused_behind before calls last denied)

module _ {M : Type 0} (accounts : Accounts) (ok : AreAccounts accounts) (s : State) (f : Flat) (me : ProcName) (t : ℕ)
    (ready : Ready M accounts s f me t) where
  abbrev pub numbers : AddressNumbers
  numbers = ready.represents.matched.naming.number

  abbrev p : Process
  p = ready.caller.process

  -- the thread is that of the process
  pub runs : RunsAs accounts s f ready.represents.matched me ready.caller.process t
  runs = (ready.caller.agrees, ready.caller.runs, (thread_back accounts s f ready.represents.matched me t ready.thread).3)

  -- where a directory is found
  abbrev pub place_at : Path → Place
  place_at d = record { container = or_zero (numbers (address_of d)); listing = or_zero (numbers (Listing ∷ address_of d)) }

  -- the raw call that reads its directory segment
  abbrev pub read_of : Path → RawCall
  read_of d = raw.Read (place_at d).container (place_at d).listing

  -- the raw calls of the walk into it
  abbrev pub walk_reads : Path → List RawCall
  walk_reads d = map read_of (tested accounts f p d)

  -- the directory once it was read
  abbrev pub directory_read : Path → Directory
  directory_read d = record { place = place_at d; entries = directory_of f.files numbers d }

  pub slash_is_dir : is_dir_at f [] ≡ true
  slash_is_dir = ap (λ (o : Option Node). is_some_and o is_dir) (root_is_dir accounts s f ready.represents.matched).1

  -- `/` is found where boot left it
  pub slash_place : (roots_of (length accounts.users)).slash ≡ place_at []
  slash_place =
      let container = sym (ready.represents.matched.as_booted (Slash ∷ []) (slash_number (length accounts.users)) refl) in
      let listing = sym (ready.represents.matched.as_booted (Listing ∷ Slash ∷ []) (slash_listing_number (length accounts.users)) refl) in
      λ i. record { container = or_zero (container i); listing = or_zero (listing i) }

  module _ (d : Path) (dir : is_dir_at f d ≡ true) where
    pub agrees : (class : Class) × (get f.files d ≡ Some (record { class = class; content = Dir }))
    agrees = dir_there (get f.files d) dir

    pub at_container : numbers (address_of d) ≡ Some (place_at d).container
    at_container =
        is_or_zero (numbers (address_of d))
        (numbered_path accounts s f ready.represents.matched d (record { class = agrees.0; content = Dir })
        agrees.1)

    pub at_listing : numbers (Listing ∷ address_of d) ≡ Some (place_at d).listing
    at_listing = is_or_zero (numbers (Listing ∷ address_of d)) (numbered_listing accounts s f ready.represents.matched d agrees.0 agrees.1)

    pub holds : IsDirectory (bytes_in (s.objects (place_at d).listing)) (directory_of f.files numbers d)
    holds = holds_directory accounts s f ready.represents.matched d (place_at d).listing dir at_listing

    pub found : IsDirectoryAt accounts s d (place_at d).container (place_at d).listing
    found = directory_found accounts s f ready.represents.matched d (place_at d).container (place_at d).listing dir at_container at_listing

    pub reads_is : reads accounts f p d ≡ may_read accounts p agrees.0
    reads_is = ap (λ (o : Option Node). is_some_and o (λ n. may_read accounts p n.class)) agrees.1

    -- the directory segment is read unless the process may not read it
    pub read_said : check s t (read_of d) ≡ unless (reads accounts f p d) Observe
    read_said =
        read_listing_said accounts s f ready.represents.matched ok me p t runs d agrees.0 agrees.1
        (place_at d).container (place_at d).listing at_container at_listing
        ∙ ap (λ (b : Bool). unless b Observe) (sym reads_is)

  -- a directory that may not be read has a reason that says so
  pub unread_directory : (d : Path) → is_dir_at f d ≡ true → reads accounts f p d ≡ false
      → (cause : Cause) × (not_read accounts f p d ≡ Some (MayNotRead d cause))
  unread_directory d dir unseen =
      unread_at accounts f p d (record { class = (agrees d dir).0; content = Dir }) (agrees d dir).1 (sym (reads_is d dir) ∙ unseen)

  -- a directory that may be read has none
  pub read_directory_at : (d : Path) → is_dir_at f d ≡ true → reads accounts f p d ≡ true → not_read accounts f p d ≡ None
  read_directory_at d dir seen =
      read_at accounts f p d (record { class = (agrees d dir).0; content = Dir }) (agrees d dir).1 (sym (reads_is d dir) ∙ seen)

  -- where the way into a directory has no refusal, it has no reason
  pub way_clear : (d : Path) → into accounts f p d ≡ None → why_into accounts f p d ≡ None
  way_clear d open_so_far =
      no_reason (why_into accounts f p d)
      (into_agrees accounts f p (something_there (get f.files []) slash_is_dir) d ∙ open_so_far)

  -- a directory that may not be read, at the end of a way that is open up to it, is the one that the way's reason names
  unread_below : (n : Name) (d : Path) → into accounts f p d ≡ None → is_dir_at f (n ∷ d) ≡ true → reads accounts f p (n ∷ d) ≡ false
      → (cause : Cause) × (why_into accounts f p (n ∷ d) ≡ Some (MayNotRead (n ∷ d) cause))
  unread_below n d open_so_far dir unseen =
      let found = unread_directory (n ∷ d) dir unseen in
      let clear = way_clear d open_so_far in
      let there = something_there (get f.files (n ∷ d)) dir in (
        found.0,
        λ i. clear i orelse unless (there i) (IsMissing (n ∷ d)) orelse unless (dir i) (HasFile (n ∷ d)) orelse found.1 i,
      )

  -- the walk tests whether directories may be read, and nothing else
  tested_dirs : (d : Path) → AllByRecursion (λ (q : Path). is_dir_at f q ≡ true) (tested accounts f p d)
  tested_dirs [] = (slash_is_dir, tt)
  tested_dirs (n ∷ d) =
      all_joined (λ (q : Path). is_dir_at f q ≡ true) (tested accounts f p d)
      (if not (is_some (into accounts f p d)) && is_dir_at f (n ∷ d) then (n ∷ d) ∷ [] else []) (tested_dirs d)
      (by (not (is_some (into accounts f p d))) (is_dir_at f (n ∷ d)) refl)
    where
      by : (a b : Bool) → is_dir_at f (n ∷ d) ≡ b → AllByRecursion (λ (q : Path). is_dir_at f q ≡ true) (if a && b then (n ∷ d) ∷ [] else [])
      by true true e = (e, tt)
      by true false e = tt
      by false b e = tt

  are_reads : (ds : List Path) → AllByRecursion (λ (q : Path). is_dir_at f q ≡ true) ds → AreReadsOf accounts s ds (map read_of ds)
  are_reads [] all = refl
  are_reads (d ∷ more) all = ((place_at d).container, (place_at d).listing, map read_of more, found d all.0, refl, are_reads more all.1)

  -- the raw calls of the walk into a directory read the directories that it looks at
  pub reads_way : (d : Path) → AreReadsOf accounts s (tested accounts f p d) (walk_reads d)
  reads_way d = are_reads (tested accounts f p d) (tested_dirs d)

  -- the reads of the way into a directory are the reads that a call that looks into it cannot do without
  pub has_way : (d : Path) (entries : List TraceEntry) → AreAmong (walk_reads d) entries → HasWay accounts s f p d entries
  has_way d entries among = (walk_reads d, reads_way d, among)

  -- the raw calls of a walk are the reads of a call on an entry of the directory
  pub has_walk : (m : Name) (d : Path) (entries : List TraceEntry) → AreAmong (walk_reads d) entries → HasWalk accounts s f p (m ∷ d) entries
  has_walk m d entries among = has_way d entries among

  -- the raw calls of a walk are among the entries of the walk and of raw calls after it
  pub walked_then : (m : Name) (d : Path) (line : ℕ) (more : List RawCall)
      → HasWalk accounts s f p (m ∷ d) (entries_of line t (all_granted (walk_reads d ++ more)))
  walked_then m d line more = has_walk m d _ (among_then line t (walk_reads d) (walk_reads d) more (among_granted_all line t (walk_reads d)))

  -- the same where the last raw call was refused
  pub walked_also : (m : Name) (d : Path) (line : ℕ) (steps : List Step)
      → HasWalk accounts s f p (m ∷ d) (entries_of line t (all_granted (walk_reads d) ++ steps))
  walked_also m d line steps = has_walk m d _ (among_also line t (walk_reads d) (walk_reads d) steps (among_granted_all line t (walk_reads d)))

  -- the way into a directory is open: it is one, and the process may read it
  module _ (d : Path) (open_so_far : into accounts f p d ≡ None) where
    passed_so : (d : Path) → into accounts f p d ≡ None → (is_dir_at f d ≡ true) × (reads accounts f p d ≡ true)
    passed_so [] is = (slash_is_dir, passed (reads accounts f p []) EACCES is)
    passed_so (n ∷ d) is =
        let all = three_pass (into accounts f p d) (is_there f (n ∷ d)) (is_dir_at f (n ∷ d)) (reads accounts f p (n ∷ d)) ENOENT ENOTDIR EACCES is in
        (all.2, all.3)

    pub dir : is_dir_at f d ≡ true
    dir = (passed_so d open_so_far).0

    pub seen : may_read accounts p (agrees d dir).0 ≡ true
    seen = sym (reads_is d dir) ∙ (passed_so d open_so_far).1

  module _ (m : Name) (d : Path) where
    abbrev leads : Option Node → Option Target
    leads o = option_and_then (λ (there : Node). target_for numbers (m ∷ d, there)) o

    target_is : (o : Option Node) → get f.files (m ∷ d) ≡ o → finite.get (directory_of f.files numbers d) m ≡ leads o
    target_is o is = get_directory f.files numbers d m ∙ ap leads is

    -- nothing is at the path
    pub nothing_there : get f.files (m ∷ d) ≡ None → finite.get (directory_of f.files numbers d) m ≡ None
    nothing_there is = target_is None is

    -- a file at the path has a number
    pub file_number : (class : Class) (bytes : List ℕ)
        → get f.files (m ∷ d) ≡ Some (record { class = class; content = File bytes })
        → numbers (address_of (m ∷ d)) ≡ Some (or_zero (numbers (address_of (m ∷ d))))
    file_number class bytes is =
        is_or_zero (numbers (address_of (m ∷ d))) (numbered_path accounts s f ready.represents.matched (m ∷ d)
        (record { class = class; content = File bytes }) is)

    pub file_there : (class : Class) (bytes : List ℕ) → get f.files (m ∷ d) ≡ Some (record { class = class; content = File bytes })
        → finite.get (directory_of f.files numbers d) m ≡ Some (targets.File (or_zero (numbers (address_of (m ∷ d)))))
    file_there class bytes is =
        target_is (Some (record { class = class; content = File bytes })) is
        ∙ ap (option_map targets.File) (file_number class bytes is)

    -- the segments lead to a file in a directory
    pub file_is_at : (dir : is_dir_at f d ≡ true) (class : Class) (bytes : List ℕ)
        → get f.files (m ∷ d) ≡ Some (record { class = class; content = File bytes })
        → IsFileAt accounts s (m ∷ d) (place_at d).container (or_zero (numbers (address_of (m ∷ d))))
    file_is_at dir class bytes is =
        ((place_at d).listing, directory_of f.files numbers d, found d dir, holds d dir, file_there class bytes is)

    -- a directory at the path is the target of its entry
    pub directory_there : (class : Class) → get f.files (m ∷ d) ≡ Some (record { class = class; content = Dir })
        → finite.get (directory_of f.files numbers d) m ≡ Some (targets.Directory (place_at (m ∷ d)).container (place_at (m ∷ d)).listing)
    directory_there class is =
        let dir : is_dir_at f (m ∷ d) ≡ true = ap (λ (o : Option Node). is_some_and o is_dir) is in
        target_is (Some (record { class = class; content = Dir })) is ∙ (λ i. both_numbers (at_container (m ∷ d) dir i) (at_listing (m ∷ d) dir i))

module _ {M : Type 0} (accounts : Accounts) (ok : AreAccounts accounts) (old new : KernelModel) (f : Flat) (me : ProcName) (t : ℕ)
    (ready : Ready M accounts (state old) f me t) (call : UnixCall) (result : Result Reply Stopped) where
  abbrev Refined : Type 0
  Refined = Goal accounts f me call old new t ready result

  abbrev process : Process
  process = ready.caller.process

  abbrev calls_to : Path → List RawCall
  calls_to d = walk_reads accounts ok (state old) f me t ready d

  abbrev last_of : Path → Directory
  last_of d = directory_read accounts ok (state old) f me t ready d

  abbrev read : Path → RawCall
  read d = read_of accounts ok (state old) f me t ready d

  -- the call is refused with this errno, and these are its raw calls
  abbrev pub IsRefusedBy : Errno → List Step → Type 0
  IsRefusedBy errno steps =
      (refused accounts f me process call ≡ Some errno)
      × AreItsCalls accounts f me call old new t ready steps (Refused errno)

  -- where the way into the directory has a reason, that is the call's
  abbrev pub Explains : Path → Type 0
  Explains d = (reason : Reason) → why_into accounts f process d ≡ Some reason → why accounts f me process call ≡ Some reason

  -- Where the way into the directory is refused, so is the call, once the reads of the walk are made after these raw calls, and the reason is
  -- that of the way.
  abbrev pub Refuses : List RawCall → Path → Type 0
  Refuses before d =
      ((errno : Errno) → into accounts f process d ≡ Some errno → (steps : List Step)
      → AreAmong (calls_to d) (entries_of old.line t steps) → EndWith errno (before ++ calls_to d) steps → IsRefusedBy errno steps)
      × Explains d

  -- the read of a directory segment is on what the reason names that the directory may not be read
  pub read_named : (d : Path) → is_dir_at f d ≡ true → (cause : Cause) → why accounts f me process call ≡ Some (MayNotRead d cause)
      → IsDenialNamed accounts f me call old new t ready (read d)
  read_named d dir cause is =
      let place = place_at accounts ok (state old) f me t ready d in
      named_by accounts (state old) f me process call (read d) (MayNotRead d cause) is
      (place.container, place.listing, inl (found accounts ok (state old) f me t ready d dir), refl)

  -- the entries of a directory
  abbrev entries_at : Path → Entries
  entries_at d = directory_of f.files ready.represents.matched.naming.number d

  -- the bytes of a directory segment are read after these raw calls
  bytes_step : (d : Path) → is_dir_at f d ≡ true → (before : List RawCall) (mid : KernelModel) → state mid ≡ state old
      → Chain old t (all_granted before) mid
      → (rest : List ℕ → Program) → Runs M (ask (read d) rest) mid new t result
      → (reads accounts f process d ≡ false → IsRefusedBy EACCES (all_granted before ++ (read d, Some Observe) ∷ []))
      → (reads accounts f process d ≡ false → IsDenialNamed accounts f me call old new t ready (read d))
      → (reads accounts f process d ≡ true → (later : KernelModel) → state later ≡ state old → Chain old t (all_granted (before ++ read d ∷ [])) later
      → (bytes : List ℕ) → IsDirectory bytes (entries_at d) → Runs M (rest bytes) later new t result → Refined) → Refined
  bytes_step d dir before mid stays chain rest run refuses named go_on = by (reads accounts f process d) refl
    where
      said : (b : Bool) → reads accounts f process d ≡ b → check (state mid) t (read d) ≡ unless b Observe
      said b is =
          ap (λ (s : State). check s t (read d)) stays ∙ read_said accounts ok (state old) f me t ready d dir
          ∙ ap (λ (b : Bool). unless b Observe) is

      by : (b : Bool) → reads accounts f process d ≡ b → Refined
      by false is =
          let end = refuses is in
          refused_step accounts f me call old new t ready result before mid chain stays
          EACCES end.0 (read d) rest Observe (said false is) refl refl (named is) end.1 run
      by true is =
          granted_step accounts f me call old new t ready result before mid chain (read d) rest (said true is) run
          (λ later bytes called right longer on.
          let bytes_are : bytes
          ≡ bytes_in ((state old).objects (place_at accounts ok (state old) f me t ready d).listing) =
          right
          ∙ ap (λ (s : State). bytes_in (s.objects (place_at accounts ok (state old) f me t ready d).listing))
          stays in
          go_on is later (called.state ∙ stays) longer bytes (subst (λ (b : List ℕ). IsDirectory b (entries_at d)) (sym bytes_are)
          (holds accounts ok (state old) f me t ready d dir)) on)

  -- a directory is read after these raw calls
  pub read_step : (d : Path) → is_dir_at f d ≡ true → (before : List RawCall) (mid : KernelModel)
      → state mid ≡ state old → Chain old t (all_granted before) mid
      → (rest : Directory → Program) → Runs M (read_directory (place_at accounts ok (state old) f me t ready d) rest) mid new t result
      → (reads accounts f process d ≡ false → IsRefusedBy EACCES (all_granted before ++ (read d, Some Observe) ∷ []))
      → (reads accounts f process d ≡ false → IsDenialNamed accounts f me call old new t ready (read d))
      → (reads accounts f process d ≡ true → (later : KernelModel) → state later ≡ state old
      → Chain old t (all_granted (before ++ read d ∷ [])) later → Runs M (rest (last_of d)) later new t result
      → Refined) → Refined
  unfolding read_directory
  read_step d dir before mid stays chain rest run refuses named go_on =
      bytes_step d dir before mid stays chain (λ bytes. list bytes (λ entries.
      rest (record { place = place_at accounts ok (state old) f me t ready d; entries = entries }))) run
      refuses named
      (λ seen later same longer bytes is on.
      listed_step accounts f me call old new t ready result (before ++ read d ∷ []) later
      longer bytes (entries_at d) is _ on (go_on seen later same longer))

  -- the walk is made after raw calls that were granted and have changed nothing
  module _ (before : List RawCall) (start : KernelModel) (unchanged : state start ≡ state old) (begun : Chain old t (all_granted before) start) where
    -- the raw calls up to the end of the walk
    abbrev reached : Path → List RawCall
    reached d = before ++ calls_to d

    -- the directory segment is read, and the call goes on with its bytes
    abbrev reading : (Place → List ℕ → Program) → Place → Program
    reading after place = ask (raw.Read place.container place.listing) (after place)

    -- where the way is not refused, the call goes on with the bytes of the directory
    abbrev GoesOnReading : Path → (Place → List ℕ → Program) → Type 0
    GoesOnReading d after =
        into accounts f process d ≡ None → (mid : KernelModel) → state mid ≡ state old → Chain old t (all_granted (reached d)) mid
        → (bytes : List ℕ) → IsDirectory bytes (entries_at d)
        → Runs M (after (place_at accounts ok (state old) f me t ready d) bytes) mid new t result → Refined

    -- where the way is not refused, the call goes on with where a name leads in the directory
    abbrev pub GoesOnLooking : Path → Name → (Place → Option Target → Program) → Type 0
    GoesOnLooking d n rest =
        into accounts f process d ≡ None → (mid : KernelModel) → state mid ≡ state old → Chain old t (all_granted (reached d)) mid
        → Runs M (rest (place_at accounts ok (state old) f me t ready d) (finite.get (entries_at d) n)) mid new t result → Refined

    -- where the way is not refused, the call goes on with the directory
    abbrev pub GoesOn : Path → (Directory → Program) → Type 0
    GoesOn d rest =
        into accounts f process d ≡ None → (mid : KernelModel) → state mid ≡ state old
        → Chain old t (all_granted (reached d)) mid → Runs M (rest (last_of d)) mid new t result → Refined

    -- from a directory that may be read on to the next
    module _ (n : Name) (d : Path) (after : Place → List ℕ → Program) (refuses : Refuses before (n ∷ d))
        (go_on : GoesOnReading (n ∷ d) after) (open_so_far : into accounts f process d ≡ None) (mid : KernelModel)
        (stays : state mid ≡ state old) (chain : Chain old t (all_granted (reached d)) mid) where
      -- the tests of the next name
      abbrev tests : Option Node → Option Errno
      tests o =
          unless (is_some_and o (λ n. true)) ENOENT orelse unless (is_some_and o is_dir) ENOTDIR
          orelse unless (is_some_and o (λ n. may_read accounts process n.class)) EACCES

      into_is : (o : Option Node) → get f.files (n ∷ d) ≡ o → into accounts f process (n ∷ d) ≡ tests o
      into_is o is = λ i. open_so_far i orelse tests (is i)

      -- the directories that the walk tests
      calls_are : (b : Bool) → is_dir_at f (n ∷ d) ≡ b → calls_to (n ∷ d) ≡ calls_to d ++ (if b then read (n ∷ d) ∷ [] else [])
      calls_are b is =
          map-append read (tested accounts f process d)
          (if not (is_some (into accounts f process d)) && is_dir_at f (n ∷ d) then (n ∷ d) ∷ [] else [])
          ∙ (λ i. calls_to d ++ map read (if not (is_some (open_so_far i)) && is i then (n ∷ d) ∷ [] else [])) ∙ by b
        where
          by : (b : Bool) → calls_to d ++ map read (if b then (n ∷ d) ∷ [] else []) ≡ calls_to d ++ (if b then read (n ∷ d) ∷ [] else [])
          by true = refl
          by false = refl

      -- the walk ends here, with no raw call more
      breaks_off : (errno : Errno) → into accounts f process (n ∷ d) ≡ Some errno → is_dir_at f (n ∷ d) ≡ false
          → is_of_denial errno ≡ false
          → IsRefusedBy errno (all_granted (reached d))
      breaks_off errno is no_dir found =
          let same = calls_are false no_dir ∙ append-nil (calls_to d) in
          refuses.0 errno is (all_granted (reached d))
          (subst (λ (calls : List RawCall). AreAmong calls (entries_of old.line t (all_granted (reached d)))) (sym same)
          (among_granted_behind old.line t before (calls_to d)))
          (inl (ap (λ (calls : List RawCall). all_granted (before ++ calls)) (sym same), found))

      enters : (class : Class) → get f.files (n ∷ d) ≡ Some (record { class = class; content = Dir })
          → Runs M (reading after (place_at accounts ok (state old) f me t ready (n ∷ d))) mid new t result → Refined
      enters class is on =
          let dir : is_dir_at f (n ∷ d) ≡ true = ap (λ (o : Option Node). is_some_and o is_dir) is in
          let into_so : into accounts f process (n ∷ d) ≡ unless (reads accounts f process (n ∷ d)) EACCES =
          λ i. open_so_far i orelse unless (is_some_and (is i) (λ n. true)) ENOENT
          orelse unless (is_some_and (is i) is_dir) ENOTDIR
          orelse unless (reads accounts f process (n ∷ d)) EACCES in
          bytes_step (n ∷ d) dir (reached d) mid stays chain (after (place_at accounts ok (state old) f me t ready (n ∷ d))) on
          (λ unseen. refuses.0 EACCES (into_so ∙ ap (λ (b : Bool). unless b EACCES) unseen)
          (all_granted (reached d) ++ (read (n ∷ d), Some Observe) ∷ [])
          (subst (λ (calls : List RawCall). AreAmong calls
          (entries_of old.line t (all_granted (reached d) ++ (read (n ∷ d), Some Observe) ∷ [])))
          (sym (calls_are true dir)) (among_refused_behind old.line t before (calls_to d) (read (n ∷ d)) Observe))
          (inr (reached d, read (n ∷ d), Observe, ends_there dir, refl)))
          (λ unseen.
          let named = unread_below accounts ok (state old) f me t ready n d open_so_far dir unseen in
          read_named (n ∷ d) dir named.0 (refuses.1 (MayNotRead (n ∷ d) named.0) named.1))
          (λ seen later same longer bytes holds end.
          go_on (into_so ∙ ap (λ (b : Bool). unless b EACCES) seen) later same
          (subst (λ (calls : List RawCall). Chain old t (all_granted calls) later)
          (append_assoc before (calls_to d) (read (n ∷ d) ∷ [])
          ∙ ap (λ (calls : List RawCall). before ++ calls) (sym (calls_are true dir))) longer)
          bytes holds end)
        where
          -- the read of the directory is the last raw call of the way into it
          ends_there : is_dir_at f (n ∷ d) ≡ true → before ++ calls_to (n ∷ d) ≡ reached d ++ read (n ∷ d) ∷ []
          ends_there dir =
              ap (λ (calls : List RawCall). before ++ calls) (calls_are true dir)
              ∙ sym (append_assoc before (calls_to d) (read (n ∷ d) ∷ []))

      -- once the name was looked up
      abbrev at_name : Option Target → Program
      at_name target = given (directory_at target) (reading after)

      by_content : (class : Class) (c : Content) → get f.files (n ∷ d) ≡ Some (record { class = class; content = c })
          → Runs M (at_name (finite.get (entries_at d) n)) mid new t result → Refined
      by_content class Dir is on =
          enters class is (subst (λ (target : Option Target). Runs M (at_name target) mid new t result)
          (directory_there accounts ok (state old) f me t ready n d class is) on)
      by_content class (File bytes) is on =
          let end = breaks_off ENOTDIR (into_is _ is) (ap (λ (o : Option Node). is_some_and o is_dir) is) refl in
          refused_at_once accounts f me call old new t ready result (reached d) mid chain stays
          ENOTDIR end.0 refl refl end.1
          (subst (λ (target : Option Target). Runs M (at_name target) mid new t result)
          (file_there accounts ok (state old) f me t ready n d class bytes is) on)

      next_step : (o : Option Node) → get f.files (n ∷ d) ≡ o → Runs M (at_name (finite.get (entries_at d) n)) mid new t result → Refined
      next_step None is on =
          let end = breaks_off ENOENT (into_is _ is) (ap (λ (o : Option Node). is_some_and o is_dir) is) refl in
          refused_at_once accounts f me call old new t ready result (reached d) mid chain stays
          ENOENT end.0 refl refl end.1
          (subst (λ (target : Option Target). Runs M (at_name target) mid new t result)
          (nothing_there accounts ok (state old) f me t ready n d is) on)
      next_step (Some node) is on = by_content node.class node.content is on

    -- the walk into a directory up to its bytes
    reading_step : (d : Path) (after : Place → List ℕ → Program)
        → Runs M (find_place (roots_of (length accounts.users)) d (reading after)) start new t result → Refuses before d
        → GoesOnReading d after → Refined
    unfolding find_place look_in
    reading_step [] after run refuses go_on =
        bytes_step [] (slash_is_dir accounts ok (state old) f me t ready) before start unchanged begun
        (after (place_at accounts ok (state old) f me t ready []))
        (subst (λ (place : Place). Runs M (reading after place) start new t result) (slash_place accounts ok (state old) f me t ready) run)
        (λ unseen. refuses.0 EACCES (ap (λ (b : Bool). unless b EACCES) unseen)
        (all_granted before ++ (read [], Some Observe) ∷ [])
        (among_behind old.line t (read [] ∷ []) before ((read [], Some Observe) ∷ []) (inl (refl, tt)))
        (inr (before, read [], Observe, refl, refl)))
        (λ unseen.
        let dir = slash_is_dir accounts ok (state old) f me t ready in
        let named = unread_directory accounts ok (state old) f me t ready [] dir unseen in
        read_named [] dir named.0 (refuses.1 (MayNotRead [] named.0) named.1))
        (λ seen. go_on (ap (λ (b : Bool). unless b EACCES) seen))
    reading_step (n ∷ d) after run refuses go_on =
        reading_step d (λ above bytes. given (directory_at (found_in bytes n)) (reading after)) run (
          λ errno is steps among end. refuses.0 errno (ap (λ (o : Option Errno).
              o orelse unless (is_there f (n ∷ d)) ENOENT orelse unless (is_dir_at f (n ∷ d)) ENOTDIR
              orelse unless (reads accounts f process (n ∷ d)) EACCES) is) steps
              (subst (λ (calls : List RawCall). AreAmong calls (entries_of old.line t steps)) (sym (stopped_before n d errno is)) among)
              (subst (λ (calls : List RawCall). EndWith errno (before ++ calls) steps) (sym (stopped_before n d errno is)) end),
          λ reason is. refuses.1 reason (ap (λ (o : Option Reason).
              o orelse unless (is_there f (n ∷ d)) (IsMissing (n ∷ d)) orelse unless (is_dir_at f (n ∷ d)) (HasFile (n ∷ d))
              orelse not_read accounts f process (n ∷ d)) is),
        )
        (λ open_so_far mid stays chain bytes is on.
        next_step n d after refuses go_on open_so_far mid stays chain (get f.files (n ∷ d)) refl
        (subst (λ (target : Option Target). Runs M (given (directory_at target) (reading after)) mid new t result)
        (found_in_directory bytes (entries_at d) n is) on))
      where
        -- a walk that was refused looks at no directory more
        stopped_before : (n : Name) (d : Path) (errno : Errno) → into accounts f process d ≡ Some errno → calls_to (n ∷ d) ≡ calls_to d
        stopped_before n d errno is =
            map-append read (tested accounts f process d)
            (if not (is_some (into accounts f process d)) && is_dir_at f (n ∷ d) then (n ∷ d) ∷ [] else [])
            ∙ (λ i. calls_to d ++ map read (if not (is_some (is i)) && is_dir_at f (n ∷ d) then (n ∷ d) ∷ [] else [])) ∙ append-nil (calls_to d)

    -- The walk into a directory: it is refused as the flat rules refuse the call, or the call goes on with the directory.
    pub walk_step_behind : (d : Path) (rest : Directory → Program)
        → Runs M (walk_to (roots_of (length accounts.users)) d rest) start new t result → Refuses before d → GoesOn d rest
        → Refined
    unfolding walk_to read_directory
    walk_step_behind d rest run refuses go_on =
        reading_step d (λ place bytes. list bytes (λ entries. rest (record { place = place; entries = entries }))) run refuses
        (λ open_so_far mid stays chain bytes is on.
        listed_step accounts f me call old new t ready result (reached d) mid chain bytes
        (entries_at d) is _ on (go_on open_so_far mid stays chain))

    -- The walk to a directory, and a look-up in it: it is refused as the flat rules refuse the call, or the call goes on with where the name leads.
    pub look_step_behind : (d : Path) (n : Name) (rest : Place → Option Target → Program)
        → Runs M (find_place (roots_of (length accounts.users)) d (λ place. look_in place n (rest place))) start new t
        result
        → Refuses before d → GoesOnLooking d n rest → Refined
    unfolding look_in
    look_step_behind d n rest run refuses go_on =
        reading_step d (λ place bytes. rest place (found_in bytes n)) run refuses
        (λ open_so_far mid stays chain bytes is on.
        go_on open_so_far mid stays chain
        (subst (λ (target : Option Target).
        Runs M (rest (place_at accounts ok (state old) f me t ready d) target) mid new t result)
        (found_in_directory bytes (entries_at d) n is) on))

  -- the same for a walk at the beginning of the call
  pub walk_step : (d : Path) (rest : Directory → Program)
      → Runs M (walk_to (roots_of (length accounts.users)) d rest) old new t result → Refuses [] d
      → GoesOn [] old refl (same_kernel old) d rest → Refined
  walk_step d rest run refuses go_on = walk_step_behind [] old refl (same_kernel old) d rest run refuses go_on

  -- the same for a look-up at the beginning of the call
  pub look_step : (d : Path) (n : Name) (rest : Place → Option Target → Program)
      → Runs M (find_place (roots_of (length accounts.users)) d (λ place. look_in place n (rest place))) old new t result
      → Refuses [] d → GoesOnLooking [] old refl (same_kernel old) d n rest → Refined
  look_step d n rest run refuses go_on = look_step_behind [] old refl (same_kernel old) d n rest run refuses go_on
