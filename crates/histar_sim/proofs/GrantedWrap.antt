-- A wrap that is granted: once the container of its scratch directory is made, the directory is made, the job's first process is born, and the
-- thread holds the job.
use Rattle.std.proofs.Common.{◌≡◌, ℕ, ◌+◌, ◌<◌, ◌≤◌, true, false, List, [], ◌∷◌, ◌++◌, Option, Some, None, Result, arith, refl, sym, ap, ◌∙◌, subst}
use Rattle.std.specs.Prelude.{IsTrue, is_some, nat_lt, not, length}
use Rattle.std.proofs.lemmas.Bool.{ltb-true}
use Rattle.std.specs.FinMap as map
use Rattle.std.specs.FinSet as set
use Rattle.histar_base.specs.Refusals.{◌orelse◌, unless}
use Rattle.histar_flat.specs.declared.calls.UnixCall.{UnixCall}
use Rattle.histar_flat.specs.declared.calls.UnixCall.TheVariants.{Wrap}
use Rattle.histar_flat.specs.declared.replies.Errno.TheVariants.{EACCES, EPERM, EEXIST, ENOSPC, EAGAIN}
use Rattle.histar_flat.specs.declared.replies.Reply.{Reply}
use Rattle.histar_flat.specs.declared.replies.Reply.TheVariants.{Child}
use Rattle.histar_flat.specs.Words.{Name, Path, ProcName, is_name, most_children, most_numbers}
use Rattle.histar_flat.specs.Accounts.{Accounts, has, user_number}
use Rattle.histar_flat.specs.Classes.{Class, Process, may_write}
use Rattle.histar_flat.specs.Files.{get}
use Rattle.histar_flat.specs.FlatState.{Flat, entries_in, into, is_some_and, writes}
use Rattle.histar_flat.specs.FlatState.Content.{Dir}
use Rattle.histar_flat.specs.FlatCalls.{most_entries, refused, changed}
use Rattle.histar_level.specs.declared.level.Level.TheVariants.{Star, L3}
use Rattle.histar_level.specs.Levels.{Levels}
use Rattle.histar_label.specs.Levels.{with_level}
use Rattle.histar_object.specs.declared.objects.Kind.TheVariants.{Segment, Container, Thread}
use Rattle.histar_object.specs.declared.objects.Object.{Object}
use Rattle.histar_rules.specs.Rights.{with_category}
use Rattle.histar_object.specs.State.{State, with_object, with_segment_bytes, with_next_category}
use Rattle.histar_rules.specs.declared.raw.Denied.TheVariants.{TooBig}
use Rattle.histar_rules.specs.declared.raw.RawCall.{RawCall}
use Rattle.histar_rules.specs.declared.raw.RawCall.TheVariants.{MakeSegment, SetLabel, SetClearance, Write}
use Rattle.histar_rules.specs.Rules.{check, has_number, greatest}
use Rattle.histar_syscall.specs.KernelModel.{KernelModel, state}
use Rattle.histar_layout.specs.Directory.{IsTarget, spelling}
use Rattle.histar_layout.specs.Status.{ProcessStatus}
use Rattle.histar_layout.specs.declared.entry.Target.{Target}
use Rattle.histar_layout.specs.declared.entry.Target.TheVariants as targets
use Rattle.histar_layout.proofs.MapLemmas.{listable_insert}
use Rattle.histar_programs.specs.declared.call_error.Stopped.{Stopped}
use Rattle.histar_programs.specs.declared.roots.Place.{Place}
use Rattle.histar_programs.specs.Programs.{Program, Runs}
use Rattle.histar_programs.specs.Programs.Program.{Answers}
use Rattle.histar_programs.specs.Parts.{ask, write_entries}
use Rattle.histar_programs.specs.declared.caller.Caller.{Caller}
use Rattle.histar_process.specs.Birth.{birth}
use Rattle.histar_programs.specs.Caller.{caller_at}
use Rattle.histar_programs.specs.Kin.{Kin}
use Rattle.histar_programs.specs.Start.{roots_of}
use Rattle.histar_refinement.specs.Accounts.{AreAccounts}
use Rattle.histar_refinement.specs.Categories.{naming_next, IsServed, IsUsed}
use Rattle.histar_refinement.specs.Categories.CategoryName.{OfJob}
use Rattle.histar_refinement.specs.Guards.{guard_label, rights_label, rights_clearance}
use Rattle.histar_refinement.specs.Labels.{scratch_guard}
use Rattle.histar_refinement.specs.Addresses.{address_of, home_address}
use Rattle.histar_refinement.specs.Addresses.Step.{Listing, Status, Inside, Runner}
use Rattle.histar_refinement.specs.Directories.{directory_of}
use Rattle.histar_refinement.specs.Represents.{AreInOrder, ObjectsMatch}
use Rattle.histar_refinement.specs.KeptNames.{RepresentsStill}
use Rattle.histar_refinement.specs.Processes.{or_zero, status_by}
use Rattle.histar_refinement.proofs.Beside.{Beside}
use Rattle.histar_refinement.proofs.DirectoryLaws.{spelling_fits}
use Rattle.histar_refinement.proofs.ListedFiles.{same_process_status}
use Rattle.histar_refinement.proofs.JobLists.{never_given}
use Rattle.histar_refinement.proofs.Making.{count_entries}
use Rattle.histar_refinement.proofs.RawChecks.{object}
use Rattle.histar_refinement.proofs.AccountLemmas.{not_nobody}
use Rattle.histar_refinement.proofs.Wrapping as wrapping
use Rattle.histar_refinement.proofs.Wrapping.{Wrapper}
use Rattle.histar_sim.specs.RawCalls.{Request, births_at, plain, requests_of, writes_entries}
use Rattle.histar_sim.proofs.Requests.{AreLeft, all_granted_made, calls_of, left_then}
use Rattle.histar_sim.proofs.Ready.{Ready}
use Rattle.histar_sim.specs.Reads.{AreAmong}
use Rattle.histar_sim.proofs.Chains.{all_granted, entries_of, Chain}
use Rattle.histar_sim.proofs.Steps.{Goal, granted_step, answered_step}
use Rattle.histar_sim.proofs.Walks.{place_at, walk_reads, holds, among_then, has_walk}
use Rattle.histar_sim.proofs.FoundObjects.{directory_class, directory_agrees, directory_guard, entries, is_dir, below, container_numbered}
use Rattle.histar_sim.proofs.FoundObjects.{listing_numbered, writes_as_class}
use Rattle.histar_sim.proofs.BirthRun.{IsFit, spawned, birth_made}
use Rattle.histar_sim.proofs.BirthSteps.{numbered_step}
use Rattle.histar_sim.proofs.ChildRoom.{own_of, own_clearance_of, status_of, at_home, at_status, at_thread}
use Rattle.histar_wrap.specs.Scratch.{directory_label, hold_job, kin_in}
use Rattle.histar_sim.proofs.ScratchLabels.{rights_with_job, label_by, clearance_by, jobs_by, directory_by, owned_revealed}
use Rattle.histar_sim.proofs.ScratchCalls.{with_segment, make_said, write_said, thread_then}
use Rattle.histar_sim.proofs.JobFit.{fit, held_is}
use Rattle.histar_sim.proofs.JobRights.{JobParent}

module _ {M : Type 0} (accounts : Accounts) (ok : AreAccounts accounts) (me : ProcName) (caller : Caller) (old new : KernelModel)
    (f : Flat) (result : Result Reply Stopped)
    (ready : Ready M accounts (state old) f me caller.thread)
    (found : caller_at (state old) (roots_of (length accounts.users)).home me ≡ Some caller) (m : Name)
    (named : IsTrue (is_name m)) (d : Path) where
  abbrev t : ℕ
  t = caller.thread

  abbrev p : Process
  p = ready.caller.process

  abbrev Refined : Type 0
  Refined = Goal accounts f me (Wrap (m ∷ d)) old new t ready result

  abbrev own : Levels
  own = own_of accounts me caller old new f result ready found

  abbrev own_clearance : Levels
  own_clearance = own_clearance_of accounts me caller old new f result ready found

  abbrev status : ProcessStatus
  status = status_of accounts me caller old new f result ready found

  -- the category of the new job, and the label of its scratch directory
  abbrev pub job : ℕ
  job = (state old).next_category

  abbrev pub due : Levels
  due = directory_label accounts own job

  -- the directory in which the scratch directory is made, and what it lists
  abbrev place : Place
  place = place_at accounts ok (state old) f me t ready d

  abbrev pub container : Object Levels
  container = record { label = due; kind = Container set.empty }

  -- what is left of the program once the container has a number
  abbrev pub within : ℕ → Program
  within number =
      ask (MakeSegment number due [])
      (λ listing. write_entries place (map.insert (entries accounts ok (state old) f me t ready d) m (targets.Directory number listing))
      (λ _. birth caller.home status (kin_in accounts own job)
      (λ _. hold_job (own, own_clearance) job (λ _. Answers (Child ((status.born + 1) ∷ me))))))

  -- the raw calls of the birth of the job's first process, and those that give the thread its labels with the job
  abbrev pub born_calls : ProcessStatus → Levels → Levels → List RawCall
  born_calls revealed label clearance =
      births_at caller.home revealed (kin_in accounts own job) (job + 1) ((state old).next_object + 1 + 1)
      ++ SetLabel label ∷ SetClearance clearance ∷ []

  -- what is left once the directory segment is made, and before it
  abbrev pub write_on : List RawCall
  write_on =
      writes_entries accounts ready.represents.matched d (map.insert (entries accounts ok (state old) f me t ready d) m
      (targets.Directory (state old).next_object ((state old).next_object + 1)))
      ∷ born_calls status (with_level own job Star) (with_level own_clearance job L3)

  abbrev pub segment_on : List RawCall
  segment_on = MakeSegment (state old).next_object due [] ∷ write_on

  -- where nothing refuses the call and the container is made, the call refines its rule
  abbrev pub JobBegun : Type 0
  JobBegun =
      nat_lt (length me) most_numbers ≡ true → nat_lt p.born most_children ≡ true
      → (open_so_far : into accounts f p d ≡ None) → get f.files (m ∷ d) ≡ None → nat_lt (length (entries_in f d)) most_entries ≡ true
      → may_write accounts p (directory_class accounts ok (state old) f me t ready d open_so_far) ≡ true
      → (i : ℕ) → user_number accounts p.user ≡ Some i → has_number (state old) ≡ true
      → (calls : List RawCall) → AreAmong (walk_reads accounts ok (state old) f me t ready d) (entries_of old.line t (all_granted calls))
      → AreLeft (plain (calls_of (requests_of accounts ready.represents.matched me p (Wrap (m ∷ d))))) calls (plain segment_on)
      → (linked : KernelModel) → state linked ≡ with_object (with_category (state old) t) place.container container
      → Chain old t (all_granted calls) linked
      → Runs M (within (state old).next_object) linked new t result → Refined

  -- ---- the call as a whole

  abbrev call : UnixCall
  call = Wrap (m ∷ d)

  abbrev child : ProcName
  child = (p.born + 1) ∷ me

  abbrev requests : List Request
  requests = plain (calls_of (requests_of accounts ready.represents.matched me p (Wrap (m ∷ d))))

  abbrev reads : List RawCall
  reads = walk_reads accounts ok (state old) f me t ready d

  abbrev kin : Kin
  kin = kin_in accounts own job

  -- the number of the container, and what is written in the directory
  abbrev number : ℕ
  number = (state old).next_object

  abbrev target : Target
  target = targets.Directory number (number + 1)

  abbrev written : List ℕ
  written = spelling (map.insert (entries accounts ok (state old) f me t ready d) m target)

  -- the job's name was not used
  unused : ¬ IsUsed accounts f (OfJob ((p.born + 1) ∷ me))
  unused u = never_given f me p ready.caller.agrees (ready.represents.jobs_given child u)

  -- what is left of the program once the directory is written, and once the directory segment has a number
  abbrev birth_then : ProcessStatus → Levels → Levels → Program
  birth_then revealed label clearance =
      birth caller.home revealed kin (λ _.
      ask (SetLabel label) (λ _. ask (SetClearance clearance) (λ _. Answers (Child ((revealed.born + 1) ∷ me)))))

  abbrev after_segment : ℕ → Program
  after_segment listing =
      write_entries place
      (map.insert (entries accounts ok (state old) f me t ready d) m (targets.Directory number listing))
      (λ _. birth_then status (with_level own job Star) (with_level own_clearance job L3))

  module _ (long : nat_lt (length me) most_numbers ≡ true) (room : nat_lt p.born most_children ≡ true)
      (open_so_far : into accounts f p d ≡ None) (absent : get f.files (m ∷ d) ≡ None)
      (room_above : nat_lt (length (entries_in f d)) most_entries ≡ true)
      (may : may_write accounts p (directory_class accounts ok (state old) f me t ready d open_so_far) ≡ true)
      (i : ℕ) (declared : user_number accounts p.user ≡ Some i) where
    few_children : p.born < 64
    few_children = ltb-true p.born 64 room

    few_entries : length (entries_in f d) < most_entries
    few_entries = ltb-true (length (entries_in f d)) most_entries room_above

    writes_is : writes accounts f p d ≡ true
    writes_is = writes_as_class accounts ok (state old) f me t ready d open_so_far ∙ may

    refused_nowhere : refused accounts f me p (Wrap (m ∷ d)) ≡ None
    refused_nowhere = λ j. (unless (room j) EAGAIN orelse unless (long j) EAGAIN)
        orelse (open_so_far j orelse unless (not (is_some_and (absent j) (λ n. true))) EEXIST
        orelse unless (room_above j) ENOSPC orelse unless (writes_is j) EACCES)
        orelse unless (not (not_nobody accounts ok p.user i declared j)) EPERM

    -- the directory above and the process
    abbrev above : Class
    above = directory_class accounts ok (state old) f me t ready d open_so_far

    at_parent : get f.files d ≡ Some (record { class = above; content = Dir })
    at_parent = directory_agrees accounts ok (state old) f me t ready d open_so_far

    container_there : ready.represents.matched.naming.number (address_of d) ≡ Some place.container
    container_there = container_numbered accounts ok (state old) f me t ready d open_so_far

    listing_there : ready.represents.matched.naming.number (Listing ∷ address_of d) ≡ Some place.listing
    listing_there = listing_numbered accounts ok (state old) f me t ready d open_so_far

    home_there : ready.represents.matched.naming.number (home_address me) ≡ Some caller.home.container
    home_there = at_home accounts me caller old new f result ready found

    segment_there : ready.represents.matched.naming.number (Status ∷ home_address me) ≡ Some caller.home.segment
    segment_there = at_status accounts me caller old new f result ready found

    thread_there : ready.represents.matched.naming.number (Runner ∷ Inside ∷ home_address me) ≡ Some t
    thread_there = at_thread accounts me caller old new f result ready found

    -- once there is a number for the directory segment
    module _ (few : (state old).next_object + 1 < greatest) where
      -- the process that wraps, its directory and the one above
      abbrev wrapper : Wrapper accounts (state old) f ready.represents me p
      wrapper = record {
        here = ready.caller.agrees;
        runs = ready.caller.runs;
        room = few_children;
        user = i;
        declared = declared;
        directory = d;
        name = m;
        absent = absent;
        above = above;
        at_parent = at_parent;
        home = caller.home.container;
        segment = caller.home.segment;
        thread = t;
        container = place.container;
        listing = place.listing;
        at_home = home_there;
        at_status = segment_there;
        at_thread = thread_there;
        at_container = container_there;
        at_listing = listing_there;
        few = few;
      }

      -- the state with the directory in it, which represents the flat state with the directory but for the thread
      abbrev made_state : State
      made_state = wrapping.made_state accounts (state old) f ready.represents me p wrapper

      abbrev with_directory : Flat
      with_directory = wrapping.with_directory accounts (state old) f ready.represents me p wrapper

      abbrev later : ObjectsMatch accounts made_state with_directory
      later = wrapping.k accounts (state old) f ready.represents me p wrapper named few_entries

      abbrev before : State
      before = wrapping.state_directory accounts (state old) f ready.represents me p wrapper named few_entries

      -- the category of the job has its name, and what is made for the job has the expected label
      abbrev job_named : ObjectsMatch accounts (with_next_category (state old)) f
      job_named = wrapping.m accounts (state old) f ready.represents me p wrapper

      naming_is : job_named.naming ≡ ready.represents.matched.naming
      naming_is = (wrapping.named accounts (state old) f ready.represents me p wrapper).1

      category_is : job_named.category ≡ naming_next ready.represents.matched.category (state old).next_category (OfJob ((p.born + 1) ∷ me))
      category_is = (wrapping.named accounts (state old) f ready.represents me p wrapper).2

      names_are : later.category ≡ naming_next ready.represents.matched.category (state old).next_category (OfJob ((p.born + 1) ∷ me))
      names_are = (wrapping.made accounts (state old) f ready.represents me p wrapper named few_entries).2 ∙ category_is

      due_is : due ≡ guard_label job_named.category (scratch_guard (p.chain ++ child ∷ []) i)
      due_is = directory_by accounts (state old) f ready.represents.matched me p ready.caller.agrees unused job_named.category category_is
          ∙ ap (λ (o : Option ℕ). guard_label job_named.category (scratch_guard (p.chain ++ child ∷ []) (or_zero o))) declared

      state_is : with_segment_bytes (with_segment accounts ok (state old) f me t ready d open_so_far unused i declared) place.listing written ≡ before
      state_is =
          λ j. with_segment_bytes (with_object (with_object (with_category (state old) t) place.container
          (record { label = due_is j; kind = Container set.empty })) number
          (record { label = due_is j; kind = Segment [] }))
          place.listing (spelling (map.insert (directory_of f.files (sym naming_is j).number d) m target))

      -- what its process and its job are there
      is_declared : is_some (user_number accounts p.user) ≡ true
      is_declared = wrapping.is_declared accounts (state old) f ready.represents me p wrapper named few_entries

      is_served : IsServed with_directory ((p.born + 1) ∷ me)
      is_served = wrapping.served accounts (state old) f ready.represents me p wrapper named few_entries

      stranger : has p.chain ((p.born + 1) ∷ me) ≡ false
      stranger = wrapping.stranger accounts (state old) f ready.represents me p wrapper

      chain_ordered : AreInOrder later.category (p.chain ++ ((p.born + 1) ∷ me) ∷ [])
      chain_ordered = wrapping.k_chain accounts (state old) f ready.represents me p wrapper named few_entries

      held_ordered : AreInOrder later.category (p.held ++ ((p.born + 1) ∷ me) ∷ [])
      held_ordered = wrapping.k_held accounts (state old) f ready.represents me p wrapper named few_entries

      home_later : later.naming.number (home_address me) ≡ Some caller.home.container
      home_later = wrapping.k_home accounts (state old) f ready.represents me p wrapper named few_entries

      segment_later : later.naming.number (Status ∷ home_address me) ≡ Some caller.home.segment
      segment_later = wrapping.k_status accounts (state old) f ready.represents me p wrapper named few_entries

      thread_later : later.naming.number (Runner ∷ Inside ∷ home_address me) ≡ Some t
      thread_later = wrapping.k_thread accounts (state old) f ready.represents me p wrapper named few_entries

      agrees_beside : Beside t own own_clearance before made_state
      agrees_beside = wrapping.beside accounts (state old) f ready.represents me p wrapper named few_entries

      counted : made_state.next_category ≤ before.next_category
      counted = wrapping.counted accounts (state old) f ready.represents me p wrapper named few_entries

      -- the status in the process segment of the parent, and the labels of its thread
      status_is : status ≡ status_by f.processes later.naming.number me p
      status_is =
          same_process_status ready.represents.matched.naming.number later.naming.number
          (wrapping.k_numbers accounts (state old) f ready.represents me p wrapper named few_entries) f.processes me
          p

      abbrev own_then : Levels
      own_then = rights_label later.category (rights_with_job accounts me p)

      abbrev later_clearance : Levels
      later_clearance = rights_clearance later.category (rights_with_job accounts me p)

      own_is : with_level own job Star ≡ own_then
      own_is = label_by accounts (state old) f ready.represents.matched me p ready.caller.agrees unused later.category names_are

      own_clearance_is : with_level own_clearance job L3 ≡ later_clearance
      own_clearance_is = clearance_by accounts (state old) f ready.represents.matched me p ready.caller.agrees unused later.category names_are

      thread_has_job : before.objects t ≡ object own_then (Thread later_clearance)
      thread_has_job =
          sym (ap (λ (s : State). s.objects t) state_is)
          ∙ thread_then accounts ok (state old) f me t ready d open_so_far unused i declared written
          ∙ (λ j. object (own_is j) (Thread (own_clearance_is j)))

      -- the parent of the job's first process, once the directory is there
      abbrev parent : JobParent accounts made_state with_directory later me p
      parent = record {
        here = ready.caller.agrees;
        runs = ready.caller.runs;
        room = few_children;
        declared = is_declared;
        served = is_served;
        jobs_ordered = chain_ordered;
        home = caller.home.container;
        segment = caller.home.segment;
        thread = t;
        at_home = home_later;
        at_status = segment_later;
        at_thread = thread_later;
      }

      -- what the birth needs is there
      fits : IsFit before t caller.home (status_by f.processes later.naming.number me p) kin own_then later_clearance
      fits = fit accounts ok made_state with_directory later me p parent before.objects own own_clearance agrees_beside thread_has_job kin
          (jobs_by accounts (state old) f ready.represents.matched me p ready.caller.agrees unused later.category
          names_are)
          (owned_revealed accounts (state old) f ready.represents.matched me p ready.caller.agrees unused)

      -- the wrap leaves the state in which the parent holds the job
      held_then : (few_born : before.next_object + 3 < greatest)
          → spawned before t caller.home (status_by f.processes later.naming.number me p) kin own_then later_clearance
          ≡ wrapping.state_wrapped accounts (state old) f ready.represents me p wrapper named few_entries few_born
      held_then few_born =
          held_is accounts ok made_state with_directory later me p parent before.objects own own_clearance agrees_beside
          thread_has_job kin
          (jobs_by accounts (state old) f ready.represents.matched me p ready.caller.agrees unused later.category
          names_are)
          (owned_revealed accounts (state old) f ready.represents.matched me p ready.caller.agrees unused)
          stranger held_ordered few_born counted

      -- that state represents the flat state of the rule
      matched_then : (few_born : before.next_object + 3 < greatest)
          → RepresentsStill ready.represents (spawned before t caller.home (status_by f.processes later.naming.number me p) kin own_then
          later_clearance) (changed accounts f me p call)
      matched_then few_born =
          subst (λ (s : State). RepresentsStill ready.represents s (changed accounts f me p call)) (sym (held_then few_born))
          (wrapping.still_wrapped accounts (state old) f ready.represents me p wrapper named few_entries
          few_born)

      -- with all raw calls the call is answered
      answered : (calls : List RawCall) (end : KernelModel) → AreAmong reads (entries_of old.line t (all_granted calls))
          → AreLeft requests calls [] → Chain old t (all_granted calls) end
          → state end
          ≡ spawned before t caller.home (status_by f.processes later.naming.number me p) kin own_then
          later_clearance → before.next_object + 3 < greatest → Runs M (Answers (Child child)) end new t result
          → Refined
      answered calls end kept left chain is few_born runs =
          answered_step accounts f me call old new t ready result calls end chain (Child child) refl
          refused_nowhere tt (
            has_walk accounts ok (state old) f me t ready m d (entries_of old.line t (all_granted calls)) kept,
            all_granted_made (requests_of accounts ready.represents.matched me p (Wrap (m ∷ d))) old.line t calls left,
          )
          (subst (λ (s : State). RepresentsStill ready.represents s (changed accounts f me p call)) (sym is) (matched_then few_born)) runs

      -- the job's first process is born
      born : (calls : List RawCall) (mid : KernelModel) → AreAmong reads (entries_of old.line t (all_granted calls))
          → AreLeft requests calls (plain (born_calls status (with_level own job Star) (with_level own_clearance job L3)))
          → Chain old t (all_granted calls) mid → state mid ≡ before
          → Runs M (birth_then status (with_level own job Star) (with_level own_clearance job L3)) mid new t result → Refined
      born calls mid kept left chain at runs =
          birth_made accounts f me call old new t ready result before caller.home
          (status_by f.processes later.naming.number me p) kin own_then later_clearance fits
          (Child child) reads requests answered calls mid kept
          (subst (λ (x : ProcessStatus × Levels × Levels). AreLeft requests calls (plain (born_calls x.0 x.1 x.2)))
          (λ j. (status_is j, own_is j, own_clearance_is j)) left) chain at
          (subst (λ (x : ProcessStatus × Levels × Levels). Runs M (birth_then x.0 x.1 x.2) mid new t result)
          (λ j. (status_is j, own_is j, own_clearance_is j)) runs)

      -- the directory is written
      few_written : length written ≤ 4096
      few_written =
          let count = count_entries accounts (state old) f ready.represents.matched d in
          let below_limit : length (entries_in f d) < most_entries = few_entries in
          let room_left : map.len (entries accounts ok (state old) f me t ready d) < 64 = omega (arith, count, below_limit) in
          let low = below accounts ok (state old) f me t ready (address_of d) place.container container_there in
          let listable = (holds accounts ok (state old) f me t ready d (is_dir accounts ok (state old) f me t ready d open_so_far)).listable in
          let is_target : IsTarget target = ((omega (arith, low), omega (arith, few)), (omega (arith, low), omega (arith, few))) in
          spelling_fits (map.insert (entries accounts ok (state old) f me t ready d) m target)
          (listable_insert (entries accounts ok (state old) f me t ready d) m target listable room_left
          (named, is_target))

      directory_written : (calls : List RawCall) (mid : KernelModel)
          → AreAmong reads (entries_of old.line t (all_granted calls)) → AreLeft requests calls (plain write_on)
          → Chain old t (all_granted calls) mid
          → state mid ≡ with_segment accounts ok (state old) f me t ready d open_so_far unused i declared
          → Runs M (after_segment (number + 1)) mid new t result → Refined
      directory_written calls mid kept left chain at runs =
          let write : RawCall = Write place.container place.listing 0 written in
          let guard = directory_guard accounts ok (state old) f me t ready d open_so_far in
          let apart =
          wrapping.not_named accounts (state old) f ready.represents me p wrapper d
          (record { class = above; content = Dir }) guard.0 at_parent guard.1 in
          granted_step accounts f me call old new t ready result calls mid chain write
          (λ _. birth_then status (with_level own job Star) (with_level own_clearance job L3))
          (ap (λ (s : State). check s t write) at
          ∙ write_said accounts ok (state old) f me t ready d open_so_far unused i declared may stranger apart.0
          apart.1 written few_written) runs
          (λ end done called right longer goes.
          born (calls ++ write ∷ []) end (among_then old.line t reads calls (write ∷ []) kept)
          (left_then requests calls write _ left) longer
          (called.state ∙ ap (λ (s : State). with_segment_bytes s place.listing written) at ∙ state_is) goes)

  -- A wrap whose container is made refines its rule.
  pub job_begun : JobBegun
  unfolding hold_job
  job_begun long room open_so_far absent room_above may i declared has calls kept left linked at chain runs =
      let next : RawCall = MakeSegment number due [] in
      numbered_step accounts f me call old new t ready result calls linked chain next after_segment refl
      (subst (λ (s : State). check s t next ≡ unless (has_number s) TooBig) (sym at)
      (make_said accounts ok (state old) f me t ready d open_so_far unused i declared)) runs
      (λ more mid listing called right longer goes.
      let few = ltb-true (number + 1) greatest (sym (ap has_number at) ∙ more) in
      directory_written long room open_so_far absent room_above may i declared few (calls ++ next ∷ []) mid
      (among_then old.line t reads calls (next ∷ []) kept) (left_then requests calls next (plain write_on) left) longer
      (called.state ∙ ap (λ (s : State). with_object s number (record { label = due; kind = Segment [] })) at)
      (subst (λ (q : ℕ). Runs M (after_segment q) mid new t result) (right ∙ ap (λ (s : State). s.next_object) at) goes))
