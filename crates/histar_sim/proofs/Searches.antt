-- The way to a process, at a state that represents a flat state: it is refused as the flat rules refuse it, or the process segment of each
-- process on the way is read, and the last one is passed on.
use Rattle.std.proofs.Common.{◌≡◌, ℕ, ◌&&◌, Bool, true, false, List, [], ◌∷◌, ◌++◌, Option, None, Some, Result, refl, sym, ap, ◌∙◌, subst, length}
use Rattle.std.proofs.Common.{if◌then◌else◌, inl, inr}
use Rattle.std.proofs.lemmas.List.{map-append, append-nil}
use mathlib.Core.Bool.{true≢false}
use Rattle.std.specs.Prelude.{not, map, is_some, option_map}
use Rattle.std.specs.List.{AllByRecursion, list_all}
use Rattle.histar_base.specs.Refusals.{◌orelse◌, unless}
use Rattle.histar_flat.specs.declared.calls.UnixCall.{UnixCall}
use Rattle.histar_flat.specs.declared.replies.Errno.{Errno}
use Rattle.histar_flat.specs.declared.replies.Errno.TheVariants.{EACCES, ESRCH}
use Rattle.histar_flat.specs.declared.replies.Reply.{Reply}
use Rattle.histar_flat.specs.declared.replies.Reply.TheVariants.{Refused}
use Rattle.histar_flat.specs.Words.{ProcName}
use Rattle.histar_flat.specs.Accounts.{Accounts}
use Rattle.histar_flat.specs.Classes.{Process, knows, sees}
use Rattle.histar_flat.specs.FlatState.{Flat, is_some_and}
use Rattle.histar_flat.specs.FlatCalls.{not_found, refused}
use Rattle.histar_reasons.specs.Reasons.{Reason, unseen as not_seen, why_not_found, why}
use Rattle.histar_reasons.specs.Reasons.Reason.{NoProcess, IsUnseen}
use Rattle.histar_reasons.proofs.Agreeing.{search_agrees}
use Rattle.histar_object.specs.Objects.{bytes_in}
use Rattle.histar_object.specs.State.{State}
use Rattle.histar_rules.specs.declared.raw.Denied.TheVariants.{Observe}
use Rattle.histar_rules.specs.declared.raw.RawCall.{RawCall}
use Rattle.histar_rules.specs.declared.raw.RawCall.TheVariants as raw
use Rattle.histar_rules.specs.Rules.{check}
use Rattle.histar_syscall.specs.KernelModel.{KernelModel, state}
use Rattle.histar_trace.specs.declared.entries.TraceEntry.{TraceEntry}
use Rattle.histar_syscall.proofs.Runs.{same_kernel}
use Rattle.histar_layout.specs.declared.status.Child.{Child as Listed}
use Rattle.histar_layout.specs.Status.{ProcessStatus, child_at, status_in}
use Rattle.histar_programs.specs.declared.call_error.Stopped.{Stopped}
use Rattle.histar_programs.specs.declared.roots.Home.{Home}
use Rattle.histar_programs.specs.Programs.{Program, Runs}
use Rattle.histar_programs.specs.Parts.{given, if_there}
use Rattle.histar_process.specs.Parts.{find_home, home_of, must_be_there, read_status}
use Rattle.histar_programs.specs.Start.{roots_of}
use Rattle.histar_refinement.specs.Accounts.{AreAccounts}
use Rattle.histar_refinement.specs.Represents.{ObjectsMatch}
use Rattle.histar_refinement.specs.Laws.{RunsAs}
use Rattle.histar_refinement.specs.Processes.{status_by}
use Rattle.histar_refinement.proofs.CallerFound.{where_is, status_held, child_is}
use Rattle.histar_refinement.proofs.Agreeing.{some_of}
use Rattle.histar_refinement.proofs.StatusFound.{thread_back}
use Rattle.histar_sim.proofs.Ready.{Ready}
use Rattle.histar_sim.specs.Reads.{AreAmong, looked_at}
use Rattle.histar_sim.proofs.ReadsByCall.{AreStatusReads, HasSearch}
use Rattle.histar_sim.proofs.Chains.{Step, all_granted, entries_of, Chain}
use Rattle.histar_sim.proofs.FirstReasons.{no_reason, unseen_at, named_by}
use Rattle.histar_sim.proofs.Requests.{EndWith}
use Rattle.histar_sim.proofs.CallErrors.{IsDenialNamed, AreItsCalls}
use Rattle.histar_sim.proofs.Steps.{Goal, granted_step, refused_step, refused_at_once}
use Rattle.histar_sim.proofs.Walks.{among_granted_all, among_refused, all_joined}
use Rattle.histar_sim.proofs.FoundProcesses.{first_place, led_to, read_said}

-- a process in no job is seen by every process
seen_if_free : (p other : Process) → other.chain ≡ [] → sees p other ≡ true
seen_if_free p other free = ap (list_all (knows p)) free

module _ {M : Type 0} (accounts : Accounts) (s : State) (f : Flat) (me : ProcName) (t : ℕ) (ready : Ready M accounts s f me t) where
  abbrev p : Process
  p = ready.caller.process

  abbrev l : ObjectsMatch accounts s f
  l = ready.represents.matched

  -- the thread is that of the process
  pub runs_as : RunsAs accounts s f ready.represents.matched me ready.caller.process t
  runs_as = (ready.caller.agrees, ready.caller.runs, (thread_back accounts s f ready.represents.matched me t ready.thread).3)

  -- where a process is found
  abbrev pub place_of : ProcName → Home
  place_of name = where_is accounts s f ready.represents.matched name

  -- the status in the process segment of a process
  abbrev pub status_of : ProcName → Process → ProcessStatus
  status_of name other = status_by f.processes ready.represents.matched.naming.number name other

  -- the raw call that reads its process segment
  abbrev pub read_of : ProcName → RawCall
  read_of name = raw.Read (place_of name).container (place_of name).segment

  -- the raw calls of the way to a process
  abbrev pub search_reads : ProcName → List RawCall
  search_reads name = map read_of (looked_at accounts f p name)

  -- process 0 is there, and seen
  pub first_there : (first : Process) × (f.processes [] ≡ Some first) × (sees p first ≡ true)
  first_there =
      let there = some_of (f.processes []) l.first in
      (there.0, there.1, seen_if_free p there.0 (ready.first there.0 there.1))

  -- where the search for a process has no refusal, it has no reason
  pub search_clear : (name : ProcName) → not_found f p name ≡ None → why_not_found accounts f p name ≡ None
  search_clear name found = no_reason (why_not_found accounts f p name) (search_agrees accounts f p name ∙ found)

  -- a child that is not seen, whose parent is found, is the one that the search's reason names
  unseen_below : (n : ℕ) (above : ProcName) → not_found f p above ≡ None → (child : Process) → f.processes (n ∷ above) ≡ Some child
      → sees p child ≡ false → (job : ProcName) × (why_not_found accounts f p (n ∷ above) ≡ Some (IsUnseen (n ∷ above) job))
  unseen_below n above found child there hidden =
      let named = unseen_at accounts f p (n ∷ above) child hidden in
      let clear = search_clear above found in (
        named.0,
        (λ i. clear i orelse unless (is_some (there i)) (NoProcess (n ∷ above)) orelse not_seen accounts f p (n ∷ above) (there i)) ∙ named.1,
      )

  -- the processes that are looked at are there
  looked_there : (name : ProcName) → AllByRecursion (λ (q : ProcName). is_some (f.processes q) ≡ true) (looked_at accounts f p name)
  looked_there [] = (l.first, tt)
  looked_there (n ∷ above) =
      all_joined (λ (q : ProcName). is_some (f.processes q) ≡ true) (looked_at accounts f p above) _ (looked_there above)
      (by (not (is_some (not_found f p above))) (is_some (f.processes (n ∷ above))) refl)
    where
      by : (a b : Bool) → is_some (f.processes (n ∷ above)) ≡ b
          → AllByRecursion (λ (q : ProcName). is_some (f.processes q) ≡ true) (if a && b then (n ∷ above) ∷ [] else [])
      by true true e = (e, tt)
      by true false e = tt
      by false b e = tt

  are_reads : (names : List ProcName) → AllByRecursion (λ (q : ProcName). is_some (f.processes q) ≡ true) names
      → AreStatusReads accounts s names (map read_of names)
  are_reads [] all = refl
  are_reads (name ∷ more) all =
      let there = some_of (f.processes name) all.0 in
      ((place_of name).container, (place_of name).segment, map read_of more, led_to accounts s f l name there.0 there.1, refl, are_reads more all.1)

  -- the raw calls of the way to a process are the reads that a call on it cannot do without
  pub has_search : (name : ProcName) (entries : List TraceEntry) → AreAmong (search_reads name) entries → HasSearch accounts s f p name entries
  has_search name entries among = (search_reads name, are_reads (looked_at accounts f p name) (looked_there name), among)

  -- on the way to a child, the child is looked at if it is there, after those on the way to its parent
  search_longer : (n : ℕ) (above : ProcName) → not_found f p above ≡ None → (b : Bool) → is_some (f.processes (n ∷ above)) ≡ b
      → search_reads (n ∷ above) ≡ search_reads above ++ (if b then read_of (n ∷ above) ∷ [] else [])
  search_longer n above found b is =
      map-append read_of (looked_at accounts f p above)
      (if not (is_some (not_found f p above)) && is_some (f.processes (n ∷ above)) then (n ∷ above) ∷ [] else [])
      ∙ (λ i. search_reads above ++ map read_of (if not (is_some (found i)) && is i then (n ∷ above) ∷ [] else [])) ∙ by b
    where
      by : (b : Bool)
          → search_reads above ++ map read_of (if b then (n ∷ above) ∷ [] else [])
          ≡ search_reads above ++ (if b then read_of (n ∷ above) ∷ [] else [])
      by true = refl
      by false = refl

  -- where the parent is not found no process more is looked at
  search_stopped : (n : ℕ) (above : ProcName) (errno : Errno) → not_found f p above ≡ Some errno → search_reads (n ∷ above) ≡ search_reads above
  search_stopped n above errno is =
      map-append read_of (looked_at accounts f p above)
      (if not (is_some (not_found f p above)) && is_some (f.processes (n ∷ above)) then (n ∷ above) ∷ [] else [])
      ∙ (λ i. search_reads above
      ++ map read_of
      (if not (is_some (is i)) && is_some (f.processes (n ∷ above)) then (n ∷ above) ∷ [] else []))
      ∙ append-nil (search_reads above)

  -- the status that the bytes of a process segment spell
  pub revealed : (name : ProcName) (other : Process) → f.processes name ≡ Some other
      → status_in (bytes_in (s.objects (place_of name).segment)) ≡ Some (status_of name other)
  revealed name other here = status_held accounts s f l name other here

  -- the child that these bytes list
  pub child_revealed : (n : ℕ) (name : ProcName) (other : Process) → f.processes name ≡ Some other
      → child_at (status_of name other).children n
      ≡ option_map (λ (q : Process). record {
        number = n;
        container = (place_of (n ∷ name)).container;
        segment = (place_of (n ∷ name)).segment;
      }) (f.processes (n ∷ name))
  child_revealed n name other here = child_is accounts s f l n name other here

module _ {M : Type 0} (accounts : Accounts) (ok : AreAccounts accounts) (old new : KernelModel) (f : Flat) (me : ProcName) (t : ℕ)
    (ready : Ready M accounts (state old) f me t) (call : UnixCall) (result : Result Reply Stopped) where
  abbrev Refined : Type 0
  Refined = Goal accounts f me call old new t ready result

  abbrev process : Process
  process = ready.caller.process

  abbrev calls_to : ProcName → List RawCall
  calls_to name = search_reads accounts (state old) f me t ready name

  abbrev place : ProcName → Home
  place name = where_is accounts (state old) f ready.represents.matched name

  abbrev status : ProcName → Process → ProcessStatus
  status name other = status_of accounts (state old) f me t ready name other

  abbrev read : ProcName → RawCall
  read name = read_of accounts (state old) f me t ready name

  -- the call is refused with this errno, and these are its raw calls
  abbrev pub IsRefusedBy : Errno → List Step → Type 0
  IsRefusedBy errno steps =
      (refused accounts f me process call ≡ Some errno)
      × AreItsCalls accounts f me call old new t ready steps (Refused errno)

  -- where the search for the process has a reason, that is the call's
  abbrev pub Explains : ProcName → Type 0
  Explains name =
      (reason : Reason) → why_not_found accounts f process name ≡ Some reason → why accounts f me process call ≡ Some reason

  -- where the search for the process is refused, so is the call, once the reads of the way are made, and the reason is that of the search
  abbrev pub Refuses : ProcName → Type 0
  Refuses name =
      ((errno : Errno) → not_found f process name ≡ Some errno → (steps : List Step)
      → AreAmong (calls_to name) (entries_of old.line t steps) → EndWith errno (calls_to name) steps → IsRefusedBy errno steps)
      × Explains name

  -- the read of a process segment is on what the reason names that the process is not seen
  read_named : (name : ProcName) (other : Process) → f.processes name ≡ Some other → (job : ProcName)
      → why accounts f me process call ≡ Some (IsUnseen name job) → IsDenialNamed accounts f me call old new t ready (read name)
  read_named name other here job is =
      named_by accounts (state old) f me process call (read name) (IsUnseen name job) is
      ((place name).container, (place name).segment, led_to accounts (state old) f ready.represents.matched name other here, refl)

  -- where the process is found, the call goes on with its home and the status in its process segment
  abbrev pub GoesOn : ProcName → (Home → ProcessStatus → Program) → Type 0
  GoesOn name rest =
      not_found f process name ≡ None → (other : Process) → f.processes name ≡ Some other → sees process other ≡ true
      → (mid : KernelModel) → state mid ≡ state old → Chain old t (all_granted (calls_to name)) mid
      → Runs M (rest (place name) (status name other)) mid new t result → Refined

  -- a process segment is read after these raw calls
  pub status_step : (name : ProcName) (other : Process) → f.processes name ≡ Some other
      → (before : List RawCall) (mid : KernelModel) → state mid ≡ state old → Chain old t (all_granted before) mid
      → (rest : ProcessStatus → Program) → Runs M (read_status (place name) rest) mid new t result
      → (sees process other ≡ false → IsRefusedBy EACCES (all_granted before ++ (read name, Some Observe) ∷ []))
      → (sees process other ≡ false → IsDenialNamed accounts f me call old new t ready (read name))
      → (sees process other ≡ true → (later : KernelModel) → state later ≡ state old
      → Chain old t (all_granted (before ++ read name ∷ [])) later
      → Runs M (rest (status name other)) later new t result → Refined) → Refined
  unfolding read_status
  status_step name other here before mid stays chain rest run refuses named go_on = by (sees process other) refl
    where
      said : (b : Bool) → sees process other ≡ b → check (state mid) t (read name) ≡ unless b Observe
      said b is =
          ap (λ (s : State). check s t (read name)) stays
          ∙ read_said accounts (state old) f ready.represents.matched name other here me process t
          (runs_as accounts (state old) f me t ready) ∙ ap (λ (b : Bool). unless b Observe) is

      by : (b : Bool) → sees process other ≡ b → Refined
      by false is =
          let end = refuses is in
          refused_step accounts f me call old new t ready result before mid chain stays
          EACCES end.0 (read name) _ Observe (said false is) refl refl (named is) end.1 run
      by true is =
          granted_step accounts f me call old new t ready result before mid chain (read name) _ (said true is) run
          (λ later bytes called right longer on.
          let reveals : status_in bytes ≡ Some (status name other) =
          ap status_in (right ∙ ap (λ (s : State). bytes_in (s.objects (place name).segment)) stays)
          ∙ revealed accounts (state old) f me t ready name other here in
          go_on is later (called.state ∙ stays) longer
          (subst (λ (o : Option ProcessStatus). Runs M (if_there ESRCH rest o) later new t result) reveals on))

  -- from a process that was found on to a child of it
  module _ (n : ℕ) (above : ProcName) (rest : Home → ProcessStatus → Program) (refuses : Refuses (n ∷ above))
      (go_on : GoesOn (n ∷ above) rest) (found : not_found f process above ≡ None)
      (parent : Process) (here : f.processes above ≡ Some parent) (mid : KernelModel) (stays : state mid ≡ state old)
      (chain : Chain old t (all_granted (calls_to above)) mid) where
    -- the tests of the next number
    abbrev tests : Option Process → Option Errno
    tests o = unless (is_some o) ESRCH orelse unless (is_some_and o (sees process)) EACCES

    tests_are : (o : Option Process) → f.processes (n ∷ above) ≡ o → not_found f process (n ∷ above) ≡ tests o
    tests_are o is = λ i. found i orelse tests (is i)

    -- once the number was looked up
    abbrev at_child : Option Listed → Program
    at_child child = given (must_be_there child) (λ child. read_status (home_of child) (rest (home_of child)))

    enters : (child : Process) → f.processes (n ∷ above) ≡ Some child
        → Runs M (read_status (place (n ∷ above)) (rest (place (n ∷ above)))) mid new t result → Refined
    enters child is on =
        let longer = search_longer accounts (state old) f me t ready n above found true (ap is_some is) in
        status_step (n ∷ above) child is (calls_to above) mid stays chain (rest (place (n ∷ above))) on
        (λ unseen. refuses.0 EACCES (tests_are (Some child) is ∙ ap (λ (b : Bool). unless b EACCES) unseen)
        (all_granted (calls_to above) ++ (read (n ∷ above), Some Observe) ∷ [])
        (subst (λ (calls : List RawCall). AreAmong calls
        (entries_of old.line t (all_granted (calls_to above) ++ (read (n ∷ above), Some Observe) ∷ [])))
        (sym longer) (among_refused old.line t (calls_to above) (read (n ∷ above)) Observe))
        (inr (calls_to above, read (n ∷ above), Observe, longer, refl)))
        (λ unseen.
        let named = unseen_below accounts (state old) f me t ready n above found child is unseen in
        read_named (n ∷ above) child is named.0 (refuses.1 (IsUnseen (n ∷ above) named.0) named.1))
        (λ seen later same further end. go_on (tests_are (Some child) is ∙ ap (λ (b : Bool). unless b EACCES) seen) child is seen later same
        (subst (λ (calls : List RawCall). Chain old t (all_granted calls) later) (sym longer) further) end)

    by_child : (o : Option Process) → f.processes (n ∷ above) ≡ o
        → Runs M (at_child (option_map (λ (q : Process). record {
          number = n;
          container = (place (n ∷ above)).container;
          segment = (place (n ∷ above)).segment;
        }) o)) mid new t result → Refined
    by_child None is on =
        let same = search_longer accounts (state old) f me t ready n above found false (ap is_some is) ∙ append-nil (calls_to above) in
        let end = refuses.0 ESRCH (tests_are None is) (all_granted (calls_to above))
        (subst (λ (calls : List RawCall). AreAmong calls (entries_of old.line t (all_granted (calls_to above))))
        (sym same) (among_granted_all old.line t (calls_to above))) (inl (ap all_granted (sym same), refl)) in
        refused_at_once accounts f me call old new t ready result (calls_to above) mid chain stays
        ESRCH end.0 refl refl end.1 on
    by_child (Some child) is on = enters child is on

    -- the number is looked up in the status of the parent's process segment, and the child's is read
    pub child_step : Runs M (at_child (child_at (status above parent).children n)) mid new t result → Refined
    child_step run =
        by_child (f.processes (n ∷ above)) refl (subst (λ (o : Option Listed). Runs M (at_child o) mid new t result)
        (child_revealed accounts (state old) f me t ready n above parent here) run)

  -- where the search for the parent is refused, so is that for the child
  pub parent_refuses : (n : ℕ) (above : ProcName) → Refuses (n ∷ above) → Refuses above
  parent_refuses n above refuses = (
    λ errno is steps among end.
        refuses.0 errno (ap (λ (o : Option Errno). o orelse unless (is_some (f.processes (n ∷ above))) ESRCH
        orelse unless (is_some_and (f.processes (n ∷ above)) (sees process)) EACCES) is) steps
        (subst (λ (calls : List RawCall). AreAmong calls (entries_of old.line t steps))
        (sym (search_stopped accounts (state old) f me t ready n above errno is)) among)
        (subst (λ (calls : List RawCall). EndWith errno calls steps)
        (sym (search_stopped accounts (state old) f me t ready n above errno is)) end),
    λ reason is.
        refuses.1 reason (ap (λ (o : Option Reason). o orelse unless (is_some (f.processes (n ∷ above))) (NoProcess (n ∷ above))
        orelse not_seen accounts f process (n ∷ above) (f.processes (n ∷ above))) is),
  )

  -- The way to a process: it is refused as the flat rules refuse the call, or the call goes on with the process.
  pub search_step : (name : ProcName) (rest : Home → ProcessStatus → Program)
      → Runs M (find_home (roots_of (length accounts.users)).home name (λ home. read_status home (rest home))) old new t
      result → Refuses name → GoesOn name rest → Refined
  unfolding find_home
  search_step [] rest run refuses go_on =
      let first = first_there accounts (state old) f me t ready in
      status_step [] first.0 first.1 [] old refl (same_kernel old) (rest (place []))
      (subst (λ (home : Home). Runs M (read_status home (rest home)) old new t result)
      (first_place accounts (state old) f ready.represents.matched) run)
      (λ unseen. absurd (true≢false (sym first.2 ∙ unseen)))
      (λ unseen. absurd (true≢false (sym first.2 ∙ unseen)))
      (λ seen later stays chain on. go_on refl first.0 first.1 seen later stays chain on)
  search_step (n ∷ above) rest run refuses go_on =
      search_step above (λ home status. given (must_be_there (child_at status.children n))
      (λ child. read_status (home_of child) (rest (home_of child)))) run (parent_refuses n above refuses)
      (λ found parent here seen mid stays chain on. child_step n above rest refuses go_on found parent here mid stays chain on)
