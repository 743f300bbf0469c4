-- A login refines its rule: the gate keeps out processes in a job; else its raw calls are granted, and it ends as the user or as it was.
use Rattle.std.proofs.Common.{◌≡◌, ℕ, ◌+◌, ◌≤◌, Bool, true, false, List, [], ◌∷◌, ◌++◌, length, Option, None, Some, Result, inl, inr, refl, sym, ap}
use Rattle.std.proofs.Common.{if◌then◌else◌}
use Rattle.std.proofs.Common.{◌∙◌, subst}
use Rattle.std.specs.Prelude.{option_map, is_some}
use Rattle.std.specs.Str.{bytes_eq}
use Rattle.std.proofs.lemmas.Option.{same_Some}
use Rattle.histar_base.specs.Refusals.{◌orelse◌, unless}
use Rattle.histar_flat.specs.declared.calls.User.{User}
use Rattle.histar_flat.specs.declared.calls.UnixCall.{UnixCall}
use Rattle.histar_flat.specs.declared.calls.UnixCall.TheVariants.{Login}
use Rattle.histar_flat.specs.declared.replies.Errno.{Errno}
use Rattle.histar_flat.specs.declared.replies.Errno.TheVariants.{ENOENT, EACCES, EAUTH}
use Rattle.histar_flat.specs.declared.replies.Reply.{Reply}
use Rattle.histar_flat.specs.declared.replies.Reply.TheVariants.{Done, Refused}
use Rattle.histar_flat.specs.Words.{Name, Password, ProcName}
use Rattle.histar_base.specs.Paths.{same}
use Rattle.histar_level.specs.Levels.{Levels}
use Rattle.histar_flat.specs.Accounts.{Accounts, user_named, user_number}
use Rattle.histar_flat.specs.Classes.{Process, is_free}
use Rattle.histar_flat.specs.FlatState.{Flat, is_some_and, with_process}
use Rattle.histar_flat.specs.FlatCalls.{refused}
use Rattle.histar_reasons.specs.Causes.{innermost}
use Rattle.histar_reasons.specs.Reasons.Reason.{NoUser, WrongPassword, IsInJob}
use Rattle.histar_reasons.proofs.Causes.{innermost_agrees}
use Rattle.histar_label.specs.Floors.{join_of, floor_of}
use Rattle.histar_object.specs.Objects.{thread_of, is_thread, label_there, clearance_there, bytes_in}
use Rattle.histar_rules.specs.Rights.{with_label, with_clearance, with_changed}
use Rattle.histar_object.specs.State.{State, with_own}
use Rattle.histar_rules.specs.declared.raw.Denied.TheVariants.{NoThread, Gate}
use Rattle.histar_rules.specs.declared.raw.RawCall.{RawCall}
use Rattle.histar_rules.specs.declared.raw.RawCall.TheVariants.{OwnLabel, SetLabel, SetClearance, Enter, Read}
use Rattle.histar_rules.specs.Rules.{check}
use Rattle.histar_rules.specs.Sound.{root_number}
use Rattle.histar_syscall.specs.KernelModel.{KernelModel, state}
use Rattle.histar_syscall.proofs.Runs.{same_kernel}
use Rattle.histar_programs.specs.declared.call_error.Stopped.{Stopped}
use Rattle.histar_layout.specs.Categories.{owners_of}
use Rattle.histar_programs.specs.Programs.{Program, Runs}
use Rattle.histar_programs.specs.Programs.Program.{Answers}
use Rattle.histar_programs.specs.Parts.{◌>>=◌, ◌>>◌, ask}
use Rattle.histar_programs.specs.declared.caller.Caller.{Caller}
use Rattle.histar_programs.specs.Caller.{caller_at}
use Rattle.histar_programs.specs.Start.{roots_of, owners_label, owners_clearance}
use Rattle.histar_login.specs.Login.{entering, label_if, clearance_if, reply_if, login_at}
use Rattle.histar_programs.specs.Users.{place_of, password_of, gate_of, user_label, user_clearance}
use Rattle.histar_login.specs.Login.{login_as_program}
use Rattle.histar_refinement.specs.Categories.{CategoryName, among}
use Rattle.histar_refinement.specs.Categories.CategoryName.{ReadsProcess, WritesProcess}
use Rattle.histar_refinement.specs.Guards.{Rights, rights_label, rights_clearance}
use Rattle.histar_refinement.specs.Labels.{thread_rights, gate_rights}
use Rattle.histar_refinement.specs.Represents.{ObjectsMatch}
use Rattle.histar_refinement.specs.KeptNames.{RepresentsStill}
use Rattle.histar_refinement.specs.Laws.{RunsAs}
use Rattle.histar_layout.proofs.Declared.{user_range}
use Rattle.histar_refinement.proofs.Agreeing.{thread_found}
use Rattle.histar_refinement.proofs.StatusFound.{thread_back}
use Rattle.histar_refinement.proofs.LeftObjects.{password_found, unnumbered_user}
use Rattle.histar_refinement.proofs.CallerFound.{caller_found}
use Rattle.histar_refinement.proofs.LoginChecks.{more, wanted, limit, entered, as_user, enter_said, read_password_said, user_owns_less, own_owns_less}
use Rattle.histar_refinement.proofs.LoginChecks.{set_label_said, relabelled_state, set_clearance_said}
use Rattle.histar_refinement.proofs.LoggingIn.{still_login}
use Rattle.histar_refinement.proofs.GateLabels.{gate_label_is, gate_clearance_is}
use Rattle.histar_refinement.proofs.CallLabels.{equal_bytes, number_by_place, user_label_is, user_clearance_is}
use Rattle.histar_sim.specs.RawCalls.{is_password_of, logs_in, plain, requests_of, takes_labels_of}
use Rattle.histar_sim.proofs.Requests.{request, all_made, made_to_denial}
use Rattle.histar_sim.proofs.FirstReasons.{value_of, named_by}
use Rattle.histar_sim.proofs.CallErrors.{FollowsFrom, IsDenialNamed, from_each}
use Rattle.histar_sim.proofs.TakenLabels.{labels_taken, labels_back, kept_bytes}
use Rattle.histar_sim.specs.Laws.{LoginRefines}
use Rattle.histar_sim.proofs.Ready.{Ready}
use Rattle.histar_sim.specs.Reads.{AreAmong}
use Rattle.histar_sim.proofs.ReadsByCall.{reads_of_login}
use Rattle.histar_sim.proofs.Chains.{all_granted, entries_of, Chain}
use Rattle.histar_sim.proofs.Steps.{granted_step, refused_step, refused_at_once, answered_step}

-- a process is free exactly if the list of its jobs is empty
free_by_chain : (p : Process) (chain : List ProcName) → p.chain ≡ chain → is_free p ≡ elim chain as (λ _. Bool) [ [] ↦ true | job ∷ jobs ↦ false ]
free_by_chain p chain e = λ i. elim (e i) as (λ _. Bool) [ [] ↦ true | job ∷ jobs ↦ false ]

module _ {M : Type 0} (accounts : Accounts) (name : Name) (password : Password) (me : ProcName) (caller : Caller)
    (old new : KernelModel) (f : Flat) (result : Result Reply Stopped)
    (ready : Ready M accounts (state old) f me caller.thread)
    (found : caller_at (state old) (roots_of (length accounts.users)).home me ≡ Some caller) where
  abbrev t : ℕ
  t = caller.thread

  abbrev p : Process
  p = ready.caller.process

  abbrev l : ObjectsMatch accounts (state old) f
  l = ready.represents.matched

  abbrev call : UnixCall
  call = Login name password

  abbrev Goal : Type 0
  Goal = FollowsFrom M accounts f me call old new t ready.represents result

  runs_as : RunsAs accounts (state old) f l me p t
  runs_as = (ready.caller.agrees, ready.caller.runs, (thread_back accounts (state old) f l me t ready.thread).3)

  -- the numbers of its own two categories
  own_reads : l.category (ReadsProcess me) ≡ caller.read
  own_reads = (caller_found accounts (state old) f l me caller found).1.reads

  own_writes : l.category (WritesProcess me) ≡ caller.write
  own_writes = (caller_found accounts (state old) f l me caller found).1.writes

  -- what the flat rules refuse, in their order
  abbrev refusal : Option User → Bool → Option Errno
  refusal found alone =
      unless (is_some found) ENOENT orelse unless alone EACCES
      orelse unless (is_some_and found (λ (u : User). same u.password password)) EAUTH

  refused_is : (found : Option User) (alone : Bool) → user_named accounts.users name ≡ found → is_free p ≡ alone
      → refused accounts f me p call ≡ refusal found alone
  refused_is found alone named alone_is = λ i. refusal (named i) (alone_is i)

  -- no user has the name
  unknown : place_of accounts.users name ≡ None → Runs M (Answers (Refused ENOENT)) old new t result → Goal
  unknown nowhere runs =
      refused_at_once accounts f me call old new t ready result [] old (same_kernel old) refl ENOENT
      (refused_is None (is_free p) (unnumbered_user accounts name
      (number_by_place accounts name ∙ ap (option_map (λ place. place + 1)) nowhere)) refl) refl refl (
        subst (λ (o : Option ℕ). AreAmong (reads_of_login accounts o false) []) (sym nowhere) tt,
        all_made _ old.line t [] (ap (λ (o : Option ℕ). plain (logs_in accounts l me p name password o)) nowhere),
      ) runs

  module _ (place : ℕ) (at_place : place_of accounts.users name ≡ Some place) where
    numbered : user_number accounts name ≡ Some (place + 1)
    numbered = number_by_place accounts name ∙ ap (option_map (λ place. place + 1)) at_place

    high : place + 1 ≤ length accounts.users
    high = (user_range accounts name (place + 1) numbered).1

    user : (u : User) × (user_named accounts.users name ≡ Some u) × (bytes_in ((state old).objects (password_of (place + 1))) ≡ u.password)
    user = let found = password_found accounts (state old) f l name (place + 1) numbered in (found.0, found.1, ap bytes_in found.2)

    abbrev own : Levels
    own = rights_label l.category (thread_rights accounts me p)

    abbrev clearance : Levels
    clearance = rights_clearance l.category (thread_rights accounts me p)

    thread : (state old).objects t ≡ Some (thread_of own clearance)
    thread = thread_found accounts (state old) f l me p runs_as.0 runs_as.1 t runs_as.2

    -- ---- the labels of the code are those of names

    -- whose categories the user owns
    abbrev owners : List ℕ
    owners = owners_of accounts (place + 1) name

    gate_label : rights_label l.category (gate_rights accounts name (place + 1)) ≡ owners_label owners
    gate_label = sym (gate_label_is accounts l.category l.as_made name (place + 1) high)

    gate_clearance : rights_clearance l.category (gate_rights accounts name (place + 1)) ≡ owners_clearance owners
    gate_clearance = sym (gate_clearance_is accounts l.category l.as_made name (place + 1) high)

    abbrev behind : State
    behind = entered accounts (state old) f l me p t runs_as name (place + 1) numbered

    -- after the gate the password is what it was
    password_then : bytes_in (behind.objects (password_of (place + 1))) ≡ user.0.password
    password_then =
        kept_bytes (state old) t own clearance thread
        (wanted accounts (state old) f l me p t runs_as name (place + 1) numbered)
        (limit accounts (state old) f l me p t runs_as name (place + 1) numbered) (password_of (place + 1)) ∙ user.2

    abbrev process_then : Process
    process_then = as_user accounts (state old) f l me p t runs_as name (place + 1) numbered

    -- ---- the raw calls

    abbrev enters : RawCall
    enters = entering owners (place + 1) own clearance

    abbrev reads : RawCall
    reads = Read root_number (password_of (place + 1))

    asks_said : check (state old) t OwnLabel ≡ None
    asks_said = λ k. unless (is_thread (thread k)) NoThread

    -- the gate lets in exactly the processes in no job
    enters_said : check (state old) t enters ≡ unless (is_free p) Gate
    enters_said =
        (λ k. check (state old) t (Enter root_number (gate_of (place + 1)) (floor_of own (sym gate_label k))
        (join_of clearance (sym gate_clearance k)) own))
        ∙ enter_said accounts (state old) f l me p t runs_as name (place + 1) numbered

    -- after the gate the thread has the labels that the code asks for
    abbrev code_label : Levels
    code_label = floor_of own (owners_label owners)

    abbrev code_clearance : Levels
    code_clearance = join_of clearance (owners_clearance owners)

    entered_is : with_own (state old) t code_label code_clearance ≡ behind
    entered_is = λ k. with_own (state old) t (floor_of own (sym gate_label k)) (join_of clearance (sym gate_clearance k))

    -- the last raw calls, and the reply
    abbrev takes_label : Bool → RawCall
    takes_label right = SetLabel (label_if right caller owners own)

    abbrev takes_clearance : Bool → RawCall
    takes_clearance right = SetClearance (clearance_if right caller owners clearance)

    abbrev taking : Bool → Program
    taking right = ask (takes_label right) (λ _. ask (takes_clearance right) (λ _. Answers (reply_if right)))

    -- all raw calls of a login
    abbrev all_calls : Bool → List RawCall
    all_calls right = OwnLabel ∷ enters ∷ reads ∷ takes_label right ∷ takes_clearance right ∷ []

    -- the read of the password is among them
    among_calls : (right : Bool)
        → AreAmong (reads_of_login accounts (place_of accounts.users name) true)
        (entries_of old.line t (all_granted (all_calls right)))
    among_calls right =
        subst (λ (o : Option ℕ).
        AreAmong (reads_of_login accounts o true) (entries_of old.line t (all_granted (all_calls right))))
        (sym at_place) (inr (inr (inl (refl, tt))))

    -- the requests of the login up to the password, and the labels that the thread takes after it
    asks : requests_of accounts l me p call
        ≡ plain (OwnLabel ∷ enters ∷ reads
        ∷ takes_labels_of accounts l me p (if is_password_of accounts l me p name password then process_then else p))
    asks = λ k. plain (logs_in accounts l me p name password (at_place k))

    asks_by : (right : Bool) → same user.0.password password ≡ right
        → requests_of accounts l me p call
        ≡ plain (OwnLabel ∷ enters ∷ reads ∷ takes_labels_of accounts l me p (if right then process_then else p))
    asks_by right is =
        asks
        ∙ ap (λ (b : Bool). plain (OwnLabel ∷ enters ∷ reads ∷ takes_labels_of accounts l me p (if b then process_then else p)))
        (ap (λ (o : Option User). is_some_and o (λ (u : User). same u.password password)) user.1 ∙ is)

    -- the thread takes the labels of rights that are no more than it has after the gate
    module _ (right : Bool) (r : Rights) (owned : (c : CategoryName) → among r.owned c ≡ true
        → among (more accounts (state old) f l me p t runs_as name (place + 1) numbered).owned c ≡ true)
        (fewer : (c : CategoryName) → among r.tainted c ≡ true → among (thread_rights accounts me p).tainted c ≡ true)
        (as_many : (c : CategoryName) → among (thread_rights accounts me p).tainted c ≡ true
        → among r.tainted c ≡ true)
        (label_is : label_if right caller owners own ≡ rights_label l.category r)
        (clearance_is : clearance_if right caller owners clearance ≡ rights_clearance l.category r)
        (mid : KernelModel) (so_far : Chain old t (all_granted (OwnLabel ∷ enters ∷ reads ∷ [])) mid) (at : state mid ≡ behind) where
      abbrev after_label : State
      after_label = relabelled_state accounts (state old) f l me p t runs_as name (place + 1) numbered r owned fewer as_many

      -- what comes after the labels were taken
      abbrev GoesOn : Type 0
      GoesOn =
          (later : KernelModel) → Chain old t (all_granted (all_calls right)) later
          → state later ≡ with_own (state old) t (rights_label l.category r) (rights_clearance l.category r)
          → Runs M (Answers (reply_if right)) later new t result → Goal

      -- the clearance after the label
      cleared : (labelled : KernelModel)
          → Chain old t (all_granted (OwnLabel ∷ enters ∷ reads ∷ takes_label right ∷ [])) labelled
          → state labelled ≡ after_label
          → Runs M (ask (takes_clearance right) (λ _. Answers (reply_if right))) labelled new t result → GoesOn → Goal
      cleared labelled chain is runs go_on =
          granted_step accounts f me call old new t ready result
          (OwnLabel ∷ enters ∷ reads ∷ takes_label right ∷ []) labelled chain (takes_clearance right)
          (λ _. Answers (reply_if right))
          ((λ k. check (is k) t (SetClearance (clearance_is k)))
          ∙ set_clearance_said accounts (state old) f l me p t runs_as name (place + 1) numbered r owned fewer
          as_many) runs
          (λ later done called revealed longer answers. go_on later longer
          (called.state ∙ (λ k. with_changed (is k) t (with_clearance (clearance_is k)))
          ∙ labels_taken (state old) t (wanted accounts (state old) f l me p t runs_as name (place + 1) numbered)
          (limit accounts (state old) f l me p t runs_as name (place + 1) numbered) (rights_label l.category r)
          (rights_clearance l.category r))
          answers)

      taken : Runs M (taking right) mid new t result → GoesOn → Goal
      taken runs go_on =
          granted_step accounts f me call old new t ready result (OwnLabel ∷ enters ∷ reads ∷ [])
          mid so_far (takes_label right) (λ _. ask (takes_clearance right) (λ _. Answers (reply_if right)))
          ((λ k. check (at k) t (SetLabel (label_is k)))
          ∙ set_label_said accounts (state old) f l me p t runs_as name (place + 1) numbered r owned fewer
          as_many) runs
          (λ labelled done called revealed chain clears.
          cleared labelled chain (called.state ∙ λ k. with_changed (at k) t (with_label (label_is k))) clears go_on)

    -- the program after the gate
    abbrev reading : Program
    reading = ask reads (λ kept. taking (bytes_eq kept password))

    -- the process is in no job
    module _ (in_none : p.chain ≡ []) where
      alone : is_free p ≡ true
      alone = free_by_chain p [] in_none

      -- the labels that the code takes are those of the user's process
      user_takes : user_label caller owners ≡ rights_label l.category (thread_rights accounts me process_then)
      user_takes = sym (user_label_is accounts (state old) f l me caller own_reads own_writes name (place + 1) numbered p.exited p.born)
          ∙ λ k. rights_label l.category (thread_rights accounts me
          (record { user = name; chain = sym in_none k; held = []; exited = p.exited; born = p.born }))

      user_clears : user_clearance caller owners ≡ rights_clearance l.category (thread_rights accounts me process_then)
      user_clears = sym (user_clearance_is accounts (state old) f l me caller own_reads own_writes name (place + 1) numbered p.exited p.born)
          ∙ λ k. rights_clearance l.category (thread_rights accounts me
          (record { user = name; chain = sym in_none k; held = []; exited = p.exited; born = p.born }))

      refused_by : (right : Bool) → same user.0.password password ≡ right → refused accounts f me p call ≡ unless right EAUTH
      refused_by right is = refused_is (Some user.0) true user.1 alone ∙ ap (λ (b : Bool). unless b EAUTH) is

      -- after the gate, by whether the password is right
      ends : (right : Bool) → same user.0.password password ≡ right → (mid : KernelModel)
          → Chain old t (all_granted (OwnLabel ∷ enters ∷ reads ∷ [])) mid → state mid ≡ behind
          → Runs M (taking right) mid new t result → Goal
      ends true is mid so_far at runs =
          taken true (thread_rights accounts me process_then)
          (user_owns_less accounts (state old) f l me p t runs_as name (place + 1) numbered) (λ c e. e) (λ c e. e)
          user_takes user_clears mid so_far at runs
          (λ later chain later_is answers.
          answered_step accounts f me call old new t ready result (all_calls true) later chain Done
          refl (refused_by true is) tt (
            among_calls true,
            all_made _ old.line t (all_calls true) (asks_by true is ∙ λ k.
                plain (OwnLabel ∷ enters ∷ reads ∷ SetLabel (sym user_takes k) ∷ SetClearance (sym user_clears k) ∷ [])),
          )
          (subst (λ (s : State). RepresentsStill ready.represents s (with_process f me process_then)) (sym later_is)
          (still_login accounts (state old) f ready.represents me p runs_as.0 runs_as.1 name
          (ap is_some numbered) t runs_as.2)) answers)
      ends false is mid so_far at runs =
          taken false (thread_rights accounts me p)
          (own_owns_less accounts (state old) f l me p t runs_as name (place + 1) numbered) (λ c e. e) (λ c e. e)
          refl refl mid so_far at runs
          (λ later chain later_is answers.
          refused_at_once accounts f me call old new t ready result (all_calls false) later chain
          (later_is ∙ labels_back (state old) t own clearance thread) EAUTH (refused_by false is)
          refl refl (among_calls false, all_made _ old.line t (all_calls false) (asks_by false is)) answers)

      -- the password is read
      from_gate : (inside : KernelModel) → Chain old t (all_granted (OwnLabel ∷ enters ∷ [])) inside
          → state inside ≡ behind → Runs M reading inside new t result → Goal
      from_gate inside chain is runs =
          granted_step accounts f me call old new t ready result (OwnLabel ∷ enters ∷ []) inside
          chain reads (λ kept. taking (bytes_eq kept password))
          (ap (λ (s : State). check s t reads) is ∙ read_password_said accounts (state old) f l me p t runs_as name (place + 1) numbered) runs
          (λ read kept called kept_is longer goes.
          let kept_so : kept ≡ user.0.password = kept_is ∙ ap (λ (s : State). bytes_in (s.objects (password_of (place + 1)))) is ∙ password_then in
          ends (bytes_eq kept password)
          (sym (ap (λ (bytes : List ℕ). bytes_eq bytes password) kept_so ∙ equal_bytes user.0.password password))
          read longer (called.state ∙ is) goes)

      -- the gate lets the thread in
      let_in : (asked : KernelModel) → Chain old t (all_granted (OwnLabel ∷ [])) asked → state asked ≡ state old
          → Runs M (ask enters (λ _. reading)) asked new t result → Goal
      let_in asked chain stays runs =
          granted_step accounts f me call old new t ready result (OwnLabel ∷ []) asked chain enters
          (λ _. reading)
          (ap (λ (s : State). check s t enters) stays ∙ enters_said ∙ ap (λ (b : Bool). unless b Gate) alone) runs
          (λ inside entry called entry_is longer goes.
          from_gate inside longer (called.state ∙ ap (λ (s : State). with_own s t code_label code_clearance) stays ∙ entered_is) goes)

    -- the entry is on what the reason names that the process is in a job
    kept_out_named : is_free p ≡ false → IsDenialNamed accounts f me call old new t ready enters
    kept_out_named jobbed =
        let job = value_of (innermost p) (innermost_agrees p ∙ jobbed) in
        named_by accounts (state old) f me p call enters (IsInJob job.0)
        (λ i. unless (is_some (user.1 i)) (NoUser name) orelse option_map IsInJob (job.1 i)
        orelse unless (is_some_and (user.1 i) (λ (u : User). same u.password password)) (WrongPassword name))
        (place, at_place, (refl, refl))

    -- a process in a job is not let in
    kept_out : is_free p ≡ false → (asked : KernelModel) → Chain old t (all_granted (OwnLabel ∷ [])) asked
        → state asked ≡ state old → Runs M (ask enters (λ _. reading)) asked new t result → Goal
    kept_out jobbed asked chain stays runs =
        refused_step accounts f me call old new t ready result (OwnLabel ∷ []) asked chain stays
        EACCES (refused_is (Some user.0) false user.1 jobbed) enters (λ _. reading) Gate
        (ap (λ (s : State). check s t enters) stays ∙ enters_said ∙ ap (λ (b : Bool). unless b Gate) jobbed) refl refl
        (kept_out_named jobbed) (
          subst (λ (o : Option ℕ). AreAmong (reads_of_login accounts o false)
              (entries_of old.line t (all_granted (OwnLabel ∷ []) ++ (enters, Some Gate) ∷ []))) (sym at_place) tt,
          made_to_denial _ old.line t (OwnLabel ∷ []) (request enters) _ Gate asks,
        ) runs

    -- the gate is tried, by the jobs that the process is in
    to_gate : (jobs : List ProcName) → p.chain ≡ jobs → (asked : KernelModel)
        → Chain old t (all_granted (OwnLabel ∷ [])) asked → state asked ≡ state old
        → Runs M (ask enters (λ _. reading)) asked new t result → Goal
    to_gate [] is asked chain stays runs = let_in is asked chain stays runs
    to_gate (job ∷ jobs) is asked chain stays runs = kept_out (free_by_chain p (job ∷ jobs) is) asked chain stays runs

    -- what the program goes on with once it has the thread's own labels
    abbrev with_labels : Levels × Levels → Program
    with_labels own = do
      entry ← ask (entering owners (place + 1) own.0 own.1)
      kept ← ask reads
      ask (SetLabel (label_if (bytes_eq kept password) caller owners own.0))
      ask (SetClearance (clearance_if (bytes_eq kept password) caller owners own.1))
      Answers (reply_if (bytes_eq kept password))

    -- a user has the name
    someone : Runs M (login_as_program caller (place + 1) owners password) old new t result → Goal
    unfolding login_as_program
    someone runs =
        granted_step accounts f me call old new t ready result [] old (same_kernel old) OwnLabel with_labels asks_said runs
        (λ asked revealed called reveals chain goes.
        let revealed_is : revealed ≡ (own, clearance) =
        λ k. (
          same_Some revealed.0 own (reveals.0 ∙ ap label_there thread) k,
          same_Some revealed.1 clearance
              (reveals.1 ∙ ap clearance_there thread) k,
        ) in
        to_gate p.chain refl asked chain called.state (subst (λ (x : Levels × Levels). Runs M (with_labels x) asked new t result) revealed_is goes))

  by_place : (o : Option ℕ) → place_of accounts.users name ≡ o → Runs M (login_at accounts caller name password o) old new t result → Goal
  by_place None nowhere runs = unknown nowhere runs
  by_place (Some place) at_place runs = someone place at_place runs

-- The program of `login` refines its rule.
pub login_refines : {M : Type 0} → LoginRefines M
login_refines {M} accounts ok name password me caller old new f result ready found runs =
    from_each M accounts f me (Login name password) old new caller.thread result ready (λ ready.
    by_place accounts name password me caller old new f result ready found (place_of accounts.users name) refl runs)
