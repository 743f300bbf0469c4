-- The program of `kill` refines its rule.
use Rattle.std.proofs.Common.{◌≡◌, ℕ, ◌&&◌, ◌||◌, Bool, true, false, List, [], ◌∷◌, ◌++◌, Option, None, Some, Result, inl, inr, refl, sym, ap, ◌∙◌}
use Rattle.std.proofs.Common.{subst, length, if◌then◌else◌}
use Rattle.std.specs.FinSet as set
use Rattle.std.specs.List.{list_all}
use Rattle.std.specs.Prelude.{map}
use Rattle.std.proofs.Math.Bool.{and-false}
use Rattle.histar_base.specs.Refusals.{◌orelse◌, unless}
use Rattle.histar_flat.specs.declared.calls.UnixCall.{UnixCall}
use Rattle.histar_flat.specs.declared.calls.UnixCall.TheVariants as calls
use Rattle.histar_flat.specs.declared.replies.Errno.{Errno}
use Rattle.histar_flat.specs.declared.replies.Errno.TheVariants.{EACCES}
use Rattle.histar_flat.specs.declared.replies.Reply.{Reply}
use Rattle.histar_flat.specs.declared.replies.Reply.TheVariants.{Done}
use Rattle.histar_base.specs.Paths.{same}
use Rattle.histar_level.specs.Levels.{Levels}
use Rattle.histar_flat.specs.Words.{ProcName}
use Rattle.histar_flat.specs.Accounts.{Accounts, user_number, groups_of}
use Rattle.histar_flat.specs.Classes.{Process, is_free, sees}
use Rattle.histar_flat.specs.FlatState.{Flat, without_process}
use Rattle.histar_flat.specs.FlatCalls.{not_found, refused}
use Rattle.histar_flat.proofs.FileLemmas.{same_name_found}
use Rattle.histar_reasons.specs.Reasons.{Reason}
use Rattle.histar_reasons.specs.Reasons.Reason.{IsNoChild}
use Rattle.histar_label.specs.Levels.{is_below, is_below_raised}
use Rattle.histar_object.specs.declared.objects.Kind.TheVariants.{Container}
use Rattle.histar_object.specs.Objects.{Numbers as Links, links_in}
use Rattle.histar_object.specs.State.{State, Found, with_segment_bytes}
use Rattle.histar_container.specs.ObjectsModel.{CutsOff}
use Rattle.histar_container.specs.Tree.{under}
use Rattle.histar_container.proofs.Addresses.{above as not_above}
use Rattle.histar_rules.specs.declared.raw.Denied.TheVariants.{Modify}
use Rattle.histar_rules.specs.declared.raw.RawCall.{RawCall}
use Rattle.histar_rules.specs.declared.raw.RawCall.TheVariants as raw
use Rattle.histar_rules.specs.Rules.{check}
use Rattle.histar_rules.specs.Sound.{root_number}
use Rattle.histar_syscall.specs.KernelModel.{KernelModel, state}
use Rattle.histar_layout.specs.Status.{ProcessStatus, child_at, status_bytes, without_child}
use Rattle.histar_programs.specs.declared.call_error.Stopped.{Stopped}
use Rattle.histar_programs.specs.Programs.{Program, Runs}
use Rattle.histar_programs.specs.Programs.Program.{Answers}
use Rattle.histar_programs.specs.Parts.{ask, given}
use Rattle.histar_process.specs.KillCall.{kill_program}
use Rattle.histar_process.specs.Parts.{find_home, home_of as child_home, must_be_there, read_status}
use Rattle.histar_programs.specs.Start.{roots_of}
use Rattle.histar_refinement.specs.Accounts.{AreAccounts}
use Rattle.histar_refinement.specs.Addresses.{same_step, home_address, home_number}
use Rattle.histar_refinement.specs.Addresses.Step.{Home, Child}
use Rattle.histar_refinement.specs.Categories.{among, booted}
use Rattle.histar_refinement.specs.Categories.CategoryName.{OfBoot, ReadsGroup, WritesGroup, OfJob}
use Rattle.histar_refinement.specs.Guards.{guard_label, rights_label, rights_clearance}
use Rattle.histar_refinement.specs.Labels.{boot_guard, process_guard, reading, writing, owned_as, thread_rights}
use Rattle.histar_refinement.specs.Represents.{ObjectsMatch}
use Rattle.histar_refinement.specs.KeptNames.{RepresentsStill}
use Rattle.histar_refinement.specs.Laws.{RunsAs}
use Rattle.histar_refinement.specs.Processes.{process_bytes, status_by, or_zero}
use Rattle.histar_refinement.proofs.CallerFound.{where_is}
use Rattle.histar_refinement.proofs.CategoryTests.{among-append, among_none}
use Rattle.histar_refinement.proofs.ClassTests.{sees_unguarded, jobs_apart}
use Rattle.histar_refinement.proofs.Killing.{still_left}
use Rattle.histar_refinement.proofs.LeftObjects.{root_found, root_label}
use Rattle.histar_refinement.proofs.RawChecks.{object, unlink_check}
use Rattle.histar_layout.proofs.Declared.{equal_names}
use Rattle.histar_refinement.proofs.Agreeing.{thread_found, step_linked}
use Rattle.histar_refinement.proofs.Steps.{step_tests_equality}
use Rattle.histar_refinement.proofs.Tested.{below_by_names}
use Rattle.std.proofs.lemmas.Option.{same_Some}
use Rattle.histar_sim.specs.RawCalls.{Request, number_at, own_status, plain, requests_of, writes_status}
use Rattle.histar_sim.proofs.Requests.{AreLeft, request, left_allowed, left_by_denial, left_then, all_made, made_to_denial, made_to_end}
use Rattle.histar_sim.proofs.Ready.{Ready}
use Rattle.histar_sim.proofs.FirstReasons.{named_by}
use Rattle.histar_sim.proofs.CallErrors.{IsDenialNamed, from_each}
use Rattle.histar_sim.proofs.Chains.{all_granted, Chain}
use Rattle.histar_sim.proofs.Steps.{Goal, granted_step, refused_step, answered_step}
use Rattle.histar_sim.proofs.Walks.{among_granted_all, among_then, among_also}
use Rattle.histar_sim.specs.Laws.{KillRefines}
use Rattle.histar_sim.proofs.FoundProcesses.{at_container, at_segment, led_to, container_found, observed, modified, unlink_said}
use Rattle.histar_sim.proofs.KilledChild.{killed_bytes, killed_few, thread_then, segment_then, holder_then, linked_then}
use Rattle.histar_sim.proofs.OwnSegment.{write_granted}
use Rattle.histar_sim.proofs.Searches.{Refuses, runs_as, status_of, search_reads, has_search, search_clear, parent_refuses, child_step, search_step}
use Rattle.histar_sim.proofs.Searches.{read_of}

-- the test of names is symmetric
same_turned : (a b : ProcName) → same a b ≡ same b a
same_turned a b = elim (same_name_found a b) [
  | inl e ↦ elim (same_name_found b a) [ inl k ↦ e.0 ∙ sym k.0 | inr k ↦ absurd (k.1 (sym e.1)) ]
  | inr e ↦ elim (same_name_found b a) [ inl k ↦ absurd (e.1 (sym k.1)) | inr k ↦ e.0 ∙ sym k.0 ]
]

-- ---- process 0

-- no process owns the category of boot
owns_no_boot : (accounts : Accounts) (me : ProcName) (p : Process) → among (thread_rights accounts me p).owned OfBoot ≡ false
owns_no_boot accounts me p =
    among-append (owned_as accounts p (user_number accounts p.user)) (map OfJob p.held) OfBoot
    ∙ (λ i. as_user (user_number accounts p.user) i || among_none OfJob OfBoot (λ job. refl) p.held i)
  where
    picked : (free : Bool) (i : ℕ) → among (if free then writing accounts p.user i else []) OfBoot ≡ false
    picked true i = among_none WritesGroup OfBoot (λ g. refl) (groups_of accounts p.user)
    picked false i = refl

    as_user : (number : Option ℕ) → among (owned_as accounts p number) OfBoot ≡ false
    as_user None = refl
    as_user (Some i) =
        among-append (reading accounts p.user i) (if is_free p then writing accounts p.user i else []) OfBoot
        ∙ (λ k. among_none ReadsGroup OfBoot (λ g. refl) (groups_of accounts p.user) k || picked (is_free p) i k)

-- no process may unlink what the root container links
module _ (accounts : Accounts) (s : State) (f : Flat) (l : ObjectsMatch accounts s f) (me : ProcName) (p : Process)
    (t : ℕ) (runs : RunsAs accounts s f l me p t) where
  abbrev own_label : Levels
  own_label = rights_label l.category (thread_rights accounts me p)

  abbrev root_due : Levels
  root_due = guard_label (booted accounts) boot_guard

  abbrev home : ℕ
  home = home_number (length accounts.users)

  root : (links : Links) × (s.objects root_number ≡ object (guard_label (booted accounts) boot_guard) (Container links))
  root = root_found accounts s f l

  root_seen : is_below_raised root_due own_label ≡ true
  root_seen =
      ap (λ (label : Levels). is_below_raised label own_label) (root_label accounts s f l)
      ∙ sees_unguarded accounts me p l.category l.different boot_guard refl

  root_unwritten : is_below own_label root_due ≡ false
  root_unwritten =
      ap (is_below own_label) (root_label accounts s f l)
      ∙ below_by_names l.category l.different boot_guard (thread_rights accounts me p) (jobs_apart accounts me p p.chain (OfBoot ∷ []) (λ job. refl))
      ∙ (λ i. list_all (among []) (map OfJob p.chain) && (owns_no_boot accounts me p i && true)) ∙ and-false (list_all (among []) (map OfJob p.chain))

  home_linked : set.contains root.0 home ≡ true
  home_linked =
      sym (ap (λ (found : Found). set.contains (links_in found) home) root.1)
      ∙ step_linked accounts s f l Home [] root_number home (l.as_booted [] root_number refl)
      (l.as_booted (Home ∷ []) home refl)

  first_kept : check s t (raw.Unlink root_number (home_number (length accounts.users))) ≡ Some Modify
  first_kept =
      unlink_check s t own_label (rights_clearance l.category (thread_rights accounts me p))
      (thread_found accounts s f l me p runs.0 runs.1 t runs.2) root_number root_due root.0 root.1 root_seen home
      home_linked
      ∙ ap (λ (b : Bool). unless (b && is_below_raised root_due own_label) Modify) root_unwritten

module _ {M : Type 0} (accounts : Accounts) (ok : AreAccounts accounts) (old new : KernelModel) (f : Flat) (me : ProcName) (t : ℕ)
    (ready : Ready M accounts (state old) f me t) (result : Result Reply Stopped) where
  abbrev p : Process
  p = ready.caller.process

  abbrev l : ObjectsMatch accounts (state old) f
  l = ready.represents.matched

  abbrev calls_to : ProcName → List RawCall
  calls_to name = search_reads accounts (state old) f me t ready name

  abbrev Refined : ProcName → Type 0
  Refined name = Goal accounts f me (calls.Kill name) old new t ready result

  -- what is left after the search
  abbrev kills : ℕ → ProcName → List Request
  kills n above =
      plain (raw.Unlink (number_at accounts ready.represents.matched (home_address above))
      (number_at accounts ready.represents.matched (home_address (n ∷ above)))
      ∷ writes_status accounts ready.represents.matched above
      (without_child n (own_status accounts ready.represents.matched me ready.caller.process)) ∷ [])

  -- what refuses the search refuses the kill
  kill_refuses : (name : ProcName) → Refuses accounts ok old new f me t ready (calls.Kill name) result name
  kill_refuses [] = (λ errno is steps among end. absurd cc, λ reason is. absurd cc)
  kill_refuses (n ∷ above) = (
    λ errno is steps among end.
        let refuses = ap (λ (o : Option Errno). o orelse unless (same me above) EACCES) is in (
          refuses,
          (
            has_search accounts (state old) f me t ready (n ∷ above) _ among,
            made_to_end _ old.line t errno (calls_to (n ∷ above)) steps _ (kills n above) refuses refl end,
          ),
        ),
    λ reason is. ap (λ (o : Option Reason). o orelse unless (same me above) (IsNoChild (n ∷ above))) is,
  )

  -- process 0 is read, and its container is kept
  kill_of_first : Runs M (kill_program (roots_of (length accounts.users)) []) old new t result → Refined []
  unfolding kill_program find_home
  kill_of_first run =
      let unlinks : RawCall = raw.Unlink root_number (home_number (length accounts.users)) in
      search_step accounts ok old new f me t ready (calls.Kill []) result []
      (λ home status. ask (raw.Unlink root_number (home_number (length accounts.users))) (λ _. Answers Done)) run
      (kill_refuses [])
      (λ found first here seen mid stays chain on.
      refused_step accounts f me (calls.Kill []) old new t ready result (calls_to []) mid chain
      stays EACCES refl unlinks (λ _. Answers Done) Modify
      (ap (λ (s : State). check s t unlinks) stays ∙ first_kept accounts (state old) f l me p t (runs_as accounts (state old) f me t ready)) refl refl
      (named_by accounts (state old) f me p (calls.Kill []) unlinks (IsNoChild []) refl refl) (
        has_search accounts (state old) f me t ready [] _ (among_also old.line t (calls_to []) (calls_to []) ((unlinks, Some Modify) ∷ [])
            (among_granted_all old.line t (calls_to []))),
        made_to_denial _ old.line t (calls_to []) (request unlinks) [] Modify (λ i. request (read_of accounts (state old) f me t ready [])
            ∷ request (raw.Unlink root_number (or_zero (l.as_booted (Home ∷ []) (home_number (length accounts.users)) refl i))) ∷ []),
      ) on)

  -- ---- another process

  module _ (n : ℕ) (above : ProcName) (parent : Process) (here : f.processes above ≡ Some parent) (seen : sees p parent ≡ true) where
    abbrev name : ProcName
    name = n ∷ above

    abbrev call : UnixCall
    call = calls.Kill (n ∷ above)

    -- the container and the process segment of the parent, and the container of the child
    abbrev C : ℕ
    C = (where_is accounts (state old) f ready.represents.matched above).container

    abbrev S : ℕ
    S = (where_is accounts (state old) f ready.represents.matched above).segment

    abbrev o : ℕ
    o = (where_is accounts (state old) f ready.represents.matched (n ∷ above)).container

    abbrev bytes : List ℕ
    bytes = status_bytes (without_child n (status_of accounts (state old) f me t ready above parent))

    abbrev unlinking : RawCall
    unlinking = raw.Unlink C o

    abbrev writing_call : RawCall
    writing_call = raw.Write C S 0 bytes

    abbrev call_error : Program
    call_error = ask writing_call (λ _. Answers Done)

    module _ (found : not_found f p (n ∷ above) ≡ None) (child : Process) (there : f.processes (n ∷ above) ≡ Some child)
        (mid : KernelModel) (stays : state mid ≡ state old)
        (chain : Chain old t (all_granted (calls_to (n ∷ above))) mid) where
      refused_by : (b : Bool) → same above me ≡ b → refused accounts f me p call ≡ unless b EACCES
      refused_by b is = λ i. found i orelse unless ((same_turned me above ∙ is) i) EACCES

      -- where the parent is the process itself, its own segment is written after the child was unlinked
      left_granted : same above me ≡ true
          → AreLeft (requests_of accounts ready.represents.matched me p call) (calls_to name) (request unlinking ∷ request writing_call ∷ [])
      left_granted is =
          let mine : Some p ≡ Some parent =
          sym ready.caller.agrees ∙ ap f.processes (sym (equal_names above me is)) ∙ here in
          let itself : own_status accounts l me p ≡ status_of accounts (state old) f me t ready above parent =
          (λ i. status_by f.processes l.naming.number (sym (equal_names above me is) i) p)
          ∙ ap (status_by f.processes l.naming.number above) (same_Some p parent mine) in
          left_allowed _ (calls_to name) _ (kills n above) (refused_by true is) refl
          ∙ ap (λ (status : ProcessStatus). plain (calls_to name) ++ request unlinking
          ∷ request (writes_status accounts l above (without_child n status)) ∷ []) itself

      -- the raw call is on what the reason names that the process is no child of the caller
      unlinking_named : same above me ≡ false → IsDenialNamed accounts f me call old new t ready unlinking
      unlinking_named is =
          let clear = search_clear accounts (state old) f me t ready (n ∷ above) found in
          named_by accounts (state old) f me p call unlinking (IsNoChild name)
          (λ i. clear i orelse unless ((same_turned me above ∙ is) i) (IsNoChild name)) (
            C,
            S,
            o,
            (where_is accounts (state old) f l name).segment,
            led_to accounts (state old) f l above parent here,
            led_to accounts (state old) f l name child there,
            refl,
          )

      -- the kernel's check is the flat rule
      said : (b : Bool) → same above me ≡ b → check (state mid) t unlinking ≡ unless b Modify
      said b is =
          ap (λ (s : State). check s t unlinking) stays
          ∙ unlink_said accounts (state old) f l above parent here me p t (runs_as accounts (state old) f me t ready)
          seen (Child n) o (at_container accounts (state old) f l name child there)
          ∙ ap (λ (b : Bool). unless b Modify) is

      module _ (mine : same above me ≡ true) (cut : KernelModel) (cuts : CutsOff (state old) C o (state cut))
          (so_far : Chain old t (all_granted (calls_to name ++ unlinking ∷ [])) cut) where
        -- the caller is not below its child
        outside : under same_step (home_address (n ∷ above)) (home_address me) ≡ false
        outside =
            ap (λ (x : ProcName). under same_step (home_address (n ∷ above)) (home_address x))
            (sym (equal_names above me mine))
            ∙ not_above same_step step_tests_equality (home_address above) (Child n)

        abbrev own : Levels
        own = rights_label l.category (thread_rights accounts me p)

        abbrev clearance : Levels
        clearance = rights_clearance l.category (thread_rights accounts me p)

        abbrev due : Levels
        due = guard_label l.category (process_guard above parent)

        write_said : check (state cut) t writing_call ≡ None
        write_said =
            let runs = runs_as accounts (state old) f me t ready in
            write_granted (state cut) t C S own clearance due
            (set.remove (container_found accounts (state old) f l above parent here).0 o)
            (process_bytes f.processes l.naming.number above parent)
            (thread_then accounts (state old) f l above parent here n child there me p t runs outside (state cut) cuts)
            (holder_then accounts (state old) f l above parent here n child there me p t runs outside (state cut) cuts)
            (segment_then accounts (state old) f l above parent here n child there me p t runs outside (state cut) cuts)
            (observed accounts (state old) f l above parent here me p ∙ seen)
            (modified accounts (state old) f l above parent here me p ready.caller.agrees seen ∙ mine)
            (linked_then accounts (state old) f l above parent here n child there me p t runs outside (state cut) cuts)
            bytes (killed_few accounts (state old) f l above parent here n)

        matched_after : RepresentsStill ready.represents (with_segment_bytes (state cut) S bytes) (without_process f name)
        matched_after =
            subst (λ (b : List ℕ). RepresentsStill ready.represents (with_segment_bytes (state cut) S b) (without_process f name))
            (sym (killed_bytes accounts (state old) f l above parent here n))
            (still_left accounts (state old) f l above parent here n C S o
            (at_container accounts (state old) f l above parent here)
            (at_segment accounts (state old) f l above parent here)
            (at_container accounts (state old) f l name child there)
            (state cut) cuts ready.represents.jobs_given)

        -- the parent's segment is written, and the call is answered
        written : Runs M call_error cut new t result → Refined name
        written on =
            granted_step accounts f me call old new t ready result (calls_to name ++ unlinking ∷ [])
            cut so_far writing_call (λ _. Answers Done) write_said on
            (λ end done wrote right whole last.
            let all = (calls_to name ++ unlinking ∷ []) ++ writing_call ∷ [] in
            answered_step accounts f me call old new t ready result all end whole Done refl (refused_by true mine) tt (
              has_search accounts (state old) f me t ready name _
                  (among_then old.line t (calls_to name) (calls_to name ++ unlinking ∷ []) (writing_call ∷ [])
                  (among_then old.line t (calls_to name) (calls_to name) (unlinking ∷ [])
                  (among_granted_all old.line t (calls_to name)))),
              all_made _ old.line t all (left_then _ (calls_to name ++ unlinking ∷ []) writing_call []
                  (left_then _ (calls_to name) unlinking (request writing_call ∷ []) (left_granted mine))),
            )
            (subst (λ (s : State). RepresentsStill ready.represents s (without_process f name)) (sym wrote.state) matched_after) last)

      by_kin : (b : Bool) → same above me ≡ b → Runs M (ask unlinking (λ _. call_error)) mid new t result → Refined name
      by_kin false is on =
          refused_step accounts f me call old new t ready result (calls_to name) mid chain stays
          EACCES (refused_by false is) unlinking (λ _. call_error) Modify (said false is) refl refl (unlinking_named is) (
            has_search accounts (state old) f me t ready name _ (among_also old.line t (calls_to name) (calls_to name)
                ((unlinking, Some Modify) ∷ []) (among_granted_all old.line t (calls_to name))),
            made_to_denial _ old.line t (calls_to name) (request unlinking) _ Modify
                (left_by_denial _ (calls_to name) _ EACCES (kills n above) (refused_by false is) refl refl),
          ) on
      by_kin true is on =
          granted_step accounts f me call old new t ready result (calls_to name) mid chain unlinking
          (λ _. call_error) (said true is) on
          (λ cut done called right so_far rest. written is cut (subst (λ (s : State). CutsOff s C o (state cut)) stays called.state) so_far rest)

  -- the parent is found, then the child, which is killed
  kill_is_refined : (n : ℕ) (above : ProcName)
      → Runs M (kill_program (roots_of (length accounts.users)) (n ∷ above)) old new t result → Refined (n ∷ above)
  unfolding kill_program
  kill_is_refined n above run =
      search_step accounts ok old new f me t ready (calls.Kill (n ∷ above)) result above
      (λ home status. given (must_be_there (child_at status.children n))
      (λ child. read_status (child_home child) (λ _. ask (raw.Unlink home.container child.container) (λ _.
      ask (raw.Write home.container home.segment 0 (status_bytes (without_child n status)))
      (λ _. Answers Done))))) run
      (parent_refuses accounts ok old new f me t ready (calls.Kill (n ∷ above)) result n above (kill_refuses (n ∷ above)))
      (λ found parent here seen mid stays chain on.
      child_step accounts ok old new f me t ready (calls.Kill (n ∷ above)) result n above
      (λ place status. ask (raw.Unlink (where_is accounts (state old) f l above).container place.container)
      (λ _. call_error n above parent here seen))
      (kill_refuses (n ∷ above))
      (λ child_found child there sees_child mid stays chain on.
      by_kin n above parent here seen child_found child there mid stays chain (same above me) refl on)
      found parent here mid stays chain on)

-- the program of `kill` refines its rule
pub kill_refines : {M : Type 0} → KillRefines M
kill_refines {M} accounts ok [] me old new f t result ready run =
    from_each M accounts f me (calls.Kill []) old new t result ready (λ ready.
    kill_of_first accounts ok old new f me t ready result run)
kill_refines {M} accounts ok (n ∷ above) me old new f t result ready run =
    from_each M accounts f me (calls.Kill (n ∷ above)) old new t result ready (λ ready.
    kill_is_refined accounts ok old new f me t ready result n above run)
