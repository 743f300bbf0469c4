-- The kernel's checks of the raw calls of a login: the user's gate lets in exactly the processes in no job; after it the password is read,
-- and the thread may take the labels of any rights that are no more than it has there.
use Rattle.std.proofs.Common.{◌≡◌, ◌≢◌, ℕ, ◌≤◌, Bool, true, false, ◌&&◌, List, [], ◌∷◌, ◌++◌, length, Option, None, Some, arith, refl, sym, ap, ◌∙◌}
use Rattle.std.proofs.Common.{subst, if◌then◌else◌}
use Rattle.std.specs.Prelude.{map, option_map}
use Rattle.std.specs.List.{list_all}
use Rattle.std.specs.FinSet as set
use Rattle.std.proofs.lemmas.Bool.{and_from, or_left}
use mathlib.Core.Bool.{true≢false}
use Rattle.histar_base.specs.Refusals.{◌orelse◌, unless}
use Rattle.histar_flat.specs.Words.{Name, ProcName}
use Rattle.histar_flat.specs.Accounts.{Accounts, user_number, groups_of}
use Rattle.histar_flat.specs.Classes.{Process, is_free}
use Rattle.histar_flat.specs.FlatState.{Flat}
use Rattle.histar_label.specs.Floors.{floor_of, join_of}
use Rattle.histar_level.specs.Levels.{Levels}
use Rattle.histar_label.specs.Levels.{is_below, is_below_raised, is_below_join}
use Rattle.histar_label.proofs.Floors.{grades-join_of}
use Rattle.histar_label.proofs.Orders.{is_below-law, is_below_join-law, is_below_join_raised-law, is_below-refl}
use Rattle.histar_object.specs.declared.objects.Entry.TheVariants.{Login}
use Rattle.histar_object.specs.declared.objects.Kind.TheVariants.{Segment, Container, Thread, Gate}
use Rattle.histar_object.specs.Objects.{links_in, is_thread, is_gate, thread_of}
use Rattle.histar_rules.specs.Rights.{with_label, with_changed, is_let_in, is_own_below, in_gate, may_clear}
use Rattle.histar_object.specs.State.{State, Found, in_range, with_own}
use Rattle.histar_container.proofs.TableMoves.{put_here, put_other, changed_here}
use Rattle.histar_rules.specs.declared.raw.Denied.TheVariants as denials
use Rattle.histar_rules.specs.declared.raw.RawCall.TheVariants.{Enter, Read, SetLabel, SetClearance}
use Rattle.histar_rules.specs.Rules.{no_link, known, check}
use Rattle.histar_rules.specs.Sound.{root_number}
use Rattle.histar_programs.specs.Users.{password_of, gate_of}
use Rattle.histar_layout.specs.Labelling.{cleared_at}
use Rattle.histar_refinement.specs.Categories.{CategoryName, IsUsed, booted, among}
use Rattle.histar_refinement.specs.Categories.CategoryName.{ReadsUser, WritesUser, ReadsGroup, WritesGroup, ReadsProcess, WritesProcess, OfJob}
use Rattle.histar_refinement.specs.Guards.{Rights, guard_label, rights_label, rights_clearance}
use Rattle.histar_refinement.specs.Labels.{boot_guard, private_guard, gate_rights, reading, writing, owned_as, thread_rights}
use Rattle.histar_refinement.specs.Represents.{ObjectsMatch}
use Rattle.histar_refinement.specs.Laws.{RunsAs}
use Rattle.histar_refinement.proofs.AmongNames.{covers, in_first, in_second, at_head, later, each_head, each_append}
use Rattle.histar_layout.proofs.Declared.{user_range}
use Rattle.histar_refinement.proofs.Tested.{AreMade, observes_by_names, rights_by_names, capped_by_names, clearances_by_names, rights_made}
use Rattle.histar_refinement.proofs.Tested.{clearance_made}
use Rattle.histar_refinement.proofs.ClassTests.{user_apart, sees_unguarded}
use Rattle.histar_refinement.proofs.Ranges.{let_in, floor_behind, join_behind}
use Rattle.histar_refinement.proofs.Uses.{group_among, groups_within, rights_used}
use Rattle.histar_refinement.proofs.RawChecks.{object, link_passes, read_check, or_none}
use Rattle.histar_refinement.proofs.Agreeing.{thread_found}
use Rattle.histar_refinement.proofs.LeftObjects.{root_found, root_label, password_found, gate_found, password_linked, gate_linked}

module _ (accounts : Accounts) (s : State) (f : Flat) (l : ObjectsMatch accounts s f) (me : ProcName) (p : Process)
    (t : ℕ) (runs : RunsAs accounts s f l me p t) (name : Name) (i : ℕ) (numbered : user_number accounts name ≡ Some i)
  where
    abbrev mine : Rights
    mine = thread_rights accounts me p

    abbrev gate : Rights
    gate = gate_rights accounts name i

    -- what the thread may have after entering the gate
    abbrev pub more : Rights
    more =
        record {
          owned = (thread_rights accounts me p).owned ++ (gate_rights accounts name i).owned;
          tainted = (thread_rights accounts me p).tainted;
        }

    abbrev pub all_names : List CategoryName
    all_names = ((thread_rights accounts me p).owned ++ (thread_rights accounts me p).tainted) ++ ((gate_rights accounts name i).owned ++ [])

    abbrev own : Levels
    own = rights_label l.category mine

    abbrev own_clearance : Levels
    own_clearance = rights_clearance l.category mine

    -- the label and the clearance that the thread asks for at the gate
    abbrev pub wanted : Levels
    wanted = floor_of (rights_label l.category (thread_rights accounts me p)) (rights_label l.category (gate_rights accounts name i))

    abbrev pub limit : Levels
    limit = join_of (rights_clearance l.category (thread_rights accounts me p)) (rights_clearance l.category (gate_rights accounts name i))

    wanted_is : wanted ≡ rights_label l.category more
    wanted_is = floor_behind accounts l.category l.different me p name i

    limit_is : limit ≡ cleared_at (map l.category all_names)
    limit_is = join_behind accounts l.category l.different me p name i

    thread : s.objects t ≡ object own (Thread own_clearance)
    thread = thread_found accounts s f l me p runs.0 runs.1 t runs.2

    -- ---- all names have categories that were made

    used_owned : (c : CategoryName) → among mine.owned c ≡ true → IsUsed accounts f c
    used_owned = (rights_used accounts f me p runs.0).0

    used_tainted : (c : CategoryName) → among mine.tainted c ≡ true → IsUsed accounts f c
    used_tainted = (rights_used accounts f me p runs.0).1

    within : i ≤ length accounts.users
    within = (user_range accounts name i numbered).1

    groups_used : (make : ℕ → CategoryName)
        → ((k : ℕ) → (1 ≤ k) × (k ≤ length accounts.groups) → IsUsed accounts f (make k)) → (c : CategoryName)
        → among (map make (groups_of accounts name)) c ≡ true → IsUsed accounts f c
    groups_used make each c e =
        let found = group_among make (groups_of accounts name) c e in subst (IsUsed accounts f) (sym found.1)
        (each found.0 (groups_within accounts name found.0 found.2))

    used_gate : (c : CategoryName) → among gate.owned c ≡ true → IsUsed accounts f c
    used_gate = each_append (IsUsed accounts f) (reading accounts name i) (writing accounts name i)
        (each_head (IsUsed accounts f) (ReadsUser i) (map ReadsGroup (groups_of accounts name)) within (groups_used ReadsGroup (λ k is. is)))
        (each_head (IsUsed accounts f) (WritesUser i) (map WritesGroup (groups_of accounts name)) within (groups_used WritesGroup (λ k is. is)))

    used_more : (c : CategoryName) → among more.owned c ≡ true → IsUsed accounts f c
    used_more = each_append (IsUsed accounts f) mine.owned gate.owned used_owned used_gate

    used_all : (c : CategoryName) → among all_names c ≡ true → IsUsed accounts f c
    used_all = each_append (IsUsed accounts f) (mine.owned ++ mine.tainted) (gate.owned ++ [])
        (each_append (IsUsed accounts f) mine.owned mine.tainted used_owned used_tainted)
        (each_append (IsUsed accounts f) gate.owned [] used_gate (λ c e. absurd (true≢false (sym e))))

    made : (names : List CategoryName) → ((c : CategoryName) → among names c ≡ true → IsUsed accounts f c) → AreMade s.next_category l.category names
    made names used c e = l.made c (used c e)

    own_known : known s own ≡ true
    own_known = rights_made s.next_category l.category mine (made mine.owned used_owned) (made mine.tainted used_tainted)

    wanted_known : known s wanted ≡ true
    wanted_known = ap (known s) wanted_is ∙ rights_made s.next_category l.category more (made more.owned used_more) (made mine.tainted used_tainted)

    limit_known : known s limit ≡ true
    limit_known = ap (known s) limit_is ∙ clearance_made s.next_category l.category all_names (made all_names used_all)

    -- ---- entering the gate

    root_seen : is_below_raised (guard_label (booted accounts) boot_guard) own ≡ true
    root_seen =
        ap (λ (label : Levels). is_below_raised label own) (root_label accounts s f l)
        ∙ sees_unguarded accounts me p l.category l.different boot_guard refl

    among_links : (o : ℕ) → set.contains (links_in (s.objects root_number)) o ≡ true → set.contains (root_found accounts s f l).0 o ≡ true
    among_links o linked = sym (ap (λ (found : Found). set.contains (links_in found) o) (root_found accounts s f l).1) ∙ linked

    gate_is : s.objects (gate_of i) ≡ object (rights_label l.category gate) (Gate (rights_clearance l.category gate) (Login i))
    gate_is = gate_found accounts s f l name i numbered

    found : no_link s t root_number (gate_of i) ≡ None
    found =
        link_passes s t own own_clearance thread root_number (guard_label (booted accounts) boot_guard)
        (root_found accounts s f l).0 (root_found accounts s f l).1 root_seen (gate_of i)
        (among_links (gate_of i) (gate_linked accounts s f l name i numbered))

    lets : is_let_in (s.objects t) (s.objects (gate_of i)) ≡ is_free p
    lets = (λ j. is_let_in (thread j) (gate_is j)) ∙ let_in accounts l.category l.different me p name i

    shows : is_own_below (s.objects t) own ≡ true
    shows = ap (λ (x : Found). is_own_below x own) thread ∙ is_below-refl own

    tainted_within : list_all (among all_names) mine.tainted ≡ true
    tainted_within =
        covers all_names mine.tainted
        (λ c e. in_first (mine.owned ++ mine.tainted) (gate.owned ++ []) c (in_second mine.owned mine.tainted c e))

    below_limit : is_below wanted limit ≡ true
    below_limit = (λ j. is_below (wanted_is j) (limit_is j)) ∙ capped_by_names l.category l.different more all_names ∙ tainted_within

    join_within : is_below_join limit own_clearance (rights_clearance l.category gate) ≡ true
    join_within =
        (is_below_join-law limit own_clearance (rights_clearance l.category gate)).1
        (λ c. omega (arith, grades-join_of own_clearance (rights_clearance l.category gate) c))

    ranges : in_gate (s.objects t) (s.objects (gate_of i)) wanted limit ≡ true
    ranges = (λ j. in_gate (thread j) (gate_is j) wanted limit) ∙ (λ j. is_below-refl wanted j && below_limit j && join_within j)

    -- The gate lets in exactly the processes that are in no job.
    pub enter_said : check s t
        (Enter root_number (gate_of i) wanted limit (rights_label l.category (thread_rights accounts me p)))
        ≡ unless (is_free p) denials.Gate
    enter_said = (λ j. (found j orelse unless (is_gate (gate_is j)) denials.BadKind)
        orelse unless (lets j) denials.Gate
        orelse unless (shows j) denials.Gate
        orelse unless (ranges j) denials.Range
        orelse unless (wanted_known j) denials.Range
        orelse unless (limit_known j) denials.Range
        orelse unless (own_known j) denials.Range)
        ∙ or_none (is_free p) denials.Gate

    -- ---- after the gate was entered

    abbrev pub entered : State
    entered = with_own s t wanted limit

    pub entered_thread : entered.objects t ≡ object wanted (Thread limit)
    entered_thread = put_here s.objects t (thread_of wanted limit)

    not_thread : (q : ℕ) → is_thread (s.objects q) ≡ false → q ≢ t
    not_thread q other e = true≢false (sym (ap (λ (k : ℕ). is_thread (s.objects k)) e ∙ ap is_thread thread) ∙ other)

    entered_root : entered.objects root_number ≡ object (guard_label (booted accounts) boot_guard) (Container (root_found accounts s f l).0)
    entered_root =
        put_other s.objects t (thread_of wanted limit) root_number
        (not_thread root_number (ap is_thread (root_found accounts s f l).1)) ∙ (root_found accounts s f l).1

    abbrev password : Levels
    password = guard_label l.category (private_guard i)

    entered_password : entered.objects (password_of i) ≡ object password (Segment (password_found accounts s f l name i numbered).0.password)
    entered_password =
        put_other s.objects t (thread_of wanted limit) (password_of i)
        (not_thread (password_of i) (ap is_thread (password_found accounts s f l name i numbered).2))
        ∙ (password_found accounts s f l name i numbered).2

    root_seen_then : is_below_raised (guard_label (booted accounts) boot_guard) wanted ≡ true
    root_seen_then =
        (λ j. is_below_raised (root_label accounts s f l j) (wanted_is j))
        ∙ observes_by_names l.category l.different boot_guard more (λ c e. absurd (true≢false (sym e)))

    password_seen : is_below_raised password wanted ≡ true
    password_seen = ap (is_below_raised password) wanted_is ∙ observes_by_names l.category l.different (private_guard i) more (user_apart i)
        ∙ and_from _ _ (or_left (among more.owned (ReadsUser i)) (among more.tainted (ReadsUser i))
        (in_second mine.owned gate.owned (ReadsUser i) (in_first (reading accounts name i) (writing accounts name i) (ReadsUser i)
        (at_head (ReadsUser i) (map ReadsGroup (groups_of accounts name)))))) refl

    -- the password is read
    pub read_password_said : check entered t (Read root_number (password_of i)) ≡ None
    read_password_said =
        read_check entered t wanted limit entered_thread root_number (guard_label (booted accounts) boot_guard)
        (root_found accounts s f l).0 entered_root root_seen_then (password_of i)
        (among_links (password_of i) (password_linked accounts s f l name i numbered)) password
        (password_found accounts s f l name i numbered).0.password entered_password
        ∙ ap (λ b. unless b denials.Observe) password_seen

    -- the process as the user's, in no job and holding none
    abbrev pub as_user : Process
    as_user = record { user = name; chain = p.chain; held = []; exited = p.exited; born = p.born }

    -- as the user's process it has no more rights than the thread has there, and neither has it as it was
    pub user_owns_less : (c : CategoryName) → among (thread_rights accounts me as_user).owned c ≡ true → among more.owned c ≡ true
    user_owns_less =
        each_head (λ c. among more.owned c ≡ true) (ReadsProcess me)
        (WritesProcess me ∷ owned_as accounts as_user (user_number accounts name) ++ [])
        (in_first mine.owned gate.owned (ReadsProcess me) (at_head (ReadsProcess me)
        (WritesProcess me ∷ owned_as accounts p (user_number accounts p.user) ++ map OfJob p.held)))
        (each_head (λ c. among more.owned c ≡ true) (WritesProcess me) (owned_as accounts as_user (user_number accounts name) ++ [])
        (in_first mine.owned gate.owned (WritesProcess me) (later (ReadsProcess me)
        (WritesProcess me ∷ owned_as accounts p (user_number accounts p.user) ++ map OfJob p.held)
        (WritesProcess me)
        (at_head (WritesProcess me) (owned_as accounts p (user_number accounts p.user) ++ map OfJob p.held))))
        (each_append (λ c. among more.owned c ≡ true) (owned_as accounts as_user (user_number accounts name)) []
        (λ c e. in_second mine.owned gate.owned c (of_user (user_number accounts name) numbered c e))
        (λ c e. absurd (true≢false (sym e)))))
      where
        picked : (b : Bool) (c : CategoryName) → among (if b then writing accounts name i else []) c ≡ true → among (writing accounts name i) c ≡ true
        picked true c e = e
        picked false c e = absurd (true≢false (sym e))

        of_number : (c : CategoryName) → among (owned_as accounts as_user (Some i)) c ≡ true → among gate.owned c ≡ true
        of_number = each_append (λ c. among gate.owned c ≡ true) (reading accounts name i) (if is_free p then writing accounts name i else [])
            (in_first (reading accounts name i) (writing accounts name i))
            (λ c e. in_second (reading accounts name i) (writing accounts name i) c (picked (is_free p) c e))

        of_user : (o : Option ℕ) → o ≡ Some i → (c : CategoryName) → among (owned_as accounts as_user o) c ≡ true → among gate.owned c ≡ true
        of_user o is =
            subst (λ (x : Option ℕ).
            (c : CategoryName) → among (owned_as accounts as_user x) c ≡ true → among gate.owned c ≡ true) (sym is)
            of_number

    pub own_owns_less : (c : CategoryName) → among (thread_rights accounts me p).owned c ≡ true → among more.owned c ≡ true
    own_owns_less = in_first mine.owned gate.owned

    -- Rights that are no more than the thread has after the gate, with the jobs that it is in: its own rights, and those as the user.
    module _ (r : Rights) (owned : (c : CategoryName) → among r.owned c ≡ true → among more.owned c ≡ true)
        (fewer : (c : CategoryName) → among r.tainted c ≡ true → among mine.tainted c ≡ true)
        (as_many : (c : CategoryName) → among mine.tainted c ≡ true → among r.tainted c ≡ true) where
      abbrev label : Levels
      label = rights_label l.category r

      abbrev clearance : Levels
      clearance = rights_clearance l.category r

      below_label : is_below wanted label ≡ true
      below_label =
          ap (λ (x : Levels). is_below x label) wanted_is
          ∙ rights_by_names l.category l.different more r (covers r.tainted mine.tainted as_many)
          (covers more.owned r.owned owned)

      label_below : is_below label limit ≡ true
      label_below = ap (is_below label) limit_is ∙ capped_by_names l.category l.different r all_names
          ∙ covers all_names r.tainted (λ c e. in_first (mine.owned ++ mine.tainted) (gate.owned ++ []) c
          (in_second mine.owned mine.tainted c (fewer c e)))

      used_r : (c : CategoryName) → among r.owned c ≡ true → IsUsed accounts f c
      used_r c e = used_more c (owned c e)

      label_known : known s label ≡ true
      label_known = rights_made s.next_category l.category r (made r.owned used_r) (made r.tainted (λ c e. used_tainted c (fewer c e)))

      clearance_known : known s clearance ≡ true
      clearance_known =
          clearance_made s.next_category l.category (r.owned ++ r.tainted)
          (made (r.owned ++ r.tainted)
          (each_append (IsUsed accounts f) r.owned r.tainted used_r (λ c e. used_tainted c (fewer c e))))

      -- the thread takes the label of these rights
      pub set_label_said : check entered t (SetLabel (rights_label l.category r)) ≡ None
      set_label_said = λ j. unless (is_thread (entered_thread j)) denials.NoThread
          orelse unless ((ap (λ (x : Found). in_range x label) entered_thread ∙ and_from _ _ below_label label_below) j) denials.Range
          orelse unless (label_known j) denials.Range

      abbrev pub relabelled_state : State
      relabelled_state = with_changed entered t (with_label (rights_label l.category r))

      relabelled_thread : relabelled_state.objects t ≡ object label (Thread limit)
      relabelled_thread = changed_here entered.objects t (with_label label) ∙ ap (option_map (with_label label)) entered_thread

      in_all : (c : CategoryName) → among (r.owned ++ r.tainted) c ≡ true → among all_names c ≡ true
      in_all = each_append (λ c. among all_names c ≡ true) r.owned r.tainted
          (λ c e. each_append (λ d. among all_names d ≡ true) mine.owned gate.owned
          (λ d k. in_first (mine.owned ++ mine.tainted) (gate.owned ++ []) d (in_first mine.owned mine.tainted d k))
          (λ d k. in_second (mine.owned ++ mine.tainted) (gate.owned ++ []) d (in_first gate.owned [] d k)) c (owned c e))
          (λ c e. in_first (mine.owned ++ mine.tainted) (gate.owned ++ []) c (in_second mine.owned mine.tainted c (fewer c e)))

      clearance_below : is_below clearance limit ≡ true
      clearance_below = ap (is_below clearance) limit_is
          ∙ clearances_by_names l.category l.different r
          (record { owned = mine.owned ++ mine.tainted; tainted = gate.owned ++ [] })
          (covers all_names (r.owned ++ r.tainted) in_all)

      clears : may_clear (relabelled_state.objects t) clearance ≡ true
      clears = ap (λ (x : Found). may_clear x clearance) relabelled_thread ∙ and_from _ _
          (capped_by_names l.category l.different r (r.owned ++ r.tainted) ∙ covers (r.owned ++ r.tainted) r.tainted (in_second r.owned r.tainted))
          ((is_below_join_raised-law clearance limit label).1
          (λ q. let under = (is_below-law clearance limit).0 clearance_below q in omega (arith, under)))

      -- after that the thread may set the clearance of these rights
      pub set_clearance_said : check relabelled_state t (SetClearance (rights_clearance l.category r)) ≡ None
      set_clearance_said = λ j. unless (is_thread (relabelled_thread j)) denials.NoThread
          orelse unless (clears j) denials.Range
          orelse unless (clearance_known j) denials.Range
