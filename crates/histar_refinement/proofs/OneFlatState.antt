-- A state represents at most one flat state, for one naming of its categories.
use Rattle.std.proofs.Common.{◌≡◌, ℕ, ◌+◌, ◌*◌, true, [], ◌∷◌, length, Option, None, Some, refl, sym, ap, ◌∙◌, subst}
use Rattle.std.specs.Prelude.{is_some, option_map, option_and_then}
use Rattle.std.specs.FinMap as map
use Rattle.std.proofs.lemmas.Option.{none-some, same_Some}
use Rattle.histar_flat.specs.Words.{Name, Path, ProcName}
use Rattle.histar_flat.specs.Accounts.{Accounts}
use Rattle.histar_flat.specs.Files.{get}
use Rattle.histar_flat.specs.Classes.{Class, Process}
use Rattle.histar_flat.specs.FlatState.{Node, Content, Flat, is_some_and, is_dir, is_dir_at}
use Rattle.histar_flat.specs.FlatState.Content.{Dir, File}
use Rattle.histar_level.specs.Levels.{Levels}
use Rattle.histar_object.specs.declared.objects.Kind.{Kind}
use Rattle.histar_object.specs.declared.objects.Kind.TheVariants.{Segment, Container, Thread, Gate}
use Rattle.histar_object.specs.Objects.{bytes_in, label_there}
use Rattle.histar_object.specs.State.{State, Found}
use Rattle.histar_layout.specs.Directory.{Entries}
use Rattle.histar_layout.specs.declared.entry.Target.{Target}
use Rattle.histar_layout.specs.declared.entry.Target.TheVariants as targets
use Rattle.histar_layout.proofs.DirectoryLemmas.{same_directory}
use Rattle.histar_layout.specs.Status.{ProcessStatus}
use Rattle.histar_refinement.specs.Categories.{CategoryName, Categories}
use Rattle.histar_refinement.specs.Guards.{guard_label, rights_label}
use Rattle.histar_refinement.specs.Labels.{process_guard, thread_rights}
use Rattle.histar_refinement.specs.Addresses.{AddressNumbers, same_step, address_of, home_address}
use Rattle.histar_refinement.specs.Addresses.Step.{Slash, Listing, Status, Inside, Runner}
use Rattle.histar_refinement.specs.Directories.{both_numbers, target_for, directory_of}
use Rattle.histar_refinement.specs.Agrees.{bare}
use Rattle.histar_refinement.proofs.Expected.{content_kind, home_object, expected}
use Rattle.histar_refinement.specs.Represents.{IsInOrder, IsProcess, ObjectsMatch}
use Rattle.histar_refinement.specs.Laws.{AreAlike}
use Rattle.histar_refinement.specs.Processes.{or_zero, status_by}
use Rattle.histar_refinement.proofs.Steps.{step_tests_equality}
use Rattle.histar_refinement.proofs.Moving.{at_number}
use Rattle.histar_refinement.proofs.Roots.{asked_home}
use Rattle.histar_refinement.proofs.DirectoryLaws.{get_directory}
use Rattle.histar_refinement.proofs.ListedFiles.{leads_at}
use Rattle.histar_refinement.proofs.Making.{entry_leads}
use Rattle.histar_refinement.proofs.Agreeing.{some_of, thread_found, guard_at, path_agrees, root_is_dir, parent_is_dir, some_unless_none}
use Rattle.histar_refinement.proofs.LinesMatched.{leads_to, node_there, holds_directory}
use Rattle.histar_refinement.proofs.SameLines.{listing_in, same_status}
use Rattle.histar_refinement.proofs.StatusMatched.{holds_status}
use Rattle.histar_refinement.proofs.StatusFound.{zero_there, numbered_home, numbered_status, numbered_runner, status_found, status_back}
use Rattle.histar_refinement.proofs.OneChain.{one_chain}
use Rattle.histar_refinement.proofs.OneProcess.{one_user, one_held}
use Rattle.histar_refinement.proofs.OneClass.{one_class}
use Rattle.histar_refinement.proofs.Agreement.{agreement}

-- ---- from an object to what is at its path

-- the content that a kind represents
abbrev content_of : Kind Levels → Content
content_of (Segment bytes) = File bytes
content_of (Container links) = Dir
content_of (Thread clearance) = Dir
content_of (Gate clearance entry) = Dir

content_back : (c : Content) → content_of (content_kind c) ≡ c
content_back Dir = refl
content_back (File bytes) = refl

abbrev kind_there : Found → Kind Levels
kind_there None = Segment []
kind_there (Some o) = o.kind

-- ---- from an entry of a directory to the numbers

-- the number of a file's segment, or of a directory's container
abbrev first_number : Target → ℕ
first_number (targets.File file) = file
first_number (targets.Directory container listing) = container

module _ (number : AddressNumbers) (q : Path) where
  first_of_both : (c k : Option ℕ) (t : Target) → both_numbers c k ≡ Some t → c ≡ Some (first_number t)
  first_of_both None k t e = absurd (none-some t e)
  first_of_both (Some c) None t e = absurd (none-some t e)
  first_of_both (Some c) (Some k) t e = ap (λ (u : Target). Some (first_number u)) (same_Some (targets.Directory c k) t e)

  first_of_file : (c : Option ℕ) (t : Target) → option_map targets.File c ≡ Some t → c ≡ Some (first_number t)
  first_of_file None t e = absurd (none-some t e)
  first_of_file (Some c) t e = ap (λ (u : Target). Some (first_number u)) (same_Some (targets.File c) t e)

  second_of_both : (c k : Option ℕ) (t : Target) → both_numbers c k ≡ Some t → k ≡ Some (listing_in t)
  second_of_both None k t e = absurd (none-some t e)
  second_of_both (Some c) None t e = absurd (none-some t e)
  second_of_both (Some c) (Some k) t e = ap (λ (u : Target). Some (listing_in u)) (same_Some (targets.Directory c k) t e)

  -- where the entry of a path leads is the number of its address
  led_to : (class : Class) (c : Content) (t : Target)
      → target_for number (q, record { class = class; content = c }) ≡ Some t
      → number (address_of q) ≡ Some (first_number t)
  led_to class Dir t e = first_of_both (number (address_of q)) (number (Listing ∷ address_of q)) t e
  led_to class (File bytes) t e = first_of_file (number (address_of q)) t e

-- ---- one state and two flat states that it represents

module _ (accounts : Accounts) (s : State) (f g : Flat) (l : ObjectsMatch accounts s f) (m : ObjectsMatch accounts s g)
    (one_naming : (c : CategoryName) → l.category c ≡ m.category c) where
  same_categories : l.category ≡ m.category
  same_categories = λ i c. one_naming c i

  -- one object is that of one file or directory
  one_entry : (q r : Path) (x y : Node) (o : ℕ) → get f.files q ≡ Some x → get g.files r ≡ Some y
      → l.naming.number (address_of q) ≡ Some o → m.naming.number (address_of r) ≡ Some o → x ≡ y
  one_entry q r x y o at_x at_y here there =
      let a = guard_at accounts s f l q x at_x in
      let b = guard_at accounts s g m r y at_y in
      let objects = sym (path_agrees accounts s f l q x at_x a.0 a.1 o here) ∙ path_agrees accounts s g m r y at_y b.0 b.1 o there in
      let label : guard_label l.category a.0 ≡ guard_label m.category b.0 =
      same_Some (guard_label l.category a.0) (guard_label m.category b.0) (ap label_there objects) in
      let labels : guard_label l.category a.0 ≡ guard_label l.category b.0 =
      label ∙ ap (λ (category : Categories). guard_label category b.0) (sym same_categories) in
      let class : x.class ≡ y.class =
      one_class accounts l.category l.different x.class y.class a.0 b.0 a.1 b.1 labels (l.in_order q x at_x)
      (subst (λ (category : Categories). IsInOrder category y.class) (sym same_categories)
      (m.in_order r y at_y)) in
      let content : x.content ≡ y.content =
      sym (content_back x.content) ∙ ap (λ (found : Found). content_of (kind_there found)) objects
      ∙ content_back y.content in
      λ i. record { class = class i; content = content i }

  -- the path leads to the same in both
  abbrev LeadsAlike : Path → Type 0
  LeadsAlike q = leads_at f.files l.naming.number q ≡ leads_at g.files m.naming.number q

  -- where a path leads to the same numbers, the same file or directory is there
  same_at : (q : Path) → LeadsAlike q → get f.files q ≡ get g.files q
  same_at q alike = by (get f.files q) (get g.files q) refl refl alike
    where
      by : (x y : Option Node) → get f.files q ≡ x → get g.files q ≡ y
          → option_and_then (λ (z : Node). target_for l.naming.number (q, z)) x
          ≡ option_and_then (λ (z : Node). target_for m.naming.number (q, z)) y → x ≡ y
      by None None i j e = refl
      by None (Some y) i j e = absurd (entry_leads accounts s g m q y j (sym e))
      by (Some x) None i j e = absurd (entry_leads accounts s f l q x i e)
      by (Some x) (Some y) i j e =
          let t = some_unless_none (target_for l.naming.number (q, x)) (entry_leads accounts s f l q x i) in
          ap Some (one_entry q q x y (first_number t.0) i j (led_to l.naming.number q x.class x.content t.0 t.1)
          (led_to m.naming.number q y.class y.content t.0 (sym e ∙ t.1)))

  -- a directory that a path leads to in both has the same entries in both
  same_entries : (d : Path) → LeadsAlike d → is_dir_at f d ≡ true → directory_of f.files l.naming.number d ≡ directory_of g.files m.naming.number d
  same_entries d alike dir =
      let dir_too : is_dir_at g d ≡ true = ap (λ (o : Option Node). is_some_and o is_dir) (sym (same_at d alike)) ∙ dir in
      let x = node_there (get f.files d) dir in
      let t = some_unless_none (target_for l.naming.number (d, x.0)) (entry_leads accounts s f l d x.0 x.1) in
      let left : both_numbers (l.naming.number (address_of d)) (l.naming.number (Listing ∷ address_of d)) ≡ Some t.0 =
      sym (leads_to l.naming.number d (get f.files d) dir) ∙ ap (option_and_then (λ (z : Node). target_for l.naming.number (d, z))) x.1 ∙ t.1 in
      let right : both_numbers (m.naming.number (address_of d)) (m.naming.number (Listing ∷ address_of d)) ≡ Some t.0 =
      sym (leads_to m.naming.number d (get g.files d) dir_too) ∙ sym alike ∙ leads_to l.naming.number d (get f.files d) dir ∙ left in
      same_directory (bytes_in (s.objects (listing_in t.0))) (directory_of f.files l.naming.number d) (directory_of g.files m.naming.number d)
      (holds_directory accounts s f l d (listing_in t.0) dir (second_of_both l.naming.number d (l.naming.number (address_of d))
      (l.naming.number (Listing ∷ address_of d)) t.0 left))
      (holds_directory accounts s g m d (listing_in t.0) dir_too (second_of_both m.naming.number d (m.naming.number (address_of d))
      (m.naming.number (Listing ∷ address_of d)) t.0 right))

  -- the entries of a directory lead to the same numbers
  below : (d : Path) → LeadsAlike d → is_dir_at f d ≡ true → (n : Name) → LeadsAlike (n ∷ d)
  below d alike dir n =
      sym (get_directory f.files l.naming.number d n)
      ∙ ap (λ (entries : Entries). map.get entries n) (same_entries d alike dir)
      ∙ get_directory g.files m.naming.number d n

  -- where `/` leads
  led_root : (h : Flat) (k : ObjectsMatch accounts s h)
      → leads_at h.files k.naming.number []
      ≡ Some (targets.Directory (4 + 2 * length accounts.users) (5 + 2 * length accounts.users))
  led_root h k =
      ap (option_and_then (λ (z : Node). target_for k.naming.number ([], z))) (root_is_dir accounts s h k).1
      ∙ (λ i. both_numbers (k.as_booted (Slash ∷ []) (4 + 2 * length accounts.users) refl i)
      (k.as_booted (Listing ∷ Slash ∷ []) (5 + 2 * length accounts.users) refl i))

  -- each path leads to the same in both
  all_alike : (q : Path) → LeadsAlike q
  all_alike [] = led_root f l ∙ sym (led_root g m)
  all_alike (n ∷ d) = by (get f.files (n ∷ d)) (get g.files (n ∷ d)) refl refl (all_alike d)
    where
      by : (x y : Option Node) → get f.files (n ∷ d) ≡ x → get g.files (n ∷ d) ≡ y → LeadsAlike d → LeadsAlike (n ∷ d)
      by None None i j alike =
          ap (option_and_then (λ (z : Node). target_for l.naming.number (n ∷ d, z))) i
          ∙ sym (ap (option_and_then (λ (z : Node). target_for m.naming.number (n ∷ d, z))) j)
      by (Some x) y i j alike = below d alike (parent_is_dir accounts s f l n d x i) n
      by None (Some y) i j alike =
          below d alike
          (ap (λ (o : Option Node). is_some_and o is_dir) (same_at d alike) ∙ parent_is_dir accounts s g m n d y j)
          n

  -- the same file or directory is at each path
  pub same_files : (q : Path) → get f.files q ≡ get g.files q
  same_files q = same_at q (all_alike q)

  -- two processes of one name whose process segment is one object
  module _ (me : ProcName) (p q : Process) (at_p : f.processes me ≡ Some p) (at_q : g.processes me ≡ Some q) (c k : ℕ)
      (home_l : l.naming.number (home_address me) ≡ Some c) (home_m : m.naming.number (home_address me) ≡ Some c)
      (status_l : l.naming.number (Status ∷ home_address me) ≡ Some k)
      (status_m : m.naming.number (Status ∷ home_address me) ≡ Some k) where
    statuses : status_by f.processes l.naming.number me p ≡ status_by g.processes m.naming.number me q
    statuses =
        same_status (bytes_in (s.objects k)) (status_by f.processes l.naming.number me p)
        (status_by g.processes m.naming.number me q) (holds_status accounts s f l me p k at_p status_l)
        (holds_status accounts s g m me q k at_q status_m)

    of_q : IsProcess accounts l.category q
    of_q = subst (λ (category : Categories). IsProcess accounts category q) (sym same_categories) (m.processes me q at_q)

    homes : (h : Flat) (j : ObjectsMatch accounts s h) (x : Process) → h.processes me ≡ Some x
        → j.naming.number (home_address me) ≡ Some c
        → label_there (bare (s.objects c)) ≡ Some (guard_label j.category (process_guard me x))
    homes h j x at home = ap label_there
        (at_number same_step step_tests_equality s j.naming (expected accounts j.category h j.naming.number) (agreement j) (home_address me) c home
        ∙ asked_home accounts j.category h j.naming.number me ∙ ap (home_object accounts j.category me) at)

    guards : guard_label l.category (process_guard me p) ≡ guard_label l.category (process_guard me q)
    guards =
        same_Some (guard_label l.category (process_guard me p)) (guard_label m.category (process_guard me q))
        (sym (homes f l p at_p home_l) ∙ homes g m q at_q home_m)
        ∙ ap (λ (category : Categories). guard_label category (process_guard me q)) (sym same_categories)

    same_exited : p.exited ≡ q.exited
    same_exited = ap (λ (t : ProcessStatus). t.exited) statuses

    rights : p.exited ≡ None → rights_label l.category (thread_rights accounts me p) ≡ rights_label l.category (thread_rights accounts me q)
    rights running =
        let q_runs : q.exited ≡ None = sym same_exited ∙ running in
        let t = some_of (l.naming.number (Runner ∷ Inside ∷ home_address me)) (numbered_runner accounts s f l me p at_p running) in
        let other : m.naming.number (Runner ∷ Inside ∷ home_address me) ≡ Some t.0 =
        zero_there (m.naming.number (Runner ∷ Inside ∷ home_address me)) t.0
        (numbered_runner accounts s g m me q at_q q_runs)
        (sym (ap (λ (x : ProcessStatus). x.thread) statuses) ∙ ap or_zero t.1) in
        same_Some (rights_label l.category (thread_rights accounts me p)) (rights_label m.category (thread_rights accounts me q))
        (ap label_there (sym (thread_found accounts s f l me p at_p running t.0 t.1) ∙ thread_found accounts s g m me q at_q q_runs t.0 other))
        ∙ ap (λ (category : Categories). rights_label category (thread_rights accounts me q)) (sym same_categories)

    one_process : AreAlike (Some p) (Some q)
    one_process = (
      same_exited,
      ap (λ (t : ProcessStatus). t.born) statuses,
      one_chain l.category l.different me p q (l.processes me p at_p).chain of_q.chain guards,
      λ running.
          let q_runs : q.exited ≡ None = sym same_exited ∙ running in (
            one_user accounts l.category l.different me p q running q_runs (l.processes me p at_p) of_q guards (rights running),
            one_held accounts l.category l.different me p q running q_runs (l.processes me p at_p) of_q guards (rights running),
          ),
    )

-- a process that is there in one is there in the other, with the same numbers
found_there : (accounts : Accounts) (s : State) (f g : Flat) (l : ObjectsMatch accounts s f)
    (m : ObjectsMatch accounts s g) (me : ProcName) (p : Process) → f.processes me ≡ Some p
    → (c : ℕ) × (k : ℕ) × (q : Process) × (g.processes me ≡ Some q)
    × (l.naming.number (home_address me) ≡ Some c) × (m.naming.number (home_address me) ≡ Some c)
    × (l.naming.number (Status ∷ home_address me) ≡ Some k) × (m.naming.number (Status ∷ home_address me) ≡ Some k)
found_there accounts s f g l m me p at =
    let c = some_of (l.naming.number (home_address me)) (numbered_home accounts s f l me ∙ ap is_some at) in
    let k = some_of (l.naming.number (Status ∷ home_address me)) (numbered_status accounts s f l me ∙ ap is_some at) in
    let other = status_back accounts s g m me c.0 k.0 (status_found accounts s f l me p c.0 k.0 at c.1 k.1) in
    (c.0, k.0, other.0, other.1, c.1, other.2, k.1, other.3)

-- each process is the same, but for what is not asked of one that has exited
pub same_processes : (accounts : Accounts) (s : State) (f g : Flat) (l : ObjectsMatch accounts s f)
    (m : ObjectsMatch accounts s g) → ((c : CategoryName) → l.category c ≡ m.category c) → (me : ProcName)
    → AreAlike (f.processes me) (g.processes me)
same_processes accounts s f g l m one_naming me = by (f.processes me) (g.processes me) refl refl
  where
    by : (x y : Option Process) → f.processes me ≡ x → g.processes me ≡ y → AreAlike x y
    by None None i j = tt
    by (Some p) y i j =
        let there = found_there accounts s f g l m me p i in
        subst (AreAlike (Some p)) (sym there.3 ∙ j) (one_process accounts s f g l m one_naming me p there.2 i there.3
        there.0 there.1 there.4 there.5 there.6 there.7)
    by None (Some q) i j =
        let there = found_there accounts s g f m l me q j in
        absurd (none-some there.2 (sym i ∙ there.3))
