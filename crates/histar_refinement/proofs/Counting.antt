-- A category is counted, and has a name from then on: the state still represents the same flat state.
use Rattle.std.proofs.Common.{◌≡◌, ℕ, ◌≤◌, inl, inr, Bool, true, false, ◌&&◌, cond, [], ◌∷◌, length, Option, None, Some, arith, refl, sym, ap, ◌∙◌}
use Rattle.std.proofs.Common.{subst}
use Rattle.std.specs.Prelude.{is_some, nat_le}
use Rattle.std.proofs.lemmas.Bool.Decides.{nat_tests}
use Rattle.std.proofs.lemmas.Option.{none-some}
use Rattle.std.proofs.lemmas.Bool.{or_left, or_right}
use Rattle.histar_flat.specs.Words.{Path, ProcName}
use Rattle.histar_flat.specs.Files.{get}
use Rattle.histar_layout.specs.Directory.{spelling}
use Rattle.histar_object.specs.State.{State}
use Rattle.histar_container.specs.Tree.{Address}
use Rattle.histar_rules.specs.Rules.{greatest}
use Rattle.histar_programs.specs.Start.{boot_thread_number}
use Rattle.histar_flat.specs.Accounts.{Accounts, has}
use Rattle.histar_flat.specs.Classes.{Class, Process}
use Rattle.histar_flat.specs.Classes.Class.{Private, Readable, Open, Scratch, Grouped}
use Rattle.histar_flat.specs.FlatState.{Node, Flat}
use Rattle.histar_refinement.specs.Categories.{CategoryName, Categories, naming_next, boot_category, is_for, IsUsed}
use Rattle.histar_refinement.specs.Categories.CategoryName.{OfBoot, ReadsUser, WritesUser, ReadsGroup, WritesGroup, ReadsProcess, WritesProcess}
use Rattle.histar_refinement.specs.Categories.CategoryName.{OfJob}
use Rattle.histar_refinement.specs.Addresses.{Step, same_step}
use Rattle.histar_refinement.specs.Directories.{directory_of}
use Rattle.histar_refinement.specs.Processes.{process_bytes}
use Rattle.histar_refinement.proofs.Expected.{status_object, bytes_for, expected}
use Rattle.histar_programs.specs.Start.{segment}
use Rattle.histar_refinement.specs.Represents.{IsInOrder, IsProcess, ObjectsMatch}
use Rattle.histar_layout.proofs.Members.{first_of, second_of}
use Rattle.histar_refinement.proofs.Growing.{new_number, old_number, still_different}
use Rattle.histar_refinement.proofs.Roots.{asked_alike}
use Rattle.histar_refinement.proofs.Moving.{agrees_same}
use Rattle.histar_refinement.proofs.Uses.{keep_node, keep_listing, keep_process_label, keep_home, keep_inside, keep_runner, keep_order}
use Rattle.histar_refinement.proofs.Agreement.{agreement, as_asked}

module _ (accounts : Accounts) (f : Flat) (first : is_some (f.processes []) ≡ true) where
  -- boot's names are used
  tested : (b : Bool) (x q : ℕ) → cond b (Some x) None ≡ Some q → b ≡ true
  tested true x q e = refl
  tested false x q e = absurd (none-some q e)

  pub boot_used : (c : CategoryName) (q : ℕ) → boot_category accounts c ≡ Some q → IsUsed accounts f c
  boot_used OfBoot q e = tt
  boot_used (ReadsUser i) q e = let t = tested (nat_le i (length accounts.users)) _ q e in grind (arith, nat_tests, t)
  boot_used (WritesUser i) q e = let t = tested (nat_le i (length accounts.users)) _ q e in grind (arith, nat_tests, t)
  boot_used (ReadsGroup k) q e =
      let t = tested (nat_le 1 k && nat_le k (length accounts.groups)) _ q e in
      let low : nat_le 1 k ≡ true = first_of (nat_le 1 k) (nat_le k (length accounts.groups)) t in
      let high : nat_le k (length accounts.groups) ≡ true = second_of (nat_le 1 k) (nat_le k (length accounts.groups)) t in
      (grind (arith, nat_tests, low), grind (arith, nat_tests, high))
  boot_used (WritesGroup k) q e =
      let t = tested (nat_le 1 k && nat_le k (length accounts.groups)) _ q e in
      let low : nat_le 1 k ≡ true = first_of (nat_le 1 k) (nat_le k (length accounts.groups)) t in
      let high : nat_le k (length accounts.groups) ≡ true = second_of (nat_le 1 k) (nat_le k (length accounts.groups)) t in
      (grind (arith, nat_tests, low), grind (arith, nat_tests, high))
  boot_used (ReadsProcess []) q e = first
  boot_used (ReadsProcess (n ∷ x)) q e = absurd (none-some q e)
  boot_used (WritesProcess []) q e = first
  boot_used (WritesProcess (n ∷ x)) q e = absurd (none-some q e)
  boot_used (OfJob job) q e = absurd (none-some q e)

-- A naming that keeps the numbers of used names keeps orders, and what is asked for.
module _ (accounts : Accounts) (f : Flat) (category other : Categories)
    (keeps : (c : CategoryName) → IsUsed accounts f c → other c ≡ category c) where
  order_by : (q : Path) (there : Node) → get f.files q ≡ Some there → (class : Class) → there.class ≡ class
      → IsInOrder category class → IsInOrder other class
  order_by q there at (Private owner) is o = tt
  order_by q there at (Readable owner) is o = tt
  order_by q there at Open is o = tt
  order_by q there at (Scratch owner jobs) is o =
      keep_order accounts f category other keeps jobs
      (λ job e. inr (q, there, at, ap (λ (c : Class). is_for c job) is ∙ e)) o
  order_by q there at (Grouped group) is o = tt

  pub order_kept : (q : Path) (there : Node) → get f.files q ≡ Some there → IsInOrder category there.class → IsInOrder other there.class
  order_kept q there at = order_by q there at there.class refl

  pub process_kept : (x : ProcName) (px : Process) → f.processes x ≡ Some px → IsProcess accounts category px → IsProcess accounts other px
  process_kept x px at o = record {
    someone = o.someone;
    free = o.free;
    apart = o.apart;
    chain = keep_order accounts f category other keeps px.chain (λ job e. inl (x, px, at, or_left (has px.chain job) (has px.held job) e)) o.chain;
    held =
        λ r. keep_order accounts f category other keeps px.held
        (λ job e. inl (x, px, at, or_right (has px.chain job) (has px.held job) e)) (o.held r);
    few = o.few;
    status = o.status;
  }

  module _ (number : Address Step → Option ℕ) where
    status_kept : (q : ProcName) (o : Option Process) → f.processes q ≡ o
        → status_object accounts category (bytes_for accounts category f number q o) q o
        ≡ status_object accounts other (bytes_for accounts other f number q o) q o
    status_kept q None at = refl
    status_kept q (Some p) at = ap (λ m. segment m (process_bytes f.processes number q p)) (keep_process_label accounts f category other keeps q p at)

    pub asked_kept : (a : Address Step) → expected accounts category f number a ≡ expected accounts other f number a
    asked_kept a = asked_alike accounts category other f f number number
        (record {
          at_path = λ q. keep_node accounts f category other keeps q (get f.files q) refl;
          in_directory = λ d. keep_listing accounts f category other keeps d (spelling (directory_of f.files number d)) (get f.files d) refl;
        })
        a (record {
          home = λ q is. keep_home accounts f category other keeps q (f.processes q) refl;
          status = λ q is. status_kept q (f.processes q) refl;
          inside = λ q is. keep_inside accounts f category other keeps q (f.processes q) refl;
          runner = λ q is. keep_runner accounts f category other keeps q (f.processes q) refl;
        })

module _ (accounts : Accounts) (s : State) (f : Flat) (l : ObjectsMatch accounts s f) where
  -- a category more, which has no name
  pub matched_more : (new : State) → ((q : ℕ) → new.objects q ≡ s.objects q) → new.next_object ≡ s.next_object
      → s.next_category ≤ new.next_category
      → (later : ObjectsMatch accounts new f) × (later.naming ≡ l.naming) × (later.category ≡ l.category)
  matched_more new objects next_is categories = (
    record {
      naming = l.naming;
      category = l.category;
      agrees = as_asked accounts l.category f l.naming.number new l.naming
          (agrees_same same_step s new l.naming _ _ (agreement l) (λ a. refl) objects next_is);
      numbered = subst (λ (m : ℕ). m ≤ greatest) (sym next_is) l.numbered;
      as_booted = l.as_booted;
      different = l.different;
      made = λ c u. let m = l.made c u in (m.0, omega (arith, m.1, categories));
      as_made = l.as_made;
      guarded = l.guarded;
      in_order = l.in_order;
      listable = l.listable;
      first = l.first;
      processes = l.processes;
      processes_given = l.processes_given;
      boot_thread_gone = objects boot_thread_number ∙ l.boot_thread_gone;
    },
    refl,
    refl,
  )

  -- a category more, which has a name that was not used
  module _ (c : CategoryName) (unused : ¬ IsUsed accounts f c) where
    abbrev pub named : Categories
    named = naming_next l.category s.next_category c

    pub number_named : named c ≡ s.next_category
    number_named = new_number l.category l.different s.next_category c

    pub keeps_named : (d : CategoryName) → IsUsed accounts f d → named d ≡ l.category d
    keeps_named d used = old_number l.category l.different s.next_category c d (λ e. unused (subst (IsUsed accounts f) e used)) (l.made d used).1

    pub matched_named : (new : State) → ((q : ℕ) → new.objects q ≡ s.objects q) → new.next_object ≡ s.next_object
        → s.next_category ≤ new.next_category
        → (later : ObjectsMatch accounts new f) × (later.naming ≡ l.naming) × (later.category ≡ named)
    matched_named new objects next_is categories = (
      record {
        naming = l.naming;
        category = named;
        agrees = as_asked accounts named f l.naming.number new l.naming
            (agrees_same same_step s new l.naming _ _ (agreement l)
            (asked_kept accounts f l.category named keeps_named l.naming.number) objects next_is);
        numbered = subst (λ (m : ℕ). m ≤ greatest) (sym next_is) l.numbered;
        as_booted = l.as_booted;
        different = still_different l.category l.different s.next_category c;
        made = λ d u. let m = l.made d u in let k = keeps_named d u in (omega (arith, m.0, k), omega (arith, m.1, categories, k));
        as_made = λ d q e. keeps_named d (boot_used accounts f l.first d q e) ∙ l.as_made d q e;
        guarded = l.guarded;
        in_order = λ q there at. order_kept accounts f l.category named keeps_named q there at (l.in_order q there at);
        listable = l.listable;
        first = l.first;
        processes = λ x px at. process_kept accounts f l.category named keeps_named x px at (l.processes x px at);
        processes_given = l.processes_given;
        boot_thread_gone = objects boot_thread_number ∙ l.boot_thread_gone;
      },
      refl,
      refl,
    )
