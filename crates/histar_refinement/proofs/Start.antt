-- The state in which a machine starts represents the flat state at the start.
use Rattle.std.proofs.Common.{◌≡◌, ◌≢◌, ℕ, zero, suc, ◌+◌, ◌*◌, ◌<◌, ◌≤◌, ◌⊎◌, inl, inr, Bool, true, false, cond, List, [], ◌∷◌, ◌++◌, length, get_or}
use Rattle.std.proofs.Common.{drop, Option, None, Some, arith, refl, sym, ap, ◌∙◌, subst, append_assoc}
use Rattle.std.specs.Prelude.{is_some, option_map, option_and_then, map, nat_lt, nat_le}
use Rattle.std.specs.List.{flat_map}
use Rattle.std.specs.FinSet as set
use Rattle.std.proofs.lemmas.Bool.Decides.{nat_tests}
use Rattle.std.proofs.lemmas.List.{append-nil}
use Rattle.std.proofs.lemmas.Option.{none-some, same_Some}
use mathlib.Core.Bool.{true≢false}
use Rattle.histar_flat.specs.declared.calls.User.{User}
use Rattle.histar_flat.specs.Words.{Name, Path, ProcName}
use Rattle.histar_base.specs.Paths.{same}
use Rattle.histar_level.specs.Levels.{Levels}
use Rattle.histar_flat.specs.Files.{empty, get}
use Rattle.histar_flat.proofs.FileLemmas.{get_new, get_other, same_name_found}
use Rattle.histar_rules.specs.Rules.{greatest}
use Rattle.histar_layout.specs.Directory.{entry_bytes, spelling}
use Rattle.histar_layout.proofs.MapLemmas.{entries-empty, listable_empty}
use Rattle.histar_object.specs.declared.objects.Kind.{Kind}
use Rattle.histar_object.specs.declared.objects.Kind.TheVariants.{Segment, Container}
use Rattle.histar_object.specs.Objects.{Objects, is_present, thread_of}
use Rattle.histar_object.specs.State.{Found}
use Rattle.histar_container.specs.Tree.{Address, objects_at}
use Rattle.histar_container.proofs.Addresses.{same_tests_equality}
use Rattle.histar_layout.specs.Categories.{write_category}
use Rattle.histar_layout.specs.Labelling.{written_by, guarded_by, owner_label, cleared_at}
use Rattle.histar_programs.specs.Start.{numbered, declared, of_user, of_users, of_directory, of_process, user_table, start_objects, start_state}
use Rattle.histar_programs.specs.Start.{object_at, first_process_bytes, own_read_category, own_write_category, segment}
use Rattle.histar_flat.specs.Accounts.{Accounts, user_number}
use Rattle.histar_flat.specs.Classes.{Process, nobody, knows}
use Rattle.histar_flat.specs.Classes.Class.{Readable}
use Rattle.histar_flat.specs.FlatState.{Node, Flat, is_given}
use Rattle.histar_flat.specs.Meaning.{first_user, first_process, boot}
use Rattle.histar_flat.specs.FlatState.Content.{Dir}
use Rattle.histar_refinement.specs.Categories.{CategoryName, IsMade, boot_category, is_for, IsKnown, IsServed, IsUsed}
use Rattle.histar_refinement.specs.Categories.CategoryName.{OfBoot, ReadsUser, WritesUser, ReadsGroup, WritesGroup, ReadsProcess, WritesProcess}
use Rattle.histar_refinement.specs.Categories.CategoryName.{OfJob}
use Rattle.histar_refinement.specs.Guards.{Rights, guard_label, rights_label, rights_clearance}
use Rattle.histar_refinement.specs.Labels.{class_guard, readable_guard, owned_as}
use Rattle.histar_refinement.specs.LeftByBoot.{left_by_boot}
use Rattle.histar_refinement.specs.Addresses.{Step, AddressNumbers, same_step, same_address, if_at, boot_number}
use Rattle.histar_refinement.proofs.Expected.{path_at, process_at, inside_at}
use Rattle.histar_refinement.specs.Addresses.Step.{Left, Slash, Listing, Named, Home, Status, Inside, Runner, Child}
use Rattle.histar_refinement.specs.Directories.{directory_of}
use Rattle.histar_refinement.specs.Agrees.{bare}
use Rattle.histar_refinement.proofs.AgreesAt.{AgreesAt}
use Rattle.histar_refinement.proofs.Expected.{bare_container, node_object, listing_object, guarded_object, expected_node, listing_at, expected_home}
use Rattle.histar_refinement.proofs.Expected.{expected_status, container_inside, thread_at, expected}
use Rattle.histar_refinement.specs.Represents.{IsInOrder, IsProcess, ObjectsMatch, Represents}
use Rattle.histar_refinement.proofs.Steps.{step_tests_equality}
use Rattle.histar_refinement.proofs.Roots.{address_process, address_inside}
use Rattle.histar_refinement.proofs.StartNumbers.{is_left, process_address, inside_address, start_number}
use Rattle.histar_refinement.proofs.StartNames.{place_of_number}
use Rattle.histar_refinement.proofs.StartTable.{left_plain, slash_agrees, listing_agrees, home_agrees, inside_agrees, runner_agrees, status_agrees}
use Rattle.histar_refinement.proofs.GateLabels.{group_test}
use Rattle.histar_refinement.proofs.StartTree.{start_naming, place_there, start_matched}
use Rattle.histar_refinement.proofs.StartCategories.{start_category, start_as_made, start_made, start_different}
use Rattle.histar_refinement.proofs.Agreement.{bare_there, as_asked}

module _ (accounts : Accounts) (some_user : 0 < length accounts.users) where
  -- how many users there are, how many groups, and how many of both
  abbrev n : ℕ
  n = length accounts.users

  abbrev m : ℕ
  m = length accounts.groups

  abbrev owners : ℕ
  owners = declared accounts

  abbrev f : Flat
  f = boot accounts

  abbrev slash_node : Node
  slash_node = record { class = Readable (first_user accounts.users); content = Dir }

  slash_got : get f.files [] ≡ Some slash_node
  slash_got = get_new empty [] slash_node

  nothing_named : (name : Name) (d : Path) → get f.files (name ∷ d) ≡ None
  nothing_named name d = get_other empty [] slash_node (name ∷ d) (λ e. cc)

  nothing_spelled : (number : AddressNumbers) (d : Path) → spelling (directory_of f.files number d) ≡ []
  nothing_spelled number d = ap (flat_map entry_bytes) entries-empty

  -- what is there at the start, and which names are used
  only_first : (me : ProcName) (p : Process) → f.processes me ≡ Some p → (me ≡ []) × (first_process ≡ p)
  only_first [] p e = (refl, same_Some first_process p e)
  only_first (n ∷ me) p e = absurd (none-some p e)

  some_first : (me : ProcName) → is_some (f.processes me) ≡ true → me ≡ []
  some_first [] e = refl
  some_first (n ∷ me) e = absurd (true≢false (sym e))

  only_slash : (q : Path) (there : Node) → get f.files q ≡ Some there → slash_node ≡ there
  only_slash [] there e = same_Some slash_node there (sym slash_got ∙ e)
  only_slash (name ∷ d) there e = absurd (none-some there (sym (nothing_named name d) ∙ e))

  no_job : (job : ProcName) → IsKnown f job ⊎ IsServed f job → ⊥
  no_job job (inl (me, p, at, known)) =
      let is = (only_first me p at).1 in let k : false
      ≡ true = subst (λ (x : Process). knows x job ≡ true) (sym is) known in true≢false (sym k)
  no_job job (inr (q, there, at, serves)) =
      let is = only_slash q there at in let k : false
      ≡ true = subst (λ (x : Node). is_for x.class job ≡ true) (sym is) serves in true≢false (sym k)

  low_test : (i : ℕ) → i ≤ n → nat_le i n ≡ true
  low_test i h = grind (arith, nat_tests, h)

  used_booted : (c : CategoryName) → IsUsed accounts f c → (q : ℕ) × (boot_category accounts c ≡ Some q)
  used_booted OfBoot u = (1, refl)
  used_booted (ReadsUser i) u = (2 + 2 * i, ap (λ b. cond b (Some (2 + 2 * i)) None) (low_test i u))
  used_booted (WritesUser i) u = (3 + 2 * i, ap (λ b. cond b (Some (3 + 2 * i)) None) (low_test i u))
  used_booted (ReadsGroup k) u = (2 + 2 * n + 2 * k, ap (λ b. cond b (Some (2 + 2 * n + 2 * k)) None) (group_test accounts k u.0 u.1))
  used_booted (WritesGroup k) u = (3 + 2 * n + 2 * k, ap (λ b. cond b (Some (3 + 2 * n + 2 * k)) None) (group_test accounts k u.0 u.1))
  used_booted (ReadsProcess me) u = (4 + 2 * n + 2 * m, ap (λ (x : ProcName). boot_category accounts (ReadsProcess x)) (some_first me u))
  used_booted (WritesProcess me) u = (5 + 2 * n + 2 * m, ap (λ (x : ProcName). boot_category accounts (WritesProcess x)) (some_first me u))
  used_booted (OfJob job) u = absurd (no_job job u)

  -- the first user has the number 1
  first_numbered : (names : List User) → 0 < length names → user_number (record { users = names; groups = [] }) (first_user names) ≡ Some 1
  first_numbered [] h = absurd (omega (arith, h))
  first_numbered (u ∷ names) h =
      let own : same u.name u.name ≡ true = elim (same_name_found u.name u.name) [ inl e ↦ e.0 | inr e ↦ absurd (e.1 refl) ] in
      let below : nat_lt 0 (length (u ∷ names)) ≡ true = grind (arith, nat_tests) in
      rw own (ap (λ b. option_map (λ place. place + 1) (cond b (Some 0) None)) below)

  -- the objects and the labels
  abbrev objects : Objects Levels
  objects = object_at (start_objects accounts)

  abbrev number : AddressNumbers
  number = start_number n

  abbrev wish : Address Step → Found
  wish = expected accounts (start_category accounts) f number

  root_label : guard_label (start_category accounts) (readable_guard 1) ≡ written_by (write_category 1)
  root_label =
      let low : nat_le 1 n ≡ true = grind (arith, nat_tests, some_user) in
      ap (λ q. guarded_by [] (q ∷ [])) (start_as_made accounts (WritesUser 1) (3 + 2 * 1) (ap (λ b. cond b (Some (3 + 2 * 1)) None) low))

  own_number : 4 + 2 * n + 2 * m ≡ own_read_category owners
  own_number = omega arith

  own_write_number : 5 + 2 * n + 2 * m ≡ own_write_category owners
  own_write_number = omega arith

  -- where a number has a bare object, it has it at an address, and elsewhere nothing is
  found_if : (here a : Address Step) (x : Option ℕ) (y : Found) → bare (option_and_then objects x) ≡ y
      → bare (option_and_then objects (if_at here a x)) ≡ if_at here a y
  found_if here a x y h = by (same_address here a)
    where
      by : (b : Bool) → bare (option_and_then objects (cond b x None)) ≡ cond b y None
      by true = h
      by false = refl

  -- what boot left
  same_left : (i : ℕ) (some : List User) (table : Found) (back : List Found) (k : ℕ) → k ≤ 2 * length some
      → get_or (numbered (of_user accounts) i some ++ table ∷ back) k None ≡ get_or (numbered (of_user accounts) i some ++ table ∷ []) k None
  same_left i [] table back zero le = refl
  same_left i [] table back (suc k) le = absurd (omega (arith, le))
  same_left i (u ∷ some) table back zero le = refl
  same_left i (u ∷ some) table back (suc zero) le = refl
  same_left i (u ∷ some) table back (suc (suc k)) le = same_left (i + 1) some table back k (omega (arith, le))

  beyond_left : (i : ℕ) (some : List User) (table : Found) (k : ℕ) → 2 * length some < k
      → get_or (numbered (of_user accounts) i some ++ table ∷ []) k None ≡ None
  beyond_left i [] table zero h = absurd (omega (arith, h))
  beyond_left i [] table (suc k) h = refl
  beyond_left i (u ∷ some) table zero h = absurd (omega (arith, h))
  beyond_left i (u ∷ some) table (suc zero) h = absurd (omega (arith, h))
  beyond_left i (u ∷ some) table (suc (suc k)) h = beyond_left (i + 1) some table k (omega (arith, h))

  left_same : (q : ℕ) → is_left n q ≡ true → objects q ≡ left_by_boot accounts q
  left_same zero e = absurd (grind (arith, nat_tests, e))
  left_same (suc zero) e = absurd (grind (arith, nat_tests, e))
  left_same (suc (suc zero)) e = absurd (grind (arith, nat_tests, e))
  left_same (suc (suc (suc k))) e =
      ap (λ (l : List Found). get_or l k None) (append_assoc (of_users accounts accounts.users) (of_directory n accounts) (of_process n owners))
      ∙ same_left 1 accounts.users (segment (written_by 1) (user_table accounts))
      (drop 1 (of_directory n accounts) ++ of_process n owners) k (grind (arith, nat_tests, e))

  nothing_left : (q : ℕ) → is_left n q ≡ false → None ≡ left_by_boot accounts q
  nothing_left zero e = refl
  nothing_left (suc zero) e = refl
  nothing_left (suc (suc zero)) e = refl
  nothing_left (suc (suc (suc k))) e = sym (beyond_left 1 accounts.users _ k (grind (arith, nat_tests, e)))

  left_agrees : (q : ℕ) (b : Bool) → is_left n q ≡ b → bare (option_and_then objects (cond b (Some q) None)) ≡ left_by_boot accounts q
  left_agrees q true e = (left_plain accounts q e).bared ∙ left_same q e
  left_agrees q false e = nothing_left q e

  -- what the flat state has at `/`
  slash_guarded : (kind : Kind Levels)
      → guarded_object accounts (start_category accounts) kind
      (class_guard accounts (Readable (first_user accounts.users)))
      ≡ Some (record { label = written_by (write_category 1); kind = kind })
  slash_guarded kind =
      ap (λ (i : Option ℕ). guarded_object accounts (start_category accounts) kind (option_map readable_guard i))
      (first_numbered accounts.users some_user)
      ∙ ap (λ (l : Levels). Some (record { label = l; kind = kind })) root_label

  slash_expected : expected_node accounts (start_category accounts) f number (Some []) ≡ bare (objects (4 + 2 * n))
  slash_expected =
      ap (node_object accounts (start_category accounts)) slash_got ∙ slash_guarded (Container set.empty)
      ∙ sym (ap bare (slash_agrees accounts))

  listing_expected : listing_at accounts (start_category accounts) f number (Some []) ≡ bare (objects (5 + 2 * n))
  listing_expected =
      (λ i. listing_object accounts (start_category accounts) (nothing_spelled number [] i) (slash_got i))
      ∙ slash_guarded (Segment []) ∙ sym (ap bare (listing_agrees accounts))

  node_if : (b : Bool) → expected_node accounts (start_category accounts) f number (cond b (Some []) None) ≡ cond b (bare (objects (4 + 2 * n))) None
  node_if true = slash_expected
  node_if false = refl

  listing_if : (b : Bool) → listing_at accounts (start_category accounts) f number (cond b (Some []) None) ≡ cond b (bare (objects (5 + 2 * n))) None
  listing_if true = listing_expected
  listing_if false = refl

  no_node : (name : Name) (d : Option Path) → expected_node accounts (start_category accounts) f number (option_map (λ q. name ∷ q) d) ≡ None
  no_node name None = refl
  no_node name (Some d) = ap (node_object accounts (start_category accounts)) (nothing_named name d)

  no_listing : (name : Name) (d : Option Path) → listing_at accounts (start_category accounts) f number (option_map (λ q. name ∷ q) d) ≡ None
  no_listing name None = refl
  no_listing name (Some d) =
      ap (listing_object accounts (start_category accounts) (spelling (directory_of f.files number (name ∷ d))))
      (nothing_named name d)

  -- what is asked for at process 0, and nothing at any other
  process_wish : (ask : Option ProcName → Found) (y : Found) → ask None ≡ None → ask (Some []) ≡ y
      → ((n : ℕ) (q : ProcName) → ask (Some (n ∷ q)) ≡ None) → (a : Address Step)
      → ask (process_at a) ≡ if_at process_address a y
  process_wish ask y nowhere here others a = elim (same_tests_equality same_step step_tests_equality process_address a) [
    | inl e ↦ ap (λ (b : Address Step). ask (process_at b)) (sym e.1) ∙ here ∙ sym (ap (λ t. cond t y None) e.0)
    | inr e ↦ by (process_at a) refl e.1 ∙ sym (ap (λ t. cond t y None) e.0)
  ]
    where
      by : (q : Option ProcName) → process_at a ≡ q → process_address ≢ a → ask q ≡ None
      by None is other = nowhere
      by (Some []) is other = absurd (other (sym (address_process a [] is)))
      by (Some (n ∷ q)) is other = others n q

  inside_wish : (ask : Option ProcName → Found) (y : Found) → ask None ≡ None → ask (Some []) ≡ y
      → ((n : ℕ) (q : ProcName) → ask (Some (n ∷ q)) ≡ None) → (a : Address Step)
      → ask (inside_at a) ≡ if_at inside_address a y
  inside_wish ask y nowhere here others a = elim (same_tests_equality same_step step_tests_equality inside_address a) [
    | inl e ↦ ap (λ (b : Address Step). ask (inside_at b)) (sym e.1) ∙ here ∙ sym (ap (λ t. cond t y None) e.0)
    | inr e ↦ by (inside_at a) refl e.1 ∙ sym (ap (λ t. cond t y None) e.0)
  ]
    where
      by : (q : Option ProcName) → inside_at a ≡ q → inside_address ≢ a → ask q ≡ None
      by None is other = nowhere
      by (Some []) is other = absurd (other (sym (address_inside a [] is)))
      by (Some (n ∷ q)) is other = others n q

  home_if : (b : Bool) → expected_home accounts (start_category accounts) f number (cond b (Some []) None) ≡ cond b (bare (objects (6 + 2 * n))) None
  home_if true = ap (λ q. bare_container (guarded_by [] (q ∷ []))) own_write_number ∙ sym (ap bare (home_agrees accounts))
  home_if false = refl

  inside_expected : container_inside accounts (start_category accounts) f number (Some []) ≡ bare (objects (7 + 2 * n))
  inside_expected = (λ i. bare_container (guarded_by (own_number i ∷ []) (own_write_number i ∷ []))) ∙ sym (ap bare (inside_agrees accounts))

  status_expected : expected_status accounts (start_category accounts) f number (Some []) ≡ bare (objects (9 + 2 * n))
  status_expected =
      (λ i. segment (guarded_by [] (own_write_number i ∷ [])) (append-nil (first_process_bytes (7 + 2 * n) (8 + 2 * n)) i))
      ∙ sym (ap bare (status_agrees accounts))

  runner_expected : user_number accounts nobody ≡ None → thread_at accounts (start_category accounts) f number (Some []) ≡ bare (objects (8 + 2 * n))
  runner_expected no_one =
      ap (λ (o : Option ℕ). Some (thread_of (rights_label (start_category accounts) (rights o))
      (rights_clearance (start_category accounts) (rights o)))) no_one
      ∙ (λ i. Some (thread_of (owner_label (own_number i ∷ own_write_number i ∷ []) []) (cleared_at (own_number i ∷ own_write_number i ∷ []))))
      ∙ sym (ap bare (runner_agrees accounts))
    where
      rights : Option ℕ → Rights
      rights o = record { owned = ReadsProcess [] ∷ WritesProcess [] ∷ owned_as accounts first_process o ++ map OfJob []; tainted = map OfJob [] }

  module _ (no_one : user_number accounts nobody ≡ None) (room : (start_state accounts).next_object ≤ greatest) where
    -- the object at each address is what the flat state asks for there
    start_expected : (a : Address Step) → bare (objects_at objects (start_naming n) a) ≡ wish a
    start_expected [] = refl
    start_expected (Left q ∷ a) = found_if [] a (cond (is_left n q) (Some q) None) (left_by_boot accounts q) (left_agrees q (is_left n q) refl)
    start_expected (Slash ∷ a) = found_if [] a (Some (4 + 2 * n)) _ refl ∙ sym (node_if (same_address [] a))
    start_expected (Listing ∷ []) = refl
    start_expected (Listing ∷ Slash ∷ a) = found_if [] a (Some (5 + 2 * n)) _ refl ∙ sym (listing_if (same_address [] a))
    start_expected (Listing ∷ Named name ∷ a) = sym (no_listing name (path_at a))
    start_expected (Listing ∷ x ∷ a) = refl
    start_expected (Named name ∷ a) = sym (no_node name (path_at a))
    start_expected (Home ∷ a) = found_if [] a (Some (6 + 2 * n)) _ refl ∙ sym (home_if (same_address [] a))
    start_expected (Status ∷ a) = found_if process_address a (Some (9 + 2 * n)) _ refl
        ∙ sym (process_wish (expected_status accounts (start_category accounts) f number) _ refl status_expected (λ n q. refl) a)
    start_expected (Inside ∷ a) = found_if process_address a (Some (7 + 2 * n)) _ refl
        ∙ sym (process_wish (container_inside accounts (start_category accounts) f number) _ refl inside_expected (λ n q. refl) a)
    start_expected (Runner ∷ a) = found_if inside_address a (Some (8 + 2 * n)) _ refl
        ∙ sym (inside_wish (thread_at accounts (start_category accounts) f number) _ refl (runner_expected no_one) (λ n q. refl) a)
    start_expected (Child n ∷ a) = by (process_at a)
      where
        by : (q : Option ProcName) → None ≡ expected_home accounts (start_category accounts) f number (option_map (λ p. n ∷ p) q)
        by None = refl
        by (Some q) = refl

    -- an address has a number exactly where the flat state asks for something
    number_there : (a : Address Step) (found : Option ℕ) → number a ≡ found → is_some found ≡ is_present (option_and_then objects found)
    number_there a None e = refl
    number_there a (Some q) e = sym (place_there accounts q a (place_of_number n q a e))

    start_agrees : AgreesAt same_step (start_state accounts) (start_naming n) wish
    start_agrees = record {
      tree = start_matched accounts;
      objects = start_expected;
      named = λ a. number_there a (number a) refl ∙ sym (bare_there (objects_at objects (start_naming n) a)) ∙ ap is_present (start_expected a);
    }

    as_booted_then : (a : Address Step) (q : ℕ) → boot_number n a ≡ Some q → number a ≡ Some q
    as_booted_then [] q e = e
    as_booted_then (Left k ∷ a) q e = e
    as_booted_then (Slash ∷ a) q e = e
    as_booted_then (Listing ∷ a) q e = e
    as_booted_then (Named name ∷ a) q e = e
    as_booted_then (Home ∷ a) q e = e
    as_booted_then (Status ∷ a) q e = e
    as_booted_then (Inside ∷ a) q e = absurd (none-some q e)
    as_booted_then (Runner ∷ a) q e = absurd (none-some q e)
    as_booted_then (Child k ∷ a) q e = e

    first_is : IsProcess accounts (start_category accounts) first_process
    first_is =
        record {
          someone = λ r. inl refl;
          free = λ r u. (refl, refl);
          apart = λ r job e. refl;
          chain = tt;
          held = λ r. tt;
          few = omega arith;
          status = λ n e. absurd (none-some n e);
        }

    slash_guard : class_guard accounts (Readable (first_user accounts.users)) ≡ Some (readable_guard 1)
    slash_guard = ap (option_map readable_guard) (first_numbered accounts.users some_user)

    start_is_matched : ObjectsMatch accounts (start_state accounts) f
    start_is_matched = record {
      naming = start_naming n;
      category = start_category accounts;
      agrees = as_asked accounts (start_category accounts) f number (start_state accounts) (start_naming n) start_agrees;
      numbered = room;
      as_booted = as_booted_then;
      different = start_different accounts;
      made = λ c u. let b = used_booted c u in subst (λ (m : ℕ). IsMade m (start_category accounts c)) total (start_made accounts c b.0 b.1);
      as_made = start_as_made accounts;
      guarded =
          λ q there at none. none-some (readable_guard 1)
          (sym none ∙ ap (λ (x : Node). class_guard accounts x.class) (sym (only_slash q there at)) ∙ slash_guard);
      in_order = λ q there at. subst (λ (x : Node). IsInOrder (start_category accounts) x.class) (only_slash q there at) tt;
      listable = λ d e. listable_empty;
      first = refl;
      processes = λ me p at. subst (IsProcess accounts (start_category accounts)) (only_first me p at).1 first_is;
      processes_given = λ me u. subst (λ (x : ProcName). is_given f.processes x ≡ true) (sym (some_first me u)) refl;
      boot_thread_gone = refl;
    }
      where
        total : 6 + 2 * n + 2 * m ≡ (start_state accounts).next_category
        total = omega arith

    pub start_represents : Represents accounts (start_state accounts) f
    start_represents = record { matched = start_is_matched; jobs_given = λ job u. absurd (no_job job u) }
