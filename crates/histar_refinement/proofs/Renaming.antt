-- After an entry of a directory is renamed the kernel represents the flat state with all paths below its new name.
use Rattle.std.proofs.Common.{◌≡◌, ◌≢◌, ℕ, ◌+◌, ◌*◌, ◌⊎◌, inl, inr, Bool, true, false, ◌||◌, cond, [], ◌∷◌, length, Option, None, Some, refl, sym, ap}
use Rattle.std.proofs.Common.{◌∙◌, subst}
use Rattle.std.specs.Prelude.{IsTrue, is_some, option_map, option_and_then}
use Rattle.std.specs.FinMap as map
use Rattle.std.specs.Ordering.{eq_by_cmp}
use Rattle.std.specs.Cmp.Lexicographic.{nat_list_cmp_total, texts_ties}
use Rattle.std.proofs.lemmas.Option.{none-some}
use mathlib.Core.Bool.{true≢false}
use Rattle.histar_flat.specs.Words.{Name, Path, ProcName, is_name}
use Rattle.histar_base.specs.Paths.{same as same_name, same_path}
use Rattle.histar_flat.specs.Files.{get}
use Rattle.histar_flat.proofs.FileLemmas.{same_name_found, same_path_found}
use Rattle.histar_layout.specs.Directory.{Entries, IsListable, spelling}
use Rattle.histar_layout.specs.declared.entry.Target.{Target}
use Rattle.histar_layout.proofs.MapLemmas.{by_bytes, antisymmetric, entry_found, room_without, listable_insert, listable_remove}
use Rattle.histar_object.specs.State.{State, Found, with_segment_bytes}
use Rattle.histar_container.specs.Tree.{Address, Naming}
use Rattle.histar_flat.specs.Accounts.{Accounts}
use Rattle.histar_flat.specs.FlatState.{Node, Flat, is_dir, is_dir_at, is_some_and, with_renamed}
use Rattle.histar_flat.specs.PathOrder.{under_path}
use Rattle.histar_refinement.specs.Addresses.{Step, same_step, same_address, address_of, boot_number}
use Rattle.histar_refinement.proofs.Expected.{path_at, process_at, inside_at}
use Rattle.histar_refinement.specs.Addresses.Step.{Left, Slash, Listing, Named, Home, Status, Inside, Runner, Child}
use Rattle.histar_refinement.specs.LeftByBoot.{left_by_boot}
use Rattle.histar_refinement.specs.Directories.{directory_of}
use Rattle.histar_refinement.proofs.AgreesAt.{AgreesAt}
use Rattle.histar_refinement.proofs.Expected.{node_object, listing_object, expected_node, listing_at, expected_home}
use Rattle.histar_refinement.proofs.Expected.{expected_status, container_inside}
use Rattle.histar_refinement.proofs.Expected.{thread_at, expected}
use Rattle.histar_refinement.specs.Represents.{AreJobsGiven, ObjectsMatch}
use Rattle.histar_refinement.specs.KeptNames.{RepresentsStill}
use Rattle.histar_refinement.proofs.Roots.{address_path, asked_listing}
use Rattle.histar_refinement.proofs.Steps.{step_tests_equality}
use Rattle.histar_refinement.proofs.DirectoryLaws.{get_directory}
use Rattle.histar_refinement.proofs.Renamings.{renamed_naming, agrees_renamed}
use Rattle.histar_refinement.proofs.ListedFiles.{SameNumbers, same_status, leads_at, directories_alike, same_leads, nothing_in, old_known, old_fits}
use Rattle.histar_refinement.proofs.ListedFiles.{ClassFits, matched_listed, jobs_kept, used_kept, nothing_unnumbered}
use Rattle.histar_refinement.proofs.Turning.{turned_name, turned_step, turned_n, turned_k, turned_else, turned, turned_address, address_back}
use Rattle.histar_refinement.proofs.Turning.{directory_stays, address_stays, same_tests, turned_path_address, turned_home, process_turned}
use Rattle.histar_refinement.proofs.Turning.{inside_turned, path_turned, get_renamed, step_still}
use Rattle.histar_refinement.proofs.Agreement.{agreement}
use Rattle.histar_refinement.proofs.KeepingNames.{keeps_categories}
use Rattle.histar_container.proofs.Addresses.{same_tests_equality}

module _ (accounts : Accounts) (s : State) (f : Flat) (l : ObjectsMatch accounts s f) where
  -- where nothing is at a path, nothing is below it
  pub nothing_under : (top : Path) → get f.files top ≡ None → (q : Path) → under_path top q ≡ true → get f.files q ≡ None
  nothing_under top absent [] u = elim (same_path_found top []) [
    | inl e ↦ ap (get f.files) (sym e.1) ∙ absent
    | inr e ↦ absurd (true≢false (sym u ∙ e.0))
  ]
  nothing_under top absent (m ∷ e) u = elim (same_path_found top (m ∷ e)) [
    | inl t ↦ ap (get f.files) (sym t.1) ∙ absent
    | inr t ↦ nothing_in accounts s f l m e (nothing_under top absent e (sym (ap (λ b. b || under_path top e) t.0) ∙ u))
  ]

  -- a path that has a node is not below one that has none
  pub not_under : (top : Path) → get f.files top ≡ None → (q : Path) (there : Node) → get f.files q ≡ Some there → under_path top q ≡ false
  not_under top absent q there at = by (under_path top q) refl
    where
      by : (t : Bool) → under_path top q ≡ t → t ≡ false
      by true u = absurd (none-some there (sym (nothing_under top absent q u) ∙ at))
      by false u = refl

  module _ (n k : Name) (d : Path) (N : ℕ) (at_listing : l.naming.number (Listing ∷ address_of d) ≡ Some N)
      (absent : get f.files (k ∷ d) ≡ None) where
    abbrev pub after : Flat
    after = with_renamed f (n ∷ d) (k ∷ d)

    abbrev pub turn : Address Step → Address Step
    turn = turned_address n k d

    abbrev pub naming : Naming Step
    naming =
        renamed_naming same_step step_tests_equality (turned_address n k d) (turned_address n k d) (address_back n k d)
        (address_back n k d) refl (λ x a. (turned_step n k (same_address (address_of d) a) x, refl)) l.naming

    abbrev pub asked : Address Step → Found
    asked = λ a. expected accounts l.category f l.naming.number (turned_address n k d a)

    agrees_turned : AgreesAt same_step s naming asked
    agrees_turned =
        agrees_renamed same_step step_tests_equality (turned_address n k d) (turned_address n k d) (address_back n k d)
        (address_back n k d) refl (λ x a. (turned_step n k (same_address (address_of d) a) x, refl)) s l.naming
        (expected accounts l.category f l.naming.number) (agreement l)

    got : (q : Path) → get after.files q ≡ get f.files (turned n k d q)
    got q = get_renamed n k d f.files (not_under (k ∷ d) absent) q

    same_numbers : SameNumbers l.naming.number naming.number
    same_numbers = record {
      home = λ q. ap l.naming.number (sym (turned_home n k d q));
      status = λ q. ap (λ (a : Address Step). l.naming.number (Status ∷ a)) (sym (turned_home n k d q));
      inside = λ q. ap (λ (a : Address Step). l.naming.number (Inside ∷ a)) (sym (turned_home n k d q));
      runner = λ q. ap (λ (a : Address Step). l.naming.number (Runner ∷ Inside ∷ a)) (sym (turned_home n k d q));
    }

    -- an entry leads where the one of the turned path led
    leads_turned : (p : Path) → leads_at f.files l.naming.number (turned n k d p) ≡ leads_at after.files naming.number p
    leads_turned p =
        same_leads f.files after.files l.naming.number naming.number (turned n k d p) p (sym (got p))
        (ap l.naming.number (sym (turned_path_address n k d p)))
        (ap (λ (a : Address Step). l.naming.number (Listing ∷ a)) (sym (turned_path_address n k d p)))

    -- another directory is the one of the turned path
    directory_else : (e : Path) → d ≢ e → directory_of f.files l.naming.number (turned n k d e) ≡ directory_of after.files naming.number e
    directory_else e other =
        directories_alike f.files after.files l.naming.number naming.number (turned n k d e) e
        (λ m. ap (leads_at f.files l.naming.number) (entry m) ∙ leads_turned (m ∷ e))
      where
        entry : (m : Name) → m ∷ turned n k d e ≡ turned n k d (m ∷ e)
        entry m = elim (same_path_found d e) [
          | inl t ↦ absurd (other t.1)
          | inr t ↦ ap (λ b. turned_name n k b m ∷ turned n k d e) (sym t.0)
        ]

    node_turned : (o : Option Path)
        → expected_node accounts l.category f l.naming.number (option_map (turned n k d) o)
        ≡ expected_node accounts l.category after naming.number o
    node_turned None = refl
    node_turned (Some q) = ap (node_object accounts l.category) (sym (got q))

    listing_turned : (e : Path) → d ≢ e
        → listing_at accounts l.category f l.naming.number (Some (turned n k d e))
        ≡ listing_at accounts l.category after naming.number (Some e)
    listing_turned e other = λ i. listing_object accounts l.category (spelling (directory_else e other i)) (sym (got e) i)

    -- what is asked for at an address is what was at the turned one
    asked_else : (a : Address Step) → Listing ∷ address_of d ≢ a → asked a ≡ expected accounts l.category after naming.number a
    asked_else [] other = refl
    asked_else (Left q ∷ a) other = ap (λ b. cond b (left_by_boot accounts q) None) (same_tests n k d [] a)
    asked_else (Slash ∷ a) other =
        ap (expected_node accounts l.category f l.naming.number) (path_turned n k d (Slash ∷ a))
        ∙ node_turned (path_at (Slash ∷ a))
    asked_else (Listing ∷ a) other = ap (listing_at accounts l.category f l.naming.number) (path_turned n k d a) ∙ by (path_at a) refl
      where
        by : (o : Option Path) → path_at a ≡ o
            → listing_at accounts l.category f l.naming.number (option_map (turned n k d) o)
            ≡ listing_at accounts l.category after naming.number o
        by None is = refl
        by (Some e) is = listing_turned e (λ i. other (ap (λ (b : Address Step). Listing ∷ b) (ap address_of i ∙ sym (address_path a e is))))
    asked_else (Named m ∷ a) other =
        ap (expected_node accounts l.category f l.naming.number) (path_turned n k d (Named m ∷ a))
        ∙ node_turned (path_at (Named m ∷ a))
    asked_else (Home ∷ a) other =
        ap (expected_home accounts l.category f l.naming.number) (process_turned n k d (Home ∷ a))
        ∙ by (process_at (Home ∷ a))
      where
        by : (q : Option ProcName) → expected_home accounts l.category f l.naming.number q ≡ expected_home accounts l.category after naming.number q
        by None = refl
        by (Some q) = refl
    asked_else (Status ∷ a) other = ap (expected_status accounts l.category f l.naming.number) (process_turned n k d a) ∙ by (process_at a)
      where
        by : (q : Option ProcName)
            → expected_status accounts l.category f l.naming.number q
            ≡ expected_status accounts l.category after naming.number q
        by None = refl
        by (Some q) = same_status accounts l.category f after.files l.naming.number naming.number same_numbers q
    asked_else (Inside ∷ a) other = ap (container_inside accounts l.category f l.naming.number) (process_turned n k d a) ∙ by (process_at a)
      where
        by : (q : Option ProcName)
            → container_inside accounts l.category f l.naming.number q
            ≡ container_inside accounts l.category after naming.number q
        by None = refl
        by (Some q) = refl
    asked_else (Runner ∷ a) other = ap (thread_at accounts l.category f l.naming.number) (inside_turned n k d a) ∙ by (inside_at a)
      where
        by : (q : Option ProcName) → thread_at accounts l.category f l.naming.number q ≡ thread_at accounts l.category after naming.number q
        by None = refl
        by (Some q) = refl
    asked_else (Child m ∷ a) other =
        ap (expected_home accounts l.category f l.naming.number) (process_turned n k d (Child m ∷ a))
        ∙ by (process_at (Child m ∷ a))
      where
        by : (q : Option ProcName) → expected_home accounts l.category f l.naming.number q ≡ expected_home accounts l.category after naming.number q
        by None = refl
        by (Some q) = refl

    -- nothing has an address under the new name
    no_number : is_some (l.naming.number (Named k ∷ address_of d)) ≡ true → ⊥
    no_number some = true≢false (sym some ∙ nothing_unnumbered accounts s f l (k ∷ d) absent)

    -- an entry that has an object then and had one before has the same name
    step_stays : (x : Step) → is_some (l.naming.number (x ∷ address_of d)) ≡ true
        → is_some (l.naming.number (turned_step n k true x ∷ address_of d)) ≡ true → turned_step n k true x ≡ x
    step_stays (Named m) some then = elim (same_name_found n m) [
      | inl e ↦
          absurd (no_number (subst (λ (x : Name). is_some (l.naming.number (Named x ∷ address_of d)) ≡ true)
          (ap (turned_name n k true) (sym e.1) ∙ turned_n n k) then))
      | inr e ↦ elim (same_name_found k m) [
        | inl t ↦ absurd (no_number (subst (λ (x : Name). is_some (l.naming.number (Named x ∷ address_of d)) ≡ true) (sym t.1) some))
        | inr t ↦ ap Named (turned_else n k m e.1 t.1)
      ]
    ]
    step_stays (Left q) some then = refl
    step_stays Slash some then = refl
    step_stays Listing some then = refl
    step_stays Home some then = refl
    step_stays Status some then = refl
    step_stays Inside some then = refl
    step_stays Runner some then = refl
    step_stays (Child m) some then = refl

    -- so does an address
    number_stays : (a : Address Step) → is_some (l.naming.number a) ≡ true → is_some (l.naming.number (turn a)) ≡ true → turn a ≡ a
    number_stays [] some then = refl
    number_stays (x ∷ a) some then =
        let rest : turn a ≡ a =
        number_stays a ((agreement l).tree.held x a some)
        ((agreement l).tree.held (turned_step n k (same_address (address_of d) a) x) (turn a) then) in
        elim (same_tests_equality same_step step_tests_equality (address_of d) a) [
          | inl e ↦
              let same_then : is_some (l.naming.number (turn (x ∷ a))) ≡ is_some (l.naming.number (turned_step n k true x ∷ address_of d)) =
              λ i. is_some (l.naming.number (turned_step n k (e.0 i) x ∷ (rest ∙ sym e.1) i)) in
              (λ i. turned_step n k (e.0 i) x ∷ rest i)
              ∙ ap (λ (y : Step). y ∷ a)
              (step_stays x (ap (λ (b : Address Step). is_some (l.naming.number (x ∷ b))) e.1 ∙ some) (sym same_then ∙ then))
          | inr e ↦ (λ i. turned_step n k (e.0 i) x ∷ rest i) ∙ ap (λ (y : Step). y ∷ a) (step_still n k x)
        ]

    listing_stays : naming.number (Listing ∷ address_of d) ≡ Some N
    listing_stays = ap (λ (a : Address Step). l.naming.number (Listing ∷ a)) (address_stays n k d) ∙ at_listing

    asked_here : asked (Listing ∷ address_of d)
        ≡ listing_object accounts l.category (spelling (directory_of f.files l.naming.number d)) (get after.files d)
    asked_here =
        ap (λ (a : Address Step). expected accounts l.category f l.naming.number (Listing ∷ a)) (address_stays n k d)
        ∙ asked_listing accounts l.category f l.naming.number d
        ∙ ap (listing_object accounts l.category (spelling (directory_of f.files l.naming.number d)))
        (sym (got d ∙ ap (get f.files) (directory_stays n k d)))

    -- boot gave no number to what turns
    boot_turned : (a : Address Step) → boot_number (length accounts.users) (turned_address n k d a) ≡ boot_number (length accounts.users) a
    boot_turned [] = refl
    boot_turned (Left q ∷ a) = ap (λ b. cond b (boot_number (length accounts.users) (Left q ∷ [])) None) (same_tests n k d [] a)
    boot_turned (Slash ∷ a) = ap (λ b. cond b (Some (4 + 2 * length accounts.users)) None) (same_tests n k d [] a)
    boot_turned (Listing ∷ a) = ap (λ b. cond b (Some (5 + 2 * length accounts.users)) None) (same_tests n k d (Slash ∷ []) a)
    boot_turned (Named m ∷ a) = refl
    boot_turned (Home ∷ a) = ap (λ b. cond b (Some (6 + 2 * length accounts.users)) None) (same_tests n k d [] a)
    boot_turned (Status ∷ a) = ap (λ b. cond b (Some (9 + 2 * length accounts.users)) None) (same_tests n k d (Home ∷ []) a)
    boot_turned (Inside ∷ a) = refl
    boot_turned (Runner ∷ a) = refl
    boot_turned (Child m ∷ a) = refl

    fits_all : (q : Path) (there : Node) → get after.files q ≡ Some there → ClassFits accounts s f l there.class
    fits_all q there at = old_fits accounts s f l (turned n k d q) there (sym (got q) ∙ at)

    -- the numbers in the names of jobs were given as before
    pub jobs_renamed : AreJobsGiven f → AreJobsGiven after
    jobs_renamed = jobs_kept accounts s f l after.files (λ q there at. old_known accounts s f l (turned n k d q) there (sym (got q) ∙ at))

    -- ---- the renamed directory

    module _ (target : Target) (leads : leads_at f.files l.naming.number (n ∷ d) ≡ Some target) where
      -- the directory with the renamed entry
      abbrev pub renamed_directory : Entries
      renamed_directory = map.insert (map.remove (directory_of f.files l.naming.number d) n) k target

      leads_nowhere : leads_at f.files l.naming.number (k ∷ d) ≡ None
      leads_nowhere = ap (option_and_then _) absent

      pub directory_renamed : directory_of after.files naming.number d ≡ renamed_directory
      directory_renamed = map.same_map nat_list_cmp_total antisymmetric _ _ (λ m.
          get_directory after.files naming.number d m ∙ sym (leads_turned (m ∷ d))
          ∙ (λ i. leads_at f.files l.naming.number (turned_name n k (itself i) m ∷ directory_stays n k d i))
          ∙ at_name m
          ∙ sym (map.get-insert nat_list_cmp_total (map.remove (directory_of f.files l.naming.number d) n) k target m
          ∙ ap (cond (eq_by_cmp by_bytes m k) (Some target)) (map.get-remove nat_list_cmp_total (directory_of f.files l.naming.number d) n m
          ∙ ap (cond (eq_by_cmp by_bytes m n) None) (get_directory f.files l.naming.number d m))
          ∙ (λ i. cond (sym (texts_ties m k) i) (Some target) (cond (sym (texts_ties m n) i) None (leads_at f.files l.naming.number (m ∷ d))))))
        where
          itself : same_path d d ≡ true
          itself = elim (same_path_found d d) [ inl e ↦ e.0 | inr e ↦ absurd (e.1 refl) ]

          at_name : (m : Name)
              → leads_at f.files l.naming.number (turned_name n k true m ∷ d)
              ≡ cond (same_name m k) (Some target)
              (cond (same_name m n) None (leads_at f.files l.naming.number (m ∷ d)))
          at_name m = elim (same_name_found m k) [
            | inl e ↦
                ap (λ (x : Name). leads_at f.files l.naming.number (x ∷ d)) (ap (turned_name n k true) e.1 ∙ turned_k n k) ∙ leads
                ∙ sym (ap (λ b. cond b (Some target) (cond (same_name m n) None (leads_at f.files l.naming.number (m ∷ d)))) e.0)
            | inr e ↦
                by (same_name_found m n) e.1
                ∙ sym (ap (λ b. cond b (Some target) (cond (same_name m n) None (leads_at f.files l.naming.number (m ∷ d)))) e.0)
          ]
            where
              by : ((same_name m n ≡ true) × (m ≡ n)) ⊎ ((same_name m n ≡ false) × (m ≢ n)) → m ≢ k
                  → leads_at f.files l.naming.number (turned_name n k true m ∷ d)
                  ≡ cond (same_name m n) None (leads_at f.files l.naming.number (m ∷ d))
              by (inl t) not_k =
                  ap (λ (x : Name). leads_at f.files l.naming.number (x ∷ d)) (ap (turned_name n k true) t.1 ∙ turned_n n k) ∙ leads_nowhere
                  ∙ sym (ap (λ b. cond b None (leads_at f.files l.naming.number (m ∷ d))) t.0)
              by (inr t) not_k =
                  ap (λ (x : Name). leads_at f.files l.naming.number (x ∷ d)) (turned_else n k m (λ i. t.1 (sym i)) (λ i. not_k (sym i)))
                  ∙ sym (ap (λ b. cond b None (leads_at f.files l.naming.number (m ∷ d))) t.0)

      -- a directory segment can hold it
      pub listable_renamed : IsTrue (is_name k) → IsListable (directory_of f.files l.naming.number d) → IsListable renamed_directory
      listable_renamed name h =
          let is_there : map.get (directory_of f.files l.naming.number d) n ≡ Some target = get_directory f.files l.naming.number d n ∙ leads in
          listable_insert (map.remove (directory_of f.files l.naming.number d) n) k target
          (listable_remove (directory_of f.files l.naming.number d) n h)
          (room_without (directory_of f.files l.naming.number d) n target h is_there)
          (name, (entry_found (directory_of f.files l.naming.number d) n target h is_there).1)

      -- The kernel has the objects of the flat state in which all below the old name is below the new one.
      pub matched_renamed : IsTrue (is_name k) → is_dir_at f d ≡ true
          → (later : ObjectsMatch accounts (with_segment_bytes s N (spelling renamed_directory)) after)
          × (later.naming ≡ naming) × (later.category ≡ l.category)
      matched_renamed name dir =
          subst (λ (x : Entries).
          (later : ObjectsMatch accounts (with_segment_bytes s N (spelling x)) after) × (later.naming ≡ naming)
          × (later.category ≡ l.category)) directory_renamed
          (matched_listed accounts s f l after.files fits_all s naming asked agrees_turned l.numbered d N listing_stays
          (spelling (directory_of f.files l.naming.number d)) asked_here asked_else
          (λ a q e. l.as_booted (turned_address n k d a) q (boot_turned a ∙ e)) listable refl l.boot_thread_gone)
        where
          listable : (e : Path) → is_dir_at after e ≡ true → IsListable (directory_of after.files naming.number e)
          listable e is = elim (same_path_found d e) [
            | inl t ↦
                subst (λ (z : Path). IsListable (directory_of after.files naming.number z)) t.1
                (subst IsListable (sym directory_renamed) (listable_renamed name (l.listable d dir)))
            | inr t ↦
                subst IsListable (directory_else e t.1)
                (l.listable (turned n k d e) (ap (λ (o : Option Node). is_some_and o is_dir) (sym (got e)) ∙ is))
          ]

      -- the kernel represents the flat state with the entry renamed, and names keep their numbers
      pub still_renamed : (given : AreJobsGiven f) → IsTrue (is_name k) → is_dir_at f d ≡ true
          → RepresentsStill (record { matched = l; jobs_given = given }) (with_segment_bytes s N (spelling renamed_directory)) after
      still_renamed given name dir =
          let later = matched_renamed name dir in
          record {
            represents = record { matched = later.0; jobs_given = jobs_renamed given };
            names =
                keeps_categories l later.0 later.2
                (used_kept accounts s f l after.files (λ q there at. old_known accounts s f l (turned n k d q) there (sym (got q) ∙ at)))
                (λ a q at some.
                let some_then : is_some (l.naming.number (turn a)) ≡ true =
                ap (λ (names : Naming Step). is_some (names.number a)) (sym later.1) ∙ some in
                ap (λ (names : Naming Step). names.number a) later.1
                ∙ ap l.naming.number (number_stays a (ap is_some at) some_then) ∙ at);
          }
