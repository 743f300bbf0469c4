-- After a file or a directory is made at any depth the kernel represents the flat state with it.
use Rattle.std.proofs.Common.{◌≡◌, ◌≢◌, ℕ, ◌+◌, ◌*◌, ◌<◌, ◌≤◌, inl, inr, true, cond, [], ◌∷◌, length, Option, None, Some, arith, refl, sym, ap, ◌∙◌}
use Rattle.std.proofs.Common.{subst}
use Rattle.std.specs.Prelude.{IsTrue, is_some, option_map, option_and_then}
use Rattle.std.specs.List.{flat_map}
use Rattle.std.specs.FinMap as map
use Rattle.std.specs.Ordering.{eq_by_cmp}
use Rattle.std.specs.Cmp.Lexicographic.{nat_list_cmp_total, texts_ties}
use Rattle.std.proofs.lemmas.Option.{none-some, same_Some}
use mathlib.Core.Bool.{true≢false}
use Rattle.histar_flat.specs.Words.{Name, Path, ProcName, is_name}
use Rattle.histar_base.specs.Paths.{same as same_name}
use Rattle.histar_flat.specs.Files.{get}
use Rattle.histar_flat.proofs.FileLemmas.{same_name_found, same_path_found, get_other, get_new}
use Rattle.histar_layout.specs.Directory.{Entries, IsTarget, IsListable, entry_bytes, spelling}
use Rattle.histar_layout.specs.declared.entry.Target.{Target}
use Rattle.histar_layout.specs.declared.entry.Target.TheVariants as targets
use Rattle.histar_layout.proofs.MapLemmas.{by_bytes, antisymmetric, listable_insert, listable_empty, entries-empty}
use Rattle.histar_object.specs.State.{State, Found, with_segment_bytes}
use Rattle.histar_container.specs.Tree.{Address, Naming}
use Rattle.histar_container.proofs.Addresses.{same_tests_equality}
use Rattle.histar_rules.specs.Rules.{greatest}
use Rattle.histar_programs.specs.Start.{boot_thread_number}
use Rattle.histar_flat.specs.Accounts.{Accounts}
use Rattle.histar_flat.specs.Classes.{Class}
use Rattle.histar_flat.specs.FlatState.{Node, Content, Flat, is_dir, is_dir_at, is_some_and, entries_in, with_node}
use Rattle.histar_flat.specs.FlatCalls.{most_entries}
use Rattle.histar_flat.specs.FlatState.Content.{Dir, File}
use Rattle.histar_refinement.specs.Addresses.{Step, same_step, address_of, home_address, boot_number}
use Rattle.histar_refinement.proofs.Expected.{process_at}
use Rattle.histar_refinement.specs.Addresses.Step.{Slash, Listing, Status, Inside, Runner}
use Rattle.histar_refinement.specs.Directories.{both_numbers, target_for, directory_of}
use Rattle.histar_refinement.proofs.AgreesAt.{AgreesAt}
use Rattle.histar_refinement.proofs.Expected.{node_object, listing_object, listing_at, expected}
use Rattle.histar_refinement.specs.Represents.{AreJobsGiven, ObjectsMatch}
use Rattle.histar_refinement.specs.KeptNames.{KeepsNames}
use Rattle.histar_refinement.proofs.KeepingNames.{keeps_categories}
use Rattle.histar_refinement.proofs.Roots.{process_address, asked_path, asked_listing}
use Rattle.histar_refinement.proofs.Steps.{step_tests_equality}
use Rattle.histar_refinement.proofs.Moving.{number_below}
use Rattle.histar_refinement.proofs.DirectoryLaws.{get_directory, len_directory}
use Rattle.histar_refinement.proofs.ListedFiles.{SameNumbers, not_home, not_begun, same_address_path, asked_same, leads_at, directories_alike}
use Rattle.histar_refinement.proofs.ListedFiles.{same_leads, numbered_path, numbered_listing, nothing_in, ClassFits, AreKnown, old_known, old_fits}
use Rattle.histar_refinement.proofs.ListedFiles.{jobs_kept, used_kept, nothing_unnumbered, matched_listed}
use Rattle.histar_refinement.proofs.Agreement.{agreement}

-- a directory segment's address is no process's
pub listing_not_home : (a : Address Step) (q : ProcName) → Listing ∷ a ≢ home_address q
listing_not_home a q e = none-some q (ap process_at e ∙ process_address q)

-- the empty directory is spelled by no bytes
pub spelled_empty : spelling map.empty ≡ []
spelled_empty = ap (flat_map entry_bytes) entries-empty

-- the entry of a file with a number leads to it, and that of a directory with two numbers too
leads_to_file : (number : Option ℕ) → is_some number ≡ true → option_map targets.File number ≢ None
leads_to_file None some e = true≢false (sym some)
leads_to_file (Some number) some e = true≢false (ap is_some e)

leads_to_directory : (container listing : Option ℕ) → is_some container ≡ true → is_some listing ≡ true → both_numbers container listing ≢ None
leads_to_directory None listing some other e = true≢false (sym some)
leads_to_directory (Some container) None some other e = true≢false (sym other)
leads_to_directory (Some container) (Some listing) some other e = true≢false (ap is_some e)

module _ (accounts : Accounts) (s : State) (f : Flat) (l : ObjectsMatch accounts s f) where
  -- each entry leads somewhere
  pub entry_leads : (q : Path) (there : Node) → get f.files q ≡ Some there → target_for l.naming.number (q, there) ≢ None
  entry_leads q there at = by there.content refl
    where
      by : (c : Content) → there.content ≡ c → target_for l.naming.number (q, there) ≢ None
      by Dir is e =
          leads_to_directory _ _ (numbered_path accounts s f l q there at)
          (numbered_listing accounts s f l q there.class
          (at ∙ ap (λ (c : Content). Some (record { class = there.class; content = c })) is))
          (sym (ap (λ (c : Content). target_for l.naming.number (q, record { class = there.class; content = c })) is) ∙ e)
      by (File bytes) is e =
          leads_to_file _ (numbered_path accounts s f l q there at) (sym
          (ap (λ (c : Content). target_for l.naming.number (q, record { class = there.class; content = c }))
          is) ∙ e)

  -- a directory segment has as many entries as the flat directory
  pub count_entries : (d : Path) → map.len (directory_of f.files l.naming.number d) ≡ length (entries_in f d)
  count_entries d = len_directory f l.naming.number d (λ n there at. entry_leads (n ∷ d) there at)

  -- the boot thread's number is below the next one
  pub boot_thread_below : boot_thread_number < s.next_object
  boot_thread_below =
      let below =
      number_below same_step step_tests_equality s l.naming (expected accounts l.category f l.naming.number)
      (agreement l) (Slash ∷ []) (4 + 2 * length accounts.users)
      (l.as_booted (Slash ∷ []) (4 + 2 * length accounts.users) refl) in
      omega (arith, below)

  module _ (d : Path) (m : Name) (class : Class) (content : Content) (absent : get f.files (m ∷ d) ≡ None)
      (fits : ClassFits accounts s f l class) where
    abbrev pub made : Node
    made = record { class = class; content = content }

    abbrev pub after : Flat
    after = with_node f (m ∷ d) class content

    abbrev pub new_address : Address Step
    new_address = address_of (m ∷ d)

    not_in_itself : m ∷ d ≢ d
    not_in_itself e = let long = ap length e in absurd (omega (arith, long))

    -- the new node is at its path, and all others are where they were
    got_new : get after.files (m ∷ d) ≡ Some made
    got_new = get_new f.files (m ∷ d) made

    got_else : (q : Path) → q ≢ m ∷ d → get after.files q ≡ get f.files q
    got_else q other = get_other f.files (m ∷ d) made q other

    all_fit : (q : Path) (there : Node) → get after.files q ≡ Some there → ClassFits accounts s f l there.class
    all_fit q there at = elim (same_path_found q (m ∷ d)) [
      | inl e ↦
          let same : made ≡ there = same_Some made there (sym got_new ∙ ap (get after.files) (sym e.1) ∙ at) in
          subst (λ (x : Node). ClassFits accounts s f l x.class) same fits
      | inr e ↦ old_fits accounts s f l q there (sym (got_else q e.1) ∙ at)
    ]

    -- each job of a class is known, where those of the new one are
    all_known : AreKnown accounts s f l class → (q : Path) (there : Node) → get after.files q ≡ Some there → AreKnown accounts s f l there.class
    all_known known q there at = elim (same_path_found q (m ∷ d)) [
      | inl e ↦
          let same : made ≡ there = same_Some made there (sym got_new ∙ ap (get after.files) (sym e.1) ∙ at) in
          subst (λ (x : Node). AreKnown accounts s f l x.class) same known
      | inr e ↦ old_known accounts s f l q there (sym (got_else q e.1) ∙ at)
    ]

    -- the numbers in the names of jobs were given as before, where each job of the class is known
    pub jobs_made : AreKnown accounts s f l class → AreJobsGiven f → AreJobsGiven after
    jobs_made known = jobs_kept accounts s f l after.files (all_known known)

    -- The objects after the new ones were made: as before but for the new one and, for a directory, its segment.
    pub record Agreeing (mid : State) (naming : Naming Step) (asked : Address Step → Found) : Type 0 where
      pub agrees : AgreesAt same_step mid naming asked
      pub elsewhere : (a : Address Step) → new_address ≢ a → Listing ∷ new_address ≢ a → naming.number a ≡ l.naming.number a
      pub asked_new : asked new_address ≡ node_object accounts l.category (Some made)
      pub asked_inner : asked (Listing ∷ new_address) ≡ listing_object accounts l.category [] (Some made)
      pub asked_old : (a : Address Step) → new_address ≢ a → Listing ∷ new_address ≢ a → asked a ≡ expected accounts l.category f l.naming.number a
      pub numbered : mid.next_object ≤ greatest
      pub same_next : mid.next_category ≡ s.next_category
      pub gone : mid.objects boot_thread_number ≡ None

    -- what had an address keeps its number
    pub old_numbers : (mid : State) (naming : Naming Step) (asked : Address Step → Found) → Agreeing mid naming asked
        → (a : Address Step) (q : ℕ) → l.naming.number a ≡ Some q → naming.number a ≡ Some q
    old_numbers mid naming asked st a q at =
        st.elsewhere a (λ e. unnumbered (ap is_some (ap l.naming.number e ∙ at)))
        (λ e. unnumbered ((agreement l).tree.held Listing new_address (ap is_some (ap l.naming.number e ∙ at)))) ∙ at
      where
        unnumbered : is_some (l.naming.number new_address) ≡ true → ⊥
        unnumbered some = true≢false (sym some ∙ nothing_unnumbered accounts s f l (m ∷ d) absent)

    -- names keep their numbers, where each job of the class is known
    pub names_made : (mid new : State) (naming : Naming Step) (asked : Address Step → Found) → Agreeing mid naming asked
        → (later : ObjectsMatch accounts new after) → later.naming ≡ naming → later.category ≡ l.category
        → AreKnown accounts s f l class → KeepsNames l later
    names_made mid new naming asked st later naming_is category_is known =
        keeps_categories l later category_is (used_kept accounts s f l after.files (all_known known))
        (λ a q at some. ap (λ (names : Naming Step). names.number a) naming_is ∙ old_numbers mid naming asked st a q at)

    module _ (mid : State) (naming : Naming Step) (asked : Address Step → Found) (st : Agreeing mid naming asked)
        (N : ℕ) (at_listing : l.naming.number (Listing ∷ address_of d) ≡ Some N) where
      pub same_numbers : SameNumbers l.naming.number naming.number
      same_numbers = record {
        home = λ q. sym (st.elsewhere (home_address q) (not_home (m ∷ d) q) (listing_not_home new_address q));
        status = λ q. sym (st.elsewhere (Status ∷ home_address q) (not_begun (m ∷ d) (home_address q) Status refl) (λ e. cc));
        inside = λ q. sym (st.elsewhere (Inside ∷ home_address q) (not_begun (m ∷ d) (home_address q) Inside refl) (λ e. cc));
        runner = λ q. sym (st.elsewhere (Runner ∷ Inside ∷ home_address q) (not_begun (m ∷ d) (Inside ∷ home_address q) Runner refl) (λ e. cc));
      }

      number_path : (q : Path) → q ≢ m ∷ d → naming.number (address_of q) ≡ l.naming.number (address_of q)
      number_path q other =
          st.elsewhere (address_of q) (λ e. other (sym (same_address_path (m ∷ d) q e)))
          (λ e. not_begun q new_address Listing refl (sym e))

      number_listing : (q : Path) → q ≢ m ∷ d → naming.number (Listing ∷ address_of q) ≡ l.naming.number (Listing ∷ address_of q)
      number_listing q other =
          st.elsewhere (Listing ∷ address_of q) (not_begun (m ∷ d) (address_of q) Listing refl)
          (λ e. let tails : new_address ≡ address_of q = cc in other (sym (same_address_path (m ∷ d) q tails)))

      leads_else : (q : Path) → q ≢ m ∷ d → leads_at f.files l.naming.number q ≡ leads_at after.files naming.number q
      leads_else q other =
          same_leads f.files after.files l.naming.number naming.number q q (sym (got_else q other))
          (sym (number_path q other)) (sym (number_listing q other))

      directory_else : (e : Path) → d ≢ e → directory_of f.files l.naming.number e ≡ directory_of after.files naming.number e
      directory_else e other =
          directories_alike f.files after.files l.naming.number naming.number e e
          (λ n. leads_else (n ∷ e) (λ i. let tails : e ≡ d = cc in other (sym tails)))

      -- the new directory is empty
      directory_new : directory_of after.files naming.number (m ∷ d) ≡ map.empty
      directory_new = sym (directory_else (m ∷ d) (λ e. not_in_itself (sym e))) ∙ map.same_map nat_list_cmp_total antisymmetric _ _ (λ n.
          get_directory f.files l.naming.number (m ∷ d) n
          ∙ ap (option_and_then (λ (there : Node). target_for l.naming.number (n ∷ m ∷ d, there)))
          (nothing_in accounts s f l n (m ∷ d) absent) ∙ sym (map.get-empty by_bytes n))

      asked_else : (a : Address Step) → Listing ∷ address_of d ≢ a → asked a ≡ expected accounts l.category after naming.number a
      asked_else a other = elim (same_tests_equality same_step step_tests_equality new_address a) [
        | inl e ↦
            ap asked (sym e.1) ∙ st.asked_new
            ∙ sym (ap (expected accounts l.category after naming.number) (sym e.1)
            ∙ asked_path accounts l.category after naming.number (m ∷ d)
            ∙ ap (node_object accounts l.category) got_new)
        | inr e ↦ elim (same_tests_equality same_step step_tests_equality (Listing ∷ new_address) a) [
          | inl t ↦
              ap asked (sym t.1) ∙ st.asked_inner
              ∙ sym (ap (expected accounts l.category after naming.number) (sym t.1) ∙ asked_listing accounts l.category after naming.number (m ∷ d)
              ∙ (λ i. listing_object accounts l.category ((ap spelling directory_new ∙ spelled_empty) i) (got_new i)))
          | inr t ↦ st.asked_old a e.1 t.1 ∙ asked_same accounts l.category f after.files l.naming.number naming.number same_numbers a (record {
            at_path = λ q is. ap (node_object accounts l.category) (sym (got_else q (λ k. e.1 (ap address_of (sym k) ∙ sym is))));
            in_directory =
                λ q is. listing_else q (λ k. other (ap (λ (x : Path). Listing ∷ address_of x) k ∙ sym is))
                (λ k. t.1 (ap (λ (x : Path). Listing ∷ address_of x) (sym k) ∙ sym is));
          })
        ]
      ]
        where
          listing_else : (q : Path) → d ≢ q → q ≢ m ∷ d
              → listing_at accounts l.category f l.naming.number (Some q)
              ≡ listing_at accounts l.category after naming.number (Some q)
          listing_else q not_d not_new = λ i. listing_object accounts l.category (spelling (directory_else q not_d i)) (sym (got_else q not_new) i)

      asked_here : asked (Listing ∷ address_of d)
          ≡ listing_object accounts l.category (spelling (directory_of f.files l.naming.number d)) (get after.files d)
      asked_here =
          st.asked_old (Listing ∷ address_of d) (not_begun (m ∷ d) (address_of d) Listing refl)
          (λ e. let tails : new_address ≡ address_of d = cc in not_in_itself (same_address_path (m ∷ d) d tails))
          ∙ asked_listing accounts l.category f l.naming.number d
          ∙ ap (listing_object accounts l.category (spelling (directory_of f.files l.naming.number d)))
          (sym (got_else d (λ e. not_in_itself (sym e))))

      booted : (a : Address Step) (q : ℕ) → boot_number (length accounts.users) a ≡ Some q → naming.number a ≡ Some q
      booted a q is =
          st.elsewhere a (λ e. none-some q (ap (boot_number (length accounts.users)) e ∙ is))
          (λ e. none-some q (ap (boot_number (length accounts.users)) e ∙ is)) ∙ l.as_booted a q is

      module _ (target : Target) (leads : target_for naming.number (m ∷ d, made) ≡ Some target) where
        -- the parent directory with one entry more
        abbrev pub grown : Entries
        grown = map.insert (directory_of f.files l.naming.number d) m target

        pub directory_grown : directory_of after.files naming.number d ≡ grown
        directory_grown = map.same_map nat_list_cmp_total antisymmetric _ _ (λ n.
            get_directory after.files naming.number d n ∙ at_name n
            ∙ sym
            (map.get-insert nat_list_cmp_total (directory_of f.files l.naming.number d) m target n
            ∙ ap (cond (eq_by_cmp by_bytes n m) (Some target)) (get_directory f.files l.naming.number d n)
            ∙ ap (λ b. cond b (Some target) (leads_at f.files l.naming.number (n ∷ d))) (sym (texts_ties n m))))
          where
            at_name : (n : Name)
                → leads_at after.files naming.number (n ∷ d)
                ≡ cond (same_name n m) (Some target) (leads_at f.files l.naming.number (n ∷ d))
            at_name n = elim (same_name_found n m) [
              | inl e ↦
                  ap (λ (x : Name). leads_at after.files naming.number (x ∷ d)) e.1
                  ∙ ap (option_and_then (λ (there : Node). target_for naming.number (m ∷ d, there))) got_new ∙ leads
                  ∙ sym (ap (λ b. cond b (Some target) (leads_at f.files l.naming.number (n ∷ d))) e.0)
              | inr e ↦
                  sym (leads_else (n ∷ d) (λ i. let heads : n ≡ m = cc in e.1 heads))
                  ∙ sym (ap (λ b. cond b (Some target) (leads_at f.files l.naming.number (n ∷ d))) e.0)
            ]

        -- The kernel has the objects of the flat state with what was made.
        pub matched_made : IsTrue (is_name m) → IsTarget target → is_dir_at f d ≡ true → length (entries_in f d) < most_entries
            → (later : ObjectsMatch accounts (with_segment_bytes mid N (spelling grown)) after)
            × (later.naming ≡ naming) × (later.category ≡ l.category)
        matched_made name goal dir room =
            subst (λ (x : Entries). (later : ObjectsMatch accounts (with_segment_bytes mid N (spelling x)) after)
            × (later.naming ≡ naming) × (later.category ≡ l.category)) directory_grown
            (matched_listed accounts s f l after.files all_fit mid naming asked st.agrees st.numbered d N
            (number_listing d (λ e. not_in_itself (sym e)) ∙ at_listing)
            (spelling (directory_of f.files l.naming.number d)) asked_here asked_else booted listable st.same_next st.gone)
          where
            fuller : IsListable grown
            fuller =
                listable_insert (directory_of f.files l.naming.number d) m target (l.listable d dir)
                (omega (arith, room, count_entries d)) (name, goal)

            listable : (e : Path) → is_dir_at after e ≡ true → IsListable (directory_of after.files naming.number e)
            listable e is = elim (same_path_found d e) [
              | inl t ↦
                  subst (λ (z : Path). IsListable (directory_of after.files naming.number z)) t.1
                  (subst IsListable (sym directory_grown) fuller)
              | inr t ↦ elim (same_path_found e (m ∷ d)) [
                | inl u ↦
                    subst (λ (z : Path). IsListable (directory_of after.files naming.number z)) (sym u.1)
                    (subst IsListable (sym directory_new) listable_empty)
                | inr u ↦
                    subst IsListable (directory_else e t.1)
                    (l.listable e (ap (λ (o : Option Node). is_some_and o is_dir) (sym (got_else e u.1)) ∙ is))
              ]
            ]
