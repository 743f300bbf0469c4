-- After an entry of a directory is removed with all below it the kernel represents the flat state without it.
use Rattle.std.proofs.Common.{◌≡◌, ◌≢◌, ℕ, ◌+◌, ◌≤◌, ◌*◌, inl, inr, Bool, true, false, not, ◌||◌, cond, [], ◌∷◌, length, Option, None, Some, refl}
use Rattle.std.proofs.Common.{sym, ap, ◌∙◌, subst, if◌then◌else◌}
use Rattle.std.specs.Prelude.{option_and_then}
use Rattle.std.specs.FinMap as map
use Rattle.std.specs.FinMap.Entries.{find-where_key}
use Rattle.std.specs.Ordering.{eq_by_cmp}
use Rattle.std.specs.Cmp.Lexicographic.{nat_list_cmp_total, texts_ties}
use Rattle.std.proofs.lemmas.Option.{none-some}
use Rattle.std.proofs.Math.Bool.{or-false}
use mathlib.Core.Bool.{true≢false}
use Rattle.histar_flat.specs.Words.{Name, Path, ProcName}
use Rattle.histar_base.specs.Paths.{path_cmp, same as same_name, same_path}
use Rattle.histar_base.proofs.PathLaws.{path_cmp_exact}
use Rattle.histar_flat.specs.Files.{get}
use Rattle.histar_flat.proofs.FileLemmas.{same_name_found, same_path_found}
use Rattle.histar_layout.specs.Directory.{Entries, IsListable, spelling}
use Rattle.histar_layout.proofs.MapLemmas.{by_bytes, antisymmetric, listable_remove}
use Rattle.histar_object.specs.State.{State, Found, with_segment_bytes}
use Rattle.histar_container.specs.ObjectsModel.{CutsOff}
use Rattle.histar_container.specs.Tree.{Address, Naming, wanted, without_below, under, is_under, cut, same_steps, objects_at}
use Rattle.histar_container.proofs.Addresses.{same_tests_equality, same_itself, same_other, above}
use Rattle.histar_rules.specs.Rules.{greatest}
use Rattle.histar_programs.specs.Start.{boot_thread_number}
use Rattle.histar_flat.specs.Accounts.{Accounts}
use Rattle.histar_flat.specs.FlatState.{Node, Flat, is_dir, is_dir_at, is_some_and, without_below as without_below_path}
use Rattle.histar_flat.specs.PathOrder.{under_path}
use Rattle.histar_refinement.specs.Addresses.{Step, same_step, address_of, home_address, boot_number}
use Rattle.histar_refinement.proofs.KeepingNames.{keeps_above}
use Rattle.histar_refinement.proofs.Expected.{path_at, process_at, inside_at}
use Rattle.histar_refinement.specs.Addresses.Step.{Left, Slash, Listing, Named, Home, Status, Inside, Runner, Child}
use Rattle.histar_refinement.specs.Directories.{directory_of}
use Rattle.histar_refinement.proofs.AgreesAt.{AgreesAt}
use Rattle.histar_refinement.proofs.Expected.{node_object, listing_object, expected_node, listing_at, expected_home}
use Rattle.histar_refinement.proofs.Expected.{expected_status, container_inside}
use Rattle.histar_refinement.proofs.Expected.{thread_at, expected}
use Rattle.histar_refinement.specs.Represents.{AreJobsGiven, ObjectsMatch}
use Rattle.histar_refinement.specs.KeptNames.{RepresentsStill}
use Rattle.histar_refinement.proofs.Roots.{address_path, address_process, address_inside, asked_listing}
use Rattle.histar_refinement.proofs.Steps.{step_tests_equality}
use Rattle.histar_refinement.proofs.Moving.{agrees_cut, no_address}
use Rattle.histar_refinement.proofs.DirectoryLaws.{get_directory}
use Rattle.histar_refinement.proofs.ListedFiles.{SameNumbers, not_begun, same_address_path, asked_same, leads_at, directories_alike, same_leads}
use Rattle.histar_refinement.proofs.ListedFiles.{old_known, old_fits, ClassFits, matched_listed, jobs_kept, used_kept}
use Rattle.histar_refinement.proofs.Agreement.{agreement}

-- ---- what lies below a path, as an address

module _ (q : Path) where
  -- the first step of an address decides nothing where no path begins with it
  under_step : (x : Step) (a : Address Step) → path_at (x ∷ a) ≡ None → under same_step (address_of q) (x ∷ a) ≡ under same_step (address_of q) a
  under_step x a nothing =
      ap (λ t. t || under same_step (address_of q) a)
      (same_other same_step step_tests_equality (address_of q) (x ∷ a) (not_begun q a x nothing))

  same_addresses : (r : Path) → same_steps same_step (address_of q) (address_of r) ≡ same_path q r
  same_addresses r = elim (same_path_found q r) [
    | inl e ↦
        ap (λ (z : Path). same_steps same_step (address_of q) (address_of z)) (sym e.1)
        ∙ same_itself same_step step_tests_equality (address_of q) ∙ sym e.0
    | inr e ↦ same_other same_step step_tests_equality (address_of q) (address_of r) (λ k. e.1 (same_address_path q r k)) ∙ sym e.0
  ]

  not_root : same_steps same_step (address_of q) [] ≡ false
  not_root = by q
    where
      by : (p : Path) → same_steps same_step (address_of p) [] ≡ false
      by [] = refl
      by (n ∷ e) = refl

  pub under_address : (r : Path) → under same_step (address_of q) (address_of r) ≡ under_path q r
  under_address [] =
      ap (λ t. same_steps same_step (address_of q) (Slash ∷ []) || t) not_root
      ∙ or-false (same_steps same_step (address_of q) (Slash ∷ [])) ∙ same_addresses []
  under_address (n ∷ e) = λ i. same_addresses (n ∷ e) i || under_address e i

  pub under_listing : (r : Path) → under same_step (address_of q) (Listing ∷ address_of r) ≡ under_path q r
  under_listing r = under_step Listing (address_of r) refl ∙ under_address r

  pub under_home : (p : ProcName) → under same_step (address_of q) (home_address p) ≡ false
  under_home [] = under_step Home [] refl ∙ not_root
  under_home (n ∷ p) = under_step (Child n) (home_address p) refl ∙ under_home p

module _ (accounts : Accounts) (s : State) (f : Flat) (l : ObjectsMatch accounts s f) (m : Name) (d : Path) (D N o : ℕ)
    (at_directory : l.naming.number (address_of d) ≡ Some D)
    (at_listing : l.naming.number (Listing ∷ address_of d) ≡ Some N)
    (at_entry : l.naming.number (address_of (m ∷ d)) ≡ Some o)
    (mid : State) (cuts : CutsOff s D o mid) where
  abbrev top : Address Step
  top = Named m ∷ address_of d

  abbrev pub after : Flat
  after = without_below_path f (m ∷ d)

  abbrev pub naming : Naming Step
  naming = without_below same_step l.naming (Named m ∷ address_of d)

  abbrev old_asked : Address Step → Found
  old_asked = expected accounts l.category f l.naming.number

  abbrev wish : Address Step → Found
  wish = expected accounts l.category after naming.number

  got : (r : Path) → get after.files r ≡ cond (not (under_path (m ∷ d) r)) (get f.files r) None
  got r =
      find-where_key path_cmp (λ t. not (under_path (m ∷ d) t)) r
      (λ x e. ap (λ t. not (under_path (m ∷ d) t)) (sym (path_cmp_exact r x e))) f.files.entries

  got_gone : (r : Path) → under_path (m ∷ d) r ≡ true → get after.files r ≡ None
  got_gone r e = got r ∙ ap (λ t. cond (not t) (get f.files r) None) e

  got_kept : (r : Path) → under_path (m ∷ d) r ≡ false → get after.files r ≡ get f.files r
  got_kept r e = got r ∙ ap (λ t. cond (not t) (get f.files r) None) e

  kept : (b : Address Step) → under same_step top b ≡ false → l.naming.number b ≡ naming.number b
  kept b e = sym (ap (λ (t : Bool). if t then None else l.naming.number b) e)

  same_numbers : SameNumbers l.naming.number naming.number
  same_numbers = record {
    home = λ q. kept (home_address q) (under_home (m ∷ d) q);
    status = λ q. kept (Status ∷ home_address q) (under_step (m ∷ d) Status (home_address q) refl ∙ under_home (m ∷ d) q);
    inside = λ q. kept (Inside ∷ home_address q) (under_step (m ∷ d) Inside (home_address q) refl ∙ under_home (m ∷ d) q);
    runner =
        λ q. kept (Runner ∷ Inside ∷ home_address q) (under_step (m ∷ d) Runner (Inside ∷ home_address q) refl
        ∙ under_step (m ∷ d) Inside (home_address q) refl ∙ under_home (m ∷ d) q);
  }

  directory_outside : under_path (m ∷ d) d ≡ false
  directory_outside = sym (under_address (m ∷ d) d) ∙ above same_step step_tests_equality (address_of d) (Named m)

  agrees_mid : AgreesAt same_step mid naming (cut same_step old_asked top)
  agrees_mid = agrees_cut same_step step_tests_equality s l.naming old_asked (agreement l) mid D o (address_of d) (Named m) cuts at_entry at_directory

  leads_kept : (p : Path) → under_path (m ∷ d) p ≡ false → leads_at f.files l.naming.number p ≡ leads_at after.files naming.number p
  leads_kept p out =
      same_leads f.files after.files l.naming.number naming.number p p (sym (got_kept p out))
      (kept (address_of p) (under_address (m ∷ d) p ∙ out))
      (kept (Listing ∷ address_of p) (under_listing (m ∷ d) p ∙ out))

  out_child : (n : Name) (e : Path) → under_path (m ∷ d) e ≡ false → m ∷ d ≢ n ∷ e → under_path (m ∷ d) (n ∷ e) ≡ false
  out_child n e out other = elim (same_path_found (m ∷ d) (n ∷ e)) [
    | inl t ↦ absurd (other t.1)
    | inr t ↦ (λ i. t.0 i || out i)
  ]

  directory_kept : (e : Path) → under_path (m ∷ d) e ≡ false → d ≢ e
      → directory_of f.files l.naming.number e ≡ directory_of after.files naming.number e
  directory_kept e out other =
      directories_alike f.files after.files l.naming.number naming.number e e
      (λ n. leads_kept (n ∷ e) (out_child n e out (λ k. let tails : d ≡ e = cc in other tails)))

  -- nothing is asked for below the removed path
  no_process : (x : Step) (p : ProcName) → path_at (x ∷ home_address p) ≡ None → under same_step top (x ∷ home_address p) ≡ false
  no_process x p nothing = under_step (m ∷ d) x (home_address p) nothing ∙ under_home (m ∷ d) p

  nothing_path : (a : Address Step) (o : Option Path) → under same_step top a ≡ true → path_at a ≡ o
      → expected_node accounts l.category after naming.number o ≡ None
  nothing_path a None e is = refl
  nothing_path a (Some r) e is =
      ap (node_object accounts l.category)
      (got_gone r (sym (under_address (m ∷ d) r) ∙ ap (under same_step top) (sym (address_path a r is)) ∙ e))

  nothing_home : (a : Address Step) (o : Option ProcName) → under same_step top a ≡ true → process_at a ≡ o
      → expected_home accounts l.category after naming.number o ≡ None
  nothing_home a None e is = refl
  nothing_home a (Some p) e is = absurd (true≢false (sym e ∙ ap (under same_step top) (address_process a p is) ∙ under_home (m ∷ d) p))

  nothing_below : (a : Address Step) → under same_step top a ≡ true → wish a ≡ None
  nothing_below [] e = absurd (true≢false (sym e))
  nothing_below (Left k ∷ []) e = absurd (true≢false (sym e))
  nothing_below (Left k ∷ x ∷ a) e = refl
  nothing_below (Slash ∷ a) e = nothing_path (Slash ∷ a) (path_at (Slash ∷ a)) e refl
  nothing_below (Listing ∷ a) e = by (path_at a) refl
    where
      by : (o : Option Path) → path_at a ≡ o → listing_at accounts l.category after naming.number o ≡ None
      by None is = refl
      by (Some r) is = ap (listing_object accounts l.category (spelling (directory_of after.files naming.number r)))
          (got_gone r (sym (under_listing (m ∷ d) r) ∙ ap (λ (b : Address Step). under same_step top (Listing ∷ b)) (sym (address_path a r is)) ∙ e))
  nothing_below (Named n ∷ a) e = nothing_path (Named n ∷ a) (path_at (Named n ∷ a)) e refl
  nothing_below (Home ∷ a) e = nothing_home (Home ∷ a) (process_at (Home ∷ a)) e refl
  nothing_below (Status ∷ a) e = by (process_at a) refl
    where
      by : (q : Option ProcName) → process_at a ≡ q → expected_status accounts l.category after naming.number q ≡ None
      by None is = refl
      by (Some q) is =
          absurd (true≢false (sym e ∙ ap (λ (b : Address Step). under same_step top (Status ∷ b)) (address_process a q is)
          ∙ no_process Status q refl))
  nothing_below (Inside ∷ a) e = by (process_at a) refl
    where
      by : (q : Option ProcName) → process_at a ≡ q → container_inside accounts l.category after naming.number q ≡ None
      by None is = refl
      by (Some q) is =
          absurd (true≢false (sym e ∙ ap (λ (b : Address Step). under same_step top (Inside ∷ b)) (address_process a q is)
          ∙ no_process Inside q refl))
  nothing_below (Runner ∷ a) e = by (inside_at a) refl
    where
      by : (q : Option ProcName) → inside_at a ≡ q → thread_at accounts l.category after naming.number q ≡ None
      by None is = refl
      by (Some q) is =
          absurd (true≢false (sym e ∙ ap (λ (b : Address Step). under same_step top (Runner ∷ b)) (address_inside a q is)
          ∙ under_step (m ∷ d) Runner (Inside ∷ home_address q) refl ∙ no_process Inside q refl))
  nothing_below (Child k ∷ a) e = nothing_home (Child k ∷ a) (process_at (Child k ∷ a)) e refl

  wish_kept : (a : Address Step) → under same_step top a ≡ false → Listing ∷ address_of d ≢ a → old_asked a ≡ wish a
  wish_kept a out other = asked_same accounts l.category f after.files l.naming.number naming.number same_numbers a (record {
    at_path =
        λ r is. ap (node_object accounts l.category)
        (sym (got_kept r (sym (under_address (m ∷ d) r) ∙ ap (under same_step top) (sym is) ∙ out)));
    in_directory =
        λ r is. listing_kept r (sym (under_listing (m ∷ d) r) ∙ ap (under same_step top) (sym is) ∙ out)
        (λ k. other (ap (λ (x : Path). Listing ∷ address_of x) k ∙ sym is));
  })
    where
      listing_kept : (r : Path) → under_path (m ∷ d) r ≡ false → d ≢ r
          → listing_at accounts l.category f l.naming.number (Some r)
          ≡ listing_at accounts l.category after naming.number (Some r)
      listing_kept r out_r not_d = λ i. listing_object accounts l.category (spelling (directory_kept r out_r not_d i)) (sym (got_kept r out_r) i)

  asked_else : (a : Address Step) → Listing ∷ address_of d ≢ a → cut same_step old_asked top a ≡ wish a
  asked_else a other = by (under same_step top a) refl
    where
      by : (t : Bool) → under same_step top a ≡ t → (if t then None else old_asked a) ≡ wish a
      by true e = sym (nothing_below a e)
      by false e = wish_kept a e other

  listing_outside : under same_step top (Listing ∷ address_of d) ≡ false
  listing_outside = under_listing (m ∷ d) d ∙ directory_outside

  asked_here : cut same_step old_asked top (Listing ∷ address_of d)
      ≡ listing_object accounts l.category (spelling (directory_of f.files l.naming.number d)) (get after.files d)
  asked_here =
      ap (λ (t : Bool). if t then None else old_asked (Listing ∷ address_of d)) listing_outside
      ∙ asked_listing accounts l.category f l.naming.number d
      ∙ ap (listing_object accounts l.category (spelling (directory_of f.files l.naming.number d))) (sym (got_kept d directory_outside))

  -- boot made nothing below a path
  not_boot : (a : Address Step) → under same_step top a ≡ true → boot_number (length accounts.users) a ≡ None
  not_boot [] e = absurd (true≢false (sym e))
  not_boot (Left k ∷ []) e = absurd (true≢false (sym e))
  not_boot (Left k ∷ x ∷ a) e = refl
  not_boot (Slash ∷ []) e = absurd (true≢false (sym e))
  not_boot (Slash ∷ x ∷ a) e = refl
  not_boot (Listing ∷ a) e = elim (same_tests_equality same_step step_tests_equality (Slash ∷ []) a) [
    | inl i ↦ absurd (true≢false (sym e ∙ ap (λ (b : Address Step). under same_step top (Listing ∷ b)) (sym i.1)))
    | inr i ↦ ap (λ t. cond t (Some (5 + 2 * length accounts.users)) None) i.0
  ]
  not_boot (Named n ∷ a) e = refl
  not_boot (Home ∷ []) e = absurd (true≢false (sym e))
  not_boot (Home ∷ x ∷ a) e = refl
  not_boot (Status ∷ a) e = elim (same_tests_equality same_step step_tests_equality (Home ∷ []) a) [
    | inl i ↦ absurd (true≢false (sym e ∙ ap (λ (b : Address Step). under same_step top (Status ∷ b)) (sym i.1)))
    | inr i ↦ ap (λ t. cond t (Some (9 + 2 * length accounts.users)) None) i.0
  ]
  not_boot (Inside ∷ a) e = refl
  not_boot (Runner ∷ a) e = refl
  not_boot (Child k ∷ a) e = refl

  booted : (a : Address Step) (q : ℕ) → boot_number (length accounts.users) a ≡ Some q → naming.number a ≡ Some q
  booted a q e = by (under same_step top a) refl
    where
      by : (t : Bool) → under same_step top a ≡ t → naming.number a ≡ Some q
      by true i = absurd (none-some q (sym (not_boot a i) ∙ e))
      by false i = sym (kept a i) ∙ l.as_booted a q e

  gone_then : mid.objects boot_thread_number ≡ None
  gone_then =
      agrees_mid.tree.as_expected boot_thread_number
      ∙ ap (wanted (objects_at mid.objects naming)) (ap (λ (x : Option (Address Step)). if is_under same_step top x then None else x)
      (no_address same_step s l.naming old_asked (agreement l) boot_thread_number l.boot_thread_gone))

  -- the parent directory with one entry less
  abbrev pub smaller : Entries
  smaller = map.remove (directory_of f.files l.naming.number d) m

  pub directory_smaller : directory_of after.files naming.number d ≡ smaller
  directory_smaller = map.same_map nat_list_cmp_total antisymmetric _ _ (λ n.
      get_directory after.files naming.number d n ∙ at_name n
      ∙ sym
      (map.get-remove nat_list_cmp_total (directory_of f.files l.naming.number d) m n
      ∙ ap (cond (eq_by_cmp by_bytes n m) None) (get_directory f.files l.naming.number d n)
      ∙ ap (λ b. cond b None (leads_at f.files l.naming.number (n ∷ d))) (sym (texts_ties n m))))
    where
      itself_under : under_path (m ∷ d) (m ∷ d) ≡ true
      itself_under = elim (same_path_found (m ∷ d) (m ∷ d)) [ inl e ↦ ap (λ t. t || under_path (m ∷ d) d) e.0 | inr e ↦ absurd (e.1 refl) ]

      at_name : (n : Name) → leads_at after.files naming.number (n ∷ d) ≡ cond (same_name n m) None (leads_at f.files l.naming.number (n ∷ d))
      at_name n = elim (same_name_found n m) [
        | inl e ↦
            ap (λ (x : Name). leads_at after.files naming.number (x ∷ d)) e.1 ∙ ap (option_and_then _) (got_gone (m ∷ d) itself_under)
            ∙ sym (ap (λ b. cond b None (leads_at f.files l.naming.number (n ∷ d))) e.0)
        | inr e ↦
            sym (leads_kept (n ∷ d) (out_child n d directory_outside (λ i. let heads : m ≡ n = cc in e.1 (sym heads))))
            ∙ sym (ap (λ b. cond b None (leads_at f.files l.naming.number (n ∷ d))) e.0)
      ]

  was_there : (r : Path) (there : Node) → get after.files r ≡ Some there → get f.files r ≡ Some there
  was_there r there at = by (under_path (m ∷ d) r) refl
    where
      by : (t : Bool) → under_path (m ∷ d) r ≡ t → get f.files r ≡ Some there
      by true e = absurd (none-some there (sym (got_gone r e) ∙ at))
      by false e = sym (got_kept r e) ∙ at

  fits_all : (r : Path) (there : Node) → get after.files r ≡ Some there → ClassFits accounts s f l there.class
  fits_all r there at = old_fits accounts s f l r there (was_there r there at)

  -- the numbers in the names of jobs were given as before
  pub jobs_removed : AreJobsGiven f → AreJobsGiven after
  jobs_removed = jobs_kept accounts s f l after.files (λ r there at. old_known accounts s f l r there (was_there r there at))

  -- The kernel has the objects of the flat state without the path and all below it: `unlink`, `rmdir` and `rmtree` at any depth.
  pub matched_removed : is_dir_at f d ≡ true
      → (later : ObjectsMatch accounts (with_segment_bytes mid N (spelling smaller)) after) × (later.naming ≡ naming)
      × (later.category ≡ l.category)
  matched_removed dir =
      subst (λ (x : Entries).
      (later : ObjectsMatch accounts (with_segment_bytes mid N (spelling x)) after) × (later.naming ≡ naming)
      × (later.category ≡ l.category)) directory_smaller
      (matched_listed accounts s f l after.files fits_all mid naming (cut same_step old_asked top) agrees_mid
      (subst (λ (x : ℕ). x ≤ greatest) (sym cuts.next_object) l.numbered) d N
      (sym (kept (Listing ∷ address_of d) listing_outside) ∙ at_listing)
      (spelling (directory_of f.files l.naming.number d)) asked_here asked_else booted listable cuts.next_category
      gone_then)
    where
      dir_kept : (e : Path) → d ≢ e → (t : Bool) → under_path (m ∷ d) e ≡ t → is_dir_at after e ≡ true
          → IsListable (directory_of after.files naming.number e)
      dir_kept e other true u is = absurd (true≢false (sym is ∙ ap (λ (o : Option Node). is_some_and o is_dir) (got_gone e u)))
      dir_kept e other false u is =
          subst IsListable (directory_kept e u other)
          (l.listable e (ap (λ (o : Option Node). is_some_and o is_dir) (sym (got_kept e u)) ∙ is))

      listable : (e : Path) → is_dir_at after e ≡ true → IsListable (directory_of after.files naming.number e)
      listable e is = elim (same_path_found d e) [
        | inl t ↦
            subst (λ (z : Path). IsListable (directory_of after.files naming.number z)) t.1
            (subst IsListable (sym directory_smaller)
            (listable_remove (directory_of f.files l.naming.number d) m (l.listable d dir)))
        | inr t ↦ dir_kept e t.1 (under_path (m ∷ d) e) refl is
      ]

  -- the kernel represents the flat state without the entry, and names keep their numbers
  pub still_removed : (given : AreJobsGiven f) → is_dir_at f d ≡ true
      → RepresentsStill (record { matched = l; jobs_given = given }) (with_segment_bytes mid N (spelling smaller)) after
  still_removed given dir =
      let later = matched_removed dir in
      record {
        represents = record { matched = later.0; jobs_given = jobs_removed given };
        names =
            keeps_above l later.0 top later.1 later.2
            (used_kept accounts s f l after.files (λ r there at. old_known accounts s f l r there (was_there r there at)));
      }
