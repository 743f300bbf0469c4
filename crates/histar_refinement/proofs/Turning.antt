-- Two names of one directory change places: what this does to paths and to addresses.
use Rattle.std.proofs.Common.{◌≡◌, ◌≢◌, ◌≤◌, ◌⊎◌, inl, inr, Bool, true, false, ◌||◌, cond, List, [], ◌∷◌, length, Option, None, Some, arith, refl}
use Rattle.std.proofs.Common.{sym, ap, ◌∙◌}
use Rattle.std.specs.Prelude.{T, option_map, map}
use Rattle.std.specs.FinMap.{find, is_sorted}
use Rattle.std.specs.FinMap.Entries.{below_all}
use Rattle.std.specs.Ordering.{eq_by_cmp}
use mathlib.Core.Bool.{true≢false}
use Rattle.histar_flat.specs.Words.{Name, Path, ProcName}
use Rattle.histar_base.specs.Paths.{path_cmp, same as same_name, same_path}
use Rattle.histar_base.proofs.PathLaws.{path_cmp_total, path_cmp_exact}
use Rattle.histar_flat.specs.PathOrder.{under_path}
use Rattle.histar_flat.specs.Files.{Files, get, from_list}
use Rattle.histar_flat.proofs.FileLemmas.{same_name_found, same_path_found, get-insert, ties}
use Rattle.histar_flat.proofs.Finding.{first, second, find_first, find_later}
use Rattle.histar_container.specs.Tree.{Address}
use Rattle.histar_container.proofs.Addresses.{same_tests_equality, same_itself, same_other}
use Rattle.histar_flat.specs.FlatState.{moved}
use Rattle.histar_refinement.specs.Addresses.{Step, same_step, same_address, address_of, home_address}
use Rattle.histar_refinement.proofs.Expected.{path_at, process_at, inside_at}
use Rattle.histar_refinement.specs.Addresses.Step.{Left, Slash, Listing, Named, Home, Status, Inside, Runner, Child}
use Rattle.histar_refinement.proofs.Steps.{step_tests_equality}
use Rattle.histar_refinement.proofs.Roots.{address_path}
use Rattle.histar_refinement.proofs.ListedFiles.{same_address_path}

-- ---- lists in which the steps right below one list change

-- the steps right below `top` are changed
abbrev pub turned_list : {X : Type 0} → (List X → List X → Bool) → List X → (Bool → X → X) → List X → List X
turned_list eq top f [] = []
turned_list eq top f (x ∷ a) = f (eq top a) x ∷ turned_list eq top f a

module _ {X : Type 0} (eq : List X → List X → Bool)
    (decides : (a b : List X) → ((eq a b ≡ true) × (a ≡ b)) ⊎ ((eq a b ≡ false) × (a ≢ b))) (top : List X)
    (f : Bool → X → X)
    (still : (x : X) → f false x ≡ x) (back : (b : Bool) (x : X) → f b (f b x) ≡ x) where
  abbrev there : List X → List X
  there = turned_list eq top f

  as_long : (a : List X) → length (there a) ≡ length a
  as_long [] = refl
  as_long (x ∷ a) = omega (arith, as_long a)

  -- a list that is not longer than `top` stays
  pub short_stays : (a : List X) → length a ≤ length top → there a ≡ a
  short_stays [] h = refl
  short_stays (x ∷ a) h = elim (decides top a) [
    | inl e ↦ let same_length = ap length e.1 in absurd (omega (arith, h, same_length))
    | inr e ↦
        let rest : there a ≡ a = short_stays a (omega (arith, h)) in
        (λ i. f (e.0 i) x ∷ rest i) ∙ ap (λ (y : X). y ∷ a) (still x)
  ]

  pub top_stays : there top ≡ top
  top_stays = short_stays top (omega arith)

  -- only `top` becomes `top`
  pub same_top : (a : List X) → eq top (there a) ≡ eq top a
  same_top a = elim (decides top a) [
    | inl e ↦ ap (eq top) (ap there (sym e.1) ∙ top_stays ∙ e.1)
    | inr e ↦ by e (decides top (there a))
  ]
    where
      by : (eq top a ≡ false) × (top ≢ a)
          → ((eq top (there a) ≡ true) × (top ≡ there a)) ⊎ ((eq top (there a) ≡ false) × (top ≢ there a))
          → eq top (there a) ≡ eq top a
      by e (inl t) = let long = ap length t.1 ∙ as_long a in absurd (e.1 (t.1 ∙ short_stays a (omega (arith, long))))
      by e (inr t) = t.0 ∙ sym e.0

  -- turning twice changes nothing
  pub turned_back : (a : List X) → there (there a) ≡ a
  turned_back [] = refl
  turned_back (x ∷ a) = (λ i. f (same_top a i) (f (eq top a) x) ∷ turned_back a i) ∙ ap (λ (y : X). y ∷ a) (back (eq top a) x)

  pub turned_tests : (a b : List X) → eq a (there b) ≡ eq (there a) b
  turned_tests a b = elim (decides a (there b)) [
    | inl e ↦ e.0 ∙ by_equal (ap there e.1 ∙ turned_back b) (decides (there a) b)
    | inr e ↦ e.0 ∙ by_other (λ k. e.1 (sym (turned_back a) ∙ ap there k)) (decides (there a) b)
  ]
    where
      by_equal : there a ≡ b → ((eq (there a) b ≡ true) × (there a ≡ b)) ⊎ ((eq (there a) b ≡ false) × (there a ≢ b)) → true ≡ eq (there a) b
      by_equal k (inl t) = sym t.0
      by_equal k (inr t) = absurd (t.1 k)

      by_other : there a ≢ b → ((eq (there a) b ≡ true) × (there a ≡ b)) ⊎ ((eq (there a) b ≡ false) × (there a ≢ b)) → false ≡ eq (there a) b
      by_other k (inl t) = absurd (k t.1)
      by_other k (inr t) = sym t.0

-- ---- two names that change places

module _ (n k : Name) where
  -- n and k change places at this address
  abbrev pub turned_name : Bool → Name → Name
  turned_name here m = cond here (cond (same_name n m) k (cond (same_name k m) n m)) m

  -- the names in a step change places
  abbrev pub turned_step : Bool → Step → Step
  turned_step here (Left q) = Left q
  turned_step here Slash = Slash
  turned_step here Listing = Listing
  turned_step here (Named m) = Named (turned_name here m)
  turned_step here Home = Home
  turned_step here Status = Status
  turned_step here Inside = Inside
  turned_step here Runner = Runner
  turned_step here (Child m) = Child m

  same_self : (m : Name) → same_name m m ≡ true
  same_self m = elim (same_name_found m m) [ inl e ↦ e.0 | inr e ↦ absurd (e.1 refl) ]

  other_name : (x m : Name) → x ≢ m → same_name x m ≡ false
  other_name x m other = elim (same_name_found x m) [ inl e ↦ absurd (other e.1) | inr e ↦ e.0 ]

  pub turned_n : turned_name true n ≡ k
  turned_n = ap (λ b. cond b k (cond (same_name k n) n n)) (same_self n)

  pub turned_k : turned_name true k ≡ n
  turned_k = elim (same_name_found n k) [
    | inl e ↦ ap (λ b. cond b k (cond (same_name k k) n k)) e.0 ∙ sym e.1
    | inr e ↦ ap (λ b. cond b k (cond (same_name k k) n k)) e.0 ∙ ap (λ b. cond b n k) (same_self k)
  ]

  pub turned_else : (m : Name) → n ≢ m → k ≢ m → turned_name true m ≡ m
  turned_else m not_n not_k = ap (λ b. cond b k (cond (same_name k m) n m)) (other_name n m not_n) ∙ ap (λ b. cond b n m) (other_name k m not_k)

  pub name_back : (b : Bool) (m : Name) → turned_name b (turned_name b m) ≡ m
  name_back false m = refl
  name_back true m = elim (same_name_found n m) [
    | inl e ↦ ap (λ (x : Name). turned_name true (turned_name true x)) (sym e.1) ∙ ap (turned_name true) turned_n ∙ turned_k ∙ e.1
    | inr e ↦ elim (same_name_found k m) [
      | inl t ↦ ap (λ (x : Name). turned_name true (turned_name true x)) (sym t.1) ∙ ap (turned_name true) turned_k ∙ turned_n ∙ t.1
      | inr t ↦ ap (turned_name true) (turned_else m e.1 t.1) ∙ turned_else m e.1 t.1
    ]
  ]

  pub step_still : (x : Step) → turned_step false x ≡ x
  step_still (Left q) = refl
  step_still Slash = refl
  step_still Listing = refl
  step_still (Named m) = refl
  step_still Home = refl
  step_still Status = refl
  step_still Inside = refl
  step_still Runner = refl
  step_still (Child m) = refl

  pub step_back : (b : Bool) (x : Step) → turned_step b (turned_step b x) ≡ x
  step_back b (Left q) = refl
  step_back b Slash = refl
  step_back b Listing = refl
  step_back b (Named m) = ap Named (name_back b m)
  step_back b Home = refl
  step_back b Status = refl
  step_back b Inside = refl
  step_back b Runner = refl
  step_back b (Child m) = refl

  module _ (d : Path) where
    -- a path, and an address, once the entries n and k of the directory d have changed places
    abbrev pub turned : Path → Path
    turned = turned_list same_path d turned_name

    abbrev pub turned_address : Address Step → Address Step
    turned_address = turned_list same_address (address_of d) turned_step

    pub address_back : (a : Address Step) → turned_address (turned_address a) ≡ a
    address_back = turned_back same_address (same_tests_equality same_step step_tests_equality) (address_of d) turned_step step_still step_back

    pub directory_stays : turned d ≡ d
    directory_stays = top_stays same_path same_path_found d turned_name (λ m. refl) name_back

    pub address_stays : turned_address (address_of d) ≡ address_of d
    address_stays = top_stays same_address (same_tests_equality same_step step_tests_equality) (address_of d) turned_step step_still step_back

    pub same_tests : (a b : Address Step) → same_address a (turned_address b) ≡ same_address (turned_address a) b
    same_tests = turned_tests same_address (same_tests_equality same_step step_tests_equality) (address_of d) turned_step step_still step_back

    -- a path's address turns with the path
    same_roots : (e : Path) → same_address (address_of d) (address_of e) ≡ same_path d e
    same_roots e = elim (same_path_found d e) [
      | inl t ↦
          ap (λ (z : Path). same_address (address_of d) (address_of z)) (sym t.1)
          ∙ same_itself same_step step_tests_equality (address_of d) ∙ sym t.0
      | inr t ↦ same_other same_step step_tests_equality (address_of d) (address_of e) (λ i. t.1 (same_address_path d e i)) ∙ sym t.0
    ]

    pub turned_path_address : (q : Path) → turned_address (address_of q) ≡ address_of (turned q)
    turned_path_address [] = refl
    turned_path_address (m ∷ e) = λ i. Named (turned_name (same_roots e i) m) ∷ turned_path_address e i

    pub turned_home : (p : ProcName) → turned_address (home_address p) ≡ home_address p
    turned_home [] = refl
    turned_home (m ∷ p) = ap (λ (a : Address Step). Child m ∷ a) (turned_home p)

    -- the processes of an address are those of the turned one
    pub process_turned : (a : Address Step) → process_at (turned_address a) ≡ process_at a
    process_turned [] = refl
    process_turned (Left q ∷ a) = refl
    process_turned (Slash ∷ a) = refl
    process_turned (Listing ∷ a) = refl
    process_turned (Named m ∷ a) = refl
    process_turned (Home ∷ []) = refl
    process_turned (Home ∷ x ∷ a) = refl
    process_turned (Status ∷ a) = refl
    process_turned (Inside ∷ a) = refl
    process_turned (Runner ∷ a) = refl
    process_turned (Child m ∷ a) = ap (option_map (λ p. m ∷ p)) (process_turned a)

    pub inside_turned : (a : Address Step) → inside_at (turned_address a) ≡ inside_at a
    inside_turned [] = refl
    inside_turned (Left q ∷ a) = refl
    inside_turned (Slash ∷ a) = refl
    inside_turned (Listing ∷ a) = refl
    inside_turned (Named m ∷ a) = refl
    inside_turned (Home ∷ a) = refl
    inside_turned (Status ∷ a) = refl
    inside_turned (Inside ∷ a) = process_turned a
    inside_turned (Runner ∷ a) = refl
    inside_turned (Child m ∷ a) = refl

    -- the path of a turned address is the turned path
    pub path_turned : (a : Address Step) → path_at (turned_address a) ≡ option_map turned (path_at a)
    path_turned [] = refl
    path_turned (Left q ∷ a) = refl
    path_turned (Slash ∷ []) = refl
    path_turned (Slash ∷ x ∷ a) = refl
    path_turned (Listing ∷ a) = refl
    path_turned (Named m ∷ a) = ap (option_map (λ e. turned_name (same_address (address_of d) a) m ∷ e)) (path_turned a) ∙ by (path_at a) refl
      where
        by : (o : Option Path) → path_at a ≡ o
            → option_map (λ e. turned_name (same_address (address_of d) a) m ∷ e) (option_map turned o)
            ≡ option_map turned (option_map (λ e. m ∷ e) o)
        by None is = refl
        by (Some e) is = ap (λ b. Some (turned_name b m ∷ turned e)) (ap (same_address (address_of d)) (address_path a e is) ∙ same_roots e)
    path_turned (Home ∷ a) = refl
    path_turned (Status ∷ a) = refl
    path_turned (Inside ∷ a) = refl
    path_turned (Runner ∷ a) = refl
    path_turned (Child m ∷ a) = refl

    -- ---- the renamed tree

    old_turned : turned (n ∷ d) ≡ k ∷ d
    old_turned = (λ i. turned_name (itself i) n ∷ directory_stays i) ∙ ap (λ (m : Name). m ∷ d) turned_n
      where
        itself : same_path d d ≡ true
        itself = elim (same_path_found d d) [ inl e ↦ e.0 | inr e ↦ absurd (e.1 refl) ]

    name_else : (m : Name) (e : Path) → n ∷ d ≢ m ∷ e → k ∷ d ≢ m ∷ e → turned_name (same_path d e) m ≡ m
    name_else m e not_old not_new = elim (same_path_found d e) [
      | inl t ↦ ap (λ b. turned_name b m) t.0 ∙ turned_else m (λ x. not_old (λ i. x i ∷ t.1 i)) (λ x. not_new (λ i. x i ∷ t.1 i))
      | inr t ↦ ap (λ b. turned_name b m) t.0
    ]

    -- where nothing has the new name, the moved path is the turned one
    pub moved_turned : (r : Path) → under_path (k ∷ d) r ≡ false → moved (n ∷ d) (k ∷ d) r ≡ turned r
    moved_turned [] out = refl
    moved_turned (m ∷ e) out = elim (same_path_found (k ∷ d) (m ∷ e)) [
      | inl t ↦ absurd (true≢false (sym (ap (λ b. b || under_path (k ∷ d) e) t.0) ∙ out))
      | inr t ↦ elim (same_path_found (n ∷ d) (m ∷ e)) [
        | inl u ↦ ap (λ b. cond b (k ∷ d) (m ∷ moved (n ∷ d) (k ∷ d) e)) u.0 ∙ sym old_turned ∙ ap turned u.1
        | inr u ↦
            let name : m ≡ turned_name (same_path d e) m = sym (name_else m e u.1 t.1) in
            let rest : moved (n ∷ d) (k ∷ d) e ≡ turned e = moved_turned e (sym (ap (λ b. b || under_path (k ∷ d) e) t.0) ∙ out) in
            ap (λ b. cond b (k ∷ d) (m ∷ moved (n ∷ d) (k ∷ d) e)) u.0 ∙ (λ i. name i ∷ rest i)
      ]
    ]

    module _ {Y : Type 0} where
      turned_entries : (es : List (Path × Y)) → T (is_sorted path_cmp es)
          → ((q : Path) (y : Y) → find path_cmp q es ≡ Some y → under_path (k ∷ d) q ≡ false)
          → map {B = Path × Y} (λ (e : Path × Y). (moved (n ∷ d) (k ∷ d) e.0, e.1)) es ≡ map {B = Path × Y} (λ (e : Path × Y). (turned e.0, e.1)) es
      turned_entries [] sorted free = refl
      turned_entries (e ∷ es) sorted free =
          let here : moved (n ∷ d) (k ∷ d) e.0 ≡ turned e.0 = moved_turned e.0 (free e.0 e.1 (find_first path_cmp_total path_cmp_exact e.0 e.1 es)) in
          let rest =
          turned_entries es (second (below_all path_cmp e.0 es) _ sorted)
          (λ q y at. free q y (find_later path_cmp_total path_cmp_exact e.0 e.1 es q y
          (first (below_all path_cmp e.0 es) _ sorted) at)) in
          λ i. (here i, e.1) ∷ rest i

      find_turned : (es : List (Path × Y)) (q : Path)
          → get (from_list (map {B = Path × Y} (λ (e : Path × Y). (turned e.0, e.1)) es)) q
          ≡ find path_cmp (turned q) es
      find_turned [] q = refl
      find_turned (e ∷ es) q =
          get-insert (from_list (map {B = Path × Y} (λ (x : Path × Y). (turned x.0, x.1)) es)) (turned e.0) e.1 q
          ∙ ap
          (λ b. cond b (Some e.1) (get (from_list (map {B = Path × Y} (λ (x : Path × Y). (turned x.0, x.1)) es)) q))
          (turned_tests same_path same_path_found d turned_name (λ m. refl) name_back q e.0
          ∙ sym (ties (turned q) e.0))
          ∙ ap (cond (eq_by_cmp path_cmp (turned q) e.0) (Some e.1)) (find_turned es q)

      -- what the renamed tree answers at a path is what the tree did at the turned one
      pub get_renamed : (m : Files Y) → ((q : Path) (y : Y) → get m q ≡ Some y → under_path (k ∷ d) q ≡ false) → (q : Path)
          → get (from_list (map {B = Path × Y} (λ (e : Path × Y). (moved (n ∷ d) (k ∷ d) e.0, e.1)) m.entries)) q ≡ get m (turned q)
      get_renamed m free q = ap (λ (es : List (Path × Y)). get (from_list es) q) (turned_entries m.entries m.sorted free) ∙ find_turned m.entries q
