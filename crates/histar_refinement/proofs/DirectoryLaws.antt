-- What a directory has at a name, how many entries it has, and how many bytes its segment has.
use Rattle.std.specs.Prelude.{◌≡◌, ◌≢◌, ◌*◌, ◌≤◌, Bool, cond, T, List, [], ◌∷◌, length, Option, Some, None, option_map, option_and_then, refl}
use Rattle.std.specs.List.{filter_map, cons_option, flat_map, AllByRecursion}
use Rattle.std.proofs.Common.{ap, sym, ◌∙◌, subst, inl, inr, arith}
use Rattle.std.specs.Ordering.{is_lt}
use Rattle.std.specs.Cmp.Lexicographic.{nat_list_cmp_total}
use Rattle.std.specs.FinMap as map
use Rattle.std.specs.FinMap.{find, is_sorted}
use Rattle.std.specs.FinMap.Entries.{below_all}
use Rattle.std.proofs.lemmas.List.{length-append}
use Rattle.histar_flat.specs.Words.{Name, Path}
use Rattle.histar_base.specs.Paths.{path_cmp}
use Rattle.histar_base.proofs.PathLaws.{path_cmp_total, path_cmp_exact}
use Rattle.histar_flat.specs.Files.{Files, get}
use Rattle.histar_flat.specs.FlatState.{Node, Flat, Entry, is_dir, entry_in, entries_in}
use Rattle.histar_flat.proofs.FileLemmas.{same_path_found, same_name_found}
use Rattle.histar_flat.proofs.WordLemmas.{short_name}
use Rattle.histar_layout.specs.declared.entry.Target.{Target}
use Rattle.histar_layout.specs.Directory.{Entries, IsEntry, IsListable, entry_bytes, target_bytes, spelling}
use Rattle.histar_layout.proofs.MapLemmas.{by_bytes, antisymmetric, len_sorted}
use Rattle.histar_layout.proofs.LookingUp.{target_len}
use Rattle.histar_refinement.specs.Addresses.{AddressNumbers}
use Rattle.histar_refinement.specs.Directories.{target_for, target_in, directory_of}
use Rattle.histar_flat.proofs.Finding.{first, second, both, find_first, find_behind, find_below, find_later, names_decide}

module _ (number : AddressNumbers) (d : Path) where
  -- the entries of the directory among some, with where each leads
  abbrev listed : List (Path × Node) → List (Name × Target)
  listed = filter_map (target_in number d)

  -- where the entry of a name leads
  abbrev leads : Name → Node → Option Target
  leads n there = target_for number (n ∷ d, there)

  -- an entry of the directory is none of another one
  not_above : (n m : Name) (above : Path) → d ≢ above → n ∷ d ≢ m ∷ above
  not_above n m above other e = let same : d ≡ above = cc in other same

  -- an entry's path is not `/`
  not_root : (n : Name) → n ∷ d ≢ []
  not_root n e = cc

  -- entries of different names are different
  not_named : (n m : Name) → n ≢ m → n ∷ d ≢ m ∷ d
  not_named n m other e = let same : n ≡ m = cc in other same

  -- an entry of the name before others
  find_same : (n : Name) (there : Node) (es : List (Path × Node)) → T (below_all path_cmp (n ∷ d) es)
      → find by_bytes n (listed es) ≡ option_and_then (leads n) (find path_cmp (n ∷ d) es)
      → find by_bytes n (cons_option (option_map (λ target. (n, target)) (leads n there)) (listed es)) ≡ leads n there
  find_same n there es below rest = by (leads n there)
    where
      by : (target : Option Target) → find by_bytes n (cons_option (option_map (λ goal. (n, goal)) target) (listed es)) ≡ target
      by None = rest ∙ ap (option_and_then (leads n)) (find_below path_cmp_total path_cmp_exact (n ∷ d) es below)
      by (Some target) = find_first nat_list_cmp_total antisymmetric n target (listed es)

  -- an entry of another name before others
  find_other : (n m : Name) (target : Option Target) (es : List (Path × Node)) → n ≢ m
      → find by_bytes n (cons_option (option_map (λ goal. (m, goal)) target) (listed es)) ≡ find by_bytes n (listed es)
  find_other n m None es other = refl
  find_other n m (Some target) es other = find_behind nat_list_cmp_total antisymmetric n m target (listed es) other

  -- an entry before others
  find_one : (n m : Name) (there : Node) (es : List (Path × Node)) → T (below_all path_cmp (m ∷ d) es)
      → find by_bytes n (listed es) ≡ option_and_then (leads n) (find path_cmp (n ∷ d) es)
      → find by_bytes n (cons_option (option_map (λ target. (m, target)) (leads m there)) (listed es))
      ≡ option_and_then (leads n) (find path_cmp (n ∷ d) ((m ∷ d, there) ∷ es))
  find_one n m there es below rest = elim (same_name_found n m) [
    | inl e ↦
        let low : T (below_all path_cmp (n ∷ d) es) = subst (λ (k : Name). T (below_all path_cmp (k ∷ d) es)) (sym e.1) below in
        subst (λ (k : Name).
        find by_bytes n (cons_option (option_map (λ target. (k, target)) (leads k there)) (listed es))
        ≡ option_and_then (leads n) (find path_cmp (n ∷ d) ((k ∷ d, there) ∷ es))) e.1
        (find_same n there es low rest ∙ sym (ap (option_and_then (leads n)) (find_first path_cmp_total path_cmp_exact (n ∷ d) there es)))
    | inr e ↦
        find_other n m (leads m there) es e.1 ∙ rest
        ∙ sym (ap (option_and_then (leads n))
        (find_behind path_cmp_total path_cmp_exact (n ∷ d) (m ∷ d) there es (not_named n m e.1)))
  ]

  -- an entry whose directory is this one, before others
  abbrev Agrees : Name → Name → Node → List (Path × Node) → Path → Type 0
  Agrees n m there es above = T (below_all path_cmp (m ∷ above) es)
      → find by_bytes n
      (cons_option (option_map (λ target. (m, target)) (target_for number (m ∷ above, there))) (listed es))
      ≡ option_and_then (leads n) (find path_cmp (n ∷ d) ((m ∷ above, there) ∷ es))

  -- what is found among the entries of the directory is where the path leads
  find_listed : (n : Name) (es : List (Path × Node)) → T (is_sorted path_cmp es)
      → find by_bytes n (listed es) ≡ option_and_then (leads n) (find path_cmp (n ∷ d) es)
  find_listed n [] h = refl
  find_listed n (e ∷ es) h = step e.0 e.1 (first (below_all path_cmp e.0 es) _ h) (find_listed n es (second (below_all path_cmp e.0 es) _ h))
    where
      step : (q : Path) (there : Node) → T (below_all path_cmp q es)
          → find by_bytes n (listed es) ≡ option_and_then (leads n) (find path_cmp (n ∷ d) es)
          → find by_bytes n (listed ((q, there) ∷ es)) ≡ option_and_then (leads n) (find path_cmp (n ∷ d) ((q, there) ∷ es))
      step [] there below rest =
          rest
          ∙ sym (ap (option_and_then (leads n))
          (find_behind path_cmp_total path_cmp_exact (n ∷ d) [] there es (not_root n)))
      step (m ∷ above) there below rest = elim (same_path_found d above) [
        | inl t ↦
            ap (λ b. find by_bytes n (cons_option
            (cond b (option_map (λ target. (m, target)) (target_for number (m ∷ above, there))) None)
            (listed es))) t.0
            ∙ subst (Agrees n m there es) t.1 (λ low. find_one n m there es low rest) below
        | inr t ↦
            ap (λ b. find by_bytes n (cons_option
            (cond b (option_map (λ target. (m, target)) (target_for number (m ∷ above, there))) None)
            (listed es))) t.0
            ∙ rest
            ∙ sym (ap (option_and_then (leads n)) (find_behind path_cmp_total path_cmp_exact (n ∷ d) (m ∷ above) there es
            (not_above n m above t.1)))
      ]

  -- a name below one entry and those after it is below both
  below_named : (n m : Name) (target : Option Target) (es : List (Path × Node)) → T (is_lt (path_cmp (n ∷ d) (m ∷ d)))
      → T (below_all by_bytes n (listed es))
      → T (below_all by_bytes n (cons_option (option_map (λ goal. (m, goal)) target) (listed es)))
  below_named n m None es low rest = rest
  below_named n m (Some target) es low rest = both (is_lt (by_bytes n m)) _ (subst (λ o. T (is_lt o)) (names_decide d n m) low) rest

  -- what is below all paths is below those of the directory
  below_listed : (n : Name) (es : List (Path × Node)) → T (below_all path_cmp (n ∷ d) es) → T (below_all by_bytes n (listed es))
  below_listed n [] h = tt
  below_listed n (e ∷ es) h = step e.0 e.1 (first (is_lt (path_cmp (n ∷ d) e.0)) _ h) (below_listed n es (second (is_lt (path_cmp (n ∷ d) e.0)) _ h))
    where
      step : (q : Path) (there : Node) → T (is_lt (path_cmp (n ∷ d) q)) → T (below_all by_bytes n (listed es))
          → T (below_all by_bytes n (listed ((q, there) ∷ es)))
      step [] there low rest = rest
      step (m ∷ above) there low rest = elim (same_path_found d above) [
        | inl t ↦
            let near : T (is_lt (path_cmp (n ∷ d) (m ∷ d))) = subst (λ (a : Path). T (is_lt (path_cmp (n ∷ d) (m ∷ a)))) (sym t.1) low in
            subst (λ b. T (below_all by_bytes n (cons_option
            (cond b (option_map (λ target. (m, target)) (target_for number (m ∷ above, there))) None)
            (listed es)))) (sym t.0)
            (below_named n m (target_for number (m ∷ above, there)) es near rest)
        | inr t ↦
            subst (λ b. T (below_all by_bytes n (cons_option
            (cond b (option_map (λ target. (m, target)) (target_for number (m ∷ above, there))) None)
            (listed es)))) (sym t.0) rest
      ]

  -- the names of a directory's entries rise
  pub sorted_listed : (es : List (Path × Node)) → T (is_sorted path_cmp es) → T (is_sorted by_bytes (listed es))
  sorted_listed [] h = tt
  sorted_listed (e ∷ es) h = step e.0 e.1 (first (below_all path_cmp e.0 es) _ h) (sorted_listed es (second (below_all path_cmp e.0 es) _ h))
    where
      one : (n : Name) (target : Option Target) → T (below_all by_bytes n (listed es))
          → T (is_sorted by_bytes (listed es))
          → T (is_sorted by_bytes (cons_option (option_map (λ goal. (n, goal)) target) (listed es)))
      one n None low rest = rest
      one n (Some target) low rest = both (below_all by_bytes n (listed es)) _ low rest

      step : (q : Path) (there : Node) → T (below_all path_cmp q es) → T (is_sorted by_bytes (listed es))
          → T (is_sorted by_bytes (listed ((q, there) ∷ es)))
      step [] there low rest = rest
      step (n ∷ above) there low rest = elim (same_path_found d above) [
        | inl t ↦
            let near : T (below_all path_cmp (n ∷ d) es) = subst (λ (a : Path). T (below_all path_cmp (n ∷ a) es)) (sym t.1) low in
            subst (λ b.
            T (is_sorted by_bytes (cons_option (cond b (option_map (λ target. (n, target)) (target_for number (n ∷ above, there)))
            None) (listed es)))) (sym t.0)
            (one n (target_for number (n ∷ above, there)) (below_listed n es near) rest)
        | inr t ↦
            subst (λ b.
            T (is_sorted by_bytes (cons_option (cond b (option_map (λ target. (n, target)) (target_for number (n ∷ above, there)))
            None) (listed es)))) (sym t.0) rest
      ]

  -- each entry of the directory leads somewhere
  abbrev AllLead : List (Path × Node) → Type 0
  AllLead es = (n : Name) (there : Node) → find path_cmp (n ∷ d) es ≡ Some there → leads n there ≢ None

  -- an entry before others is in both lists, or in none of them
  abbrev AsMany : Name → Path → Node → List (Path × Node) → Bool → Type 0
  AsMany n above there es b =
      length (cons_option (cond b (option_map (λ target. (n, target)) (target_for number (n ∷ above, there))) None)
      (listed es)) ≡ length (cons_option (cond b (Some (n, is_dir there)) None) (filter_map (entry_in d) es))

  -- one entry that leads somewhere counts in both lists
  length_one : (n : Name) (target : Option Target) (small : Entry) (es : List (Path × Node)) → target ≢ None
      → length (listed es) ≡ length (filter_map (entry_in d) es)
      → length (cons_option (option_map (λ goal. (n, goal)) target) (listed es)) ≡ length (cons_option (Some small) (filter_map (entry_in d) es))
  length_one n None small es some rest = absurd (some refl)
  length_one n (Some target) small es some rest = omega (arith, rest)

  -- then the directory has as many entries with where they lead
  length_listed : (es : List (Path × Node)) → T (is_sorted path_cmp es) → AllLead es → length (listed es) ≡ length (filter_map (entry_in d) es)
  length_listed [] h lead = refl
  length_listed (e ∷ es) h lead = step e.0 e.1 lead (length_listed es (second (below_all path_cmp e.0 es) _ h)
      (λ n there is. lead n there (find_later path_cmp_total path_cmp_exact e.0 e.1 es (n ∷ d) there (first (below_all path_cmp e.0 es) _ h) is)))
    where
      step : (q : Path) (there : Node) → AllLead ((q, there) ∷ es)
          → length (listed es) ≡ length (filter_map (entry_in d) es)
          → length (listed ((q, there) ∷ es)) ≡ length (filter_map (entry_in d) ((q, there) ∷ es))
      step [] there lead rest = rest
      step (n ∷ above) there lead rest = elim (same_path_found d above) [
        | inl t ↦
            let found : find path_cmp (n ∷ d) ((n ∷ above, there) ∷ es) ≡ Some there =
            subst (λ (a : Path). find path_cmp (n ∷ d) ((n ∷ a, there) ∷ es) ≡ Some there) t.1
            (find_first path_cmp_total path_cmp_exact (n ∷ d) there es) in
            let some : target_for number (n ∷ above, there) ≢ None =
            subst (λ (a : Path). target_for number (n ∷ a, there) ≢ None) t.1 (lead n there found) in
            subst (λ b. AsMany n above there es b) (sym t.0) (length_one n (target_for number (n ∷ above, there)) (n, is_dir there) es some rest)
        | inr t ↦ subst (λ b. AsMany n above there es b) (sym t.0) rest
      ]

-- the entry of a name in a directory is where its path leads
pub get_directory : (files : Files Node) (number : AddressNumbers) (d : Path) (n : Name)
    → map.get (directory_of files number d) n
    ≡ option_and_then (λ (there : Node). target_for number (n ∷ d, there)) (get files (n ∷ d))
get_directory files number d n =
    map.get-from_entries nat_list_cmp_total (filter_map (target_in number d) files.entries) n
    ∙ find_listed number d n files.entries files.sorted

-- a directory has as many entries as the flat state, where each of them leads somewhere
pub len_directory : (f : Flat) (number : AddressNumbers) (d : Path)
    → ((n : Name) (there : Node) → get f.files (n ∷ d) ≡ Some there → target_for number (n ∷ d, there) ≢ None)
    → map.len (directory_of f.files number d) ≡ length (entries_in f d)
len_directory f number d lead =
    len_sorted (filter_map (target_in number d) f.files.entries) (sorted_listed number d f.files.entries f.files.sorted)
    ∙ length_listed number d f.files.entries f.files.sorted lead

-- ---- the bytes of a directory

-- an entry takes at most 50 bytes
length_entries : (es : List (Name × Target)) → AllByRecursion IsEntry es → length (flat_map entry_bytes es) ≤ 50 * length es
length_entries [] h = omega arith
length_entries (e ∷ es) h =
    omega (
      arith,
      length_entries es h.1,
      short_name e.0 h.0.0,
      target_len e.1,
      length-append (entry_bytes e)
          (flat_map entry_bytes es),
      length-append e.0 (target_bytes e.1),
    )

-- the bytes of a directory are not too many for a segment
pub spelling_fits : (dir : Entries) → IsListable dir → length (spelling dir) ≤ 4096
spelling_fits dir h = omega (arith, length_entries (map.entries dir) h.each, map.len-entries dir, h.few)
