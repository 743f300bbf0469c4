-- The entries that a directory segment lists are those of the flat state.
use Rattle.std.specs.Prelude.{◌≡◌, ◌≢◌, Bool, true, false, cond, T, List, [], ◌∷◌, Option, Some, None, map, option_map, refl}
use Rattle.std.specs.List.{filter_map, cons_option}
use Rattle.std.proofs.Common.{ap, sym, ◌∙◌, subst, inl, inr}
use Rattle.std.specs.FinMap.{find, is_sorted}
use Rattle.std.specs.FinMap.Entries.{below_all}
use Rattle.histar_flat.specs.Words.{Name, Path}
use Rattle.histar_base.specs.Paths.{path_cmp}
use Rattle.histar_base.proofs.PathLaws.{path_cmp_total, path_cmp_exact}
use Rattle.histar_flat.specs.Files.{get}
use Rattle.histar_flat.specs.FlatState.{Node, Content, Flat, is_dir, entry_in, entries_in}
use Rattle.histar_flat.specs.FlatState.Content.{Dir, File}
use Rattle.histar_flat.proofs.FileLemmas.{same_path_found}
use Rattle.histar_flat.proofs.Finding.{first, second, find_first, find_later}
use Rattle.histar_layout.specs.declared.entry.Target.{Target}
use Rattle.histar_layout.specs.declared.entry.Target.TheVariants as targets
use Rattle.histar_layout.specs.Listing.{is_directory, shown_entry, names_in}
use Rattle.histar_layout.proofs.MapLemmas.{sorted_made}
use Rattle.histar_refinement.specs.Addresses.{AddressNumbers}
use Rattle.histar_refinement.specs.Directories.{both_numbers, target_for, target_in, directory_of}
use Rattle.histar_refinement.proofs.DirectoryLaws.{sorted_listed}

-- an entry leads to a directory exactly where its path is one
kind_kept : (number : AddressNumbers) (q : Path) (there : Node) (target : Target)
    → target_for number (q, there) ≡ Some target → is_directory target ≡ is_dir there
kind_kept number q there target is = by there.content refl
  where
    of_file : (o : Option _) → option_map targets.File o ≡ Some target → is_directory target ≡ false
    of_file None e = absurd cc
    of_file (Some n) e = let same : targets.File n ≡ target = cc in ap is_directory (sym same)

    of_both : (a b : Option _) → both_numbers a b ≡ Some target → is_directory target ≡ true
    of_both None b e = absurd cc
    of_both (Some c) None e = absurd cc
    of_both (Some c) (Some l) e = let same : targets.Directory c l ≡ target = cc in ap is_directory (sym same)

    by : (c : Content) → there.content ≡ c → is_directory target ≡ is_dir there
    by Dir e =
        of_both _ _
        (sym (ap (λ (c : Content). target_for number (q, record { class = there.class; content = c })) e) ∙ is)
        ∙ sym (ap (λ (c : Content). is_dir (record { class = there.class; content = c })) e)
    by (File bytes) e =
        of_file _
        (sym (ap (λ (c : Content). target_for number (q, record { class = there.class; content = c })) e) ∙ is)
        ∙ sym (ap (λ (c : Content). is_dir (record { class = there.class; content = c })) e)

module _ (number : AddressNumbers) (d : Path) where
  abbrev listed : List (Path × Node) → List (Name × Target)
  listed = filter_map (target_in number d)

  -- each entry of the directory leads somewhere
  abbrev AllLead : List (Path × Node) → Type 0
  AllLead es = (n : Name) (there : Node) → find path_cmp (n ∷ d) es ≡ Some there → target_for number (n ∷ d, there) ≢ None

  -- an entry before others has the kind that it has in the flat state
  abbrev ShownAlike : Name → Path → Node → List (Path × Node) → Bool → Type 0
  ShownAlike n above there es b =
      map shown_entry (cons_option (cond b (option_map (λ target. (n, target)) (target_for number (n ∷ above, there))) None)
      (listed es)) ≡ cons_option (cond b (Some (n, is_dir there)) None) (filter_map (entry_in d) es)

  shown_one : (n : Name) (there : Node) (target : Option Target) (es : List (Path × Node))
      → target_for number (n ∷ d, there) ≡ target → target ≢ None
      → map shown_entry (listed es) ≡ filter_map (entry_in d) es
      → map shown_entry (cons_option (option_map (λ goal. (n, goal)) target) (listed es))
      ≡ cons_option (Some (n, is_dir there)) (filter_map (entry_in d) es)
  shown_one n there None es is some rest = absurd (some refl)
  shown_one n there (Some target) es is some rest = λ i. (n, kind_kept number (n ∷ d) there target is i) ∷ rest i

  names_listed : (es : List (Path × Node)) → T (is_sorted path_cmp es) → AllLead es → map shown_entry (listed es) ≡ filter_map (entry_in d) es
  names_listed [] h lead = refl
  names_listed (e ∷ es) h lead = step e.0 e.1 lead (names_listed es (second (below_all path_cmp e.0 es) _ h)
      (λ n there is. lead n there (find_later path_cmp_total path_cmp_exact e.0 e.1 es (n ∷ d) there (first (below_all path_cmp e.0 es) _ h) is)))
    where
      step : (q : Path) (there : Node) → AllLead ((q, there) ∷ es)
          → map shown_entry (listed es) ≡ filter_map (entry_in d) es
          → map shown_entry (listed ((q, there) ∷ es)) ≡ filter_map (entry_in d) ((q, there) ∷ es)
      step [] there lead rest = rest
      step (n ∷ above) there lead rest = elim (same_path_found d above) [
        | inl t ↦
            let found : find path_cmp (n ∷ d) ((n ∷ above, there) ∷ es) ≡ Some there =
            subst (λ (a : Path). find path_cmp (n ∷ d) ((n ∷ a, there) ∷ es) ≡ Some there) t.1
            (find_first path_cmp_total path_cmp_exact (n ∷ d) there es) in
            subst (λ b. ShownAlike n above there es b) (sym t.0)
            (subst (λ (a : Path). ShownAlike n a there es true) t.1
            (shown_one n there (target_for number (n ∷ d, there)) es refl (lead n there found) rest))
        | inr t ↦ subst (λ b. ShownAlike n above there es b) (sym t.0) rest
      ]

-- what a directory lists is what the flat state has in it, where each entry leads somewhere
pub names_directory : (f : Flat) (number : AddressNumbers) (d : Path)
    → ((n : Name) (there : Node) → get f.files (n ∷ d) ≡ Some there → target_for number (n ∷ d, there) ≢ None)
    → names_in (directory_of f.files number d) ≡ entries_in f d
names_directory f number d lead =
    ap (map shown_entry) (sorted_made (filter_map (target_in number d) f.files.entries)
    (sorted_listed number d f.files.entries f.files.sorted))
    ∙ names_listed number d f.files.entries f.files.sorted lead
