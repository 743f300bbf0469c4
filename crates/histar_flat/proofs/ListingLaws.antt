-- A listing shows the entries of its directory, by rising names.
use Rattle.std.specs.Prelude.{◌≡◌, ◌≢◌, cond, T, List, [], ◌∷◌, Some, None, option_map, refl}
use Rattle.std.specs.List.{filter_map, cons_option}
use Rattle.std.proofs.Common.{ap, sym, ◌∙◌, subst, inl, inr}
use Rattle.std.specs.Ordering.{nat_cmp, is_lt}
use Rattle.std.specs.Cmp.Lexicographic.{slice_cmp, nat_list_cmp_total}
use Rattle.std.specs.FinMap.{find, is_sorted, nat_cmp-IsAntisymmetric, slice_cmp-IsAntisymmetric, IsAntisymmetric}
use Rattle.std.specs.FinMap.Entries.{below_all}
use Rattle.std.specs.declared.cmp.Ordering.{Ordering}
use Rattle.histar_flat.specs.declared.calls.UnixCall.TheVariants.{List as ListCall}
use Rattle.histar_flat.specs.declared.replies.Errno.{Errno}
use Rattle.histar_flat.specs.declared.replies.Reply.TheVariants.{Entries}
use Rattle.histar_flat.specs.Words.{Name, Path}
use Rattle.histar_base.specs.Paths.{path_cmp}
use Rattle.histar_base.proofs.PathLaws.{path_cmp_total, path_cmp_exact}
use Rattle.histar_flat.specs.FlatState.{Node, Entry, is_dir, entry_in, entries_in}
use Rattle.histar_flat.specs.FileLaws.{ListingsShowWhatIsThere}
use Rattle.histar_flat.proofs.Answered.{is_answered}
use Rattle.histar_flat.proofs.FileLemmas.{same_name_found, same_path_found}
use Rattle.histar_flat.proofs.Finding.{first, second, both, find_first, find_behind, names_decide}

abbrev by_bytes : Name → Name → Ordering
by_bytes = slice_cmp nat_cmp

antisymmetric : IsAntisymmetric by_bytes
antisymmetric = slice_cmp-IsAntisymmetric nat_cmp-IsAntisymmetric

module _ (d : Path) where
  -- the entries of the directory in a list of paths
  abbrev listed : List (Path × Node) → List Entry
  listed = filter_map (entry_in d)

  -- an entry of the directory is no entry of another directory, nor one of another name
  not_above : (n m : Name) (above : Path) → d ≢ above → n ∷ d ≢ m ∷ above
  not_above n m above other e = let same : d ≡ above = cc in other same

  not_named : (n m : Name) → n ≢ m → n ∷ d ≢ m ∷ d
  not_named n m other e = let same : n ≡ m = cc in other same

  not_root : (n : Name) → n ∷ d ≢ []
  not_root n e = cc

  -- the name is found among the entries exactly as its path is found
  abbrev Agrees : Name → List Entry → List (Path × Node) → Type 0
  Agrees n entries es = find by_bytes n entries ≡ option_map is_dir (find path_cmp (n ∷ d) es)

  -- an entry put in front of such a list keeps that
  find_one : (n m : Name) (there : Node) (es : List (Path × Node)) → Agrees n (listed es) es
      → Agrees n ((m, is_dir there) ∷ listed es) ((m ∷ d, there) ∷ es)
  find_one n m there es rest = elim (same_name_found n m) [
    | inl e ↦ subst (λ (k : Name). Agrees n ((k, is_dir there) ∷ listed es) ((k ∷ d, there) ∷ es)) e.1
        (find_first nat_list_cmp_total antisymmetric n (is_dir there) (listed es)
        ∙ sym (ap (option_map is_dir) (find_first path_cmp_total path_cmp_exact (n ∷ d) there es)))
    | inr e ↦ find_behind nat_list_cmp_total antisymmetric n m (is_dir there) (listed es) e.1
        ∙ rest ∙ sym (ap (option_map is_dir) (find_behind path_cmp_total path_cmp_exact (n ∷ d) (m ∷ d) there es (not_named n m e.1)))
  ]

  -- a name is found among the entries as its path is
  find_listed : (n : Name) (es : List (Path × Node)) → Agrees n (listed es) es
  find_listed n [] = refl
  find_listed n (e ∷ es) = step e.0 e.1 (find_listed n es)
    where
      step : (q : Path) (there : Node) → Agrees n (listed es) es → Agrees n (listed ((q, there) ∷ es)) ((q, there) ∷ es)
      step [] there rest = rest ∙ sym (ap (option_map is_dir) (find_behind path_cmp_total path_cmp_exact (n ∷ d) [] there es (not_root n)))
      step (m ∷ above) there rest = elim (same_path_found d above) [
        | inl t ↦ ap (λ b. find by_bytes n (cons_option (cond b (Some (m, is_dir there)) None) (listed es))) t.0
            ∙ subst (λ (a : Path). Agrees n ((m, is_dir there) ∷ listed es) ((m ∷ a, there) ∷ es)) t.1 (find_one n m there es rest)
        | inr t ↦ ap (λ b. find by_bytes n (cons_option (cond b (Some (m, is_dir there)) None) (listed es))) t.0
            ∙ rest ∙ sym (ap (option_map is_dir) (find_behind path_cmp_total path_cmp_exact (n ∷ d) (m ∷ above) there es (not_above n m above t.1)))
      ]

  -- an entry below all paths is below all names of the directory
  below_listed : (n : Name) (es : List (Path × Node)) → T (below_all path_cmp (n ∷ d) es) → T (below_all by_bytes n (listed es))
  below_listed n [] h = tt
  below_listed n (e ∷ es) h = step e.0 e.1 (first (is_lt (path_cmp (n ∷ d) e.0)) _ h) (below_listed n es (second (is_lt (path_cmp (n ∷ d) e.0)) _ h))
    where
      step : (q : Path) (there : Node) → T (is_lt (path_cmp (n ∷ d) q)) → T (below_all by_bytes n (listed es))
          → T (below_all by_bytes n (listed ((q, there) ∷ es)))
      step [] there low rest = rest
      step (m ∷ above) there low rest = elim (same_path_found d above) [
        | inl t ↦
            let near : T (is_lt (path_cmp (n ∷ d) (m ∷ d))) = subst (λ (a : Path). T (is_lt (path_cmp (n ∷ d) (m ∷ a)))) (sym t.1) low in
            subst (λ b. T (below_all by_bytes n (cons_option (cond b (Some (m, is_dir there)) None) (listed es)))) (sym t.0)
            (both (is_lt (by_bytes n m)) _ (subst (λ o. T (is_lt o)) (names_decide d n m) near) rest)
        | inr t ↦ subst (λ b. T (below_all by_bytes n (cons_option (cond b (Some (m, is_dir there)) None) (listed es)))) (sym t.0) rest
      ]

  -- the names of a directory's entries rise
  sorted_listed : (es : List (Path × Node)) → T (is_sorted path_cmp es) → T (is_sorted by_bytes (listed es))
  sorted_listed [] h = tt
  sorted_listed (e ∷ es) h = step e.0 e.1 (first (below_all path_cmp e.0 es) _ h) (sorted_listed es (second (below_all path_cmp e.0 es) _ h))
    where
      step : (q : Path) (there : Node) → T (below_all path_cmp q es) → T (is_sorted by_bytes (listed es))
          → T (is_sorted by_bytes (listed ((q, there) ∷ es)))
      step [] there low rest = rest
      step (n ∷ above) there low rest = elim (same_path_found d above) [
        | inl t ↦
            let near : T (below_all path_cmp (n ∷ d) es) = subst (λ (a : Path). T (below_all path_cmp (n ∷ a) es)) (sym t.1) low in
            subst (λ b. T (is_sorted by_bytes (cons_option (cond b (Some (n, is_dir there)) None) (listed es)))) (sym t.0)
            (both (below_all by_bytes n (listed es)) _ (below_listed n es near) rest)
        | inr t ↦ subst (λ b. T (is_sorted by_bytes (cons_option (cond b (Some (n, is_dir there)) None) (listed es)))) (sym t.0) rest
      ]

same_entries : (a b : List Entry) → Entries a ≡ Entries b → a ≡ b
same_entries a b e = cc

-- a listing shows the entries of its directory
pub listings_show_what_is_there : ListingsShowWhatIsThere
listings_show_what_is_there accounts f me d entries said =
    let is = is_answered accounts f me (ListCall d) (Entries entries) (λ e. cc) (λ (errno : Errno) e. cc) said in
    let same : entries_in f d ≡ entries = same_entries (entries_in f d) entries is.answers in (
      subst (λ (l : List Entry). T (is_sorted by_bytes l)) same (sorted_listed d f.files.entries f.files.sorted),
      (λ n. ap (find by_bytes n) (sym same) ∙ find_listed d n f.files.entries),
    )
