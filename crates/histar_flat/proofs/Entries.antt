-- The entries of a directory depend only on paths and on which of them are directories.
use Rattle.std.specs.Prelude.{◌≡◌, Bool, true, false, ◌&&◌, cond, T, List, [], ◌∷◌, map, Option, Some, None, option_map, refl}
use Rattle.std.specs.List.{filter_map}
use Rattle.std.proofs.Common.{ap, sym, ◌∙◌, subst, inl, inr}
use Rattle.std.specs.Ordering.{eq_by_cmp, is_lt}
use Rattle.std.specs.FinMap.{find, is_sorted}
use Rattle.std.specs.FinMap.Entries.{below_all, same_entries}
use Rattle.histar_flat.specs.Words.{Path}
use Rattle.histar_base.specs.Paths.{path_cmp, same_path}
use Rattle.histar_base.proofs.PathLaws.{path_cmp_total, path_cmp_exact}
use Rattle.histar_flat.specs.Files.{Files, get}
use Rattle.histar_flat.specs.Classes.{Class}
use Rattle.histar_flat.specs.FlatState.{Node, Flat, Entry, is_dir, entry_in, entries_in}
use Rattle.histar_flat.proofs.FileLemmas.{same_path_found}

-- what `stat` can show of a file or directory: its class, and whether it is a directory
abbrev pub shown : Node → Class × Bool
shown n = (n.class, is_dir n)

abbrev Shown : Type 0
Shown = Path × (Class × Bool)

module _ {Y : Type 0} (revealed : Node → Y) where
  -- each path with what is revealed of the node there
  abbrev pub all_revealed : List (Path × Node) → List (Path × Y)
  all_revealed = map (λ e. (e.0, revealed e.1))

  below_revealed : (q : Path) (es : List (Path × Node)) → below_all path_cmp q (all_revealed es) ≡ below_all path_cmp q es
  below_revealed q [] = refl
  below_revealed q (e ∷ es) = ap (λ b. is_lt (path_cmp q e.0) && b) (below_revealed q es)

  -- the paths rise as before
  sorted_revealed : (es : List (Path × Node)) → is_sorted path_cmp (all_revealed es) ≡ is_sorted path_cmp es
  sorted_revealed [] = refl
  sorted_revealed (e ∷ es) = λ i. below_revealed e.0 es i && sorted_revealed es i

  -- what is revealed of a path is revealed of the node there
  pub find_revealed : (q : Path) (es : List (Path × Node)) → find path_cmp q (all_revealed es) ≡ option_map revealed (find path_cmp q es)
  find_revealed q [] = refl
  find_revealed q (e ∷ es) = by (eq_by_cmp path_cmp q e.0) (find_revealed q es)
    where
      by : (b : Bool) → find path_cmp q (all_revealed es) ≡ option_map revealed (find path_cmp q es)
          → cond b (Some (revealed e.1)) (find path_cmp q (all_revealed es))
          ≡ option_map revealed (cond b (Some e.1) (find path_cmp q es))
      by true h = refl
      by false h = h

  -- maps that reveal the same at each path reveal the same list
  pub same_revealed : (m n : Files Node) → ((q : Path) → option_map revealed (get m q) ≡ option_map revealed (get n q))
      → all_revealed m.entries ≡ all_revealed n.entries
  same_revealed m n h =
      same_entries path_cmp path_cmp_total path_cmp_exact (all_revealed m.entries) (all_revealed n.entries) (sorted m)
      (sorted n) (λ q. find_revealed q m.entries ∙ h q ∙ sym (find_revealed q n.entries))
    where
      sorted : (k : Files Node) → T (is_sorted path_cmp (all_revealed k.entries))
      sorted k = subst T (sym (sorted_revealed k.entries)) k.sorted

abbrev all_shown : List (Path × Node) → List Shown
all_shown = all_revealed shown

-- the entry of the directory d that a path is
abbrev shown_entry : Path → Shown → Option Entry
shown_entry d e = elim e.0 [ [] ↦ None | n ∷ above ↦ cond (same_path d above) (Some (n, e.1.1)) None ]

entries_shown : (d : Path) (es : List (Path × Node)) → filter_map (entry_in d) es ≡ filter_map (shown_entry d) (all_shown es)
entries_shown d [] = refl
entries_shown d (e ∷ es) = one e.0 e.1 (entries_shown d es)
  where
    one : (q : Path) (n : Node) → filter_map (entry_in d) es ≡ filter_map (shown_entry d) (all_shown es)
        → filter_map (entry_in d) ((q, n) ∷ es) ≡ filter_map (shown_entry d) (all_shown ((q, n) ∷ es))
    one [] n rest = rest
    one (x ∷ above) n rest = elim (same_path_found d above) [
      | inl t ↦ simp t.0 (ap (λ (l : List Entry). (x, is_dir n) ∷ l) rest)
      | inr t ↦ simp t.0 rest
    ]

-- maps that show the same at each path have the same entries in each directory
pub same_entries_shown : (f g : Flat) (d : Path)
    → ((q : Path) → option_map shown (get f.files q) ≡ option_map shown (get g.files q))
    → entries_in f d ≡ entries_in g d
same_entries_shown f g d h =
    entries_shown d f.files.entries ∙ ap (filter_map (shown_entry d)) (same_revealed shown f.files g.files h) ∙ sym (entries_shown d g.files.entries)
