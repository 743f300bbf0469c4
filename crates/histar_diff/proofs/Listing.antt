-- The lone processes and the differences that are listed are exactly those of two tables.
use Rattle.std.specs.Prelude.{◌≡◌, Bool, true, false, cond, T, List, [], ◌∷◌, ◌++◌, map, Option, None, Some, refl}
use Rattle.std.specs.Prelude.{if◌then◌else◌}
use Rattle.std.specs.List.{cons_option, filter_map, flat_map}
use Rattle.std.proofs.lemmas.Option.{none-some, same_Some}
use Rattle.std.proofs.Common.{ap, sym, ◌∙◌, subst}
use Rattle.std.specs.declared.cmp.Ordering.{Ordering}
use Rattle.std.specs.declared.cmp.Ordering.TheVariants.{Less, Equal, Greater}
use Rattle.std.specs.Ordering.{eq_by_cmp, is_eq, is_lt, ordering_then}
use Rattle.std.specs.Cmp.{tied_itself}
use Rattle.std.specs.FinMap.Entries.{below_all}
use Rattle.std.specs.FinMap.{find, is_sorted}
use Rattle.histar_flat.specs.Words.{Path, ProcName}
use Rattle.histar_base.specs.Paths.{path_cmp}
use Rattle.histar_base.proofs.PathLaws.{path_cmp_exact, path_cmp_total}
use Rattle.histar_flat.proofs.Finding.{both, equal, find_below, first, less, second}
use Rattle.histar_rights.specs.declared.rights.Rights.{Rights}
use Rattle.histar_rights.specs.Running.{process_cmp}
use Rattle.histar_diff.specs.declared.columns.Placed.{Placed}
use Rattle.histar_diff.specs.declared.lone.Lone.{Lone}
use Rattle.histar_diff.specs.declared.table.Table.{Table}
use Rattle.histar_diff.specs.declared.differences.Difference.{Difference}
use Rattle.histar_diff.specs.Joining.{Joined, OnlyOld, OnlyNew, InBoth, joined, new_of, old_of}
use Rattle.histar_diff.specs.Tables.{IsTable, by_path, by_process, letters_at, place_of, process_in, user_at}
use Rattle.histar_diff.specs.Sides.{Pair, by_name, by_pair, difference_of, lone_of, pair_cmp, same_letters}
use Rattle.histar_diff.specs.Columns.{column, columns_from, lone_at}
use Rattle.histar_diff.specs.Lines.{column_difference, joined_differences, line_differences, lines_differences}
use Rattle.histar_diff.specs.Differences.{AreDifferences}
use Rattle.histar_diff.proofs.Steps.{process_cmp_exact, process_cmp_total}
use Rattle.histar_diff.proofs.Joins.{behind, find_joined, found, missed, rest_of, sorted_joined}

-- joined processes, and joined lines
abbrev Processes : Type 0
Processes = List (ProcName × Joined Placed Placed)

abbrev Lines : Type 0
Lines = List (Path × Joined (List Rights) (List Rights))

-- if the first things don't tie, the pairs don't
apart : (o other : Ordering) → is_eq o ≡ false → is_eq (ordering_then o other) ≡ false
apart Less other e = refl
apart Equal other e = absurd cc
apart Greater other e = refl

-- the path and the process of a difference
abbrev pair_of : Difference → Pair
pair_of d = (d.path, d.process)

module _ (q : Path) (a b : Option (List Rights)) where
  -- the difference of a process at this path, if it has one
  abbrev at : ProcName × Joined Placed Placed → Option Difference
  at e = column_difference q a b (column e)

  -- a difference has the path and the process that it is found by
  is_at : (e : ProcName × Joined Placed Placed) (d : Difference) → at e ≡ Some d → pair_of d ≡ (q, e.0)
  is_at e d m = by e.1 m
    where
      by : (j : Joined Placed Placed) → at (e.0, j) ≡ Some d → pair_of d ≡ (q, e.0)
      by (OnlyOld x) m = absurd (none-some d m)
      by (OnlyNew y) m = absurd (none-some d m)
      by (InBoth x y) m =
          found_at (same_letters (letters_at a (Some x.place)) (letters_at b (Some y.place)))
          (record {
            path = q;
            process = e.0;
            old_user = x.user;
            user = y.user;
            before = letters_at a (Some x.place);
            after = letters_at b (Some y.place);
          }) refl m
        where
          found_at : (same : Bool) (it : Difference) → pair_of it ≡ (q, e.0) → (if same then None else Some it) ≡ Some d
              → pair_of d ≡ (q, e.0)
          found_at true it is m = absurd (none-some d m)
          found_at false it is m = ap pair_of (sym (same_Some it d m)) ∙ is

  -- the differences of processes at this path
  abbrev line : Processes → List Difference
  line js = line_differences (map column js) q a b

  abbrev entries : Processes → List (Pair × Difference)
  entries js = by_pair (line js)

  -- these entries, and one more if there is one
  abbrev more : Option Difference → Processes → List (Pair × Difference)
  more o js = by_pair (cons_option o (line js))

  tied_path : path_cmp q q ≡ Equal
  tied_path = tied_itself path_cmp_total q

  below_entries : (p : ProcName) (js : Processes) → T (below_all process_cmp p js) → (rest : List (Pair × Difference))
      → T (below_all pair_cmp (q, p) rest)
      → T (below_all pair_cmp (q, p) (entries js ++ rest))
  below_entries p [] h rest k = k
  below_entries p (e ∷ js) h rest k = by (at e) refl (below_entries p js (second (is_lt (process_cmp p e.0)) (below_all process_cmp p js) h) rest k)
    where
      by : (o : Option Difference) → at e ≡ o → T (below_all pair_cmp (q, p) (entries js ++ rest))
          → T (below_all pair_cmp (q, p) (more o js ++ rest))
      by None m later = later
      by (Some d) m later =
          both (is_lt (pair_cmp (q, p) (d.path, d.process))) _
          (subst (λ k. T (is_lt (pair_cmp (q, p) k))) (sym (is_at e d m))
          (subst (λ o. T (is_lt (ordering_then o (process_cmp p e.0)))) (sym tied_path)
          (first (is_lt (process_cmp p e.0)) (below_all process_cmp p js) h))) later

  entries_rise : (js : Processes) → T (is_sorted process_cmp js) → (rest : List (Pair × Difference)) → T (is_sorted pair_cmp rest)
      → ((p : ProcName) → T (below_all pair_cmp (q, p) rest))
      → T (is_sorted pair_cmp (entries js ++ rest))
  entries_rise [] s rest r h = r
  entries_rise (e ∷ js) s rest r h = by (at e) refl (entries_rise js (rest_of process_cmp process_cmp_total process_cmp_exact e js s) rest r h)
    where
      by : (o : Option Difference) → at e ≡ o → T (is_sorted pair_cmp (entries js ++ rest)) → T (is_sorted pair_cmp (more o js ++ rest))
      by None m later = later
      by (Some d) m later = both (below_all pair_cmp (d.path, d.process) (entries js ++ rest)) _
          (subst (λ k. T (below_all pair_cmp k (entries js ++ rest))) (sym (is_at e d m))
          (below_entries e.0 js (behind process_cmp process_cmp_total process_cmp_exact e js s) rest (h e.0))) later

  -- a path less than this one is less than all entries
  above_entries : (z : Path) (p : ProcName) → path_cmp z q ≡ Less → (js : Processes) (rest : List (Pair × Difference))
      → T (below_all pair_cmp (z, p) rest)
      → T (below_all pair_cmp (z, p) (entries js ++ rest))
  above_entries z p e [] rest h = h
  above_entries z p e (d ∷ js) rest h = by (at d) refl (above_entries z p e js rest h)
    where
      by : (o : Option Difference) → at d ≡ o → T (below_all pair_cmp (z, p) (entries js ++ rest))
          → T (below_all pair_cmp (z, p) (more o js ++ rest))
      by None m later = later
      by (Some x) m later = both (is_lt (pair_cmp (z, p) (x.path, x.process))) _
          (subst (λ k. T (is_lt (pair_cmp (z, p) k))) (sym (is_at d x m))
          (subst (λ o. T (is_lt (ordering_then o (process_cmp p d.0)))) (sym e) tt)) later

  -- another path is found in the rest
  find_other : (z : Path) (p : ProcName) → eq_by_cmp path_cmp z q ≡ false → (js : Processes) (rest : List (Pair × Difference))
      → find pair_cmp (z, p) (entries js ++ rest) ≡ find pair_cmp (z, p) rest
  find_other z p e [] rest = refl
  find_other z p e (d ∷ js) rest = by (at d) refl (find_other z p e js rest)
    where
      by : (o : Option Difference) → at d ≡ o → find pair_cmp (z, p) (entries js ++ rest) ≡ find pair_cmp (z, p) rest
          → find pair_cmp (z, p) (more o js ++ rest) ≡ find pair_cmp (z, p) rest
      by None m later = later
      by (Some x) m later =
          ap (λ t. cond t (Some x) (find pair_cmp (z, p) (entries js ++ rest)))
          (ap (λ k. is_eq (pair_cmp (z, p) k)) (is_at d x m) ∙ apart (path_cmp z q) (process_cmp p d.0) e)
          ∙ later

  -- the difference of a process, if it is found
  abbrev at_found : ProcName → Option (Joined Placed Placed) → Option Difference
  at_found p None = None
  at_found p (Some j) = at (p, j)

  -- an entry of this path is found by its process
  find_entries : (p : ProcName) (js : Processes) → T (is_sorted process_cmp js) → (rest : List (Pair × Difference)) → find pair_cmp (q, p) rest ≡ None
      → find pair_cmp (q, p) (entries js ++ rest) ≡ at_found p (find process_cmp p js)
  find_entries p [] s rest none = none
  find_entries p (e ∷ js) s rest none =
      by (at e) refl (eq_by_cmp process_cmp p e.0) refl
      (find_entries p js (rest_of process_cmp process_cmp_total process_cmp_exact e js s) rest none)
    where
      -- the process that ties is this one
      same_process : eq_by_cmp process_cmp p e.0 ≡ true → p ≡ e.0
      same_process t = process_cmp_exact p e.0 (equal (process_cmp p e.0) t)

      lost : eq_by_cmp process_cmp p e.0 ≡ true → find process_cmp p js ≡ None
      lost t = find_below process_cmp_total process_cmp_exact p js
          (subst (λ k. T (below_all process_cmp k js)) (sym (same_process t)) (behind process_cmp process_cmp_total process_cmp_exact e js s))

      first_test : (d : Difference) → at e ≡ Some d → is_eq (pair_cmp (q, p) (d.path, d.process)) ≡ eq_by_cmp process_cmp p e.0
      first_test d m = ap (λ k. is_eq (pair_cmp (q, p) k)) (is_at e d m) ∙ ap (λ o. is_eq (ordering_then o (process_cmp p e.0))) tied_path

      by : (o : Option Difference) → at e ≡ o → (t : Bool) → eq_by_cmp process_cmp p e.0 ≡ t → find pair_cmp (q, p) (entries js ++ rest)
          ≡ at_found p (find process_cmp p js)
          → find pair_cmp (q, p) (more o js ++ rest) ≡ at_found p (cond t (Some e.1) (find process_cmp p js))
      by None m true t later = later ∙ ap (at_found p) (lost t) ∙ sym (ap (λ k. at (k, e.1)) (same_process t) ∙ m)
      by None m false t later = later
      by (Some d) m true t later =
          ap (λ b. cond b (Some d) (find pair_cmp (q, p) (entries js ++ rest))) (first_test d m ∙ t)
          ∙ sym (ap (λ k. at (k, e.1)) (same_process t) ∙ m)
      by (Some d) m false t later = ap (λ b. cond b (Some d) (find pair_cmp (q, p) (entries js ++ rest))) (first_test d m ∙ t) ∙ later

-- the entries of two lists of differences in a row are those of each
by_pair_both : (xs ys : List Difference) → by_pair (xs ++ ys) ≡ by_pair xs ++ by_pair ys
by_pair_both [] ys = refl
by_pair_both (d ∷ xs) ys = ap (λ es. ((d.path, d.process), d) ∷ es) (by_pair_both xs ys)

-- the difference of a process at a path, if both are found
abbrev reached : Path → ProcName → Option (Joined (List Rights) (List Rights)) → Option (Joined Placed Placed) → Option Difference
reached q p None j = None
reached q p (Some l) j = at_found q (old_of l) (new_of l) p j

-- a pair that is less than all is not found
no_pair : (k : Pair) (es : List (Pair × Difference)) → T (below_all pair_cmp k es) → find pair_cmp k es ≡ None
no_pair k [] h = refl
no_pair k (e ∷ es) h =
    ap (λ o. cond (is_eq o) (Some e.1) (find pair_cmp k es)) (less (pair_cmp k e.0) (first (is_lt (pair_cmp k e.0)) (below_all pair_cmp k es) h))
    ∙ no_pair k es (second (is_lt (pair_cmp k e.0)) (below_all pair_cmp k es) h)

module _ (js : Processes) (rising : T (is_sorted process_cmp js)) where
  -- the differences at all paths
  abbrev rows : Lines → List (Pair × Difference)
  rows ls = by_pair (flat_map (joined_differences (map column js)) ls)

  -- the differences at a path, and then those at the others
  abbrev row : Path × Joined (List Rights) (List Rights) → List (Pair × Difference)
  row l = entries l.0 (old_of l.1) (new_of l.1) js

  one_row : (l : Path × Joined (List Rights) (List Rights)) (ls : Lines) → rows (l ∷ ls) ≡ row l ++ rows ls
  one_row l ls = by_pair_both (joined_differences (map column js) l) (flat_map (joined_differences (map column js)) ls)

  rows_above : (z : Path) (p : ProcName) (ls : Lines) → T (below_all path_cmp z ls) → T (below_all pair_cmp (z, p) (rows ls))
  rows_above z p [] h = tt
  rows_above z p (l ∷ ls) h =
      subst (λ es. T (below_all pair_cmp (z, p) es)) (sym (one_row l ls))
      (above_entries l.0 (old_of l.1) (new_of l.1) z p
      (less (path_cmp z l.0) (first (is_lt (path_cmp z l.0)) (below_all path_cmp z ls) h)) js (rows ls)
      (rows_above z p ls (second (is_lt (path_cmp z l.0)) (below_all path_cmp z ls) h)))

  rows_rise : (ls : Lines) → T (is_sorted path_cmp ls) → T (is_sorted pair_cmp (rows ls))
  rows_rise [] s = tt
  rows_rise (l ∷ ls) s =
      subst (λ es. T (is_sorted pair_cmp es)) (sym (one_row l ls))
      (entries_rise l.0 (old_of l.1) (new_of l.1) js rising (rows ls)
      (rows_rise ls (rest_of path_cmp path_cmp_total path_cmp_exact l ls s))
      (λ p. rows_above l.0 p ls (behind path_cmp path_cmp_total path_cmp_exact l ls s)))

  find_rows : (q : Path) (p : ProcName) (ls : Lines) → T (is_sorted path_cmp ls) → find pair_cmp (q, p) (rows ls)
      ≡ reached q p (find path_cmp q ls) (find process_cmp p js)
  find_rows q p [] s = refl
  find_rows q p (l ∷ ls) s =
      ap (find pair_cmp (q, p)) (one_row l ls)
      ∙ by (eq_by_cmp path_cmp q l.0) refl (find_rows q p ls (rest_of path_cmp path_cmp_total path_cmp_exact l ls s))
    where
      by : (t : Bool) → eq_by_cmp path_cmp q l.0 ≡ t → find pair_cmp (q, p) (rows ls) ≡ reached q p (find path_cmp q ls) (find process_cmp p js)
          → find pair_cmp (q, p) (row l ++ rows ls) ≡ reached q p (cond t (Some l.1) (find path_cmp q ls)) (find process_cmp p js)
      by true t later =
          let here : q ≡ l.0 = path_cmp_exact q l.0 (equal (path_cmp q l.0) t) in
          let a = old_of l.1 in
          let b = new_of l.1 in
          ap (λ k. find pair_cmp (k, p) (row l ++ rows ls)) here
          ∙ find_entries l.0 a b p js rising (rows ls)
          (no_pair (l.0, p) (rows ls) (rows_above l.0 p ls (behind path_cmp path_cmp_total path_cmp_exact l ls s)))
          ∙ ap (λ k. at_found k a b p (find process_cmp p js)) (sym here)
      by false t later = find_other l.0 (old_of l.1) (new_of l.1) q p t js (rows ls) ∙ later

module _ (q : Path) (p : ProcName) where
  -- the difference, by the path and the process as found in each table
  abbrev expected : Option (List Rights) → Option (List Rights) → Option Placed → Option Placed → Option Difference
  expected a b c d = difference_of q p (letters_at a (place_of c)) (letters_at b (place_of d)) (user_at c) (user_at d)

  as_expected : (a b : Option (List Rights)) (c d : Option Placed) → reached q p (found a b) (found c d) ≡ expected a b c d
  as_expected None None None None = refl
  as_expected None None (Some c) None = refl
  as_expected None None None (Some d) = refl
  as_expected None None (Some c) (Some d) = refl
  as_expected (Some a) None None None = refl
  as_expected (Some a) None (Some c) None = refl
  as_expected (Some a) None None (Some d) = refl
  as_expected (Some a) None (Some c) (Some d) = refl
  as_expected None (Some b) None None = refl
  as_expected None (Some b) (Some c) None = refl
  as_expected None (Some b) None (Some d) = refl
  as_expected None (Some b) (Some c) (Some d) = refl
  as_expected (Some a) (Some b) None None = refl
  as_expected (Some a) (Some b) (Some c) None = refl
  as_expected (Some a) (Some b) None (Some d) = refl
  as_expected (Some a) (Some b) (Some c) (Some d) = refl

-- ---- processes that one table lacks

-- the process at an entry, if one of the tables lacks it
abbrev lone_entry : ProcName × Joined Placed Placed → Option Lone
lone_entry e = lone_at (column e)

-- the lone processes of these, with their names
abbrev lone_entries : Processes → List (ProcName × Lone)
lone_entries js = by_name (filter_map lone_at (map column js))

-- these, and one more if there is one
abbrev more_lone : Option Lone → Processes → List (ProcName × Lone)
more_lone o js = by_name (cons_option o (filter_map lone_at (map column js)))

-- a lone process has the name that it is found by
is_named : (e : ProcName × Joined Placed Placed) (l : Lone) → lone_entry e ≡ Some l → l.process ≡ e.0
is_named e l m = by e.1 m
  where
    by : (j : Joined Placed Placed) → lone_entry (e.0, j) ≡ Some l → l.process ≡ e.0
    by (OnlyOld x) m = ap (λ (l : Lone). l.process) (sym (same_Some (record { process = e.0; user = x.user; is_new = false }) l m))
    by (OnlyNew y) m = ap (λ (l : Lone). l.process) (sym (same_Some (record { process = e.0; user = y.user; is_new = true }) l m))
    by (InBoth x y) m = absurd (none-some l m)

below_lone : (z : ProcName) (js : Processes) → T (below_all process_cmp z js) → T (below_all process_cmp z (lone_entries js))
below_lone z [] h = tt
below_lone z (e ∷ js) h = by (lone_entry e) refl (below_lone z js (second (is_lt (process_cmp z e.0)) (below_all process_cmp z js) h))
  where
    by : (o : Option Lone) → lone_entry e ≡ o → T (below_all process_cmp z (lone_entries js)) → T (below_all process_cmp z (more_lone o js))
    by None m later = later
    by (Some l) m later = both (is_lt (process_cmp z l.process)) _
        (subst (λ k. T (is_lt (process_cmp z k))) (sym (is_named e l m)) (first (is_lt (process_cmp z e.0)) (below_all process_cmp z js) h)) later

lone_rise : (js : Processes) → T (is_sorted process_cmp js) → T (is_sorted process_cmp (lone_entries js))
lone_rise [] s = tt
lone_rise (e ∷ js) s = by (lone_entry e) refl (lone_rise js (rest_of process_cmp process_cmp_total process_cmp_exact e js s))
  where
    by : (o : Option Lone) → lone_entry e ≡ o → T (is_sorted process_cmp (lone_entries js)) → T (is_sorted process_cmp (more_lone o js))
    by None m later = later
    by (Some l) m later = both (below_all process_cmp l.process (lone_entries js)) _
        (subst (λ k. T (below_all process_cmp k (lone_entries js))) (sym (is_named e l m))
        (below_lone e.0 js (behind process_cmp process_cmp_total process_cmp_exact e js s))) later

-- the process, if it is found and lone
abbrev lone_found : ProcName → Option (Joined Placed Placed) → Option Lone
lone_found p None = None
lone_found p (Some j) = lone_entry (p, j)

find_lone : (p : ProcName) (js : Processes) → T (is_sorted process_cmp js)
    → find process_cmp p (lone_entries js) ≡ lone_found p (find process_cmp p js)
find_lone p [] s = refl
find_lone p (e ∷ js) s =
    by (lone_entry e) refl (eq_by_cmp process_cmp p e.0) refl (find_lone p js (rest_of process_cmp process_cmp_total process_cmp_exact e js s))
  where
    same_process : eq_by_cmp process_cmp p e.0 ≡ true → p ≡ e.0
    same_process t = process_cmp_exact p e.0 (equal (process_cmp p e.0) t)

    lost : eq_by_cmp process_cmp p e.0 ≡ true → find process_cmp p js ≡ None
    lost t = missed process_cmp process_cmp_total process_cmp_exact p e.0 js t (behind process_cmp process_cmp_total process_cmp_exact e js s)

    by : (o : Option Lone) → lone_entry e ≡ o → (t : Bool) → eq_by_cmp process_cmp p e.0 ≡ t
        → find process_cmp p (lone_entries js) ≡ lone_found p (find process_cmp p js)
        → find process_cmp p (more_lone o js) ≡ lone_found p (cond t (Some e.1) (find process_cmp p js))
    by None m true t later = later ∙ ap (lone_found p) (lost t) ∙ sym (ap (λ k. lone_entry (k, e.1)) (same_process t) ∙ m)
    by None m false t later = later
    by (Some l) m true t later =
        ap (λ k. cond (eq_by_cmp process_cmp p k) (Some l) (find process_cmp p (lone_entries js))) (is_named e l m)
        ∙ ap (λ b. cond b (Some l) (find process_cmp p (lone_entries js))) t
        ∙ sym (ap (λ k. lone_entry (k, e.1)) (same_process t) ∙ m)
    by (Some l) m false t later =
        ap (λ k. cond (eq_by_cmp process_cmp p k) (Some l) (find process_cmp p (lone_entries js))) (is_named e l m)
        ∙ ap (λ b. cond b (Some l) (find process_cmp p (lone_entries js))) t
        ∙ later

-- the process, by its place in each table
lone_expected : (p : ProcName) (c d : Option Placed) → lone_found p (found c d) ≡ lone_of p (user_at c) (user_at d)
lone_expected p None None = refl
lone_expected p (Some c) None = refl
lone_expected p None (Some d) = refl
lone_expected p (Some c) (Some d) = refl

-- ---- two tables

-- what is listed of two tables is exactly what differs
pub are_differences : (old new : Table) → IsTable old → IsTable new
    → AreDifferences old new (filter_map lone_at (columns_from 0 old.processes.items 0 new.processes.items))
    (lines_differences (columns_from 0 old.processes.items 0 new.processes.items) old.lines.items new.lines.items)
are_differences old new o n =
    let xs = by_process 0 old.processes.items in
    let ys = by_process 0 new.processes.items in
    let js = joined process_cmp xs ys in
    let ls = joined path_cmp (by_path old.lines.items) (by_path new.lines.items) in
    let rising = sorted_joined process_cmp process_cmp_total process_cmp_exact Placed Placed xs ys o.processes n.processes in
    let paths_rise = sorted_joined path_cmp path_cmp_total path_cmp_exact (List Rights) (List Rights) (by_path old.lines.items)
    (by_path new.lines.items) o.paths n.paths in
    record {
      lone_rising = lone_rise js rising;
      each_lone = λ p. find_lone p js rising
          ∙ ap (lone_found p) (find_joined process_cmp process_cmp_total process_cmp_exact Placed Placed p xs ys o.processes n.processes)
          ∙ lone_expected p (process_in old p) (process_in new p);
      rising = rows_rise js rising ls paths_rise;
      each = λ q p. find_rows js rising q p ls paths_rise
          ∙ (λ i. reached q p (find_joined path_cmp path_cmp_total path_cmp_exact (List Rights) (List Rights) q (by_path old.lines.items)
          (by_path new.lines.items) o.paths n.paths i)
          (find_joined process_cmp process_cmp_total process_cmp_exact Placed Placed p xs ys o.processes n.processes i))
          ∙ as_expected q p (find path_cmp q (by_path old.lines.items)) (find path_cmp q (by_path new.lines.items)) (process_in old p)
          (process_in new p);
    }
