-- Tables that show the rights of a flat state are in order, and a lookup in them gives the rights of the state.
use Rattle.std.specs.Prelude.{◌≡◌, ℕ, ◌+◌, Bool, true, false, cond, T, List, [], ◌∷◌, ◌++◌, length, map, Option, None, Some}
use Rattle.std.specs.Prelude.{option_map, unwrap_or, refl}
use Rattle.std.proofs.Common.{ap, sym, ◌∙◌, subst, append_assoc}
use Rattle.std.proofs.lemmas.List.{get_or_at, length-append}
use Rattle.std.specs.Ordering.{eq_by_cmp, is_lt}
use Rattle.std.specs.FinMap.Entries.{below_all}
use Rattle.std.specs.FinMap.{find, is_sorted}
use Rattle.histar_flat.specs.Words.{Path, ProcName}
use Rattle.histar_base.specs.Paths.{path_cmp}
use Rattle.histar_base.proofs.PathLaws.{path_cmp_exact}
use Rattle.histar_flat.specs.declared.calls.CallLine.{CallLine}
use Rattle.histar_flat.specs.Accounts.{Accounts}
use Rattle.histar_flat.specs.Files.{get}
use Rattle.histar_flat.specs.Classes.{Process}
use Rattle.histar_flat.specs.FlatState.{Flat, Node}
use Rattle.histar_flat.specs.FlatCalls.{running}
use Rattle.histar_flat.specs.Meaning.{boot, flat_end}
use Rattle.histar_flat.proofs.Finding.{both, equal, first, second}
use Rattle.histar_rights.specs.declared.rights.Rights.{Rights}
use Rattle.histar_rights.specs.Rights.{rights_at as rights_by_calls}
use Rattle.histar_rights.specs.Running.{Named, process_cmp, running_in}
use Rattle.histar_rights.specs.Table.{Cell, cell_at, line_of}
use Rattle.histar_rights.proofs.Listed.{running_are_listed}
use Rattle.histar_diff.specs.declared.table.Table.{Table}
use Rattle.histar_diff.specs.Tables.{by_process, letters_at, letters_in, no_rights, place_of, process_in, rights_at, rights_in, row_in, user_at}
use Rattle.histar_diff.specs.Shown.{ShowsRights, letters_of, rights_if, rights_line, rights_of, runner, user_of}
use Rattle.histar_diff.specs.Laws.{ShownTablesRise, TablesShowRights}
use Rattle.histar_diff.proofs.JoinedValues.{find_values, values, values_rise}
use Rattle.histar_diff.proofs.Steps.{process_cmp_exact}

-- ---- processes

below_placed : (z : ProcName) (i : ℕ) (ns : List Named) → T (below_all process_cmp z ns) → T (below_all process_cmp z (by_process i (map runner ns)))
below_placed z i [] h = tt
below_placed z i (n ∷ ns) h =
    both (is_lt (process_cmp z n.0)) _ (first (is_lt (process_cmp z n.0)) (below_all process_cmp z ns) h)
    (below_placed z (i + 1) ns (second (is_lt (process_cmp z n.0)) (below_all process_cmp z ns) h))

-- processes with their places rise as they do without
placed_rise : (i : ℕ) (ns : List Named) → T (is_sorted process_cmp ns) → T (is_sorted process_cmp (by_process i (map runner ns)))
placed_rise i [] h = tt
placed_rise i (n ∷ ns) h =
    both (below_all process_cmp n.0 (by_process (i + 1) (map runner ns))) _
    (below_placed n.0 (i + 1) ns (first (below_all process_cmp n.0 ns) (is_sorted process_cmp ns) h))
    (placed_rise (i + 1) ns (second (below_all process_cmp n.0 ns) (is_sorted process_cmp ns) h))

module _ (F : Named → Rights) (p : ProcName) where
  -- the rights of the process, if it is found
  abbrev of_found : Option Process → Rights
  of_found None = no_rights
  of_found (Some process) = F (p, process)

  -- the rights at the place of a process are its own
  at_place : (front : List Rights) (i : ℕ) (ns : List Named) → length front ≡ i
      → rights_at (front ++ map F ns) (place_of (find process_cmp p (by_process i (map runner ns)))) ≡ of_found (find process_cmp p ns)
  at_place front i [] e = refl
  at_place front i (n ∷ ns) e =
      by (eq_by_cmp process_cmp p n.0) refl
      (ap (λ rs. rights_at rs (place_of (find process_cmp p (by_process (i + 1) (map runner ns))))) (sym (append_assoc front (F n ∷ []) (map F ns)))
      ∙ at_place (front ++ F n ∷ []) (i + 1) ns (length-append front (F n ∷ []) ∙ ap (λ k. k + 1) e))
    where
      by : (t : Bool) → eq_by_cmp process_cmp p n.0 ≡ t
          → rights_at (front ++ F n ∷ map F ns) (place_of (find process_cmp p (by_process (i + 1) (map runner ns))))
          ≡ of_found (find process_cmp p ns)
          → rights_at (front ++ F n ∷ map F ns)
          (place_of (cond t (Some (record { place = i; user = n.1.user })) (find process_cmp p (by_process (i + 1) (map runner ns)))))
          ≡ of_found (cond t (Some n.1) (find process_cmp p ns))
      by true t later = get_or_at front (F n) (map F ns) no_rights i e
          ∙ ap (λ k. F (k, n.1)) (sym (process_cmp_exact p n.0 (equal (process_cmp p n.0) t)))
      by false t later = later

-- ---- paths

module _ (accounts : Accounts) (f : Flat) (ns : List Named) where
  -- the rights of processes at a path with this node
  abbrev rights_there : Path → Node → List Rights
  rights_there q node = map (λ (n : Named). rights_by_calls accounts f n.0 n.1 q node) ns

  rights_of_cells : (e : Path × Node) (cs : List Named) → map (λ (c : Cell). c.rights) (map (cell_at accounts f e) cs)
      ≡ map (λ (n : Named). rights_by_calls accounts f n.0 n.1 e.0 e.1) cs
  rights_of_cells e [] = refl
  rights_of_cells e (n ∷ cs) = ap (λ rs. rights_by_calls accounts f n.0 n.1 e.0 e.1 ∷ rs) (rights_of_cells e cs)

  rights_lines : (es : List (Path × Node)) → map rights_line (map (line_of accounts f ns) es) ≡ values rights_there es
  rights_lines [] = refl
  rights_lines (e ∷ es) = λ i. (e.0, rights_of_cells e ns i) ∷ rights_lines es i

-- a table that shows the rights after the calls of a script is in order
pub shown_tables_rise : ShownTablesRise
shown_tables_rise accounts calls t shows =
    let f = flat_end accounts (boot accounts) calls in
    let ns = running_in f in
    record {
      paths = subst (λ es. T (is_sorted path_cmp es)) (sym (shows.lines
          ∙ rights_lines accounts f ns f.files.entries)) (values_rise path_cmp (rights_there accounts f ns) f.files.entries f.files.sorted);
      processes = subst (λ rs. T (is_sorted process_cmp (by_process 0 rs))) (sym shows.processes)
          (placed_rise 0 ns (running_are_listed accounts calls).rising);
    }

module _ (accounts : Accounts) (f : Flat) (q : Path) (p : ProcName) where
  no_place : (o : Option ℕ) → rights_at [] o ≡ no_rights
  no_place None = refl
  no_place (Some n) = refl

  if_there : (place : Option ℕ) (ns : List Named) (node : Option Node) (process : Option Process)
      → ((x : Node) → rights_at (rights_there accounts f ns q x) place ≡ of_found (λ (n : Named). rights_by_calls accounts f n.0 n.1 q x) p process)
      → rights_at (unwrap_or (option_map (rights_there accounts f ns q) node) []) place ≡ rights_if accounts f q p node process
  if_there place ns None None h = no_place place
  if_there place ns None (Some process) h = no_place place
  if_there place ns (Some x) None h = h x
  if_there place ns (Some x) (Some process) h = h x

-- the rights in such a table are those of the flat state
pub tables_show_rights : TablesShowRights
tables_show_rights accounts calls t shows q p =
    let f = flat_end accounts (boot accounts) calls in
    let ns = running_in f in
    let lines = shows.lines ∙ rights_lines accounts f ns f.files.entries in
    (λ i. rights_at (unwrap_or (find path_cmp q (lines i)) []) (place_of (find process_cmp p (by_process 0 (shows.processes i)))))
    ∙ ap (λ o. rights_at (unwrap_or o []) (place_of (find process_cmp p (by_process 0 (map runner ns)))))
    (find_values path_cmp (rights_there accounts f ns) path_cmp_exact q f.files.entries)
    ∙ if_there accounts f q p (place_of (find process_cmp p (by_process 0 (map runner ns)))) ns (get f.files q) (running f p)
    (λ x. at_place (λ (n : Named). rights_by_calls accounts f n.0 n.1 q x) p [] 0 ns refl
    ∙ ap (of_found (λ (n : Named). rights_by_calls accounts f n.0 n.1 q x) p) ((running_are_listed accounts calls).each p))

-- a path is in the table exactly if it is in the state
paths_shown : (accounts : Accounts) (calls : List CallLine) (t : Table) → ShowsRights accounts (flat_end accounts (boot accounts) calls) t
    → (q : Path) (r : Rights)
    → option_map (λ row. r) (row_in t q) ≡ option_map (λ node. r) (get (flat_end accounts (boot accounts) calls).files q)
paths_shown accounts calls t shows q r =
    let f = flat_end accounts (boot accounts) calls in
    let ns = running_in f in
    (λ i. option_map (λ row. r) (find path_cmp q ((shows.lines ∙ rights_lines accounts f ns f.files.entries) i)))
    ∙ ap (λ o. option_map (λ row. r) o) (find_values path_cmp (rights_there accounts f ns) path_cmp_exact q f.files.entries)
    ∙ twice (get f.files q)
  where
    twice : (o : Option Node) → option_map (λ row. r)
        (option_map (rights_there accounts (flat_end accounts (boot accounts) calls) (running_in (flat_end accounts (boot accounts) calls)) q) o)
        ≡ option_map (λ node. r) o
    twice None = refl
    twice (Some node) = refl

-- the letters of a table are its rights, where it has the path
letters_by_rights : (t : Table) (q : Path) (p : ProcName) → letters_in t q p ≡ option_map (λ row. rights_in t q p) (row_in t q)
letters_by_rights t q p = by (row_in t q)
  where
    by : (row : Option (List Rights)) → letters_at row (place_of (process_in t p))
        ≡ option_map (λ rights. rights_at (unwrap_or row []) (place_of (process_in t p))) row
    by None = refl
    by (Some row) = refl

-- the letters in such a table are those of the state
pub letters_shown : (accounts : Accounts) (calls : List CallLine) (t : Table) → ShowsRights accounts (flat_end accounts (boot accounts) calls) t
    → (q : Path) (p : ProcName) → letters_in t q p ≡ letters_of accounts (flat_end accounts (boot accounts) calls) q p
letters_shown accounts calls t shows q p =
    letters_by_rights t q p
    ∙ ap (λ r. option_map (λ row. r) (row_in t q)) (tables_show_rights accounts calls t shows q p)
    ∙ paths_shown accounts calls t shows q (rights_of accounts (flat_end accounts (boot accounts) calls) q p)

-- ---- users

-- the user that a table has for a process is the process's own
users_found : (p : ProcName) (i : ℕ) (ns : List Named)
    → user_at (find process_cmp p (by_process i (map runner ns))) ≡ user_of (find process_cmp p ns)
users_found p i [] = refl
users_found p i (n ∷ ns) = by (eq_by_cmp process_cmp p n.0) (users_found p (i + 1) ns)
  where
    by : (t : Bool) → user_at (find process_cmp p (by_process (i + 1) (map runner ns))) ≡ user_of (find process_cmp p ns)
        → user_at (cond t (Some (record { place = i; user = n.1.user })) (find process_cmp p (by_process (i + 1) (map runner ns))))
        ≡ user_of (cond t (Some n.1) (find process_cmp p ns))
    by true later = refl
    by false later = later

-- a table has the users of the running processes
pub users_shown : (accounts : Accounts) (calls : List CallLine) (t : Table) → ShowsRights accounts (flat_end accounts (boot accounts) calls) t
    → (p : ProcName) → user_at (process_in t p) ≡ user_of (running (flat_end accounts (boot accounts) calls) p)
users_shown accounts calls t shows p =
    ap (λ rs. user_at (find process_cmp p (by_process 0 rs))) shows.processes
    ∙ users_found p 0 (running_in (flat_end accounts (boot accounts) calls))
    ∙ ap user_of ((running_are_listed accounts calls).each p)
