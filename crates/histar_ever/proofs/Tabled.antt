-- What the table of a flat state adds: its paths, its processes and their rights.
use Rattle.std.specs.Prelude.{◌≡◌, ◌&&◌, Bool, true, false, cond, T, List, [], ◌∷◌, map, Option, None, Some, refl}
use Rattle.std.proofs.Common.{ap, sym, ◌∙◌}
use Rattle.std.specs.List.{list_any}
use Rattle.std.specs.declared.cmp.Ordering.{Ordering}
use Rattle.std.specs.Ordering.{eq_by_cmp}
use Rattle.std.specs.Cmp.{IsTotalOrder, eq_by_cmp_equiv, tied_then}
use Rattle.std.specs.FinMap.{IsAntisymmetric, find, is_sorted}
use Rattle.histar_flat.specs.Words.{Path, ProcName}
use Rattle.histar_base.specs.Paths.{path_cmp}
use Rattle.histar_base.proofs.PathLaws.{path_cmp_exact, path_cmp_total}
use Rattle.histar_flat.specs.Accounts.{Accounts}
use Rattle.histar_flat.specs.Files.{get}
use Rattle.histar_flat.specs.Classes.{Process}
use Rattle.histar_flat.specs.FlatState.{Flat, Node}
use Rattle.histar_flat.specs.FlatCalls.{running}
use Rattle.histar_flat.proofs.Finding.{equal}
use Rattle.histar_rights.specs.declared.rights.Rights.{Rights}
use Rattle.histar_rights.specs.Rights.{rights_at}
use Rattle.histar_rights.specs.Running.{AreRunning, Named, process_cmp, running_in}
use Rattle.histar_rights.specs.Table.{Cell, cell_at, line_of}
use Rattle.histar_diff.specs.declared.table.Runner.{Runner}
use Rattle.histar_diff.specs.declared.table.Table.{Table}
use Rattle.histar_diff.specs.declared.table.TableLine.{TableLine}
use Rattle.histar_diff.specs.Shown.{ShowsRights, rights_if as rights_shown, rights_line, rights_of, runner}
use Rattle.histar_diff.specs.Tables.{by_path, no_rights}
use Rattle.histar_diff.proofs.Joins.{behind, missed, rest_of}
use Rattle.histar_diff.proofs.Steps.{process_cmp_exact, process_cmp_total}
use Rattle.histar_ever.specs.Ever.{any_rights, either, paths_in, processes_in}
use Rattle.histar_ever.specs.Gathering.{line_letters, row_letters}
use Rattle.histar_ever.proofs.Keys.{either_way}
use Rattle.histar_ever.proofs.Letters.{any_of, any_same, either_none}
use Rattle.histar_never.proofs.Parts.{any_test}

-- ---- the letters at one key of entries that rise

module _ {K X : Type 0} (R : K → K → Ordering) (total : IsTotalOrder R) (exact : IsAntisymmetric R) (F : K → X → Rights) (q : K) where
  -- the letters of an entry, if it has the key
  abbrev pub if_at : K × X → Rights
  if_at e = cond (eq_by_cmp R e.0 q) (F e.0 e.1) no_rights

  -- the letters of what was found
  abbrev pub of_found : Option X → Rights
  of_found None = no_rights
  of_found (Some x) = F q x

  pub any_found : (es : List (K × X)) → T (is_sorted R es) → any_rights if_at es ≡ of_found (find R q es)
  any_found [] s = refl
  any_found (e ∷ es) s =
      ap (λ b. either (cond b (F e.0 e.1) no_rights) (any_rights if_at es)) ((eq_by_cmp_equiv total).symm e.0 q)
      ∙ by (eq_by_cmp R q e.0) refl (any_found es (rest_of R total exact e es s))
    where
      by : (b : Bool) → eq_by_cmp R q e.0 ≡ b → any_rights if_at es ≡ of_found (find R q es)
          → either (cond b (F e.0 e.1) no_rights) (any_rights if_at es) ≡ of_found (cond b (Some e.1) (find R q es))
      by true t rest =
          ap (either (F e.0 e.1)) (rest ∙ ap of_found (missed R total exact q e.0 es t (behind R total exact e es s)))
          ∙ either_none (F e.0 e.1) ∙ ap (λ k. F k e.1) (sym (exact q e.0 (equal (R q e.0) t)))
      by false t rest = rest

-- ---- a line

pub none_twice : (a : Bool) → no_rights ≡ cond a no_rights no_rights
none_twice true = refl
none_twice false = refl

pub cell_and_rest : (a b : Bool) (x rest : Rights)
    → either (cond (a && b) x no_rights) (cond a rest no_rights) ≡ cond a (either (cond b x no_rights) rest) no_rights
cell_and_rest true b x rest = refl
cell_and_rest false b x rest = refl

-- the paths of the lines that are made of the entries of a state are those in the state
pub line_paths : {X : Type 0} (line : Path × Node → X) (shown : X → Path × List Rights) → ((e : Path × Node) → (shown (line e)).0 ≡ e.0)
    → (f : Flat) (q : Path) (ls : List TableLine) → by_path ls ≡ map shown (map line f.files.entries)
    → list_any (λ (l : TableLine). eq_by_cmp path_cmp l.path q) ls ≡ list_any (eq_by_cmp path_cmp q) (paths_in f)
line_paths line shown same f q ls are =
    let es = f.files.entries in
    let at = λ (d : Path). eq_by_cmp path_cmp d q in
    sym (any_test (λ (e : Path × List Rights). at e.0) (λ (l : TableLine). (l.path, l.rights.items)) ls)
    ∙ ap (list_any (λ (e : Path × List Rights). at e.0)) are
    ∙ any_test (λ (e : Path × List Rights). at e.0) shown (map line es)
    ∙ any_test (λ x. at (shown x).0) line es
    ∙ ap (λ (t : Path × Node → Bool). list_any t es) (λ i e. at (same e i))
    ∙ sym (any_test at (λ (e : Path × Node). e.0) es)
    ∙ either_way path_cmp path_cmp_total q (map (λ (e : Path × Node). e.0) es)

module _ (accounts : Accounts) (f : Flat) (q : Path) (p : ProcName) where
  -- the letters of a process at a path with a node, if it is this one
  abbrev of_process : Path → Node → Named → Rights
  of_process d node =
      if_at process_cmp process_cmp_total process_cmp_exact (λ (me : ProcName) (process : Process). rights_at accounts f me process d node) p

  -- the letters of the processes at a path with a node
  abbrev of_line : List Named → Path → Node → Rights
  of_line ns d node = any_rights (of_process d node) ns

  a_row : (e : Path × Node) (ns : List Named)
      → row_letters e.0 (map runner ns) (map (λ (c : Cell). c.rights) (map (cell_at accounts f e) ns)) q p
      ≡ cond (eq_by_cmp path_cmp e.0 q) (of_line ns e.0 e.1) no_rights
  a_row e [] = none_twice (eq_by_cmp path_cmp e.0 q)
  a_row e (c ∷ ns) =
      (λ i. either (cond (sym (tied_then (path_cmp e.0 q) (process_cmp c.0 p)) i) (rights_at accounts f c.0 c.1 e.0 e.1) no_rights) (a_row e ns i))
      ∙ cell_and_rest (eq_by_cmp path_cmp e.0 q) (eq_by_cmp process_cmp c.0 p) (rights_at accounts f c.0 c.1 e.0 e.1) (of_line ns e.0 e.1)

  -- ---- a table

  -- the letters on a line, by its path and its rights
  abbrev on_line : List Runner → Path × List Rights → Rights
  on_line rs e = row_letters e.0 rs e.1 q p

  found_node : (o : Option Node) → AreRunning f (running_in f)
      → of_found path_cmp path_cmp_total path_cmp_exact (of_line (running_in f)) q o ≡ rights_shown accounts f q p o (running f p)
  found_node None are = refl
  found_node (Some node) are =
      any_found process_cmp process_cmp_total process_cmp_exact (λ (me : ProcName) (process : Process). rights_at accounts f me process q node) p
      (running_in f) are.rising
      ∙ ap (of_found process_cmp process_cmp_total process_cmp_exact
      (λ (me : ProcName) (process : Process). rights_at accounts f me process q node) p) (are.each p)
      ∙ found_process (running f p)
    where
      found_process : (o : Option Process)
          → of_found process_cmp process_cmp_total process_cmp_exact
          (λ (me : ProcName) (process : Process). rights_at accounts f me process q node) p o
          ≡ rights_shown accounts f q p (Some node) o
      found_process None = refl
      found_process (Some process) = refl

  -- the letters in a table of the state are the rights in the state
  pub table_letters : (t : Table) → ShowsRights accounts f t → AreRunning f (running_in f)
      → any_rights (line_letters t.processes.items q p) t.lines.items ≡ rights_of accounts f q p
  table_letters t shows are =
      let ns = running_in f in
      let es = f.files.entries in
      ap (λ rs. any_rights (line_letters rs q p) t.lines.items) shows.processes
      ∙ sym (any_of (on_line (map runner ns)) (λ (l : TableLine). (l.path, l.rights.items)) t.lines.items)
      ∙ ap (any_rights (on_line (map runner ns))) shows.lines
      ∙ any_of (on_line (map runner ns)) rights_line (map (line_of accounts f ns) es)
      ∙ any_of (λ l. on_line (map runner ns) (rights_line l)) (line_of accounts f ns) es
      ∙ any_same (λ e. on_line (map runner ns) (rights_line (line_of accounts f ns e)))
      (if_at path_cmp path_cmp_total path_cmp_exact (of_line ns) q) (λ e. a_row e ns) es
      ∙ any_found path_cmp path_cmp_total path_cmp_exact (of_line ns) q es f.files.sorted
      ∙ found_node (get f.files q) are

  -- the processes in a table of the state are those that run in the state
  pub table_processes : (t : Table) → ShowsRights accounts f t
      → list_any (λ (r : Runner). eq_by_cmp process_cmp r.process p) t.processes.items ≡ list_any (eq_by_cmp process_cmp p) (processes_in f)
  table_processes t shows =
      let ns = running_in f in
      let at = λ (me : ProcName). eq_by_cmp process_cmp me p in
      ap (list_any (λ (r : Runner). at r.process)) shows.processes
      ∙ any_test (λ (r : Runner). at r.process) runner ns
      ∙ sym (any_test at (λ (c : Named). c.0) ns)
      ∙ either_way process_cmp process_cmp_total p (map (λ (c : Named). c.0) ns)
