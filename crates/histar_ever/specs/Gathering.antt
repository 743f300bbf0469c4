-- What was gathered of the tables of several states.
use Rattle.std.specs.Prelude.{◌≡◌, ℕ, ◌||◌, List, ◌∷◌, ◌++◌, codes, unwrap_or, if◌then◌else◌}
use Rattle.std.specs.List.{flat_map, list_any}
use Rattle.std.specs.List.Sorted.{IsStrictlySortedBy}
use Rattle.std.specs.declared.cmp.Ordering.{Ordering}
use Rattle.std.specs.Ordering.{eq_by_cmp}
use Rattle.std.specs.BTreeMap.{BTreeMap, get}
use Rattle.std.specs.BTreeSet.{BTreeSet, contains}
use Rattle.histar_flat.specs.Words.{Path, ProcName}
use Rattle.histar_base.specs.Paths.{path_cmp}
use Rattle.histar_flat.specs.Accounts.{Accounts}
use Rattle.histar_flat.specs.FlatState.{Flat}
use Rattle.histar_flat.specs.Texts.{path_text}
use Rattle.histar_rights.specs.declared.rights.Rights.{Rights}
use Rattle.histar_rights.specs.Running.{process_cmp}
use Rattle.histar_rights.specs.Table.{cell_text}
use Rattle.histar_diff.specs.declared.table.Runner.{Runner}
use Rattle.histar_diff.specs.declared.table.Table.{Table}
use Rattle.histar_diff.specs.declared.table.TableLine.{TableLine}
use Rattle.histar_diff.specs.Sides.{Pair, pair_cmp}
use Rattle.histar_diff.specs.Tables.{no_rights}
use Rattle.histar_ever.specs.declared.ever.Ever.{Ever}
use Rattle.histar_ever.specs.Ever.{any_rights, either, ever_rights, paths_in, processes_in}

-- letters by paths and processes
abbrev pub Letters : Type 0
Letters = BTreeMap Pair Rights

-- the letters of a path and a process; none if they are not there
abbrev pub letters_at : Letters → Path → ProcName → Rights
letters_at letters q p = unwrap_or (get pair_cmp letters (q, p)) no_rights

-- the rights, if they are of this path and this process
abbrev pub rights_if : Pair → Rights → Path → ProcName → Rights
rights_if pair rights q p = if eq_by_cmp pair_cmp pair (q, p) then rights else no_rights

-- the letters of a path and a process on a line of a table, of these processes and their rights
abbrev pub row_letters : Path → List Runner → List Rights → Path → ProcName → Rights
row_letters path (r ∷ rs) (x ∷ xs) q p = either (rights_if (path, r.process) x q p) (row_letters path rs xs q p)
row_letters path _ _ q p = no_rights

-- the letters of a path and a process on a line of a table of these processes
abbrev pub line_letters : List Runner → Path → ProcName → TableLine → Rights
line_letters rs q p l = row_letters l.path rs l.rights.items q p

-- the rights at this pair were added to what was gathered
abbrev pub AddsRights : Pair → Rights → Letters → Letters → Type 0
AddsRights pair rights old new =
    (q : Path) (p : ProcName) → letters_at new q p ≡ either (letters_at old q p) (rights_if pair rights q p)

-- the rights of these processes at a path were added
abbrev pub AddsRow : Path → List Runner → List Rights → Letters → Letters → Type 0
AddsRow path rs xs old new =
    (q : Path) (p : ProcName) → letters_at new q p ≡ either (letters_at old q p) (row_letters path rs xs q p)

-- the rights of these processes on lines of a table were added
abbrev pub AddsLines : List Runner → List TableLine → Letters → Letters → Type 0
AddsLines rs ls old new =
    (q : Path) (p : ProcName) → letters_at new q p ≡ either (letters_at old q p) (any_rights (line_letters rs q p) ls)

-- the paths of lines were added
abbrev pub AddsPaths : List TableLine → BTreeSet Path → BTreeSet Path → Type 0
AddsPaths ls old new =
    (q : Path) → contains path_cmp new q ≡ (contains path_cmp old q || list_any (λ (l : TableLine). eq_by_cmp path_cmp l.path q) ls)

-- the processes of a table were added
abbrev pub AddsProcesses : List Runner → BTreeSet ProcName → BTreeSet ProcName → Type 0
AddsProcesses rs old new =
    (p : ProcName) → contains process_cmp new p ≡ (contains process_cmp old p || list_any (λ (r : Runner). eq_by_cmp process_cmp r.process p) rs)

-- a table was added
pub record AddsTable (t : Table) (old new : Ever) : Type 0 where
  pub paths : AddsPaths t.lines.items old.paths new.paths
  pub processes : AddsProcesses t.processes.items old.processes new.processes
  pub letters : AddsLines t.processes.items t.lines.items old.letters new.letters

-- exactly what was there in one of these states was gathered
pub record Gathers (accounts : Accounts) (fs : List Flat) (e : Ever) : Type 0 where
  pub paths : (q : Path) → contains path_cmp e.paths q ≡ list_any (eq_by_cmp path_cmp q) (flat_map paths_in fs)
  pub processes : (p : ProcName) → contains process_cmp e.processes p ≡ list_any (eq_by_cmp process_cmp p) (flat_map processes_in fs)
  pub letters : (q : Path) (p : ProcName) → letters_at e.letters q p ≡ ever_rights accounts fs q p

-- the cell of a process at a path, by what was gathered
abbrev pub gathered_cell : Letters → Path → ProcName → List ℕ
gathered_cell letters q p = cell_text (record { process = p; rights = letters_at letters q p })

-- the line of a path, by what was gathered, for these processes
abbrev pub gathered_line : Letters → List ProcName → Path → List ℕ
gathered_line letters ps q = path_text q ++ flat_map (gathered_cell letters q) ps ++ codes "\n"

-- these are the keys of a set, and they rise
pub record AreKeys {K : Type 0} (keys : List K) (cmp : K → K → Ordering) (ks : List K) : Type 0 where
  pub are : ks ≡ keys
  pub rise : IsStrictlySortedBy cmp ks

-- the text has the lines of what was gathered
pub record IsGatheredText (e : Ever) (text : List ℕ) : Type 0 where
  pub paths : List Path
  pub are_paths : AreKeys e.paths.keys path_cmp paths
  pub processes : List ProcName
  pub are_processes : AreKeys e.processes.keys process_cmp processes
  pub is : text ≡ flat_map (gathered_line e.letters processes) paths
