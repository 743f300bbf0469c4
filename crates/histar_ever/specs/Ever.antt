-- Who could ever do what: the rights of each process at each path, in one or another of several flat states.
use Rattle.std.specs.Prelude.{ℕ, ◌||◌, List, [], ◌∷◌, ◌++◌, codes, map}
use Rattle.std.specs.declared.cmp.Ordering.{Ordering}
use Rattle.std.specs.List.{flat_map}
use Rattle.std.specs.FinMap as fin
use Rattle.histar_flat.specs.Words.{Path, ProcName}
use Rattle.histar_base.specs.Paths.{path_cmp}
use Rattle.histar_flat.specs.Accounts.{Accounts}
use Rattle.histar_flat.specs.FlatState.{Flat, Node}
use Rattle.histar_flat.specs.Texts.{path_text}
use Rattle.histar_rights.specs.declared.rights.Rights.{Rights}
use Rattle.histar_rights.specs.Running.{Named, process_cmp, running_in}
use Rattle.histar_rights.specs.Table.{Cell, cell_text}
use Rattle.histar_diff.specs.Shown.{rights_of}
use Rattle.histar_diff.specs.Tables.{no_rights}

-- the letters of one or of the other
abbrev pub either : Rights → Rights → Rights
either a b = record { stat = a.stat || b.stat; read = a.read || b.read; write = a.write || b.write; remove = a.remove || b.remove }

-- the letters that one of these has
abbrev pub any_rights : {A : Type 0} → (A → Rights) → List A → Rights
any_rights rights [] = no_rights
any_rights rights (x ∷ xs) = either (rights x) (any_rights rights xs)

-- the letters that a process had at a path in one of these states
abbrev pub ever_rights : Accounts → List Flat → Path → ProcName → Rights
ever_rights accounts fs q p = any_rights (λ (f : Flat). rights_of accounts f q p) fs

-- these keys in their order, each once
abbrev pub rising : {K : Type 0} → (K → K → Ordering) → List K → List K
rising {K} R ks = fin.keys (fin.from_entries {R = R} (map {B = K × Unit {0}} (λ k. (k, tt)) ks))

-- the paths that are there in a state
abbrev pub paths_in : Flat → List Path
paths_in f = map (λ (e : Path × Node). e.0) f.files.entries

-- the processes that run in a state
abbrev pub processes_in : Flat → List ProcName
processes_in f = map (λ (c : Named). c.0) (running_in f)

-- the paths that were there in one of these states
abbrev pub ever_paths : List Flat → List Path
ever_paths fs = rising path_cmp (flat_map paths_in fs)

-- the processes that ran in one of these states
abbrev pub ever_processes : List Flat → List ProcName
ever_processes fs = rising process_cmp (flat_map processes_in fs)

-- a process, with the letters that it had at a path in one of these states
abbrev pub ever_cell : Accounts → List Flat → Path → ProcName → Cell
ever_cell accounts fs q p = record { process = p; rights = ever_rights accounts fs q p }

-- the line of a path: the path, a cell for each process that ran, by rising names, and a line end
abbrev pub ever_line : Accounts → List Flat → Path → List ℕ
ever_line accounts fs q =
    path_text q ++ flat_map (λ (p : ProcName). cell_text (ever_cell accounts fs q p)) (ever_processes fs) ++ codes "\n"

-- the text of all: a line for each path that was there, by rising paths
abbrev pub ever_text : Accounts → List Flat → List ℕ
ever_text accounts fs = flat_map (ever_line accounts fs) (ever_paths fs)
