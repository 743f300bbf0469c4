-- What was gathered, with one more state, and its text.
use Rattle.std.specs.Prelude.{◌≡◌, ◌||◌, ℕ, List, [], ◌∷◌, ◌++◌, codes, unwrap_or, refl}
use Rattle.std.proofs.Common.{ap, sym, ◌∙◌}
use Rattle.std.specs.List.{flat_map, list_any}
use Rattle.std.specs.Ordering.{eq_by_cmp}
use Rattle.std.specs.BTreeMap.{is_at}
use Rattle.std.specs.Map.{lookup}
use Rattle.histar_flat.specs.Words.{Path, ProcName}
use Rattle.histar_base.specs.Paths.{path_cmp}
use Rattle.histar_base.proofs.PathLaws.{path_cmp_exact, path_cmp_total}
use Rattle.histar_flat.specs.Accounts.{Accounts}
use Rattle.histar_flat.specs.FlatState.{Flat}
use Rattle.histar_rights.proofs.Listed.{running_are_listed}
use Rattle.histar_rights.proofs.Named.{processes_are_named}
use Rattle.histar_flat.specs.Texts.{path_text}
use Rattle.histar_rights.specs.Running.{AreRunning, process_cmp, running_in}
use Rattle.histar_rights.specs.Table.{cell_text, line_of}
use Rattle.histar_shell.specs.Machine.{MachineModel}
use Rattle.histar_access.specs.RightsTable.{ShowsTable}
use Rattle.histar_diff.specs.declared.table.Table.{Table}
use Rattle.histar_diff.specs.Shown.{ShowsRights, rights_line, rights_of}
use Rattle.histar_diff.specs.Sides.{pair_cmp}
use Rattle.histar_diff.specs.Tables.{no_rights}
use Rattle.histar_diff.proofs.Steps.{process_cmp_exact, process_cmp_total}
use Rattle.histar_ever.specs.declared.ever.Ever.{Ever}
use Rattle.histar_ever.specs.Ever.{either, ever_line, ever_processes, ever_text, paths_in, processes_in}
use Rattle.histar_ever.specs.Following.{AddsState}
use Rattle.histar_ever.specs.Gathering.{AddsTable, Gathers, IsGatheredText, gathered_line}
use Rattle.histar_ever.proofs.Keys.{in_ever_more, keys_are_rising}
use Rattle.histar_ever.proofs.Letters.{any_more}
use Rattle.histar_ever.proofs.Tabled.{line_paths, table_letters, table_processes}

module _ (accounts : Accounts) where
  -- nothing was gathered of no state
  pub nothing_gathered : (e : Ever) → e.paths.keys ≡ [] → e.processes.keys ≡ [] → e.letters.entries ≡ [] → Gathers accounts [] e
  nothing_gathered e paths processes letters = record {
    paths = λ q. ap (list_any (eq_by_cmp path_cmp q)) paths;
    processes = λ p. ap (list_any (eq_by_cmp process_cmp p)) processes;
    letters = λ q p. ap (λ es. unwrap_or (lookup (is_at (pair_cmp (q, p))) es) no_rights) letters;
  }

  module _ (fs : List Flat) (f : Flat) (t : Table) where
    -- the table of one more state was added
    state_added : (old new : Ever) → ShowsRights accounts f t → AreRunning f (running_in f)
        → Gathers accounts fs old → AddsTable t old new → Gathers accounts (fs ++ f ∷ []) new
    state_added old new shows are before added = record {
      paths = λ q.
          let lines = line_paths (line_of accounts f (running_in f)) rights_line (λ e. refl) f q t.lines.items shows.lines in
          added.paths q ∙ (λ i. before.paths q i || lines i)
          ∙ sym (in_ever_more path_cmp paths_in q fs f);
      processes = λ p. added.processes p ∙ (λ i. before.processes p i || table_processes accounts f [] p t shows i)
          ∙ sym (in_ever_more process_cmp processes_in p fs f);
      letters = λ q p. added.letters q p ∙ (λ i. either (before.letters q p i) (table_letters accounts f q p t shows are i))
          ∙ sym (any_more (λ (g : Flat). rights_of accounts g q p) fs f);
    }

  -- ---- the text

  module _ (fs : List Flat) (e : Ever) (is : Gathers accounts fs e) where
    lines_same : (q : Path) (ps : List ProcName) → ps ≡ ever_processes fs → gathered_line e.letters ps q ≡ ever_line accounts fs q
    lines_same q ps are =
        λ i. path_text q ++ flat_map (λ (p : ProcName). cell_text (record { process = p; rights = is.letters q p i })) (are i) ++ codes "\n"

    -- the text of what was gathered is that of the states
    pub gathered_text : (text : List ℕ) → IsGatheredText e text → text ≡ ever_text accounts fs
    gathered_text text has =
        let names = keys_are_rising process_cmp process_cmp_total process_cmp_exact has.processes (flat_map processes_in fs) has.are_processes.rise
        (λ p. ap (list_any (eq_by_cmp process_cmp p)) has.are_processes.are ∙ is.processes p) in
        let paths = keys_are_rising path_cmp path_cmp_total path_cmp_exact has.paths (flat_map paths_in fs) has.are_paths.rise
        (λ q. ap (list_any (eq_by_cmp path_cmp q)) has.are_paths.are ∙ is.paths q) in
        has.is ∙ (λ i. flat_map (λ (q : Path). lines_same q has.processes names i) (paths i))

-- the table of a machine was added, which gathers its state
pub machine_added : (m : MachineModel) (t : Table) (old new : Ever) → ShowsTable m t → AddsTable t old new → AddsState Gathers m old new
machine_added m t old new shows added accounts calls represents fs before =
    state_added accounts fs _ t old new (shows accounts _ represents (processes_are_named accounts calls)) (running_are_listed accounts calls)
    before added
