-- The lines that are computed from a machine are the table of the flat state that it represents.
use Rattle.std.specs.Prelude.{◌≡◌, suc, ◌≤◌, true, List, [], ◌∷◌, length, map, Option, None, Some, refl}
use Rattle.std.specs.List.{filter_map}
use Rattle.std.proofs.Common.{ap, sym, ◌∙◌, subst}
use Rattle.histar_flat.specs.Words.{Path, ProcName, most_names}
use Rattle.histar_flat.specs.Accounts.{Accounts}
use Rattle.histar_flat.specs.Files.{get}
use Rattle.histar_flat.specs.Classes.{may_read, may_write}
use Rattle.histar_flat.specs.FlatState.{Flat, Node, is_there}
use Rattle.histar_flat.specs.FlatState.Content.{Dir}
use Rattle.histar_object.specs.State.{State}
use Rattle.histar_syscall.specs.KernelModel.{state}
use Rattle.histar_layout.specs.declared.entry.Target.TheVariants.{Directory}
use Rattle.histar_programs.specs.declared.roots.Roots.{Roots}
use Rattle.histar_programs.specs.Start.{roots_of}
use Rattle.histar_refinement.specs.Represents.{ObjectsMatch}
use Rattle.histar_refinement.specs.Accounts.{AreAccounts}
use Rattle.histar_refinement.proofs.Agreeing.{root_is_dir}
use Rattle.histar_rights.specs.Rights.{rights_below}
use Rattle.histar_rights.specs.Running.{HaveShownNames, Named, running_in}
use Rattle.histar_rights.specs.Table.{access_table, line_of}
use Rattle.histar_rights.specs.Laws.{HaveFewBytes, rights_above, rights_or}
use Rattle.histar_rights.proofs.Giving.{directories_give_rights}
use Rattle.histar_diff.specs.Shown.{runner}
use Rattle.histar_readout.specs.declared.process.ProcessNode.{ProcessNode}
use Rattle.histar_readout.specs.declared.tree.TreeNode.{TreeNode}
use Rattle.histar_readout.specs.Laws.{HasProcessesOf, HasTreeOf}
use Rattle.histar_readout.specs.Processes.{AreProcessesOf, levels_at as process_levels}
use Rattle.histar_readout.specs.ProcessLines.{ProcessLine, flat_processes, process_line}
use Rattle.histar_readout.specs.Tree.{IsTreeOf, levels_at as tree_levels}
use Rattle.histar_readout.proofs.FlatTree.{walks_meet_all}
use Rattle.histar_readout.proofs.OneTree.{states_have_one_tree}
use Rattle.histar_shell.specs.Ending.{IsTreeIn}
use Rattle.histar_shell.specs.Machine.{MachineModel}
use Rattle.histar_shell.specs.Meaning.{Shows}
use Rattle.histar_shell.proofs.Users.{is_accounts}
use Rattle.histar_prefix.proofs.Listed.{filter_map_map, flat_list, flat_tree, tree_here}
use Rattle.histar_prefix.proofs.SameProcesses.{one_list, processes_unproved}
use Rattle.histar_cells.specs.declared.cells.Cell.{Cell}
use Rattle.histar_access.specs.Cells.{lines_from, visitors_among}
use Rattle.histar_access.specs.RightsTable.{runner_of}
use Rattle.histar_access.specs.Rows.{rows_from}
use Rattle.histar_access.specs.Shown.{AreVisitors}
use Rattle.histar_access.proofs.Descent.{descent, found_above, found_at}
use Rattle.histar_access.proofs.Matching.{AreMatched, tree_labelled, tree_matched}
use Rattle.histar_access.proofs.Runners.{line_runner, runners_listed}
use Rattle.histar_access.proofs.Tables.{flat_below, lines_matched, map_twice, start, table_lines, value, zipped, zipped_values}
use Rattle.histar_cells.proofs.Visiting.{Visitor, cell_by, cells_are, named_are, named_by, named_of, running_listed}
use Rattle.histar_cells.proofs.Visiting.{start_cell, visitors}
use Rattle.histar_cells.proofs.FlatTrees.{are_tree, few_bytes}

module _ (accounts : Accounts) (s : State) (f : Flat) (l : ObjectsMatch accounts s f) where
  -- the rights of each process at a path are those that its directory gives
  module _ (small : HaveFewBytes f) (ok : AreAccounts accounts) (vs : List (Visitor accounts s f l)) where
    above_is : (q : Path) (v : Visitor accounts s f l)
        → found_above f (start accounts s f l ok vs) (flat_below accounts s f l ok vs)
        (value accounts s f l ok vs) q v ≡ rights_above accounts f v.name v.process q
    above_is [] v = refl
    above_is (n ∷ d) v = by (get f.files d)
      where
        by : (o : Option Node)
            → found_at f (start accounts s f l ok vs) (flat_below accounts s f l ok vs)
            (value accounts s f l ok vs) d o v ≡ rights_or accounts f v.name v.process d o
        by None = refl
        by (Some above) = refl

    is_given : (q : Path) (node : Node) → get f.files q ≡ Some node
        → flat_below accounts s f l ok vs (q, node)
        (found_above f (start accounts s f l ok vs) (flat_below accounts s f l ok vs)
        (value accounts s f l ok vs) q) ≡ value accounts s f l ok vs q node
    is_given q node at = λ i v.
        (ap (λ r. rights_below r (may_read accounts v.process node.class) (may_write accounts v.process node.class)) (above_is q v)
        ∙ sym (directories_give_rights accounts f (are_tree accounts s f l) small v.name v.process q node at)) i

    -- the lines of a tree that matches are those of the table
    lines_are : (shallow : (q : Path) → is_there f q ≡ true → length q ≤ most_names) (tree : List TreeNode)
        → AreMatched accounts s f l ok tree f.files.entries → map (named_of accounts s f l) vs ≡ running_in f
        → lines_from s (map (start_cell accounts s f l) vs) [] tree ≡ access_table accounts f
    lines_are shallow tree match named =
        let es = f.files.entries in
        let root = root_is_dir accounts s f l in
        let met = walks_meet_all f (are_tree accounts s f l) most_names shallow (record { class = root.0; content = Dir }) root.1 in
        let rows = rows_from (λ (e : Path × Node). length e.0) (flat_below accounts s f l ok vs) (start accounts s f l ok vs) [] in
        let found : rows es ≡ map (λ (e : Path × Node). value accounts s f l ok vs e.0 e.1) es =
        ap rows (sym met)
        ∙ descent f (start accounts s f l ok vs) (flat_below accounts s f l ok vs) (value accounts s f l ok vs) is_given (suc most_names)
        (record { class = root.0; content = Dir }) root.1
        ∙ ap (map (λ (e : Path × Node). value accounts s f l ok vs e.0 e.1)) met in
        lines_matched accounts s f l ok vs tree es match [] ∙ ap (zipped accounts s f l ok vs es) found ∙ zipped_values accounts s f l ok vs es
        ∙ table_lines accounts s f l ok vs es
        ∙ ap (λ (ps : List Named). map (line_of accounts f ps) es) named

module _ (accounts : Accounts) (m : MachineModel) (f : Flat) (shows : Shows accounts m f) (named : HaveShownNames f) where
  abbrev s : State
  s = state m.kernel

  abbrev l : ObjectsMatch accounts s f
  l = shows.represents.matched

  abbrev ok : AreAccounts accounts
  ok = is_accounts accounts shows.declared

  -- the tree and the processes of the flat state
  abbrev has_tree : HasTreeOf accounts s f l.category
  has_tree = flat_tree accounts m f shows named

  abbrev has_processes : HasProcessesOf accounts s f l.category
  has_processes = flat_list accounts m f shows named

  -- the names of processes
  abbrev names : List ProcessNode → List ProcName
  names processes = map (λ (node : ProcessNode). node.name) processes

  -- facts about the cells of the processes that are found
  module _ (processes : List ProcessNode) (are : AreProcessesOf m.users s m.roots processes) where
    same : processes ≡ has_processes.processes
    same = one_list accounts s (roots_of (length accounts.users)) processes has_processes.processes
        (subst (λ (roots : Roots). AreProcessesOf accounts s roots processes) shows.roots
        (processes_unproved accounts s m.roots processes (subst (λ (users : Accounts). AreProcessesOf users s m.roots processes) shows.users are)))
        has_processes.are_processes

    pub cells_found : visitors_among s m.roots processes ≡ map (start_cell accounts s f l) (visitors accounts s f l (names processes))
    cells_found =
        ap (λ (roots : Roots). visitors_among s roots processes) shows.roots
        ∙ sym (filter_map_map (cell_by accounts s f l) (λ (node : ProcessNode). node.name) processes) ∙ cells_are accounts s f l (names processes)

    pub named_found : map (named_of accounts s f l) (visitors accounts s f l (names processes)) ≡ running_in f
    unfolding running_in
    named_found =
        sym (named_are accounts s f l (names processes))
        ∙ ap (filter_map (named_by accounts s f l)) (sym (map_twice (λ (line : ProcessLine). line.name) process_line processes)
        ∙ ap (λ (ps : List ProcessNode). map (λ (line : ProcessLine). line.name) (map process_line ps)) same
        ∙ ap (map (λ (line : ProcessLine). line.name)) has_processes.lines)
        ∙ filter_map_map (named_by accounts s f l) (λ (line : ProcessLine). line.name) (flat_processes l.category (process_levels []) f [])
        ∙ running_listed f l.category (process_levels []) []

    -- the running ones among these processes, with their users, are those of the flat state
    pub runners_found : filter_map runner_of processes ≡ map runner (running_in f)
    unfolding running_in
    runners_found =
        sym (filter_map_map line_runner process_line processes)
        ∙ ap (λ (ps : List ProcessNode). filter_map line_runner (map process_line ps)) same
        ∙ ap (filter_map line_runner) has_processes.lines
        ∙ runners_listed f l.category (process_levels []) []

  -- the lines of the machine are the table of the flat state
  pub machine_table : (tree : List TreeNode) → IsTreeIn m tree → (cells : List Cell) → AreVisitors m cells
      → lines_from s cells [] tree ≡ access_table accounts f
  unfolding IsTreeOf
  machine_table tree is cells are =
      let vs = visitors accounts s f l (names are.0) in
      let labelled = tree_labelled accounts s (tree_levels []) []
      (Directory (roots_of (length accounts.users)).slash.container
      (roots_of (length accounts.users)).slash.listing) has_tree.tree has_tree.is_tree in
      let match = tree_matched accounts s f l ok has_tree.tree labelled has_tree.same has_tree.lines in
      (λ i. lines_from s ((are.2 ∙ cells_found are.0 are.1) i) []
      (states_have_one_tree m.users s m.roots tree has_tree.tree is (tree_here accounts m f shows named) i))
      ∙ lines_are accounts s f l (few_bytes f shows.small) ok vs shows.shallow has_tree.tree match (named_found are.0 are.1)
