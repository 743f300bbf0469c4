-- The table of a machine, line by line, and that it shows the rights of the flat state.
use Rattle.std.proofs.Common.{◌≡◌, List, [], ◌∷◌, ◌++◌, take, length, sym, ap, ◌∙◌, refl, append-nil, append_assoc}
use Rattle.std.specs.Prelude.{map}
use Rattle.std.specs.List.{filter_map}
use Rattle.std.proofs.lemmas.List.{map-append}
use Rattle.histar_flat.specs.Words.{Path}
use Rattle.histar_object.specs.State.{State}
use Rattle.histar_syscall.specs.KernelModel.{state}
use Rattle.histar_rights.specs.declared.rights.Rights.{Rights}
use Rattle.histar_diff.specs.declared.table.Table.{Table}
use Rattle.histar_diff.specs.declared.table.TableLine.{TableLine}
use Rattle.histar_diff.specs.Shown.{rights_line}
use Rattle.histar_diff.specs.Tables.{by_path}
use Rattle.histar_readout.specs.declared.process.ProcessNode.{ProcessNode}
use Rattle.histar_readout.specs.declared.tree.TreeNode.{TreeNode}
use Rattle.histar_shell.specs.Ending.{IsTreeIn}
use Rattle.histar_shell.specs.Machine.{MachineModel}
use Rattle.histar_cells.specs.declared.cells.Cell.{Cell}
use Rattle.histar_access.specs.Cells.{line_of_node, lines_from, visitors_among}
use Rattle.histar_access.specs.RightsTable.{ShowsTable, line_rights, runner_of}
use Rattle.histar_prefix.specs.Listing.{AreProcessesIn}
use Rattle.histar_access.proofs.ShownTables.{machine_table, runners_found}
use Rattle.histar_access.proofs.Writing.{next_row}

module _ (s : State) (visitors : List Cell) (tree : List TreeNode) where
  -- the rows of rights at the nodes of a tree
  abbrev pub all_rights : List (List Cell) → List TreeNode → List (Path × List Rights)
  all_rights way left = map rights_line (lines_from s visitors way left)

  -- These are the first lines of the table, and these nodes are left.
  pub record AreLines (way : List (List Cell)) (left : List TreeNode) (lines : List TableLine) : Type 0 where
    pub are : all_rights [] tree ≡ by_path lines ++ all_rights way left

  -- there are no lines at first
  pub no_lines : AreLines [] tree []
  no_lines = record { are = refl }

  -- there is one more line
  pub line_more : {way : List (List Cell)} {left rest : List TreeNode} {lines : List TableLine} → (node : TreeNode) (line : TableLine)
      → left ≡ node ∷ rest
      → line_rights line ≡ rights_line (line_of_node node (next_row s visitors tree way node)) → AreLines way left lines
      → AreLines (take (length node.path) way ++ next_row s visitors tree way node ∷ []) rest (lines ++ line ∷ [])
  line_more {way = way} {rest = rest} {lines = lines} node line turn is are =
      let later = all_rights (take (length node.path) way ++ next_row s visitors tree way node ∷ []) rest in
      record {
        are =
            are.are ∙ ap (λ l. by_path lines ++ all_rights way l) turn ∙ ap (λ r. by_path lines ++ r ∷ later) (sym is)
            ∙ sym (append_assoc (by_path lines) (line_rights line ∷ []) later)
            ∙ ap (λ l. l ++ later) (sym (map-append line_rights lines (line ∷ [])));
      }

  -- the lines are the same if the rows on the way are
  pub same_lines : {way own : List (List Cell)} {left : List TreeNode} {lines listed : List TableLine} → own ≡ way → listed ≡ lines
      → AreLines way left lines → AreLines own left listed
  same_lines {left = left} same_way same are = record { are = are.are ∙ (λ i. by_path (sym same i) ++ all_rights (sym same_way i) left) }

  -- at the end there are all lines
  pub all_lines : (way : List (List Cell)) (left : List TreeNode) (lines : List TableLine) → left ≡ [] → AreLines way left lines
      → by_path lines ≡ all_rights [] tree
  all_lines way left lines none are = sym (are.are ∙ ap (λ l. by_path lines ++ all_rights way l) none ∙ append-nil (by_path lines))

module _ (m : MachineModel) where
  -- the table of these processes and lines shows the rights of the flat state
  pub table_shows : (tree : List TreeNode) → IsTreeIn m tree → (processes : List ProcessNode) → AreProcessesIn m processes → (t : Table)
      → t.processes.items ≡ filter_map runner_of processes
      → by_path t.lines.items ≡ map rights_line (lines_from (state m.kernel) (visitors_among (state m.kernel) m.roots processes) [] tree)
      → ShowsTable m t
  table_shows tree is processes are t running lines accounts f shows named = record {
    processes = running ∙ runners_found accounts m f shows named processes are;
    lines = lines ∙ ap (map rights_line)
        (machine_table accounts m f shows named tree is (visitors_among (state m.kernel) m.roots processes) (processes, are, refl));
  }
