-- The text of a table, from the contracts of its parts.
use Rattle.std.proofs.Common.{ℕ, List, [], Option, ap, subst, refl}
use Rattle.std.specs.Io.KnownBytes.{Appends}
use Rattle.std.proofs.KnownBytes.{Appends-nil}
use Rattle.histar_io.specs.Writing.{AppendsFront}
use Rattle.histar_syscall.specs.KernelModel.{state}
use Rattle.histar_rights.specs.Table.{access_table, access_text}
use Rattle.histar_readout.specs.declared.tree.TreeNode.{TreeNode}
use Rattle.histar_shell.specs.Ending.{HasTree, IsTreeIn}
use Rattle.histar_shell.specs.Machine.{MachineModel}
use Rattle.histar_cells.specs.declared.cells.Cell.{Cell}
use Rattle.histar_prefix.specs.Listing.{HasProcesses}
use Rattle.histar_prefix.proofs.Listed.{processes_there, tree_there}
use Rattle.histar_access.specs.Shown.{AppendsTable, AreVisitors, BeginsTable, IsShown}
use Rattle.histar_access.proofs.ShownTables.{machine_table}
use Rattle.histar_access.proofs.Writing.{whole}

-- nothing was written
pub nothing_begun : (w : Option (List ℕ)) (text : List ℕ) → AppendsFront w w text
nothing_begun w text = (text, record { front = []; parts = refl; appended = Appends-nil w })

module _ (m : MachineModel) where
  pub shown_tree : IsShown m → HasTree m
  shown_tree is = tree_there is.0 m is.1 is.2 is.3

  pub shown_processes : IsShown m → HasProcesses m
  shown_processes is = processes_there is.0 m is.1 is.2 is.3

  pub unbegun : (w : Option (List ℕ)) → BeginsTable m w w
  unbegun w accounts f shows named = nothing_begun w (access_text (access_table accounts f))

  module _ (tree : List TreeNode) (is : IsTreeIn m tree) (cells : List Cell) (are : AreVisitors m cells) (old new : Option (List ℕ)) where
    pub table_written : Appends old new (whole (state m.kernel) cells tree) → AppendsTable m old new
    table_written h accounts f shows named = subst (Appends old new) (ap access_text (machine_table accounts m f shows named tree is cells are)) h

    pub table_begun : AppendsFront old new (whole (state m.kernel) cells tree) → BeginsTable m old new
    table_begun h accounts f shows named = subst (AppendsFront old new) (ap access_text (machine_table accounts m f shows named tree is cells are)) h
