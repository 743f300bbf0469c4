-- The tree of a machine that represents a flat state is that of the flat state.
use Rattle.std.proofs.Common.{◌≡◌, ℕ, Bool, true, false, List, [], sym, ap, ◌∙◌, subst}
use Rattle.std.specs.Prelude.{if◌then◌else◌}
use Rattle.histar_flat.specs.FlatState.{Flat}
use Rattle.histar_flat.specs.Accounts.{Accounts}
use Rattle.histar_syscall.specs.KernelModel.{state}
use Rattle.histar_programs.specs.declared.roots.Roots.{Roots}
use Rattle.histar_readout.specs.declared.tree.TreeNode.{TreeNode}
use Rattle.histar_readout.specs.Tree.{IsTreeOf}
use Rattle.histar_readout.specs.TreeLines.{flat_lines, lines_at}
use Rattle.histar_readout.specs.Laws.{HasTreeOf}
use Rattle.histar_readout.proofs.OneTree.{states_have_one_tree}
use Rattle.histar_readout.proofs.TreeMatched.{flat_states_have_their_trees}
use Rattle.histar_shell.specs.Machine.{MachineModel}
use Rattle.histar_shell.specs.TreeText.{tree_text}
use Rattle.histar_shell.specs.Ending.{IsTreeIn, HasTree, PrintsTree, IsAsked}
use Rattle.histar_shell.specs.Meaning.{Shows}
use Rattle.histar_shell.proofs.SameUsers.{tree_unproved}

module _ (accounts : Accounts) (m : MachineModel) (f : Flat) (shows : Shows accounts m f) where
  -- the machine's kernel has the tree of the flat state
  has_tree : HasTreeOf accounts (state m.kernel) f shows.represents.matched.category
  has_tree = flat_states_have_their_trees accounts (state m.kernel) f shows.represents shows.shallow

  -- the kernel has this tree at the places that the machine keeps
  tree_there : IsTreeOf accounts (state m.kernel) m.roots has_tree.tree
  tree_there = subst (λ (roots : Roots). IsTreeOf accounts (state m.kernel) roots has_tree.tree) (sym shows.roots) has_tree.is_tree

  -- the kernel has this tree for the machine's users, which have no passwords
  tree_here : IsTreeIn m has_tree.tree
  tree_here =
      subst (λ (users : Accounts). IsTreeOf users (state m.kernel) m.roots has_tree.tree) (sym shows.users)
      (tree_unproved accounts (state m.kernel) m.roots has_tree.tree tree_there)

  -- the machine has a tree
  pub shown_tree : HasTree m
  shown_tree = (has_tree.tree, tree_here)

  -- each tree of the machine has the lines of the flat state
  pub same_lines : (tree : List TreeNode) → IsTreeIn m tree → lines_at (state m.kernel) tree ≡ flat_lines f
  same_lines tree is =
      ap (lines_at (state m.kernel))
      (states_have_one_tree m.users (state m.kernel) m.roots tree has_tree.tree is tree_here) ∙ has_tree.lines

  -- if the tree is asked for, its text is that of the flat state
  pub tree_asked : (b : Bool) (text : List ℕ) → IsAsked b (PrintsTree m) text → text ≡ (if b then tree_text (flat_lines f) else [])
  tree_asked true text prints = prints.2 ∙ ap tree_text (same_lines prints.0 prints.1)
  tree_asked false text prints = prints
