-- A machine that represents a flat state has a tree and processes, which are those of that state.
use Rattle.std.specs.Prelude.{◌≡◌, List, [], ◌∷◌, map, Option, refl}
use Rattle.std.specs.List.{cons_option, filter_map}
use Rattle.std.proofs.Common.{ap, sym, subst}
use Rattle.histar_flat.specs.Accounts.{Accounts}
use Rattle.histar_flat.specs.FlatState.{Flat}
use Rattle.histar_object.specs.State.{State}
use Rattle.histar_syscall.specs.KernelModel.{state}
use Rattle.histar_programs.specs.declared.roots.Roots.{Roots}
use Rattle.histar_refinement.specs.Represents.{ObjectsMatch}
use Rattle.histar_rights.specs.Running.{HaveShownNames}
use Rattle.histar_readout.specs.Laws.{HasProcessesOf, HasTreeOf}
use Rattle.histar_readout.specs.Processes.{AreProcessesOf}
use Rattle.histar_readout.specs.Tree.{IsTreeOf}
use Rattle.histar_readout.proofs.ProcessesMatched.{flat_states_have_their_processes}
use Rattle.histar_readout.proofs.TreeMatched.{flat_states_have_their_trees}
use Rattle.histar_shell.specs.Ending.{HasTree, IsTreeIn}
use Rattle.histar_shell.specs.Machine.{MachineModel}
use Rattle.histar_shell.specs.Meaning.{Shows}
use Rattle.histar_shell.proofs.SameUsers.{tree_unproved}
use Rattle.histar_prefix.specs.Listing.{HasProcesses}
use Rattle.histar_prefix.proofs.SameProcesses.{processes_proved}

-- mapping a function and then filtering is filtering by their composition
pub filter_map_map : {A B C : Type 0} (g : B → Option C) (h : A → B) (xs : List A) → filter_map g (map h xs) ≡ filter_map (λ x. g (h x)) xs
filter_map_map g h [] = refl
filter_map_map g h (x ∷ xs) = ap (cons_option (g (h x))) (filter_map_map g h xs)

module _ (accounts : Accounts) (m : MachineModel) (f : Flat) (shows : Shows accounts m f) (named : HaveShownNames f) where
  abbrev s : State
  s = state m.kernel

  abbrev l : ObjectsMatch accounts s f
  l = shows.represents.matched

  -- the tree and the processes of the flat state
  pub flat_tree : HasTreeOf accounts s f l.category
  flat_tree = flat_states_have_their_trees accounts s f shows.represents shows.shallow

  pub flat_list : HasProcessesOf accounts s f l.category
  flat_list = flat_states_have_their_processes accounts s f shows.represents named

  pub tree_here : IsTreeIn m flat_tree.tree
  tree_here =
      subst (λ (users : Accounts). IsTreeOf users s m.roots flat_tree.tree) (sym shows.users)
      (tree_unproved accounts s m.roots flat_tree.tree
      (subst (λ (roots : Roots). IsTreeOf accounts s roots flat_tree.tree) (sym shows.roots) flat_tree.is_tree))

  -- the machine has a tree
  pub tree_there : HasTree m
  tree_there = (flat_tree.tree, tree_here)

  -- the machine has processes
  pub processes_there : HasProcesses m
  processes_there = (
    flat_list.processes,
    subst (λ (users : Accounts). AreProcessesOf users s m.roots flat_list.processes) (sym shows.users)
        (processes_proved accounts s m.roots flat_list.processes
        (subst (λ (roots : Roots). AreProcessesOf accounts s roots flat_list.processes) (sym shows.roots) flat_list.are_processes)),
  )
