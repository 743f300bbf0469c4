-- A machine that was booted represents the flat start.
use Rattle.std.proofs.Common.{◌≤◌, sym, subst, arith}
use Rattle.histar_flat.specs.Accounts.{Accounts}
use Rattle.histar_flat.specs.Meaning.{boot}
use Rattle.histar_object.specs.State.{State}
use Rattle.histar_script.specs.Script.{IsDeclared}
use Rattle.histar_rules.specs.Rules.{greatest}
use Rattle.histar_programs.specs.Start.{start_state}
use Rattle.histar_refinement.specs.Represents.{Represents}
use Rattle.histar_refinement.proofs.Start.{start_represents}
use Rattle.histar_refinement.proofs.StartTable.{length_start}
use Rattle.histar_sim.proofs.FirstFree.{first_free_at_start}
use Rattle.histar_shell.specs.Machine.{MachineModel, IsStart}
use Rattle.histar_shell.specs.Meaning.{Shows}
use Rattle.histar_shell.proofs.SmallFiles.{small_at_start}
use Rattle.histar_shell.proofs.ShallowPaths.{shallow_at_start}
use Rattle.histar_shell.proofs.Users.{is_accounts}

module _ (accounts : Accounts) (declared : IsDeclared accounts) where
  -- the objects of boot have numbers
  room : (start_state accounts).next_object ≤ greatest
  room = omega (arith, length_start accounts, declared.users.most)

  -- the start state represents the flat start
  pub start_is_matched : Represents accounts (start_state accounts) (boot accounts)
  start_is_matched = start_represents accounts declared.users.some (is_accounts accounts declared).no_one room

  -- a machine that was booted represents the flat start
  pub start_shows : (m : MachineModel) → IsStart accounts m → Shows accounts m (boot accounts)
  start_shows m start = record {
    declared = declared;
    users = start.users;
    roots = start.roots;
    represents = subst (λ (s : State). Represents accounts s (boot accounts)) (sym start.state) start_is_matched;
    first = first_free_at_start accounts;
    small = small_at_start accounts;
    shallow = shallow_at_start accounts;
  }
