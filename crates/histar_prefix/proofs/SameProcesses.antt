-- The processes of a state are the same, whatever passwords the users have.
use Rattle.std.specs.Prelude.{◌≡◌, ℕ, zero, suc, List, [], ◌∷◌, Option, None, Some, refl}
use Rattle.std.proofs.Common.{ap, sym, ◌∙◌}
use Rattle.histar_flat.specs.Words.{ProcName}
use Rattle.histar_flat.specs.Accounts.{Accounts}
use Rattle.histar_level.specs.Levels.{Levels}
use Rattle.histar_object.specs.State.{State}
use Rattle.histar_layout.specs.Reading.{◌>>=◌}
use Rattle.histar_layout.specs.UserTable.{without_passwords}
use Rattle.histar_programs.specs.declared.roots.Home.{Home}
use Rattle.histar_programs.specs.declared.roots.Roots.{Roots}
use Rattle.histar_programs.specs.Caller.{caller_in, status_at}
use Rattle.histar_programs.specs.declared.caller.Caller.{Caller}
use Rattle.histar_shell.proofs.SameUsers.{same_kin, same_user}
use Rattle.histar_readout.specs.declared.process.Life.TheVariants.{Running}
use Rattle.histar_readout.specs.declared.process.ProcessNode.{ProcessNode}
use Rattle.histar_readout.specs.Process.{life_in, node_in, owned_beside, running_at, running_by, thread_label, container_label}
use Rattle.histar_readout.specs.Processes.{AreProcessesOf, all_of, children_of, levels_at, processes_at}
use Rattle.histar_layout.specs.Jobs.{jobs_in}

module _ (accounts : Accounts) (s : State) where
  same_running : (caller : Caller) (own : Levels) → running_by (without_passwords accounts) caller own ≡ running_by accounts caller own
  same_running caller own = λ i. Running (same_user accounts own i) (owned_beside (caller.read ∷ caller.write ∷ (same_kin accounts own i).owned) own)

  same_running_at : (home : Home) → running_at (without_passwords accounts) s home ≡ running_at accounts s home
  same_running_at home = λ i. do
    caller ← caller_in s home
    own ← thread_label (s.objects caller.thread)
    Some (same_running caller own i)

  same_life : (home : Home) (exited : Option ℕ) → life_in (without_passwords accounts) s home exited ≡ life_in accounts s home exited
  same_life home None = same_running_at home
  same_life home (Some number) = refl

  same_node : (me : ProcName) (home : Home) → node_in (without_passwords accounts) s me home ≡ node_in accounts s me home
  same_node me home = λ i. do
    status ← status_at s home.segment
    outer ← container_label (s.objects home.container)
    life ← same_life home status.exited i
    Some (record { name = me; home = home; chain = jobs_in outer; life = life; born = status.born })

  same_processes : (levels : ℕ) (me : ProcName) (home : Home)
      → processes_at levels (without_passwords accounts) s me home ≡ processes_at levels accounts s me home
  same_processes zero me home = refl
  same_processes (suc levels) me home = λ i. do
    node ← same_node me home i
    below ← all_of (λ name at. same_processes levels name at i) me (children_of s home.segment node.born)
    Some (node ∷ below)

  -- the processes with these accounts are those with the same users without passwords
  pub processes_unproved : (roots : Roots) (processes : List ProcessNode) → AreProcessesOf (without_passwords accounts) s roots processes
      → AreProcessesOf accounts s roots processes
  unfolding AreProcessesOf
  processes_unproved roots processes are = sym (same_processes (levels_at []) [] roots.home) ∙ are

  pub processes_proved : (roots : Roots) (processes : List ProcessNode) → AreProcessesOf accounts s roots processes
      → AreProcessesOf (without_passwords accounts) s roots processes
  unfolding AreProcessesOf
  processes_proved roots processes are = same_processes (levels_at []) [] roots.home ∙ are

  -- a state has at most one list of processes
  pub one_list : (roots : Roots) (a b : List ProcessNode) → AreProcessesOf accounts s roots a → AreProcessesOf accounts s roots b → a ≡ b
  unfolding AreProcessesOf
  one_list roots a b at bt = same_some a b (sym at ∙ bt)
    where
      same_some : (x y : List ProcessNode) → Some x ≡ Some y → x ≡ y
      same_some x y e = ap (λ (o : Option (List ProcessNode)). elim o [ None ↦ x | Some z ↦ z ]) e
