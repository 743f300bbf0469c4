-- The user that the label of a process's thread shows is that of the process.
use Rattle.std.specs.Prelude.{◌≡◌, false, is_some, length, Option, None, Some, option_and_then, option_map, refl}
use Rattle.std.proofs.Common.{ap, sym, ◌∙◌}
use Rattle.std.proofs.lemmas.Bool.{true≢false}
use Rattle.histar_flat.specs.Words.{Name, ProcName}
use Rattle.histar_flat.specs.Accounts.{Accounts}
use Rattle.histar_flat.specs.Classes.{Process}
use Rattle.histar_flat.specs.FlatState.{Flat}
use Rattle.histar_flat.specs.FlatCalls.{running}
use Rattle.histar_level.specs.Levels.{Levels}
use Rattle.histar_object.specs.Objects.{label_there}
use Rattle.histar_object.specs.State.{State}
use Rattle.histar_syscall.specs.KernelModel.{state}
use Rattle.histar_layout.specs.UserTable.{without_passwords}
use Rattle.histar_programs.specs.declared.caller.Caller.{Caller}
use Rattle.histar_programs.specs.declared.roots.Roots.{Roots}
use Rattle.histar_programs.specs.Caller.{caller_at}
use Rattle.histar_programs.specs.Kin.{user_name}
use Rattle.histar_programs.specs.Start.{roots_of}
use Rattle.histar_refinement.specs.Guards.{rights_label}
use Rattle.histar_refinement.specs.Labels.{thread_rights}
use Rattle.histar_refinement.specs.Represents.{ObjectsMatch}
use Rattle.histar_refinement.proofs.Agreeing.{thread_found}
use Rattle.histar_refinement.proofs.CallerFound.{callers_are_found, callers_are_there}
use Rattle.histar_refinement.proofs.OwnLabels.{name_of_number, own_user_is}
use Rattle.histar_shell.specs.Machine.{MachineModel}
use Rattle.histar_shell.proofs.SameUsers.{same_user}
use Rattle.histar_cells.specs.Whose.{IsUserOfProcess, thread_user, user_by, user_running}
use Rattle.histar_cells.proofs.Visiting.{runs_there}

module _ (accounts : Accounts) (s : State) (f : Flat) (l : ObjectsMatch accounts s f) (me : ProcName) where
  abbrev roots : Roots
  roots = roots_of (length accounts.users)

  -- the user that the label of a thread shows, if it is there
  abbrev shown : Option Caller → Option Name
  shown o = option_and_then (λ (caller : Caller). option_map (user_by (without_passwords accounts)) (label_there (s.objects caller.thread))) o

  not_there : (o : Option Process) → is_some o ≡ false → None ≡ option_map (λ (p : Process). p.user) o
  not_there None e = refl
  not_there (Some p) e = absurd (true≢false e)

  -- it is the user of the process, if that runs
  user_is : shown (caller_at s roots.home me) ≡ user_running f me
  user_is = by (caller_at s roots.home me) refl
    where
      by : (o : Option Caller) → caller_at s roots.home me ≡ o → shown o ≡ user_running f me
      by None e = not_there (running f me) (sym (callers_are_there accounts s f l me) ∙ ap is_some e)
      by (Some caller) e =
          let found = (callers_are_found accounts s f l me caller).0 e in
          let p : Process = found.0 in
          let runs = found.1.runs in
          let own : Levels = rights_label l.category (thread_rights accounts me p) in
          let thread = thread_found accounts s f l me p runs.0 runs.1 caller.thread runs.2 in
          let named : user_by (without_passwords accounts) own ≡ p.user =
          same_user accounts own ∙ ap (user_name accounts.users) (own_user_is accounts s f l me p)
          ∙ name_of_number accounts p.user ((l.processes me p runs.0).someone runs.1) in
          ap (λ o. option_map (user_by (without_passwords accounts)) (label_there o)) thread ∙ ap (λ n. Some n) named
          ∙ ap (option_map (λ (p : Process). p.user)) (sym (runs_there accounts s f l me p runs.0 runs.1))

-- on a machine the user is that of the process
pub user_shown : (m : MachineModel) (me : ProcName) (users : Accounts) (places : Roots) (s : State) (found : Option Name) → users ≡ m.users
    → places ≡ m.roots → s ≡ state m.kernel → found ≡ thread_user users s places me → IsUserOfProcess m me found
user_shown m me users places s found same_users same_roots same_state is accounts f shows =
    is ∙ (λ i. thread_user ((same_users ∙ shows.users) i) (same_state i) ((same_roots ∙ shows.roots) i) me)
    ∙ user_is accounts (state m.kernel) f shows.represents.matched me
