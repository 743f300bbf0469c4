-- The user that is given for a process is its user in the flat state that a state represents.
use Rattle.std.proofs.Common.{◌≡◌, ℕ, zero, suc, List, [], ◌∷◌, length, Option, None, Some, refl, sym, ap, ◌∙◌, true, false}
use Rattle.std.specs.Prelude.{is_some, map, option_map}
use Rattle.std.proofs.lemmas.Bool.{true≢false}
use Rattle.std.proofs.lemmas.List.{length-map}
use Rattle.histar_flat.specs.declared.calls.User.{User}
use Rattle.histar_flat.specs.Words.{ProcName}
use Rattle.histar_flat.specs.Accounts.{Accounts, user_number}
use Rattle.histar_flat.specs.Classes.{Process}
use Rattle.histar_flat.specs.FlatState.{Flat}
use Rattle.histar_flat.specs.FlatCalls.{if_running, running}
use Rattle.histar_level.specs.Levels.{Levels}
use Rattle.histar_object.specs.Objects.{label_there}
use Rattle.histar_object.specs.State.{State}
use Rattle.histar_layout.specs.Categories.{user_of}
use Rattle.histar_layout.specs.Reading.{◌>>=◌}
use Rattle.histar_layout.specs.UserTable.{without_password, without_passwords}
use Rattle.histar_programs.specs.Caller.{caller_at}
use Rattle.histar_programs.specs.Kin.{user_name}
use Rattle.histar_programs.specs.Start.{roots_of}
use Rattle.histar_programs.specs.declared.caller.Caller.{Caller}
use Rattle.histar_programs.specs.declared.roots.Home.{Home}
use Rattle.histar_refinement.specs.Guards.{rights_label}
use Rattle.histar_refinement.specs.Labels.{thread_rights}
use Rattle.histar_refinement.specs.Laws.{IsCallerOf}
use Rattle.histar_refinement.specs.Processes.{or_zero}
use Rattle.histar_refinement.specs.Represents.{ObjectsMatch}
use Rattle.histar_refinement.proofs.Agreeing.{thread_found}
use Rattle.histar_refinement.proofs.CallerFound.{callers_are_found, callers_are_there}
use Rattle.histar_refinement.proofs.OwnLabels.{name_of_number, own_user_is}
use Rattle.histar_names.specs.Laws.{UsersAreRight}
use Rattle.histar_names.specs.Runners.{user_at}

-- names are the same without passwords
same_name : (users : List User) (number : ℕ) → user_name (map without_password users) number ≡ user_name users number
same_name [] zero = refl
same_name [] (suc i) = refl
same_name (u ∷ users) zero = refl
same_name (u ∷ users) (suc zero) = refl
same_name (u ∷ users) (suc (suc i)) = same_name users (suc i)

module _ (accounts : Accounts) (s : State) (f : Flat) (l : ObjectsMatch accounts s f) (me : ProcName) where
  abbrev first : Home
  first = (roots_of (length accounts.users)).home

  -- the user that a label shows
  abbrev shown : Levels → Option (List ℕ)
  shown own = Some (user_name (without_passwords accounts).users (user_of own (length (without_passwords accounts).users)))

  -- the user that a process is given, by what is found
  abbrev given : Option Caller → Option (List ℕ)
  given found = found >>= λ caller. label_there (s.objects caller.thread) >>= shown

  not_running : (o : Option Process) → is_some o ≡ false → option_map (λ (p : Process). p.user) o ≡ None
  not_running None is = refl
  not_running (Some p) is = absurd (true≢false is)

  -- a process that runs, by what its segment contains
  runs : (o : Option Process) (p : Process) → o ≡ Some p → p.exited ≡ None → if_running o ≡ Some p
  runs o p here none =
      ap if_running here ∙ ap (λ (e : Option ℕ). elim e as (λ _. Option Process) [ None ↦ Some p | Some n ↦ None ]) none

  module _ (caller : Caller) (p : Process) (is : IsCallerOf accounts s f l me p caller) where
    abbrev own : Levels
    own = rights_label l.category (thread_rights accounts me p)

    labelled : label_there (s.objects caller.thread) ≡ Some own
    labelled = ap label_there (thread_found accounts s f l me p is.runs.0 is.runs.1 caller.thread is.runs.2)

    user_is : shown own ≡ Some p.user
    user_is =
        ap (λ n. Some (user_name (without_passwords accounts).users (user_of own n))) (length-map accounts.users without_password)
        ∙ ap Some (same_name accounts.users (user_of own (length accounts.users))
        ∙ ap (user_name accounts.users) (own_user_is accounts s f l me p)
        ∙ name_of_number accounts p.user ((l.processes me p is.runs.0).someone is.runs.1))

    given_is : given (Some caller) ≡ option_map (λ (q : Process). q.user) (running f me)
    given_is =
        ap (λ (o : Option Levels). o >>= shown) labelled ∙ user_is
        ∙ sym (ap (option_map (λ (q : Process). q.user)) (runs (f.processes me) p is.runs.0 is.runs.1))

  by_caller : (o : Option Caller) → caller_at s first me ≡ o → given o ≡ option_map (λ (p : Process). p.user) (running f me)
  by_caller None e = sym (not_running (running f me) (sym (callers_are_there accounts s f l me) ∙ ap is_some e))
  by_caller (Some caller) e =
      let found = (callers_are_found accounts s f l me caller).0 e in
      given_is caller found.0 found.1

pub users_are_right : UsersAreRight
users_are_right accounts s f l me =
    by_caller accounts s f l me (caller_at s (roots_of (length accounts.users)).home me) refl
