-- Which logins have a warning.
use Rattle.std.proofs.Common.{◌≡◌, Bool, true, false, Option, refl, sym, subst}
use Rattle.std.specs.Prelude.{◌↔◌, is_some}
use Rattle.histar_base.specs.Paths.{same}
use Rattle.histar_base.specs.Refusals.{◌orelse◌, unless}
use Rattle.histar_flat.specs.declared.calls.UnixCall.TheVariants.{Login}
use Rattle.histar_flat.specs.declared.calls.User.{User}
use Rattle.histar_flat.specs.declared.replies.Errno.TheVariants.{EACCES, EAUTH, ENOENT}
use Rattle.histar_flat.specs.declared.replies.Reply.TheVariants.{Done}
use Rattle.histar_flat.specs.Accounts.{Accounts, user_named}
use Rattle.histar_flat.specs.Classes.{Process, is_free}
use Rattle.histar_flat.specs.FlatCalls.{flat_after, reply_by, reply_or}
use Rattle.histar_flat.specs.FlatState.{Flat, is_some_and}
use Rattle.histar_flat.specs.Words.{Name, ProcName}
use Rattle.histar_policy.specs.declared.notes.Asked.TheVariants.{LogsIn}
use Rattle.histar_policy.specs.declared.notes.Event.{Event}
use Rattle.histar_policy.specs.declared.notes.Event.TheVariants.{WrongPassword}
use Rattle.histar_policy.specs.Laws.{WrongPasswordsAreSaid}
use Rattle.histar_policy.specs.Notes.{event_by}

module _ (accounts : Accounts) (after : Flat) (me : ProcName) (user : Name) where
  -- what is said of a login by the three tests of its rule: there is the user, the process is in no job, and the password is the user's
  abbrev said_by : Bool → Bool → Bool → Event
  said_by known free right =
      event_by accounts after me (LogsIn user) (reply_or (unless known ENOENT orelse unless free EACCES orelse unless right EAUTH) Done)

  by_tests : (known free right : Bool)
      → (said_by known free right ≡ WrongPassword user) ↔ ((free ≡ true) × ((known ≡ true) × (right ≡ false)))
  by_tests false free right = (λ e. absurd cc, λ h. let wrong = h.1.0 in absurd cc)
  by_tests true false right = (λ e. absurd cc, λ h. let wrong = h.0 in absurd cc)
  by_tests true true true = (λ e. absurd cc, λ h. let wrong = h.1.1 in absurd cc)
  by_tests true true false = (λ e. (refl, (refl, refl)), λ h. refl)

pub wrong_passwords_are_said : WrongPasswordsAreSaid
wrong_passwords_are_said accounts f me p user password runs =
    let known = is_some (user_named accounts.users user) in
    let right = is_some_and (user_named accounts.users user) (λ (u : User). same u.password password) in
    let after = flat_after accounts f me (Login user password) in
    subst (λ (o : Option Process). (event_by accounts after me (LogsIn user) (reply_by accounts f me o (Login user password)) ≡ WrongPassword user)
    ↔ ((is_free p ≡ true) × ((known ≡ true) × (right ≡ false)))) (sym runs) (by_tests accounts after me user known (is_free p) right)
