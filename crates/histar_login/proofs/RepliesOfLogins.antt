-- The programs of logins reply to their refusals.
use Rattle.std.proofs.Common.{ℕ, ◌+◌, Bool, true, false, List, Option, None, Some, refl}
use Rattle.std.specs.Str.{bytes_eq}
use Rattle.histar_rules.specs.declared.raw.RawCall.TheVariants.{OwnLabel, SetLabel, SetClearance, Read}
use Rattle.histar_rules.specs.Sound.{root_number}
use Rattle.histar_flat.specs.Accounts.{Accounts}
use Rattle.histar_flat.specs.Words.{Name}
use Rattle.histar_layout.specs.Categories.{owners_of}
use Rattle.histar_programs.specs.Laws.{RepliesToRefusals}
use Rattle.histar_programs.specs.Programs.Program.{Answers}
use Rattle.histar_programs.proofs.RepliesOfParts.{denial_of_call_has_reply}
use Rattle.histar_programs.specs.declared.caller.Caller.{Caller}
use Rattle.histar_login.specs.Login.{entering, label_if, clearance_if, reply_if, login_as_program, login_at}
use Rattle.histar_programs.specs.Users.{place_of, password_of}
use Rattle.histar_login.specs.Login.{LoginsReplyToRefusals}

-- the reply after the gate is no refusal that the kernel caused
replied : (right : Bool) → RepliesToRefusals (Answers (reply_if right))
replied true = (refl, refl)
replied false = (refl, refl)

as_program : (caller : Caller) (i : ℕ) (owners password : List ℕ) → RepliesToRefusals (login_as_program caller i owners password)
unfolding login_as_program
as_program caller i owners password = (
  (λ own. (
    (λ entry. (
      (λ kept. (
        (λ label. (
          (λ clearance. replied (bytes_eq kept password)),
          denial_of_call_has_reply
              (SetClearance (clearance_if (bytes_eq kept password) caller owners own.1)),
        )),
        denial_of_call_has_reply (SetLabel (label_if (bytes_eq kept password) caller owners own.0)),
      )),
      denial_of_call_has_reply (Read root_number (password_of i)),
    )),
    denial_of_call_has_reply (entering owners i own.0 own.1),
  )),
  denial_of_call_has_reply OwnLabel,
)

at_place : (accounts : Accounts) (caller : Caller) (name : Name) (password : List ℕ) (place : Option ℕ)
    → RepliesToRefusals (login_at accounts caller name password place)
at_place accounts caller name password None = (refl, refl)
at_place accounts caller name password (Some place) = as_program caller (place + 1) (owners_of accounts (place + 1) name) password

pub logins_reply_to_refusals : LoginsReplyToRefusals
logins_reply_to_refusals accounts caller name password = at_place accounts caller name password (place_of accounts.users name)
