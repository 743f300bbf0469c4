-- Logging in: the program of a login, and the labels that it asks for.
use Rattle.std.specs.Prelude.{◌≡◌, ℕ, ◌+◌, Bool, true, false, List, Option, None, Some}
use Rattle.std.specs.Str.{bytes_eq}
use Rattle.histar_flat.specs.declared.replies.Errno.TheVariants.{ENOENT, EAUTH}
use Rattle.histar_flat.specs.declared.replies.Reply.{Reply}
use Rattle.histar_flat.specs.declared.replies.Reply.TheVariants.{Done, Refused}
use Rattle.histar_flat.specs.Accounts.{Accounts}
use Rattle.histar_flat.specs.Words.{Name}
use Rattle.histar_level.specs.Levels.{Levels}
use Rattle.histar_label.specs.Floors.{join_of, floor_of}
use Rattle.histar_rules.specs.declared.raw.RawCall.{RawCall}
use Rattle.histar_rules.specs.declared.raw.RawCall.TheVariants.{OwnLabel, SetLabel, SetClearance, Enter, Read}
use Rattle.histar_rules.specs.Sound.{root_number}
use Rattle.histar_layout.specs.Categories.{owners_of}
use Rattle.histar_programs.specs.Laws.{RepliesToRefusals}
use Rattle.histar_programs.specs.Programs.{Part, Program}
use Rattle.histar_programs.specs.Programs.Program.{Answers}
use Rattle.histar_programs.specs.Parts.{◌>>=◌, ◌>>◌, ask}
use Rattle.histar_programs.specs.declared.caller.Caller.{Caller}
use Rattle.histar_programs.specs.Start.{owners_label, owners_clearance}
use Rattle.histar_programs.specs.Users.{place_of, password_of, gate_of, user_label, user_clearance}

-- a thread that has this label and this clearance enters the gate of user i, which gives the categories of these users and groups: it
-- wants all that it owns and all that the gate gives, and its verify label is its own label
abbrev pub entering : List ℕ → ℕ → Levels → Levels → RawCall
entering owners i own clearance = Enter root_number (gate_of i) (floor_of own (owners_label owners)) (join_of clearance (owners_clearance owners)) own

-- these are the label and the clearance that a thread with these labels wants behind the gate
pub record AreEntryLabels (owners : List ℕ) (own labels : Levels × Levels) : Type 0 where
  pub wanted_is : labels.0 ≡ floor_of own.0 (owners_label owners)
  pub clearance_is : labels.1 ≡ join_of own.1 (owners_clearance owners)

-- the thread reads the password of user i, and compares it with this one
abbrev pub ask_password : ℕ → List ℕ → Part Bool
ask_password i password rest = do
  kept ← ask (Read root_number (password_of i))
  rest (bytes_eq kept password)

-- the label that the thread takes after the gate: that of the user if the password is right, and its own again if not
abbrev pub label_if : Bool → Caller → List ℕ → Levels → Levels
label_if true caller owners own = user_label caller owners
label_if false caller owners own = own

-- the clearance that the thread takes after the gate
abbrev pub clearance_if : Bool → Caller → List ℕ → Levels → Levels
clearance_if true caller owners own_clearance = user_clearance caller owners
clearance_if false caller owners own_clearance = own_clearance

-- the thread takes the expected label and clearance
abbrev pub take_due : Bool → Caller → List ℕ → Levels × Levels → Part (Unit {0})
take_due right caller owners own rest = do
  ask (SetLabel (label_if right caller owners own.0))
  ask (SetClearance (clearance_if right caller owners own.1))
  rest tt

-- the reply after the gate was entered
abbrev pub reply_if : Bool → Reply
reply_if true = Done
reply_if false = Refused EAUTH

-- A login as user i, who owns the categories of these users and groups: the thread asks for its own labels, enters the gate of the
-- user, reads the user's password, which the gate lets it read, and takes the expected labels.
unfoldable pub login_as_program : Caller → ℕ → List ℕ → List ℕ → Program
login_as_program caller i owners password = do
  own ← ask OwnLabel
  entry ← ask (entering owners i own.0 own.1)
  right ← ask_password i password
  take_due right caller owners own
  Answers (reply_if right)

-- a login as the user at this place of the list of users; where there is none, ENOENT
abbrev pub login_at : Accounts → Caller → Name → List ℕ → Option ℕ → Program
login_at accounts caller name password None = Answers (Refused ENOENT)
login_at accounts caller name password (Some place) = login_as_program caller (place + 1) (owners_of accounts (place + 1) name) password

-- the program of `login NAME PASSWORD`
abbrev pub login_program : Accounts → Caller → Name → List ℕ → Program
login_program accounts caller name password = login_at accounts caller name password (place_of accounts.users name)

-- the programs of logins reply to their refusals
abbrev pub LoginsReplyToRefusals : Type 0
LoginsReplyToRefusals = (accounts : Accounts) (caller : Caller) (name : Name) (password : List ℕ) → RepliesToRefusals (login_program accounts caller name password)
