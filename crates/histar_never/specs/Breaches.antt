-- What breaks a claim: who is meant and has one of its letters, and after which call that is first so.
use Rattle.std.specs.Prelude.{ℕ, List, [], ◌∷◌, ◌++◌, codes, decimal, filter, map, Option, None, Some, option_map}
use Rattle.std.specs.Prelude.{if◌then◌else◌}
use Rattle.std.specs.Option.{option_or}
use Rattle.histar_flat.specs.declared.calls.CallLine.{CallLine}
use Rattle.histar_flat.specs.Accounts.{Accounts}
use Rattle.histar_flat.specs.FlatState.{Flat}
use Rattle.histar_flat.specs.FlatCalls.{flat_after}
use Rattle.histar_flat.specs.Texts.{process_text}
use Rattle.histar_flat.specs.Words.{Name, Path, ProcName}
use Rattle.histar_rights.specs.declared.rights.Rights.{Rights}
use Rattle.histar_rights.specs.Running.{Named, running_in}
use Rattle.histar_rights.specs.Users.{somebody}
use Rattle.histar_diff.specs.declared.table.Runner.{Runner}
use Rattle.histar_diff.specs.Shown.{rights_of}
use Rattle.histar_cells.specs.ByUser.{user_rights_at}
use Rattle.histar_never.specs.declared.breaches.Breach.{Breach}
use Rattle.histar_never.specs.declared.breaches.Holder.{Holder}
use Rattle.histar_never.specs.declared.breaches.Holder.TheVariants.{AProcess, AUser}
use Rattle.histar_never.specs.declared.breaches.LateBreach.{LateBreach}
use Rattle.histar_never.specs.declared.claims.Never.{Never}
use Rattle.histar_never.specs.declared.whom.Whom.{Whom}
use Rattle.histar_never.specs.Letters.{common, has_letter, letters_text}
use Rattle.histar_never.specs.Whom.{is_meant, is_meant_user}

-- a running process that may hold rights, with its user
abbrev pub as_process : Named → Holder
as_process c = AProcess c.0 c.1.user

-- the running processes that are meant, by rising names
abbrev pub meant_processes : Flat → Whom → List Holder
meant_processes f whom = map as_process (filter (λ c. is_meant whom c.0 c.1.user) (running_in f))

-- the users that are meant: nobody first, and then in the order of the script
abbrev pub meant_users : Accounts → Whom → List Holder
meant_users accounts whom = map AUser (filter (is_meant_user whom) (somebody accounts))

-- all that are meant in a flat state: running processes, and whoever logs in as one of the users
abbrev pub holders : Accounts → Flat → Whom → List Holder
holders accounts f whom = meant_processes f whom ++ meant_users accounts whom

-- the rights that one of these has at a path
abbrev pub rights_of_holder : Accounts → Flat → Path → Holder → Rights
rights_of_holder accounts f q (AProcess process user) = rights_of accounts f q process
rights_of_holder accounts f q (AUser user) = user_rights_at accounts f q user

-- the breach by one who has these rights, where a claim has those letters: the letters that are in both, if there is one
abbrev pub breach_by : Rights → Holder → Rights → Option Breach
breach_by letters holder rights =
    if has_letter (common letters rights) then Some (record { holder = holder; rights = common letters rights }) else None

-- the breach of a claim by one of these in a flat state, if it has one of the letters
abbrev pub breach_of : Accounts → Flat → Never → Holder → Option Breach
breach_of accounts f never holder = breach_by never.letters holder (rights_of_holder accounts f never.path holder)

-- the first answer that there is
abbrev pub first_of : {A B : Type 0} → (A → Option B) → List A → Option B
first_of answer [] = None
first_of answer (x ∷ xs) = option_or (answer x) (first_of answer xs)

-- the breach of a claim in a flat state: by the first that is meant and has one of the letters
abbrev pub breach_in : Accounts → Flat → Never → Option Breach
breach_in accounts f never = first_of (breach_of accounts f never) (holders accounts f never.whom)

-- a breach after the call on this line
abbrev pub late : ℕ → Breach → LateBreach
late line breach = record { line = line; breach = breach }

-- the first breach of a claim by calls from this flat state on: after the first call after which there is one
abbrev pub first_breach : Accounts → Flat → List CallLine → Never → Option LateBreach
first_breach accounts f [] never = None
first_breach accounts f (c ∷ calls) never =
    option_or (option_map (late c.line) (breach_in accounts (flat_after accounts f c.process c.call) never))
    (first_breach accounts (flat_after accounts f c.process c.call) calls never)

-- the text of one who has rights: a process with its user, or a user
abbrev pub holder_text : Holder → List ℕ
holder_text (AProcess process user) = process_text process ++ codes " (" ++ user ++ codes ")"
holder_text (AUser user) = codes "user " ++ user

-- the text of a breach: the line of the call, who has rights then, and the letters
abbrev pub breach_text : LateBreach → List ℕ
breach_text late =
    codes "after line " ++ decimal late.line ++ codes ": " ++ holder_text late.breach.holder ++ codes " has "
    ++ letters_text late.breach.rights

-- ---- the parts

-- the breach of a claim by a process with this user, if it is meant
abbrev pub process_breach : Accounts → Flat → Never → ProcName → Name → Option Breach
process_breach accounts f never me user =
    if is_meant never.whom me user then breach_of accounts f never (AProcess me user) else None

-- the breach of a claim by a process with its user, if it is meant
abbrev pub runner_breach : Accounts → Flat → Never → Runner → Option Breach
runner_breach accounts f never r = process_breach accounts f never r.process r.user

-- the breach of a claim by whoever logs in as this user, if the user is meant
abbrev pub user_breach : Accounts → Flat → Never → Name → Option Breach
user_breach accounts f never user =
    if is_meant_user never.whom user then breach_of accounts f never (AUser user) else None
