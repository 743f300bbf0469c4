-- The result of `diff` and what it writes, by the inputs from which the two scripts are read.
use Rattle.std.specs.Prelude.{◌≡◌, ◌↔◌, ℕ, ◌⊎◌, Bool, true, not, ◌&&◌, List, [], Option, Result, Ok, Err, IsOk}
use Rattle.std.specs.Prelude.{MatchBool, MatchResult, if◌then◌else◌}
use Rattle.std.specs.Global.{Vec}
use Rattle.std.specs.Io.KnownBytes.{Appends, Keeps}
use Rattle.histar_io.specs.Device.{CountsFailure}
use Rattle.histar_io.specs.Input.{TakesAll, TakesSome}
use Rattle.histar_io.specs.Writing.{AppendsFront}
use Rattle.histar_script.specs.Script.{ScriptModel}
use Rattle.histar_script.specs.Outcome.{Gives}
use Rattle.histar_script.specs.Reading.{script_of}
use Rattle.histar_script.specs.declared.fault.Fault.{Fault}
use Rattle.histar_script.specs.declared.fault.Fault.TheVariants.{OutOfMemory, ReadFailed, WriteFailed}
use Rattle.histar_diff.specs.declared.lone.Lone.{Lone}
use Rattle.histar_diff.specs.declared.differences.Difference.{Difference}
use Rattle.histar_diff.specs.declared.table.Table.{Table}
use Rattle.histar_diff.specs.Changes.{AreChanges}
use Rattle.histar_diff.specs.declared.user_differences.UserDifference.{UserDifference}
use Rattle.histar_diff.specs.declared.users.LoneUser.{LoneUser}
use Rattle.histar_diff.specs.declared.users.UsersTable.{UsersTable}
use Rattle.histar_diff.specs.Gains.{gains, new_ones, new_users, user_gains}
use Rattle.histar_diff.specs.Shown.{ShowsRights}
use Rattle.histar_diff.specs.Texts.{differences_text}
use Rattle.histar_diff.specs.UserChanges.{ShowsUsers, lone_users, user_changes}
use Rattle.histar_diff.specs.UserTexts.{user_differences_text}
use Rattle.histar_prefix.specs.Prefix.{state_before}
use Rattle.histar_access.specs.declared.changes.DiffOptions.{DiffOptions}

-- ---- two scripts

-- the old script and the new one
abbrev pub Scripts : Type 0
Scripts = ScriptModel × ScriptModel

-- both scripts, or the fault of the old one, or else that of the new one
abbrev pub both_read : Result ScriptModel Fault → Result ScriptModel Fault → Result Scripts Fault
both_read (Ok old) (Ok new) = Ok (old, new)
both_read (Ok old) (Err fault) = Err fault
both_read (Err fault) new = Err fault

-- the scripts in two texts
abbrev pub scripts_of : List ℕ → List ℕ → Result Scripts Fault
scripts_of old new = both_read (script_of old) (script_of new)

-- these are exactly the processes that run in one only of the flat states of two scripts, each after its calls before the line that is
-- given for it, and exactly the changes of those that run in both
abbrev pub AreChangesOf : DiffOptions → Scripts → List Lone → List Difference → Type 0
AreChangesOf options scripts lone cs =
    AreChanges scripts.0.accounts (state_before options.old_at scripts.0)
    scripts.1.accounts (state_before options.new_at scripts.1) lone cs

-- the lone processes that are written: all, or only the new ones
abbrev pub lone_shown : Bool → List Lone → List Lone
lone_shown more lone = if more then new_ones lone else lone

-- the changes that are written: all, or only those that give a letter that wasn't there
abbrev pub shown : Bool → List Difference → List Difference
shown more cs = if more then gains cs else cs

-- the text has the lines of exactly the lone processes and the changes to be shown, and it is empty exactly if there is none
pub record IsTextOfProcesses (options : DiffOptions) (scripts : Scripts) (text : List ℕ) : Type 0 where
  pub lone : List Lone
  pub changes : List Difference
  pub are_changes : AreChangesOf options scripts lone changes
  pub is : text ≡ differences_text (lone_shown options.more lone) (shown options.more changes)
  pub none : (text ≡ []) ↔ ((lone_shown options.more lone ≡ []) × (shown options.more changes ≡ []))

-- the users that one of two scripts alone declares
abbrev pub lone_users_of : Scripts → List LoneUser
lone_users_of scripts = lone_users scripts.0.accounts scripts.1.accounts

-- the changes for the users of both, between the flat states of the scripts, each after its calls before the line that is given for it
abbrev pub user_changes_of : DiffOptions → Scripts → List UserDifference
user_changes_of options scripts =
    user_changes scripts.0.accounts (state_before options.old_at scripts.0) scripts.1.accounts (state_before options.new_at scripts.1)

-- the lone users that are written: all, or only the new ones
abbrev pub lone_users_shown : Bool → List LoneUser → List LoneUser
lone_users_shown more lone = if more then new_users lone else lone

-- the changes for users that are written: all, or only those that give a letter that wasn't there
abbrev pub user_changes_shown : Bool → List UserDifference → List UserDifference
user_changes_shown more cs = if more then user_gains cs else cs

-- the text has the lines of exactly the lone users and the changes for users to be shown, and it is empty exactly if there is none
pub record IsTextOfUsers (options : DiffOptions) (scripts : Scripts) (text : List ℕ) : Type 0 where
  pub is : text ≡ user_differences_text (lone_users_shown options.more (lone_users_of scripts))
      (user_changes_shown options.more (user_changes_of options scripts))
  pub none : (text ≡ []) ↔ ((lone_users_shown options.more (lone_users_of scripts) ≡ [])
      × (user_changes_shown options.more (user_changes_of options scripts) ≡ []))

-- the text is that of what changed for users, or else for processes
abbrev pub IsTextOfChanges : DiffOptions → Scripts → List ℕ → Type 0
IsTextOfChanges options scripts text = MatchBool options.users (IsTextOfUsers options scripts text) (IsTextOfProcesses options scripts text)

-- ---- what is written

-- both are scripts, the text of exactly the changes to be shown was written, and the result is true exactly if there is none
pub record WritesChanges (options : DiffOptions) (old new : Option (List ℕ)) (read : Result Scripts Fault) (none : Bool) : Type 0 where
  pub scripts : Scripts
  pub are_read : read ≡ Ok scripts
  pub text : List ℕ
  pub is_text : IsTextOfChanges options scripts text
  pub written : Appends old new text
  pub answered : (none ≡ true) ↔ (text ≡ [])

-- both are scripts, and a beginning of that text was written
pub record BeginsChanges (options : DiffOptions) (old new : Option (List ℕ)) (read : Result Scripts Fault) : Type 0 where
  pub scripts : Scripts
  pub are_read : read ≡ Ok scripts
  pub text : List ℕ
  pub is_text : IsTextOfChanges options scripts text
  pub written : AppendsFront old new text

-- At a failed write a beginning of the text was written, if memory runs out that or nothing, at other faults nothing.
abbrev pub ChangesAtFault : DiffOptions → Option (List ℕ) → Option (List ℕ) → Result Scripts Fault → Fault → Type 0
ChangesAtFault options old new read OutOfMemory = Keeps old new ⊎ BeginsChanges options old new read
ChangesAtFault options old new read WriteFailed = BeginsChanges options old new read
ChangesAtFault options old new read fault = Keeps old new

-- The fault of a script is returned as it is. The others are no faults of a script, and a write fails only after two right ones.
abbrev pub IsFaultOf : Result Scripts Fault → Fault → Type 0
IsFaultOf read OutOfMemory = Unit {0}
IsFaultOf read ReadFailed = Unit {0}
IsFaultOf read WriteFailed = IsOk read
IsFaultOf read fault = read ≡ Err fault

-- The texts were read as scripts: the first fault of the two is returned, or exactly the lines of what changed between them were written.
pub record ComparesTexts (options : DiffOptions) (a b : List ℕ) (old new : Option (List ℕ)) (result : Result Bool Fault) : Type 0 where
  pub faults : MatchResult result (λ _. IsOk (scripts_of a b)) (IsFaultOf (scripts_of a b))
  pub writes : MatchResult result (WritesChanges options old new (scripts_of a b)) (ChangesAtFault options old new (scripts_of a b))

-- ---- what is taken

-- what is left of the old input and of the new one
abbrev pub Inputs : Type 0
Inputs = Option (List ℕ) × Option (List ℕ)

-- Both inputs were taken, the old one and then the new one, and their texts were compared.
pub record ComparesTaken (options : DiffOptions) (left rest : Inputs) (old new : Option (List ℕ)) (result : Result Bool Fault) : Type 0 where
  pub old_taken : List ℕ
  pub takes_old : TakesAll left.0 rest.0 old_taken
  pub new_taken : List ℕ
  pub takes_new : TakesAll left.1 rest.1 new_taken
  pub compares : ComparesTexts options old_taken new_taken old new result

-- some bytes of the old input were taken and none of the new one
pub record StopsAtOld (left rest : Inputs) : Type 0 where
  pub takes_old : TakesSome left.0 rest.0
  pub keeps_new : rest.1 ≡ left.1

-- the old input was taken, and some bytes of the new one
pub record StopsAtNew (left rest : Inputs) : Type 0 where
  pub old_taken : List ℕ
  pub takes_old : TakesAll left.0 rest.0 old_taken
  pub takes_new : TakesSome left.1 rest.1

-- Reading stopped at one of the inputs, and nothing was written.
abbrev pub StopsAtInput : Inputs → Inputs → Option (List ℕ) → Option (List ℕ) → Type 0
StopsAtInput left rest old new = (StopsAtOld left rest ⊎ StopsAtNew left rest) × Keeps old new

-- Both inputs are taken and compared, but reading stops at a failed read, and may have stopped if memory runs out.
abbrev pub ComparesInputs : DiffOptions → Inputs → Inputs → Option (List ℕ) → Option (List ℕ) → Result Bool Fault → Type 0
ComparesInputs options left rest old new (Err OutOfMemory) =
    StopsAtInput left rest old new ⊎ ComparesTaken options left rest old new (Err OutOfMemory)
ComparesInputs options left rest old new (Err ReadFailed) = StopsAtInput left rest old new
ComparesInputs options left rest old new result = ComparesTaken options left rest old new result

-- If a read failed, the old source counted one more failed call, or else the new one did; if none failed, neither did.
abbrev pub CountsOneFailure : ℕ → ℕ → ℕ → ℕ → Bool → Type 0
CountsOneFailure old old_after new new_after has_failed =
    (is_old : Bool) × CountsFailure old old_after (has_failed && is_old) × CountsFailure new new_after (has_failed && not is_old)

-- ---- the parts

-- the text is a script, and the table shows the rights of its flat state before this line
pub record IsTableOf (at : Option ℕ) (text : List ℕ) (t : Table) : Type 0 where
  pub script : ScriptModel
  pub is_read : script_of text ≡ Ok script
  pub shows : ShowsRights script.accounts (state_before at script) t

-- the text was read as a script, and this is its table, or its fault is the result
abbrev pub ReadsTable : Option ℕ → List ℕ → Result Table Fault → Type 0
ReadsTable at text (Ok t) = IsTableOf at text t
ReadsTable at text (Err fault) = Gives {A = ScriptModel} (Err fault) (script_of text)

-- the text is a script, and the table shows the rights of users in its flat state before this line
pub record IsUsersTableOf (at : Option ℕ) (text : List ℕ) (t : UsersTable) : Type 0 where
  pub script : ScriptModel
  pub is_read : script_of text ≡ Ok script
  pub shows : ShowsUsers script.accounts (state_before at script) t

-- the text was read as a script, and this is its table by users, or its fault is the result
abbrev pub ReadsUsersTable : Option ℕ → List ℕ → Result UsersTable Fault → Type 0
ReadsUsersTable at text (Ok t) = IsUsersTableOf at text t
ReadsUsersTable at text (Err fault) = Gives {A = ScriptModel} (Err fault) (script_of text)

-- both texts are scripts, and the bytes are in this relation to them
pub record IsTextBetween (says : Scripts → List ℕ → Type 0) (a b bytes : List ℕ) : Type 0 where
  pub scripts : Scripts
  pub are_read : scripts_of a b ≡ Ok scripts
  pub is_text : says scripts bytes

-- the texts were read as scripts, and the bytes are in this relation to them, or the first fault of the two is the result
abbrev pub ReadsScripts : (Scripts → List ℕ → Type 0) → List ℕ → List ℕ → Result (Vec ℕ) Fault → Type 0
ReadsScripts says a b (Ok text) = IsTextBetween says a b text.items
ReadsScripts says a b (Err fault) = Gives {A = Scripts} (Err fault) (scripts_of a b)

-- the texts were read as scripts, and this is the text of what changed between them, or the first fault of the two is the result
abbrev pub ReadsChanges : DiffOptions → List ℕ → List ℕ → Result (Vec ℕ) Fault → Type 0
ReadsChanges options = ReadsScripts (IsTextOfChanges options)

-- the same, for the text of what changed for processes
abbrev pub ReadsProcessChanges : DiffOptions → List ℕ → List ℕ → Result (Vec ℕ) Fault → Type 0
ReadsProcessChanges options = ReadsScripts (IsTextOfProcesses options)

-- the same, for the text of what changed for users
abbrev pub ReadsUserChanges : DiffOptions → List ℕ → List ℕ → Result (Vec ℕ) Fault → Type 0
ReadsUserChanges options = ReadsScripts (IsTextOfUsers options)
