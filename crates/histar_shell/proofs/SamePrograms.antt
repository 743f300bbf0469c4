-- The programs of calls read no password.
use Rattle.std.proofs.Common.{◌≡◌, ℕ, ◌+◌, List, [], ◌∷◌, not, Option, None, Some, refl, ap, ◌∙◌}
use Rattle.std.specs.FinMap as map
use Rattle.histar_flat.specs.declared.calls.Mode.{Mode}
use Rattle.histar_flat.specs.declared.calls.UnixCall.{UnixCall}
use Rattle.histar_flat.specs.declared.calls.UnixCall.TheVariants.{Create, Mkdir, Stat, Spawn, Whoami, Login, Wrap}
use Rattle.histar_flat.specs.declared.replies.Reply.TheVariants as replies
use Rattle.histar_flat.specs.Accounts.{Accounts}
use Rattle.histar_flat.specs.Words.{Name, Path, ProcName}
use Rattle.histar_level.specs.Levels.{Levels}
use Rattle.histar_layout.specs.declared.entry.Target.TheVariants.{File, Directory}
use Rattle.histar_rules.specs.declared.raw.RawCall.TheVariants.{LabelOf, MakeCategory, MakeContainer, MakeSegment, OwnLabel, SetClearance, SetLabel}
use Rattle.histar_layout.specs.declared.shown.ShownClass.{ShownClass}
use Rattle.histar_programs.specs.declared.roots.Home.{Home}
use Rattle.histar_programs.specs.declared.roots.Roots.{Roots}
use Rattle.histar_calls.specs.Create.{create_program}
use Rattle.histar_layout.specs.Jobs.{jobs_in, is_empty}
use Rattle.histar_calls.specs.Mkdir.{mkdir_program}
use Rattle.histar_programs.specs.Parts.{◌>>=◌, ◌>>◌, ask, find_room, write_entries}
use Rattle.histar_programs.specs.Programs.{Program}
use Rattle.histar_programs.specs.Programs.Program.{Answers}
use Rattle.histar_calls.specs.StatCall.{find_object, stat_program, class_reply}
use Rattle.histar_layout.specs.UserTable.{without_passwords}
use Rattle.histar_programs.specs.declared.caller.Caller.{Caller}
use Rattle.histar_process.specs.Birth.{birth}
use Rattle.histar_programs.specs.Kin.{Kin}
use Rattle.histar_process.specs.SpawnCall.{room_for_child, spawn_program}
use Rattle.histar_process.specs.Whoami.{whoami_program}
use Rattle.histar_login.specs.Login.{login_as_program, login_at, login_program}
use Rattle.histar_programs.specs.Users.{place_of}
use Rattle.histar_wrap.specs.Scratch.{hold_job, make_scratch}
use Rattle.histar_wrap.specs.WrapCall.{wrap_program}
use Rattle.histar_shell.specs.Machine.{program_of}
use Rattle.histar_shell.proofs.SameUsers.{same_class, same_directory_label, same_kin, same_kin_in, same_label, same_owners, same_place, same_user}

-- ---- the programs, by what they read of the users and groups

abbrev create_by : Roots → Path → (Levels → Levels) → Program
create_by roots path label_made = do
  room ← find_room roots path
  own ← ask OwnLabel
  file ← ask (MakeSegment room.place.container (label_made own.0) [])
  write_entries room.place (map.insert room.entries room.name (File file))
  Answers replies.Done

abbrev mkdir_by : Roots → Path → (Levels → Levels) → Program
mkdir_by roots path label_made = do
  room ← find_room roots path
  own ← ask OwnLabel
  container ← ask (MakeContainer room.place.container (label_made own.0))
  listing ← ask (MakeSegment container (label_made own.0) [])
  write_entries room.place (map.insert room.entries room.name (Directory container listing))
  Answers replies.Done

abbrev stat_by : Roots → Path → (Levels → Option ShownClass) → Program
stat_by roots path class_of = do
  object ← find_object roots path
  label ← ask (LabelOf object.container object.object)
  class_reply object.is_directory (class_of label)

abbrev spawn_by : ProcName → Home → (Levels → Kin) → Program
spawn_by name me kin_of = do
  status ← room_for_child name me
  own ← ask OwnLabel
  birth me status (kin_of own.0)
  ask (SetLabel own.0)
  ask (SetClearance own.1)
  Answers (replies.Child ((status.born + 1) ∷ name))

abbrev whoami_by : (Levels → Name) → Program
whoami_by user_name = do
  own ← ask OwnLabel
  Answers (replies.User (user_name own.0) (not (is_empty (jobs_in own.0))))

abbrev wrap_by : Roots → ProcName → Home → Path → (Levels → ℕ → Levels) → (Levels → ℕ → Kin) → Program
wrap_by roots name me path directory_label kin_in = do
  status ← room_for_child name me
  room ← find_room roots path
  own ← ask OwnLabel
  job ← ask MakeCategory
  make_scratch own (directory_label own.0 job) room
  birth me status (kin_in own.0 job)
  hold_job own job
  Answers (replies.Child ((status.born + 1) ∷ name))

-- ---- they read no password

module _ (accounts : Accounts) where
  same_create : (roots : Roots) (path : Path) (mode : Mode)
      → create_program (without_passwords accounts) roots path mode ≡ create_program accounts roots path mode
  unfolding create_program
  same_create roots path mode = λ i. create_by roots path (λ own. same_label accounts own mode i)

  same_mkdir : (roots : Roots) (path : Path) (mode : Mode)
      → mkdir_program (without_passwords accounts) roots path mode ≡ mkdir_program accounts roots path mode
  unfolding mkdir_program
  same_mkdir roots path mode = λ i. mkdir_by roots path (λ own. same_label accounts own mode i)

  same_stat : (roots : Roots) (path : Path) → stat_program (without_passwords accounts) roots path ≡ stat_program accounts roots path
  unfolding stat_program
  same_stat roots path = λ i. stat_by roots path (λ label. same_class accounts label i)

  same_spawn : (name : ProcName) (me : Home) → spawn_program (without_passwords accounts) name me ≡ spawn_program accounts name me
  unfolding spawn_program
  same_spawn name me = λ i. spawn_by name me (λ own. same_kin accounts own i)

  same_whoami : whoami_program (without_passwords accounts) ≡ whoami_program accounts
  unfolding whoami_program
  same_whoami = λ i. whoami_by (λ own. same_user accounts own i)

  same_login : (caller : Caller) (name : Name) (password : List ℕ)
      → login_program (without_passwords accounts) caller name password ≡ login_program accounts caller name password
  same_login caller name password =
      at_place (place_of (without_passwords accounts).users name)
      ∙ ap (login_at accounts caller name password) (same_place accounts.users name)
    where
      at_place : (place : Option ℕ) → login_at (without_passwords accounts) caller name password place ≡ login_at accounts caller name password place
      at_place None = refl
      at_place (Some place) = ap (λ (owners : List ℕ). login_as_program caller (place + 1) owners password) (same_owners accounts (place + 1) name)

  same_wrap : (roots : Roots) (name : ProcName) (me : Home) (path : Path)
      → wrap_program (without_passwords accounts) roots name me path ≡ wrap_program accounts roots name me path
  unfolding wrap_program
  same_wrap roots name me path =
      λ i. wrap_by roots name me path (λ own job. same_directory_label accounts own job i)
      (λ own job. same_kin_in accounts own job i)

  -- a call has the same program with the users without passwords
  pub same_program : (roots : Roots) (me : ProcName) (caller : Caller) (call : UnixCall)
      → program_of (without_passwords accounts) roots me caller call ≡ program_of accounts roots me caller call
  same_program roots me caller (Create path mode) = same_create roots path mode
  same_program roots me caller (Mkdir path mode) = same_mkdir roots path mode
  same_program roots me caller (Stat path) = same_stat roots path
  same_program roots me caller Spawn = same_spawn me caller.home
  same_program roots me caller Whoami = same_whoami
  same_program roots me caller (Login name password) = same_login caller name password
  same_program roots me caller (Wrap path) = same_wrap roots me caller.home path
  same_program roots me caller _ = refl
