-- What an object is: what boot left, the file or directory at a path, or a part of a process.
use Rattle.std.specs.Prelude.{ℕ, ◌+◌, ◌*◌, ◌-◌, ◌/◌, ◌%◌, ◌==◌, Bool, false, ◌&&◌, ◌||◌, not, nat_le, nat_lt, List, [], ◌∷◌, ◌++◌, length}
use Rattle.std.specs.Prelude.{Option, None, Some, is_some, codes, if◌then◌else◌}
use Rattle.histar_flat.specs.Words.{Path, ProcName}
use Rattle.histar_flat.specs.Texts.{path_text, process_text}
use Rattle.histar_flat.specs.Accounts.{Accounts}
use Rattle.histar_syscall.specs.KernelModel.{lent_bytes}
use Rattle.histar_object.specs.State.{State}
use Rattle.histar_layout.specs.Found.{found_in}
use Rattle.histar_layout.specs.Reading.{◌>>=◌}
use Rattle.histar_layout.specs.Status.{ProcessStatus}
use Rattle.histar_layout.specs.declared.entry.Target.{Target}
use Rattle.histar_layout.specs.declared.entry.Target.TheVariants.{File, Directory}
use Rattle.histar_programs.specs.Caller.{home_at, status_at}
use Rattle.histar_programs.specs.declared.roots.Home.{Home}
use Rattle.histar_programs.specs.declared.roots.Roots.{Roots}
use Rattle.histar_names.specs.Purposes.{or_else, owner_name}
use Rattle.histar_names.specs.declared.clues.Clue.{Clue}
use Rattle.histar_names.specs.declared.location.Location.{Location}
use Rattle.histar_names.specs.declared.location.Location.TheVariants.{Root, Password, Gate, Users, At, Part}

-- ---- what boot left in the root container: the password and the gate of each user, and the user table

-- the password or the gate of the user to whom the object belongs
abbrev pub users_own : ℕ → Location
users_own q = if (q % 2) == 1 then Password ((q - 1) / 2) else Gate ((q - 1) / 2)

-- what boot left under a number, with this many users
abbrev pub left_location : ℕ → ℕ → Option Location
left_location n q =
    if q == 1 then Some Root else (if nat_le 3 q && nat_lt q (3 + 2 * n) then Some (users_own q) else (if q == 3 + 2 * n then Some Users else None))

-- ---- the objects at a path

-- the directory segment of a directory
abbrev pub listing_in : Target → Option ℕ
listing_in (File file) = None
listing_in (Directory container listing) = Some listing

-- where a path leads, from `/` on
abbrev pub target_at : State → Roots → Path → Option Target
target_at s roots [] = Some (Directory roots.slash.container roots.slash.listing)
target_at s roots (name ∷ d) = do
  above ← target_at s roots d
  listing ← listing_in above
  found_in (lent_bytes s listing) name

-- a file's segment, or one of the two objects of a directory
abbrev pub is_of_target : ℕ → Target → Bool
is_of_target q (File file) = q == file
is_of_target q (Directory container listing) = q == container || q == listing

-- an object of a target that is there
abbrev pub is_target : ℕ → Option Target → Bool
is_target q None = false
is_target q (Some target) = is_of_target q target

-- the path of the object, if it is this one or one above it
abbrev pub path_up : State → Roots → ℕ → Path → Option Path
path_up s roots q [] = if is_target q (target_at s roots []) then Some [] else None
path_up s roots q (name ∷ d) = if is_target q (target_at s roots (name ∷ d)) then Some (name ∷ d) else path_up s roots q d

-- ---- the parts of a process

-- the internal container or the thread of a process that runs
abbrev pub is_inside : ℕ → Option ProcessStatus → Bool
is_inside q None = false
is_inside q (Some status) = not (is_some status.exited) && (q == status.internal || q == status.thread)

-- a part of the process that is found there
abbrev pub is_part : State → ℕ → Option Home → Bool
is_part s q None = false
is_part s q (Some home) = q == home.container || q == home.segment || is_inside q (status_at s home.segment)

-- the process that the object is a part of, if it is this one or one above it
abbrev pub process_up : State → Home → ℕ → ProcName → Option ProcName
process_up s first q [] = if is_part s q (home_at s first []) then Some [] else None
process_up s first q (n ∷ above) = if is_part s q (home_at s first (n ∷ above)) then Some (n ∷ above) else process_up s first q above

-- ---- what an object is

-- an object that has a path is at that path
abbrev pub at_path : Option Path → Option Location
at_path None = None
at_path (Some q) = Some (At q)

-- an object that has a process is a part of it
abbrev pub of_process : Option ProcName → Option Location
of_process None = None
of_process (Some me) = Some (Part me)

-- What an object is: what boot left is known by its number; others are looked for on the way to the path in a line, and at the
-- processes in the line and those above them.
abbrev pub location_of : Accounts → Roots → State → Clue → ℕ → Option Location
location_of accounts roots s clue q =
    or_else (left_location (length accounts.users) q)
    (or_else (at_path (path_up s roots q clue.path))
    (or_else (of_process (process_up s roots.home q clue.caller)) (of_process (process_up s roots.home q clue.named))))

-- the text of a location
abbrev pub location_text : Accounts → Location → List ℕ
location_text accounts Root = codes "the root container"
location_text accounts (Password i) = codes "the password of " ++ owner_name accounts i
location_text accounts (Gate i) = codes "the gate of " ++ owner_name accounts i
location_text accounts Users = codes "the user table"
location_text accounts (At q) = path_text q
location_text accounts (Part me) = codes "process " ++ process_text me
