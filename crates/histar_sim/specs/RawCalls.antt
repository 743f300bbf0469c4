-- The raw calls of a Unix call, one after another, by the flat state and the numbers of its objects and categories.
use Rattle.std.specs.Prelude.{◌≡◌, ℕ, ◌+◌, Bool, true, false, nat_lt, List, [], ◌∷◌, ◌++◌}
use Rattle.std.specs.Prelude.{length, map, Option, None, Some, if◌then◌else◌}
use Rattle.std.specs.FinMap as finite
use Rattle.histar_base.specs.Paths.{same}
use Rattle.histar_container.specs.Tree.{Address}
use Rattle.histar_flat.specs.declared.calls.Mode.{Mode}
use Rattle.histar_flat.specs.declared.calls.UnixCall.{UnixCall}
use Rattle.histar_flat.specs.declared.calls.UnixCall.TheVariants.{Create, Mkdir, Write, Append, Read, List as ListCall, Stat, Login, Unlink}
use Rattle.histar_flat.specs.declared.calls.UnixCall.TheVariants.{Rmdir, Rmtree, Rename, Spawn, Exit, Status, Kill, Whoami, Wrap}
use Rattle.histar_flat.specs.declared.replies.Errno.{Errno}
use Rattle.histar_flat.specs.declared.replies.Errno.TheVariants.{EACCES, EPERM, EFBIG}
use Rattle.histar_flat.specs.Words.{Name, Password, Path, ProcName, most_children, most_numbers}
use Rattle.histar_flat.specs.Accounts.{Accounts, user_named}
use Rattle.histar_flat.specs.Classes.{Process}
use Rattle.histar_flat.specs.FlatState.{Flat, is_some_and}
use Rattle.histar_flat.specs.FlatCalls.{most_bytes, refused}
use Rattle.histar_level.specs.Levels.{Levels}
use Rattle.histar_level.specs.declared.level.Level.TheVariants.{Star, L3}
use Rattle.histar_label.specs.Levels.{with_level}
use Rattle.histar_object.specs.State.{State}
use Rattle.histar_rules.specs.declared.raw.RawCall.{RawCall}
use Rattle.histar_rules.specs.declared.raw.RawCall.TheVariants as raw
use Rattle.histar_rules.specs.Sound.{root_number}
use Rattle.histar_trace.specs.declared.entries.TraceEntry.{TraceEntry}
use Rattle.histar_layout.specs.declared.entry.Target.{Target}
use Rattle.histar_layout.specs.declared.entry.Target.TheVariants as targets
use Rattle.histar_layout.specs.Categories.{label_made, owners_of}
use Rattle.histar_layout.specs.Directory.{Entries, spelling}
use Rattle.histar_layout.specs.Status.{ProcessStatus, once_exited, started, status_bytes, with_child_listed, without_child}
use Rattle.histar_programs.specs.declared.roots.Home.{Home}
use Rattle.histar_programs.specs.Kin.{Kin, kin_of}
use Rattle.histar_programs.specs.Users.{place_of, password_of}
use Rattle.histar_process.specs.Birth.{outer_label, inner_label, thread_label, thread_clearance}
use Rattle.histar_login.specs.Login.{entering}
use Rattle.histar_wrap.specs.Scratch.{directory_label, kin_in}
use Rattle.histar_refinement.specs.Addresses.{Step, address_of, home_address}
use Rattle.histar_refinement.specs.Addresses.Step.{Inside, Listing, Status as StatusOf}
use Rattle.histar_refinement.specs.Directories.{directory_of}
use Rattle.histar_refinement.specs.Guards.{rights_label, rights_clearance}
use Rattle.histar_refinement.specs.Labels.{thread_rights}
use Rattle.histar_refinement.specs.Processes.{or_zero, status_by}
use Rattle.histar_refinement.specs.Represents.{ObjectsMatch}
use Rattle.histar_sim.specs.Reads.{tested, looked_at}

-- ---- a list of requests

-- a raw call that the Unix library asks for, and those that it makes instead of the next ones where this is denied
pub record Request : Type 0 where
  pub call : RawCall
  pub if_denied : List RawCall

-- raw calls after whose denial none is made
abbrev pub plain : List RawCall → List Request
plain calls = map (λ call. record { call = call; if_denied = [] }) calls

-- an errno that only a denial of the kernel leads to
abbrev pub is_of_denial : Errno → Bool
is_of_denial EACCES = true
is_of_denial EPERM = true
is_of_denial EFBIG = true
is_of_denial errno = false

-- these requests, unless the call is refused before them, by what was read
abbrev pub unless_refused : Option Errno → List Request → List Request
unless_refused None requests = requests
unless_refused (Some errno) requests = if is_of_denial errno then requests else []

-- one statement where a raw call was granted, another where it was denied
abbrev pub ByOutcome : {A : Type 0} → Option A → Type 0 → Type 0 → Type 0
ByOutcome None Granted Denied = Granted
ByOutcome (Some denied) Granted Denied = Denied

-- The entries are of these requests, one after another, up to the first that is denied, and then of those that are made where it is denied.
abbrev pub AreMade : List Request → List TraceEntry → Type 0
AreMade [] entries = entries ≡ []
AreMade (request ∷ requests) [] = ⊥
AreMade (request ∷ requests) (e ∷ entries) =
    (e.call ≡ request.call) × ByOutcome e.denied (AreMade requests entries) (map (λ x. x.call) entries ≡ request.if_denied)

-- The birth of a child to the process at this home, whose segment holds this status, and which gives it this: its two categories, the first of
-- which has this number; its container, which has this number, its internal container, its thread and its process segment; and the parent's
-- segment is written.
abbrev pub births_at : Home → ProcessStatus → Kin → ℕ → ℕ → List RawCall
births_at home status kin category container =
    raw.MakeCategory ∷ raw.MakeCategory
    ∷ raw.MakeContainer home.container (outer_label kin (category + 1))
    ∷ raw.MakeContainer container (inner_label kin category (category + 1))
    ∷ raw.MakeThread (container + 1) (thread_label kin category (category + 1)) (thread_clearance kin category (category + 1))
    ∷ raw.MakeSegment container (outer_label kin (category + 1)) (status_bytes (started (container + 1) (container + 1 + 1)))
    ∷ raw.Write home.container home.segment 0 (status_bytes (with_child_listed container (container + 1 + 1 + 1) status)) ∷ []

-- ---- where things are

module _ (accounts : Accounts) {s : State} {f : Flat} (l : ObjectsMatch accounts s f) where
  -- the number of the object at an address
  abbrev pub number_at : Address Step → ℕ
  number_at a = or_zero (l.naming.number a)

  -- the entries of a directory
  abbrev pub entries_at : Path → Entries
  entries_at d = directory_of f.files l.naming.number d

  -- reads the directory segment of a directory
  abbrev pub reads_entries : Path → RawCall
  reads_entries d = raw.Read (number_at (address_of d)) (number_at (Listing ∷ address_of d))

  -- writes it with these entries
  abbrev pub writes_entries : Path → Entries → RawCall
  writes_entries d entries = raw.Write (number_at (address_of d)) (number_at (Listing ∷ address_of d)) 0 (spelling entries)

  -- the container and the process segment of a process
  abbrev pub home_of : ProcName → Home
  home_of name = record { container = number_at (home_address name); segment = number_at (StatusOf ∷ home_address name) }

  -- reads the process segment of a process
  abbrev pub reads_status : ProcName → RawCall
  reads_status name = raw.Read (home_of name).container (home_of name).segment

  -- writes it with this status
  abbrev pub writes_status : ProcName → ProcessStatus → RawCall
  writes_status name status = raw.Write (home_of name).container (home_of name).segment 0 (status_bytes status)

  -- the entry of a name under a new one
  abbrev pub with_name : Entries → Name → Name → Option Target → Entries
  with_name entries old new None = entries
  with_name entries old new (Some target) = finite.insert (finite.remove entries old) new target

  -- unlinks the object of a name in a directory, and writes the directory without the entry
  abbrev pub removes : Path → Name → List RawCall
  removes d name =
      raw.Unlink (number_at (address_of d)) (number_at (address_of (name ∷ d)))
      ∷ writes_entries d (finite.remove (entries_at d) name) ∷ []

  -- ---- the process that calls

  module _ (me : ProcName) (p : Process) where
    -- the label and the clearance of its thread, and the status in its process segment
    abbrev pub own_label : Levels
    own_label = rights_label l.category (thread_rights accounts me p)

    abbrev pub own_clearance : Levels
    own_clearance = rights_clearance l.category (thread_rights accounts me p)

    abbrev pub own_status : ProcessStatus
    own_status = status_by f.processes l.naming.number me p

    -- the label that it gives to what it makes in a mode
    abbrev pub label_of_made : Mode → Levels
    label_of_made mode = label_made accounts own_label mode

    -- its thread takes its own label and clearance again
    abbrev pub takes_own : List RawCall
    takes_own = raw.SetLabel own_label ∷ raw.SetClearance own_clearance ∷ []

    -- its thread takes the label and the clearance of the process that it is to be
    abbrev pub takes_labels_of : Process → List RawCall
    takes_labels_of q =
        raw.SetLabel (rights_label l.category (thread_rights accounts me q))
        ∷ raw.SetClearance (rights_clearance l.category (thread_rights accounts me q)) ∷ []

    -- the birth of a child to the process
    abbrev pub births : Kin → ℕ → ℕ → List RawCall
    births kin category container = births_at (home_of me) own_status kin category container

    -- the process once it has logged in as this user
    abbrev pub as_user : Name → Process
    as_user name = record p { user = name; held = [] }

    -- the password is that of the user
    abbrev pub is_password_of : Name → Password → Bool
    is_password_of name password = is_some_and (user_named accounts.users name) (λ u. same u.password password)

    -- A login as the user at this place of the list: its own label; the user's gate; the password; and the labels of the user's process, or
    -- its own again.
    abbrev pub logs_in : Name → Password → Option ℕ → List RawCall
    logs_in name password None = []
    logs_in name password (Some place) =
        raw.OwnLabel ∷ entering (owners_of accounts (place + 1) name) (place + 1) own_label own_clearance
        ∷ raw.Read root_number (password_of (place + 1))
        ∷ takes_labels_of (if is_password_of name password then as_user name else p)

    -- A job in a scratch directory of this name: its category; the directory's container, or the thread takes its own labels again; the
    -- directory's segment and the entry; the birth of its first process; and the thread's labels with the job.
    abbrev pub starts_job : Path → Name → List Request
    starts_job d name =
        let job = s.next_category in
        let label = directory_label accounts own_label job in
        plain (raw.OwnLabel ∷ raw.MakeCategory ∷ [])
        ++ record { call = raw.MakeContainer (number_at (address_of d)) label; if_denied = takes_own }
        ∷ plain (
        raw.MakeSegment s.next_object label []
        ∷ writes_entries d (finite.insert (entries_at d) name (targets.Directory s.next_object (s.next_object + 1)))
        ∷ births (kin_in accounts own_label job) (job + 1) (s.next_object + 1 + 1)
        ++ raw.SetLabel (with_level own_label job Star) ∷ raw.SetClearance (with_level own_clearance job L3) ∷ [])

    -- the walk to a path, which reads each directory from `/` on, and then these requests in its directory; nothing is asked for `/`
    abbrev pub in_directory : Option Errno → Path → (Path → Name → List Request) → List Request
    in_directory refusal [] after = []
    in_directory refusal (name ∷ d) after = plain (map reads_entries (tested accounts f p d)) ++ unless_refused refusal (after d name)

    -- where the process's name has room for a number more: its own segment is read, and then these requests, if it has room for a child
    abbrev pub with_room : List Request → List Request
    with_room requests =
        if nat_lt (length me) most_numbers then plain (reads_status me ∷ []) ++ (if nat_lt p.born most_children then requests else [])
        else []

    -- ---- the calls

    -- the requests of a Unix call that the rules refuse with this errno, or allow
    abbrev pub requests_by : Option Errno → UnixCall → List Request
    requests_by refusal (Create q mode) = in_directory refusal q (λ d name. plain (
        raw.OwnLabel ∷ raw.MakeSegment (number_at (address_of d)) (label_of_made mode) []
        ∷ writes_entries d (finite.insert (entries_at d) name (targets.File s.next_object)) ∷ []))
    requests_by refusal (Mkdir q mode) = in_directory refusal q (λ d name. plain (
        raw.OwnLabel ∷ raw.MakeContainer (number_at (address_of d)) (label_of_made mode)
        ∷ raw.MakeSegment s.next_object (label_of_made mode) []
        ∷ writes_entries d (finite.insert (entries_at d) name (targets.Directory s.next_object (s.next_object + 1))) ∷ []))
    requests_by refusal (Read q) = in_directory refusal q (λ d name. plain (
        raw.Read (number_at (address_of d)) (number_at (address_of (name ∷ d))) ∷ []))
    requests_by refusal (Write q bytes) = in_directory refusal q (λ d name. plain (
        raw.Write (number_at (address_of d)) (number_at (address_of (name ∷ d))) 0 bytes ∷ []))
    requests_by refusal (Append q bytes) = in_directory refusal q (λ d name. plain (
        raw.Write (number_at (address_of d)) (number_at (address_of (name ∷ d))) most_bytes bytes ∷ []))
    requests_by refusal (ListCall q) = plain (map reads_entries (tested accounts f p q))
    requests_by refusal (Stat []) = plain (raw.LabelOf root_number (number_at (address_of [])) ∷ [])
    requests_by refusal (Stat (n ∷ q)) = in_directory refusal (n ∷ q) (λ d name. plain (
        raw.LabelOf (number_at (address_of d)) (number_at (address_of (name ∷ d))) ∷ []))
    requests_by refusal (Unlink q) = in_directory refusal q (λ d name. plain (removes d name))
    requests_by refusal (Rmtree q) = in_directory refusal q (λ d name. plain (removes d name))
    requests_by refusal (Rmdir []) = []
    requests_by refusal (Rmdir (name ∷ d)) =
        plain (map reads_entries (tested accounts f p (name ∷ d))) ++ unless_refused refusal (plain (removes d name))
    requests_by refusal (Rename q new) = in_directory refusal q (λ d name. plain (
        writes_entries d (with_name (entries_at d) name new (finite.get (entries_at d) name)) ∷ []))
    requests_by refusal Whoami = plain (raw.OwnLabel ∷ [])
    requests_by refusal (Status name) = plain (map reads_status (looked_at accounts f p name))
    requests_by refusal (Kill []) =
        plain (reads_status [] ∷ raw.Unlink root_number (number_at (home_address [])) ∷ [])
    requests_by refusal (Kill (n ∷ above)) =
        plain (map reads_status (looked_at accounts f p (n ∷ above))) ++ unless_refused refusal (plain (
        raw.Unlink (number_at (home_address above)) (number_at (home_address (n ∷ above)))
        ∷ writes_status above (without_child n own_status) ∷ []))
    requests_by refusal (Exit number) = plain (
        reads_status me ∷ writes_status me (once_exited number own_status)
        ∷ raw.Unlink (number_at (home_address me)) (number_at (Inside ∷ home_address me)) ∷ [])
    requests_by refusal Spawn =
        with_room (plain (raw.OwnLabel ∷ births (kin_of accounts own_label) s.next_category s.next_object ++ takes_own))
    requests_by refusal (Login name password) = plain (logs_in name password (place_of accounts.users name))
    requests_by refusal (Wrap q) = with_room (in_directory refusal q starts_job)

    -- the requests of a Unix call of the process
    abbrev pub requests_of : UnixCall → List Request
    requests_of call = requests_by (refused accounts f me p call) call

  -- the entries are of the requests of a call; a process that doesn't run asks for nothing
  abbrev pub AreItsRequests : ProcName → Option Process → UnixCall → List TraceEntry → Type 0
  AreItsRequests me None call entries = entries ≡ []
  AreItsRequests me (Some p) call entries = AreMade (requests_of me p call) entries
