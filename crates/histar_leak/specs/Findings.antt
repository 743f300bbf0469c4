-- What is computed from a machine and the users of its script: the same text, with jobs by the numbers of categories.
use Rattle.std.specs.Prelude.{◌≡◌, ℕ, Bool, true, false, not, nat_lt, nat_eq, ◌&&◌, ◌||◌, List, [], ◌∷◌, ◌++◌, length}
use Rattle.std.specs.Prelude.{Option, None, Some, is_some}
use Rattle.std.specs.Prelude.{codes, filter, map, if◌then◌else◌}
use Rattle.std.specs.List.{flat_map, list_all, list_any}
use Rattle.histar_base.specs.Paths.{same, same_path}
use Rattle.histar_flat.specs.declared.calls.Mode.TheVariants as modes
use Rattle.histar_flat.specs.declared.calls.UnixCall.{UnixCall}
use Rattle.histar_flat.specs.declared.calls.UnixCall.TheVariants.{Mkdir, Read, Rmtree, Write}
use Rattle.histar_flat.specs.declared.calls.User.{User}
use Rattle.histar_flat.specs.declared.replies.Reply.{Reply}
use Rattle.histar_flat.specs.declared.replies.Reply.TheVariants.{Data, Done, Exited, Running}
use Rattle.histar_flat.specs.Words.{Name, Path, ProcName, most_names}
use Rattle.histar_flat.specs.Accounts.{Accounts, Group}
use Rattle.histar_flat.specs.Classes.{Process, may_write}
use Rattle.histar_flat.specs.FlatState.{Flat}
use Rattle.histar_flat.specs.FlatCalls.{most_entries}
use Rattle.histar_object.specs.State.{State}
use Rattle.histar_layout.specs.Listing.{is_directory}
use Rattle.histar_readout.specs.declared.tree.TreeNode.{TreeNode}
use Rattle.histar_readout.specs.TreeEntries.{node_bytes}
use Rattle.histar_secrecy.specs.declared.file_class.FileClass.{FileClass}
use Rattle.histar_secrecy.specs.declared.role.Member.{Member}
use Rattle.histar_secrecy.specs.declared.role.Role.TheVariants.{Outside, Trusted}
use Rattle.histar_secrecy.specs.Leaks.{Line, asking}
use Rattle.histar_secrecy.specs.Ways.{reads_all}
use Rattle.histar_secrecy.specs.Logins.{logged_in}
use Rattle.histar_secrecy.specs.ShownRoles.{flat_class, has_shown_role, is_login_changer, is_login_reader}
use Rattle.histar_secrecy.specs.ShownRoles.{is_shown_changer, of_groups}
use Rattle.histar_secrecy.specs.ShownRoles.{with_rights, with_user}
use Rattle.histar_shell.specs.Machine.{MachineModel}
use Rattle.histar_trust.specs.Findings.{ShowsReached, head_text, node_at}
use Rattle.histar_trust.specs.TrustText.{is_open_way}
use Rattle.histar_leak.specs.declared.changes.Change.{Change}
use Rattle.histar_leak.specs.declared.changes.Change.TheVariants as changes
use Rattle.histar_leak.specs.LeakLines.{call_line, reply_line, some_text, titled, who_text}
use Rattle.histar_leak.specs.ChangeCalls.{made_name}
use Rattle.histar_leak.specs.LeakText.{leak_text, login_line}
use Rattle.histar_leak.specs.Titles.{file_titles, is_title, title_line, titles_text}

-- ---- calls that change something

-- the call
abbrev pub call_of : Change → UnixCall
call_of (changes.Rmtree q) = Rmtree q
call_of (changes.Mkdir q) = Mkdir q modes.Open
call_of (changes.WriteZero q) = Write q (codes "0")
call_of (changes.WriteOne q) = Write q (codes "1")

-- the node is an entry of the directory
abbrev pub is_entry_of : Path → TreeNode → Bool
is_entry_of d node = elim node.path [ [] ↦ false | n ∷ above ↦ same_path d above ]

-- the paths of the entries of a directory
abbrev pub entries_of : Path → List TreeNode → List Path
entries_of d tree = map (λ (node : TreeNode). node.path) (filter (is_entry_of d) tree)

-- the call that makes a directory of this name in a directory, if its path can be named
abbrev pub make_in : Path → Name → Option Change
make_in d name = if nat_lt (length d) most_names then Some (changes.Mkdir (name ∷ d)) else None

-- the call that removes the first of these entries of a directory, or makes one of this name
abbrev pub entry_change : List Path → Path → Name → Option Change
entry_change [] d name = make_in d name
entry_change (q ∷ entries) d name = Some (changes.Rmtree q)

-- the call that writes other bytes to the file
abbrev pub other_write : Path → List ℕ → Change
other_write q bytes = if same bytes (codes "0") then changes.WriteOne q else changes.WriteZero q

-- the call that changes whether the directory has the entry on the way, or another entry of these
abbrev pub way_change : Option TreeNode → List Path → Path → Name → Option Change
way_change (Some entry) entries d name = Some (changes.Rmtree entry.path)
way_change None entries d name =
    if nat_lt (length entries) most_entries then make_in d name else entry_change entries d name

-- the call by what is above a path, of which this is the entry on the way, if it is a directory
abbrev pub change_in : List TreeNode → TreeNode → Option TreeNode → Name → Option Change
change_in tree node entry name =
    if is_directory node.target then way_change entry (entries_of node.path tree) node.path name else None

-- the same, if something is there
abbrev pub changes_in : List TreeNode → Option TreeNode → Option TreeNode → Name → List (Option Change)
changes_in tree None entry name = []
changes_in tree (Some node) entry name = change_in tree node entry name ∷ []

-- the calls by the directories above a path, from the lowest on
abbrev pub changes_above : List TreeNode → Path → List (Option Change)
changes_above tree [] = []
changes_above tree (name ∷ d) = changes_in tree (node_at d tree) (node_at (name ∷ d) tree) name ++ changes_above tree d

-- the call that changes what is at a path, if something is
abbrev pub change_there : List TreeNode → Option TreeNode → List ℕ → List (Option Change)
change_there tree None bytes = []
change_there tree (Some node) bytes =
    (if is_directory node.target then entry_change (entries_of node.path tree) node.path made_name
    else Some (other_write node.path bytes)) ∷ []

-- the bytes of what is there
abbrev pub bytes_there : State → Option TreeNode → List ℕ
bytes_there s None = []
bytes_there s (Some node) = node_bytes s node

-- the calls by what is at a path and by each directory above it
abbrev pub changes_to : List TreeNode → Path → List ℕ → List (Option Change)
changes_to tree path bytes = change_there tree (node_at path tree) bytes ++ changes_above tree path

-- the process may write what is of the class, and read what is of each behind it
abbrev pub changes_here : List Group → Process → FileClass → List FileClass → Bool
changes_here groups p class above =
    may_write (of_groups groups) p (flat_class class) && reads_all (of_groups groups) (map flat_class above) p

-- the first of the calls, one by each class, by what the process may change
abbrev pub first_change : List Group → Process → List FileClass → List (Option Change) → Option Change
first_change groups p [] calls = None
first_change groups p (class ∷ above) [] = None
first_change groups p (class ∷ above) (c ∷ calls) =
    if is_some c && changes_here groups p class above then c else first_change groups p above calls

-- a call and the reply to it
abbrev pub replied : Line → Reply → List ℕ
replied c r = call_line c ++ reply_line r

-- the line of the call, which is done, if there is one
abbrev pub change_text : ProcName → Option Change → List ℕ
change_text me None = []
change_text me (Some c) = replied (me, call_of c) Done

-- ---- lines

-- calls, each with the reply to it
abbrev pub replied_text : List Line → List Reply → List ℕ
replied_text [] replies = []
replied_text (c ∷ calls) [] = []
replied_text (c ∷ calls) (r ∷ replies) = replied c r ++ replied_text calls replies

-- what is written of the first of these
abbrev pub of_first : List (ProcName × Name) → (ProcName → List ℕ) → List ℕ
of_first [] text = []
of_first (p ∷ others) text = text p.0

-- the lines of a trusted process and a listener
abbrev pub asking_text : ProcName → Path → List ℕ → ProcName → List ℕ
asking_text me path bytes other = replied_text (asking me other path 1) (Data bytes ∷ Running ∷ Done ∷ Exited 1 ∷ [])

-- the lines of a process that logs in as a reader
abbrev pub reading_text : User → Path → List ℕ → ProcName → List ℕ
reading_text user path bytes me = replied_text (login_line me user ∷ (me, Read path) ∷ []) (Done ∷ Data bytes ∷ [])

-- the lines of a process that logs in as a changer
abbrev pub changing_text : User → Option Change → ProcName → List ℕ
changing_text user change me = replied (login_line me user) Done ++ change_text me change

-- ---- processes

-- the process is in no job
abbrev pub is_jobless : Member → Bool
is_jobless m = elim m.jobs.items [ [] ↦ true | job ∷ jobs ↦ false ]

-- the first process knows each job of the second
abbrev pub knows_jobs_of : Member → Member → Bool
knows_jobs_of other m =
    list_all (λ job. list_any (nat_eq job) other.jobs.items || list_any (nat_eq job) other.held.items) m.jobs.items

-- a member's rights
abbrev pub rights_of : Member → Process
rights_of m = with_rights m.user m.jobs.items m.held.items

-- the paragraph of a trusted process and these listeners
abbrev pub trusted_paragraph : Path → List ℕ → Member → List (ProcName × Name) → List ℕ
trusted_paragraph path bytes m whom =
    titled (codes "trusted " ++ who_text (with_user m) ++ codes " tells " ++ some_text whom)
    (of_first whom (asking_text m.name path bytes))

-- a process that logs in as the user may read all of the way
unfoldable pub reads_way : List Group → List FileClass → Name → Bool
reads_way groups classes user = is_login_reader groups (map flat_class classes) user

-- there is such a process
abbrev pub has_some : List (ProcName × Name) → Bool
has_some [] = false
has_some (p ∷ more) = true

module _ (groups : List Group) (classes : List FileClass) where
  -- the process is an outsider
  abbrev pub is_shown_outsider : Member → Bool
  is_shown_outsider m = has_shown_role groups classes Outside m

  -- the outsiders
  abbrev pub shown_outsiders : List Member → List (ProcName × Name)
  shown_outsiders members = map with_user (filter is_shown_outsider members)

  -- the outsiders in no job
  abbrev pub shown_free_outsiders : List Member → List (ProcName × Name)
  shown_free_outsiders members = map with_user (filter (λ m. is_shown_outsider m && is_jobless m) members)

  -- the outsiders that know each job of the process
  abbrev pub shown_listeners : List Member → Member → List (ProcName × Name)
  shown_listeners members me = map with_user (filter (λ m. is_shown_outsider m && knows_jobs_of m me) members)

  -- the processes in no job that are no changers
  abbrev pub shown_others : List Member → List (ProcName × Name)
  shown_others members = map with_user (filter (λ m. not (is_shown_changer groups classes m) && is_jobless m) members)

  -- there are such processes, and one that logs in as the user is a changer
  abbrev pub is_changing_login : List (ProcName × Name) → Name → Bool
  is_changing_login whom user = has_some whom && is_login_changer groups classes user

  module _ (path : Path) (bytes : List ℕ) where
    -- the paragraph of a process, if it is trusted
    abbrev pub shown_trusted : List Member → Member → List ℕ
    shown_trusted members m =
        if has_shown_role groups classes Trusted m then trusted_paragraph path bytes m (shown_listeners members m)
        else []

    -- the paragraph of a user as whom these outsiders could log in
    abbrev pub shown_login : List (ProcName × Name) → User → List ℕ
    shown_login whom user =
        if reads_way groups classes user.name then
        titled (codes "login " ++ user.name ++ codes " by " ++ some_text whom)
        (of_first whom (reading_text user path bytes))
        else []

    -- `everyone`, or the paragraphs of the readers
    abbrev pub shown_readers : List User → List Member → List ℕ
    shown_readers users members =
        if is_open_way (map flat_class classes) then codes "\n# everyone\n" else
        flat_map (shown_trusted members) members ++ flat_map (shown_login (shown_free_outsiders members)) users

  module _ (calls : List (Option Change)) where
    -- the paragraph of a process, if it is a changer
    abbrev pub shown_changer : Member → List ℕ
    shown_changer m =
        if is_shown_changer groups classes m then
        titled (codes "changer " ++ who_text (with_user m))
        (change_text m.name (first_change groups (rights_of m) classes calls))
        else []

    -- the lines of the first of these processes, which logs in as a user and changes something
    unfoldable pub login_change_text : List (ProcName × Name) → User → List ℕ
    login_change_text whom user =
        of_first whom (changing_text user (first_change groups (logged_in user.name) classes calls))

    -- the paragraph of these processes
    abbrev pub changer_login_text : List (ProcName × Name) → User → List ℕ
    changer_login_text whom user =
        titled (codes "changer-login " ++ user.name ++ codes " by " ++ some_text whom) (login_change_text whom user)

    -- the same, if there are such processes, and the user is a changer
    abbrev pub shown_changer_login : List (ProcName × Name) → User → List ℕ
    shown_changer_login whom user = if is_changing_login whom user.name then changer_login_text whom user else []

    -- the paragraphs of the changers
    abbrev pub shown_changers : List User → List Member → List ℕ
    shown_changers users members =
        flat_map shown_changer members ++ flat_map (shown_changer_login (shown_others members)) users

-- ---- what is at a path

-- a file is there
abbrev pub is_file_there : Option TreeNode → Bool
is_file_there None = false
is_file_there (Some node) = not (is_directory node.target)

-- a file is above the path
abbrev pub is_below_shown_file : List TreeNode → Path → Bool
is_below_shown_file tree [] = false
is_below_shown_file tree (n ∷ d) = is_file_there (node_at d tree) || is_below_shown_file tree d

module _ (accounts : Accounts) (members : List Member) (classes : List FileClass) (path : Path) (bytes : List ℕ) where
  -- the readers of a file, and nothing for a directory
  abbrev pub shown_roles : TreeNode → List ℕ
  shown_roles node =
      if is_directory node.target then [] else shown_readers accounts.groups classes path bytes accounts.users members

  -- what is at the path, and its readers
  abbrev pub shown_found : Option TreeNode → List ℕ
  shown_found None = codes "no entry\n"
  shown_found (Some node) = head_text node ++ shown_roles node

  -- the changers, and nothing below a file
  abbrev pub shown_changes : List TreeNode → List ℕ
  shown_changes tree =
      if is_below_shown_file tree path then [] else
      shown_changers accounts.groups classes (changes_to tree path bytes) accounts.users members

  -- the whole text
  abbrev pub shown_leak : List TreeNode → List ℕ
  shown_leak tree = codes "# " ++ shown_found (node_at path tree) ++ shown_changes tree

-- a machine represents a flat state that calls of these users lead to
abbrev pub HasStateOf : Accounts → MachineModel → Type 0
HasStateOf accounts m = (f : Flat) × ShowsReached accounts m f

-- for every such state, this is its text for the path
abbrev pub ShowsLeak : Accounts → MachineModel → Path → List ℕ → Type 0
ShowsLeak accounts m path text = (f : Flat) → ShowsReached accounts m f → text ≡ leak_text accounts f path

-- ---- titles

-- the line of a title, and nothing for another line
abbrev pub shown_title : List ℕ → List ℕ
shown_title line = if is_title line then title_line line else []

module _ (accounts : Accounts) (m : MachineModel) where
  -- for every such state, this is its text on the secret files
  abbrev pub ShowsTitles : List ℕ → Type 0
  ShowsTitles text = (f : Flat) → ShowsReached accounts m f → text ≡ titles_text accounts f

  -- for every such state, the titles of this file are added
  abbrev pub AddsFile : Path → List ℕ → List ℕ → Type 0
  AddsFile path old new = (f : Flat) → ShowsReached accounts m f → new ≡ old ++ file_titles accounts f path

  -- for every such state, the titles of these files are added
  abbrev pub AddsFiles : List Path → List ℕ → List ℕ → Type 0
  AddsFiles paths old new = (f : Flat) → ShowsReached accounts m f → new ≡ old ++ flat_map (file_titles accounts f) paths
