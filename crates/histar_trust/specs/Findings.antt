-- What is computed from a machine: its running processes, and their roles towards what is at a path.
use Rattle.std.specs.Prelude.{◌≡◌, ℕ, Bool, ◌&&◌, ◌++◌, List, [], ◌∷◌}
use Rattle.std.specs.Prelude.{Option, None, Some, codes, filter, length, map, take, if◌then◌else◌}
use Rattle.histar_flat.specs.declared.calls.User.{User}
use Rattle.histar_flat.specs.Words.{Name, Path, ProcName}
use Rattle.histar_base.specs.Paths.{same_path}
use Rattle.histar_flat.specs.Accounts.{Accounts, Group as FlatGroup}
use Rattle.histar_flat.specs.Classes.{Class as FlatClass, Process, may_write}
use Rattle.histar_flat.specs.Classes.Class.{Private as FlatPrivate, Readable as FlatReadable, Open as FlatOpen, Scratch as FlatScratch}
use Rattle.histar_flat.specs.Classes.Class.{Grouped as FlatGrouped}
use Rattle.histar_flat.specs.FlatState.{Flat}
use Rattle.histar_flat.specs.Texts.{path_text}
use Rattle.std.specs.List.{filter_map, flat_map, list_all}
use Rattle.std.specs.Option.{option_or}
use Rattle.histar_rights.specs.Table.{access_line_text}
use Rattle.histar_layout.specs.Listing.{is_directory}
use Rattle.histar_layout.specs.declared.class.Class.{Class}
use Rattle.histar_layout.specs.declared.class.Class.TheVariants.{Private, Readable, Open, Scratch, Group}
use Rattle.histar_secrecy.specs.declared.file_class.FileClass.{FileClass}
use Rattle.histar_secrecy.specs.declared.role.Member.{Member}
use Rattle.histar_secrecy.specs.declared.role.Role.{Role}
use Rattle.histar_secrecy.specs.declared.role.Role.TheVariants.{Trusted, Confined, Outside}
use Rattle.histar_secrecy.specs.Logins.{logged_in}
use Rattle.histar_secrecy.specs.Noninterference.{IsReached}
use Rattle.histar_secrecy.specs.Roles.{is_bound}
use Rattle.histar_secrecy.specs.Ways.{reads_all}
use Rattle.histar_secrecy.specs.ShownRoles.{flat_class, has_role, is_login_changer, is_login_reader, is_same_role, is_shown_changer}
use Rattle.histar_secrecy.specs.ShownRoles.{job_numbered, of_groups, role_of, with_rights, with_user}
use Rattle.histar_readout.specs.declared.process.Life.{Life}
use Rattle.histar_readout.specs.declared.process.Life.TheVariants.{Running, Exited}
use Rattle.histar_readout.specs.declared.process.ProcessNode.{ProcessNode}
use Rattle.histar_readout.specs.declared.tree.TreeNode.{TreeNode}
use Rattle.histar_readout.specs.TreeLines.{node_stat}
use Rattle.histar_shell.specs.Machine.{MachineModel}
use Rattle.histar_shell.specs.Meaning.{Shows}
use Rattle.histar_prefix.specs.Listing.{AreProcessesIn}
use Rattle.histar_trust.specs.declared.ancestors.Ancestor.{Ancestor}
use Rattle.histar_trust.specs.Reasons.{by_job, by_path, if_asked}
use Rattle.histar_trust.specs.Secrets.{is_secret, process_mark, runner_mark, secrets_text, user_mark}
use Rattle.histar_trust.specs.TrustText.{is_for_everyone, is_open_way, process_entry, process_lines, trust_text, user_entry, user_lines}

-- a running process: its user, the jobs that it is in, and those that it holds, by the numbers of their categories
pub record Runner : Type 0 where
  pub name : ProcName
  pub user : Name
  pub jobs : List ℕ
  pub held : List ℕ

-- a member as a running process
abbrev pub runner_of : Member → Runner
runner_of m = record { name = m.name; user = m.user; jobs = m.jobs.items; held = m.held.items }

-- a process of this name in these jobs, if it runs
abbrev pub living : ProcName → List ℕ → Life → Option Runner
living name jobs (Running user held) = Some (record { name = name; user = user; jobs = jobs; held = held })
living name jobs (Exited number) = None

-- a process, if it runs
abbrev pub running_node : ProcessNode → Option Runner
running_node node = living node.name node.chain node.life

-- a running process and its user, as they are printed
abbrev pub shown_runner : Member → List ℕ
shown_runner m = runner_mark m.name m.user

-- the line of the running processes, as it is printed
abbrev pub shown_runners : List Member → List ℕ
shown_runners members = codes "running" ++ flat_map shown_runner members ++ codes "\n"

-- the names of users
abbrev pub names_of : Accounts → List Name
names_of accounts = map (λ (u : User). u.name) accounts.users

-- what a tree has at a path
abbrev pub node_at : Path → List TreeNode → Option TreeNode
node_at path [] = None
node_at path (node ∷ tree) = if same_path path node.path then Some node else node_at path tree

-- a class in the flat rules, with each job by the number of its category
abbrev pub class_flat : Class → FlatClass
class_flat (Private owner) = FlatPrivate owner
class_flat (Readable owner) = FlatReadable owner
class_flat Open = FlatOpen
class_flat (Scratch owner jobs) = FlatScratch owner (map job_numbered jobs)
class_flat (Group group) = FlatGrouped group

-- the class of the node, if there is one
abbrev pub class_there : Option TreeNode → List FlatClass
class_there None = []
class_there (Some node) = class_flat node.class ∷ []

-- the classes of what a tree has at a path, and at each directory above it
abbrev pub classes_to : List TreeNode → Path → List FlatClass
classes_to tree [] = class_there (node_at [] tree)
classes_to tree (n ∷ d) = class_there (node_at (n ∷ d) tree) ++ classes_to tree d

-- the classes on the way to a node, from `/` on: those at the directories above it are taken from the way to the node before it
abbrev pub next_way : List FlatClass → TreeNode → List FlatClass
next_way before node = take (length node.path) before ++ class_flat node.class ∷ []

-- what is made of nodes, one after another, each by the way to it that the way to the node before leads to
abbrev pub on_ways : {A : Type 0} → (TreeNode → List FlatClass → List A) → List FlatClass → List TreeNode → List A
on_ways made before [] = []
on_ways made before (node ∷ nodes) = made node (next_way before node) ++ on_ways made (next_way before node) nodes

-- the path of a node, if it is a file that not every process reaches by this way
abbrev pub shown_secret_path : TreeNode → List FlatClass → List Path
shown_secret_path node way = if is_secret (is_directory node.target) way then node.path ∷ [] else []

-- the paths of these files among nodes, where this is the way to the node before them
abbrev pub shown_secret_paths : List FlatClass → List TreeNode → List Path
shown_secret_paths before nodes = on_ways shown_secret_path before nodes

-- every process may read each of these classes
abbrev pub are_for_everyone : List FileClass → Bool
are_for_everyone classes = list_all (λ class. is_for_everyone (flat_class class)) classes

-- the users as whom a process could log in to read all of the way, as they are printed
abbrev pub shown_login_readers : Accounts → List FlatClass → List ℕ
shown_login_readers accounts way = user_lines (codes "login") (filter (is_login_reader accounts.groups way) (names_of accounts))

module _ (accounts : Accounts) (members : List Member) where
  -- the processes that have this role towards a file with this way
  abbrev pub those_of : List FlatClass → Role → List (ProcName × Name)
  those_of way role = map with_user (filter (has_role accounts.groups way role) members)

  -- the trusted and the confined processes and the login readers of a file with this way, as they are printed on one line
  abbrev pub shown_members : List FlatClass → List ℕ
  shown_members way =
      flat_map (process_mark (codes "trusted")) (those_of way Trusted)
      ++ flat_map (process_mark (codes "confined")) (those_of way Confined)
      ++ flat_map (user_mark (codes "login")) (filter (is_login_reader accounts.groups way) (names_of accounts))

  -- the text of a file or a directory among the secrets, by the way to it
  abbrev pub shown_secret : TreeNode → List FlatClass → List ℕ
  shown_secret node way =
      if is_secret (is_directory node.target) way then path_text node.path ++ shown_members way ++ codes "\n" else []

  -- the texts of nodes among the secrets, one after another, each by the way to it that the way to the node before leads to
  abbrev pub shown_secrets : List FlatClass → List TreeNode → List ℕ
  shown_secrets before nodes = on_ways shown_secret before nodes

-- the line of a file or a directory, without processes
abbrev pub head_text : TreeNode → List ℕ
head_text node = access_line_text (record { path = node.path; stat = node_stat node; cells = [] })

-- ---- why a process is a changer

-- the path of the node, if there is one
abbrev pub place_there : Option TreeNode → List Path
place_there None = []
place_there (Some node) = node.path ∷ []

-- the path of what a tree has at a path, and of each directory above it
abbrev pub places_to : List TreeNode → Path → List Path
places_to tree [] = place_there (node_at [] tree)
places_to tree (n ∷ d) = place_there (node_at (n ∷ d) tree) ++ places_to tree d

-- the process may write what is of the class, and read what is of each class behind it
abbrev pub changes_here : List FlatGroup → Process → FileClass → List FileClass → Bool
changes_here groups p class above =
    may_write (of_groups groups) p (flat_class class) && reads_all (of_groups groups) (map flat_class above) p

-- the last of the places, one of each class, by which the process may change what is at the first one
abbrev pub shown_power : List FlatGroup → Process → List FileClass → List Path → Option Path
shown_power groups p [] places = None
shown_power groups p (class ∷ above) [] = None
shown_power groups p (class ∷ above) (place ∷ higher) =
    option_or (shown_power groups p above higher) (if changes_here groups p class above then Some place else None)

-- ---- why a process is confined

-- the processes above a process and itself, from process 0 on, each with the jobs that it is in, by numbers
abbrev pub Lineage : Type 0
Lineage = List (ProcName × List ℕ)

-- a process and the jobs that it is in
abbrev pub named_jobs : Ancestor → ProcName × List ℕ
named_jobs a = (a.name, a.jobs.items)

-- the lineage of a process: those above it are taken from the lineage of the process before it
abbrev pub next_lineage : Lineage → ProcessNode → Lineage
next_lineage before node = take (length node.name) before ++ (node.name, node.chain) ∷ []

-- the first process of a lineage in whose jobs alone a process of this user would be bound by the way
abbrev pub shown_job : List FlatGroup → List FlatClass → Name → Lineage → Option ProcName
shown_job groups way user [] = None
shown_job groups way user (a ∷ lineage) =
    if is_bound (of_groups groups) way (with_rights user a.1 []) then Some a.0 else shown_job groups way user lineage

-- the running process is confined by the way
abbrev pub is_confined_runner : List FlatGroup → List FlatClass → Runner → Bool
is_confined_runner groups way r = is_same_role Confined (role_of groups way (with_rights r.user r.jobs r.held))

module _ (accounts : Accounts) (why : Bool) where
  -- the reason of a process with these rights that is a changer, as it is printed
  abbrev pub shown_power_reason : List FileClass → List Path → Process → List ℕ
  shown_power_reason classes places p = if_asked why (by_path (shown_power accounts.groups p classes places))

  -- the line of a process, if it is a changer, as it is printed
  abbrev pub shown_changer : List FileClass → List Path → Member → List ℕ
  shown_changer classes places m =
      if is_shown_changer accounts.groups classes m then
      process_entry (codes "changer") (with_user m)
      ++ shown_power_reason classes places (with_rights m.user m.jobs.items m.held.items) ++ codes "\n" else []

  -- the line of a user as whom a process could log in to be a changer, as it is printed
  abbrev pub shown_login_changer : List FileClass → List Path → Name → List ℕ
  shown_login_changer classes places user =
      if is_login_changer accounts.groups classes user then
      user_entry (codes "changer-login") user ++ shown_power_reason classes places (logged_in user) ++ codes "\n" else []

  -- the processes and users that may change what is of one of these classes, in directories of those behind it, as they are printed
  abbrev pub shown_changers : List Member → List FileClass → List Path → List ℕ
  shown_changers members classes places =
      flat_map (shown_changer classes places) members ++ flat_map (shown_login_changer classes places) (names_of accounts)

  module _ (way : List FlatClass) where
    -- the line of a running process, if it is confined, as it is printed
    abbrev pub shown_runner_confined : Lineage → Runner → List ℕ
    shown_runner_confined lineage r =
        if is_confined_runner accounts.groups way r then
        process_entry (codes "confined") (r.name, r.user)
        ++ if_asked why (by_job (shown_job accounts.groups way r.user lineage)) ++ codes "\n" else []

    -- the same of a process, if it runs
    abbrev pub shown_confined_if : Lineage → Option Runner → List ℕ
    shown_confined_if lineage None = []
    shown_confined_if lineage (Some r) = shown_runner_confined lineage r

    -- the lines of those of these processes that are confined, one after another, as they are printed
    abbrev pub shown_confined : Lineage → List ProcessNode → List ℕ
    shown_confined before [] = []
    shown_confined before (node ∷ nodes) =
        shown_confined_if (next_lineage before node) (running_node node) ++ shown_confined (next_lineage before node) nodes

    module _ (processes : List ProcessNode) (members : List Member) where
      -- the roles towards a file with this way, as they are printed
      abbrev pub shown_readers : List ℕ
      shown_readers =
          process_lines (codes "trusted") (those_of accounts members way Trusted)
          ++ shown_confined [] processes
          ++ process_lines (codes "outside") (those_of accounts members way Outside)
          ++ shown_login_readers accounts way

      -- the text of the roles towards a file or a directory of a tree, by the way to it
      abbrev pub shown_roles : TreeNode → List ℕ
      shown_roles node = if is_directory node.target then [] else if is_open_way way then codes "everyone\n" else shown_readers

      -- the text of what a tree has at a path, by the way to it
      abbrev pub shown_found : Option TreeNode → List ℕ
      shown_found None = codes "no entry\n"
      shown_found (Some node) = head_text node ++ shown_roles node

  -- the same with the changers
  abbrev pub shown_node : List ProcessNode → List Member → List FileClass → List Path → Option TreeNode → List ℕ
  shown_node processes members classes places found =
      shown_found (map flat_class classes) processes members found ++ shown_changers members classes places

-- the processes of a machine were found, and these members are the running ones
pub record AreMembers (m : MachineModel) (members : List Member) : Type 0 where
  pub processes : List ProcessNode
  pub are : AreProcessesIn m processes
  pub runners : map runner_of members ≡ filter_map running_node processes

-- a machine represents a flat state that calls lead to
pub record ShowsReached (accounts : Accounts) (m : MachineModel) (f : Flat) : Type 0 where
  pub shows : Shows accounts m f
  pub reached : IsReached accounts f

-- a machine represents some such state
abbrev pub HasState : MachineModel → Type 0
HasState m = (accounts : Accounts) × (f : Flat) × ShowsReached accounts m f

-- for every such state that a machine represents, this is its text for the path, with reasons if these are asked for
abbrev pub ShowsTrust : MachineModel → Bool → Path → List ℕ → Type 0
ShowsTrust m why path text = (accounts : Accounts) (f : Flat) → ShowsReached accounts m f → text ≡ trust_text accounts f why path

-- for every such state that a machine represents, this is the text on its processes and files
abbrev pub ShowsSecrets : MachineModel → List ℕ → Type 0
ShowsSecrets m text = (accounts : Accounts) (f : Flat) → ShowsReached accounts m f → text ≡ secrets_text accounts f
