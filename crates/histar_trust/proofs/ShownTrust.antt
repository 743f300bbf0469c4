-- What is computed from a machine is what the flat state determines that it represents.
use Rattle.std.specs.Prelude.{◌≡◌, ℕ, Bool, length, true, false, not, ◌&&◌, List}
use Rattle.std.specs.Prelude.{[], ◌∷◌, ◌++◌, map, filter, codes, Option, None, Some}
use Rattle.std.specs.Prelude.{if◌then◌else◌, refl}
use Rattle.std.specs.List.{filter_map, flat_map}
use Rattle.std.proofs.Common.{ap, sym, ◌∙◌, subst}
use Rattle.histar_flat.specs.declared.calls.User.{User}
use Rattle.histar_flat.specs.Words.{Name, Path, ProcName}
use Rattle.histar_flat.specs.Accounts.{Accounts}
use Rattle.histar_flat.specs.Files.{get}
use Rattle.histar_flat.specs.Classes.{Class as FlatClass, Process}
use Rattle.histar_flat.specs.FlatState.{Flat, Node}
use Rattle.histar_flat.specs.FlatCalls.{running}
use Rattle.histar_object.specs.State.{State}
use Rattle.histar_syscall.specs.KernelModel.{state}
use Rattle.histar_layout.specs.UserTable.{without_password, without_passwords}
use Rattle.histar_programs.specs.declared.roots.Roots.{Roots}
use Rattle.histar_programs.specs.Start.{roots_of}
use Rattle.histar_refinement.specs.Categories.{CategoryName, split_category}
use Rattle.histar_refinement.specs.Categories.CategoryName.{OfJob}
use Rattle.histar_refinement.specs.Represents.{ObjectsMatch}
use Rattle.histar_rights.specs.Running.{HaveShownNames, Named, running_in}
use Rattle.histar_rights.specs.Table.{access_line_text, line_of}
use Rattle.histar_rights.proofs.Named.{processes_are_named}
use Rattle.histar_secrecy.specs.declared.file_class.FileClass.{FileClass}
use Rattle.histar_secrecy.specs.declared.role.Member.{Member}
use Rattle.histar_secrecy.specs.declared.role.Role.{Role}
use Rattle.histar_secrecy.specs.declared.role.Role.TheVariants.{Trusted, Confined, Outside}
use Rattle.histar_secrecy.specs.Ways.{reads_all, way_to}
use Rattle.histar_secrecy.specs.Roles.{is_bound, is_confined, is_outsider, is_trusted}
use Rattle.histar_secrecy.specs.Noninterference.{ShowsRole}
use Rattle.histar_secrecy.specs.Logins.{logged_in}
use Rattle.histar_secrecy.specs.Changers.{is_changer, may_change}
use Rattle.histar_secrecy.specs.ShownRoles.{AreNumbered, IsShownProcess, ShowsAState, classes_on, flat_class, has_role}
use Rattle.histar_secrecy.specs.ShownRoles.{is_same_role, is_shown_changer, member_role, role_in, with_user}
use Rattle.histar_secrecy.proofs.Learning.{roles_are_shown}
use Rattle.histar_secrecy.proofs.ShownProcesses.{shown_is, shown_is_so}
use Rattle.histar_readout.specs.declared.tree.TreeNode.{TreeNode}
use Rattle.histar_readout.specs.Laws.{HasProcessesOf, HasTreeOf}
use Rattle.histar_readout.specs.Processes.{AreProcessesOf, levels_at}
use Rattle.histar_readout.specs.ProcessLines.{process_line}
use Rattle.histar_readout.specs.Tree.{IsTreeOf}
use Rattle.histar_readout.proofs.OneTree.{states_have_one_tree}
use Rattle.histar_readout.proofs.ProcessesMatched.{flat_states_have_their_processes}
use Rattle.histar_readout.proofs.TreeMatched.{flat_states_have_their_trees}
use Rattle.histar_shell.specs.Ending.{HasTree, IsTreeIn}
use Rattle.histar_shell.specs.Machine.{MachineModel}
use Rattle.histar_shell.proofs.SameUsers.{tree_unproved}
use Rattle.histar_prefix.specs.Listing.{HasProcesses}
use Rattle.histar_prefix.proofs.Listed.{filter_map_map, processes_there, tree_there}
use Rattle.histar_prefix.proofs.SameProcesses.{one_list, processes_unproved}
use Rattle.histar_trust.specs.Findings.{AreMembers, ShowsReached, classes_to, head_text, node_at, places_to, runner_of, running_node}
use Rattle.histar_trust.specs.Findings.{shown_changer, shown_changers, shown_confined, shown_found, shown_login_changer, shown_node, shown_power}
use Rattle.histar_trust.specs.Findings.{shown_readers, shown_roles}
use Rattle.histar_trust.specs.Reasons.{by_path, if_asked}
use Rattle.histar_trust.specs.TrustText.{changers_text, found_text, job_reason, power_reason, process_entry, process_lines, readers_text}
use Rattle.histar_trust.specs.TrustText.{reasoned_line, reasoned_user, roles_text, running_where, trust_text, user_entry, user_lines}
use Rattle.histar_trust.proofs.Lineages.{descends, lines, shown_by_lines}
use Rattle.histar_trust.proofs.Powers.{places_on, power_is}
use Rattle.histar_trust.proofs.Places.{AreAlike, IsAt, alike, classes_are, number_of, open_by_number, places_are}
use Rattle.histar_trust.proofs.Runners.{AllOf, Runs, each_runs, numbered, picked, runners_listed, running_line, texts_same}

-- ---- roles

trusted_is : (t c : Bool) → is_same_role Trusted (if t then Trusted else if c then Confined else Outside) ≡ t
trusted_is true c = refl
trusted_is false true = refl
trusted_is false false = refl

outside_is : (t c : Bool) → is_same_role Outside (if t then Trusted else if c then Confined else Outside) ≡ (not t && not c)
outside_is true c = refl
outside_is false true = refl
outside_is false false = refl

confined_is : (t c reads bound : Bool) → t ≡ (reads && not bound) → c ≡ bound
    → is_same_role Confined (if t then Trusted else if c then Confined else Outside) ≡ c
confined_is t c reads bound te ce =
    (λ i. is_same_role Confined (if te i then Trusted else if ce i then Confined else Outside)) ∙ by reads bound ∙ sym ce
  where
    by : (r b : Bool) → is_same_role Confined (if (r && not b) then Trusted else if b then Confined else Outside) ≡ b
    by true true = refl
    by true false = refl
    by false true = refl
    by false false = refl

-- the names of users have no passwords
pub same_names : (users : List User) → map (λ (u : User). u.name) (map without_password users) ≡ map (λ (u : User). u.name) users
same_names [] = refl
same_names (u ∷ users) = ap (λ (names : List Name). u.name ∷ names) (same_names users)

module _ {accounts : Accounts} {m : MachineModel} {f : Flat} (r : ShowsReached accounts m f) where
  abbrev s : State
  s = state m.kernel

  abbrev l : ObjectsMatch accounts s f
  l = r.shows.represents.matched

  abbrev number : ProcName → ℕ
  number = number_of l.category

  -- no two jobs have the same number
  pub one_number : AreNumbered number
  one_number a b e = ap (λ (c : CategoryName). (split_category c).1) (l.different (OfJob a) (OfJob b) e)

  pub is_so : ShowsAState number accounts f
  is_so = shown_is_so accounts f number one_number

  -- processes have names that can be shown
  pub named : HaveShownNames f
  named = subst HaveShownNames r.reached.1 (processes_are_named accounts r.reached.0)

  -- the machine has a tree and processes
  pub has_tree : HasTree m
  has_tree = tree_there accounts m f r.shows named

  pub has_processes : HasProcesses m
  has_processes = processes_there accounts m f r.shows named

  -- ---- the tree

  module _ (tree : List TreeNode) (is : IsTreeIn m tree) where
    pub own_tree : HasTreeOf accounts s f l.category
    own_tree = flat_states_have_their_trees accounts s f r.shows.represents r.shows.shallow

    own_tree_here : IsTreeIn m own_tree.tree
    own_tree_here =
        subst (λ (users : Accounts). IsTreeOf users s m.roots own_tree.tree) (sym r.shows.users)
        (tree_unproved accounts s m.roots own_tree.tree
        (subst (λ (roots : Roots). IsTreeOf accounts s roots own_tree.tree) (sym r.shows.roots) own_tree.is_tree))

    pub same_tree : own_tree.tree ≡ tree
    same_tree = states_have_one_tree m.users s m.roots own_tree.tree tree own_tree_here is

    pub each : (q : Path) → AreAlike s l.category q (node_at q tree) (get f.files q)
    each q = subst (λ (t : List TreeNode). AreAlike s l.category q (node_at q t) (get f.files q)) same_tree
        (alike s l.category q own_tree.tree f.files.entries own_tree.same own_tree.lines)

  -- ---- the processes

  module _ (members : List Member) (found_members : AreMembers m members) where
    own : HasProcessesOf accounts s f l.category
    own = flat_states_have_their_processes accounts s f r.shows.represents named

    same_processes : found_members.processes ≡ own.processes
    same_processes = one_list accounts s (roots_of (length accounts.users)) found_members.processes own.processes
        (subst (λ (roots : Roots). AreProcessesOf accounts s roots found_members.processes) r.shows.roots
        (processes_unproved accounts s m.roots found_members.processes
        (subst (λ (users : Accounts). AreProcessesOf users s m.roots found_members.processes) r.shows.users found_members.are)))
        own.are_processes

    -- the members are the running processes
    pub members_are : map runner_of members ≡ map (numbered f l.category) (running_in f)
    unfolding running_in
    members_are =
        found_members.runners ∙ ap (filter_map running_node) same_processes ∙ sym (filter_map_map running_line process_line own.processes)
        ∙ ap (filter_map running_line) own.lines ∙ runners_listed f l.category (levels_at []) []

    pub all_run : AllOf (Runs f l.category) (running_in f)
    unfolding running_in
    all_run = each_runs f l.category (levels_at []) []

    -- a member is the process that runs under its name
    module _ (member : Member) (c : Named) (same : runner_of member ≡ numbered f l.category c) (runs : Runs f l.category c) where
      name_is : member.name ≡ c.0
      name_is = λ i. (same i).name

      pub shown : IsShownProcess number f member c.1
      shown = record {
        runs = ap (λ (name : ProcName). running f name) name_is ∙ runs;
        user = λ i. (sym same i).user;
        jobs = λ i. (sym same i).jobs;
        held = λ i. (sym same i).held;
      }

      -- a member has the role of the process in the flat state
      module _ (path : Path) where
        role_is : member_role accounts.groups (classes_on number f path) member ≡ role_in accounts (way_to f path) f member.name
        role_is = is_so.role r.reached path member c.1 shown

        by_tests : ShowsRole accounts (way_to f path) f member.name c.1
        by_tests = roles_are_shown accounts f r.reached path member.name c.1 shown.runs

        pub trusted_same : has_role accounts.groups (classes_on number f path) Trusted member ≡ is_trusted accounts (way_to f path) f c.0
        trusted_same =
            ap (is_same_role Trusted) role_is
            ∙ trusted_is (is_trusted accounts (way_to f path) f member.name) (is_confined accounts (way_to f path) f member.name)
            ∙ ap (is_trusted accounts (way_to f path) f) name_is

        pub confined_same : has_role accounts.groups (classes_on number f path) Confined member ≡ is_confined accounts (way_to f path) f c.0
        confined_same =
            ap (is_same_role Confined) role_is
            ∙ confined_is (is_trusted accounts (way_to f path) f member.name) (is_confined accounts (way_to f path) f member.name)
            (reads_all accounts (way_to f path) c.1) (is_bound accounts (way_to f path) c.1) by_tests.trusted by_tests.confined
            ∙ ap (is_confined accounts (way_to f path) f) name_is

        pub outside_same : has_role accounts.groups (classes_on number f path) Outside member ≡ is_outsider accounts (way_to f path) f c.0
        outside_same =
            ap (is_same_role Outside) role_is
            ∙ outside_is (is_trusted accounts (way_to f path) f member.name) (is_confined accounts (way_to f path) f member.name)
            ∙ ap (is_outsider accounts (way_to f path) f) name_is

      -- a member is a changer exactly if the process is one in the flat state
      pub changer_same : (path : Path) (classes : List FileClass) → map flat_class classes ≡ classes_on number f path
          → is_shown_changer accounts.groups classes member ≡ is_changer accounts f path c.0
      changer_same path classes to = is_so.changer path classes to member c.1 shown ∙ ap (is_changer accounts f path) name_is

    -- ---- what is printed

    -- the members that pass a test are the processes whose names pass another, if the two tests agree
    pub chosen : (test : Member → Bool) (of_name : ProcName → Bool)
        → ((member : Member) (c : Named) → runner_of member ≡ numbered f l.category c → Runs f l.category c → test member ≡ of_name c.0)
        → map with_user (filter test members) ≡ running_where accounts f of_name
    chosen test of_name agree = picked f l.category test (λ c. of_name c.0) agree members (running_in f) members_are all_run

    module _ (why : Bool) (path : Path) where
      -- the member has the role
      abbrev has : Role → Member → Bool
      has = has_role accounts.groups (classes_on number f path)

      -- the lines of the confined that are printed are those of the flat state
      confined_are : shown_confined (without_passwords accounts) why (classes_on number f path) [] found_members.processes
          ≡ flat_map (reasoned_line (codes "confined") (is_confined accounts (way_to f path) f) (job_reason accounts f why (way_to f path)))
          (running_in f)
      unfolding running_in
      confined_are =
          shown_by_lines accounts why (classes_on number f path) [] found_members.processes
          ∙ ap (lines accounts why (classes_on number f path) []) (ap (map process_line) same_processes ∙ own.lines)
          ∙ (descends f l.category one_number accounts r.reached path why (levels_at []) [] [] refl refl).text

      -- the roles that are printed, and the login readers, are those of the flat state
      readers_are : shown_readers (without_passwords accounts) why (classes_on number f path) found_members.processes members
          ≡ readers_text accounts f why (way_to f path)
      readers_are = λ i.
          process_lines (codes "trusted") (chosen (has Trusted) (is_trusted accounts (way_to f path) f)
          (λ member c same runs. trusted_same member c same runs path) i)
          ++ confined_are i
          ++ process_lines (codes "outside") (chosen (has Outside) (is_outsider accounts (way_to f path) f)
          (λ member c same runs. outside_same member c same runs path) i)
          ++ user_lines (codes "login") (filter (λ user. is_so.reader_login path user i) (same_names accounts.users i))

    module _ (path : Path) (classes : List FileClass) (to : map flat_class classes ≡ classes_on number f path) where
      pub head_is : (node : TreeNode) (there : Node) → IsAt s l.category path node there
          → head_text node ≡ access_line_text (line_of accounts f [] (path, there))
      head_is node there is = λ i. access_line_text (record { path = is.path i; stat = is.stat i; cells = [] })

      module _ (why : Bool) (places : List Path) (on : places ≡ places_on f path) where
        -- the line of a changer that is printed is that of the flat state
        changer_is : (member : Member) (c : Named) → runner_of member ≡ numbered f l.category c → Runs f l.category c
            → shown_changer (without_passwords accounts) why classes places member
            ≡ reasoned_line (codes "changer") (is_changer accounts f path) (λ (e : Named). power_reason accounts f why path e.1) c
        changer_is member c same runs =
            let power = ap (λ (q : Process). shown_power accounts.groups q classes places)
            (shown_is number one_number accounts f {m = member} {p = c.1} (shown member c same runs))
            ∙ power_is number one_number accounts f c.1 path classes to places on in
            λ i. if changer_same member c same runs path classes to i
            then process_entry (codes "changer") ((same i).name, (same i).user) ++ if_asked why (by_path (power i)) ++ codes "\n" else []

        -- the line of a login changer that is printed is that of the flat state
        login_is : (user : Name) → shown_login_changer (without_passwords accounts) why classes places user
            ≡ reasoned_user (codes "changer-login") (λ (u : Name). may_change accounts f (logged_in u) path)
            (λ (u : Name). power_reason accounts f why path (logged_in u)) user
        login_is user =
            let power = power_is number one_number accounts f (logged_in user) path classes to places on in
            λ i. if is_so.changer_login path classes to user i
            then user_entry (codes "changer-login") user ++ if_asked why (by_path (power i)) ++ codes "\n" else []

        -- the changers that are printed, and the login changers, are those of the flat state
        changers_are : shown_changers (without_passwords accounts) why members classes places ≡ changers_text accounts f why path
        changers_are = λ i.
            texts_same f l.category (shown_changer (without_passwords accounts) why classes places)
            (reasoned_line (codes "changer") (is_changer accounts f path) (λ (e : Named). power_reason accounts f why path e.1)) changer_is members
            (running_in f) members_are all_run i
            ++ flat_map (λ user. login_is user i) (same_names accounts.users i)

        roles_are : (node : TreeNode) (there : Node) → IsAt s l.category path node there
            → shown_roles (without_passwords accounts) why (map flat_class classes) found_members.processes members node
            ≡ roles_text accounts f why path there
        roles_are node there is =
            ap (λ (way : List FlatClass). shown_roles (without_passwords accounts) why way found_members.processes members node) to
            ∙ (λ i. if is.kind i then [] else if open_by_number number f path i then codes "everyone\n" else readers_are why path i)

        found_is : (found : Option TreeNode) (there : Option Node) → AreAlike s l.category path found there
            → shown_found (without_passwords accounts) why (map flat_class classes) found_members.processes members found
            ≡ found_text accounts f why path there
        found_is None None alike = refl
        found_is None (Some there) alike = absurd alike
        found_is (Some node) None alike = absurd alike
        found_is (Some node) (Some there) alike = λ i. head_is node there alike i ++ roles_are node there alike i

    -- what is printed of a path is the text of the flat state
    pub text_there : (tree : List TreeNode) → IsTreeIn m tree → (path : Path) (classes : List FileClass)
        → map flat_class classes ≡ classes_to tree path → (why : Bool) (places : List Path) → places ≡ places_to tree path
        → shown_node m.users why found_members.processes members classes places (node_at path tree) ≡ trust_text accounts f why path
    text_there tree is path classes are why places at =
        let to = are ∙ classes_are s l.category f tree (each tree is) path in
        let on = at ∙ places_are s l.category f tree (each tree is) path in
        ap (λ (users : Accounts). shown_node users why found_members.processes members classes places (node_at path tree)) r.shows.users
        ∙ (λ i. found_is path classes to why places on (node_at path tree) (get f.files path) (each tree is path) i
        ++ changers_are path classes to why places on i)
