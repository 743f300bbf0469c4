-- What is computed from a machine and the users of its script is the text of the flat state that the machine represents.
use Rattle.std.specs.Prelude.{◌≡◌, ℕ, ◌≤◌, true, not, ◌&&◌, ◌||◌, List, []}
use Rattle.std.specs.Prelude.{◌∷◌, ◌++◌, length, map, codes, Option, None, Some, option_map}
use Rattle.std.specs.Prelude.{if◌then◌else◌, refl}
use Rattle.std.specs.List.{filter_map, flat_map}
use Rattle.std.proofs.Common.{ap, sym, ◌∙◌, subst}
use Rattle.histar_flat.specs.declared.calls.User.{User}
use Rattle.histar_flat.specs.declared.calls.UnixCall.TheVariants.{Read}
use Rattle.histar_flat.specs.declared.replies.Reply.TheVariants.{Done}
use Rattle.histar_flat.specs.Words.{Name, Path, ProcName, most_names}
use Rattle.histar_flat.specs.Accounts.{Accounts}
use Rattle.histar_flat.specs.Files.{get}
use Rattle.histar_flat.specs.FlatState.{Flat, IsTree, Node, bytes_at, bytes_of, entries_in, is_dir, is_file_at, is_some_and}
use Rattle.histar_flat.specs.FlatCalls.{running}
use Rattle.histar_flat.proofs.Trees.{paths_are_a_tree}
use Rattle.histar_object.specs.State.{State}
use Rattle.histar_syscall.specs.KernelModel.{state}
use Rattle.histar_refinement.specs.Categories.{Categories}
use Rattle.histar_rights.specs.Running.{Named, running_in}
use Rattle.histar_readout.specs.declared.tree.TreeNode.{TreeNode}
use Rattle.histar_readout.specs.TreeEntries.{tree_entry}
use Rattle.histar_secrecy.specs.declared.file_class.FileClass.{FileClass}
use Rattle.histar_secrecy.specs.declared.role.Member.{Member}
use Rattle.histar_secrecy.specs.declared.role.Role.TheVariants.{Outside, Trusted}
use Rattle.histar_secrecy.specs.Ways.{reaches, way_to}
use Rattle.histar_secrecy.specs.Logins.{is_password_of, logged_in}
use Rattle.histar_secrecy.specs.Leaks.{asking}
use Rattle.histar_secrecy.specs.Roles.{is_trusted}
use Rattle.histar_secrecy.specs.Changers.{is_changer, may_change}
use Rattle.histar_secrecy.specs.ShownRoles.{classes_on, flat_class, has_role, has_shown_role, is_login_reader, is_shown_changer, with_user}
use Rattle.histar_shell.specs.Ending.{IsTreeIn}
use Rattle.histar_shell.specs.Machine.{MachineModel}
use Rattle.histar_prefix.specs.Listing.{AreProcessesIn}
use Rattle.histar_readout.specs.declared.process.ProcessNode.{ProcessNode}
use Rattle.histar_trust.specs.Findings.{AreMembers, ShowsReached, classes_to, node_at, runner_of, running_node}
use Rattle.histar_trust.specs.TrustText.{is_open_way}
use Rattle.histar_trust.proofs.Places.{AreAlike, classes_are, number_of, open_by_number}
use Rattle.histar_trust.proofs.Runners.{AllOf, Runs}
use Rattle.histar_trust.proofs.ShownTrust.{all_run, changer_same, chosen, each, head_is, is_so, members_are, one_number, outside_same, own_tree}
use Rattle.histar_trust.proofs.ShownTrust.{same_tree}
use Rattle.histar_trust.proofs.ShownTrust.{trusted_same}
use Rattle.histar_leak.specs.declared.changes.Change.{Change}
use Rattle.histar_leak.specs.LeakLines.{by_first, paragraph, some_text, titled, who_text}
use Rattle.histar_leak.specs.ChangeCalls.{change_call}
use Rattle.histar_leak.specs.LeakText.{change_lines, changer_login_text, changer_text, changers_part, found_part, is_below_file, is_in_no_job}
use Rattle.histar_leak.specs.LeakText.{is_outside, knows_all_of, leak_text, listeners, login_by, login_line, login_text, others_in_no_job, readers_of}
use Rattle.histar_leak.specs.LeakText.{readers_part, free_outsiders, trusted_text}
use Rattle.histar_leak.specs.Findings.{asking_text, bytes_there, call_of, change_text, changes_to, changing_text, entries_of, first_change}
use Rattle.histar_leak.specs.Findings.{is_below_shown_file, is_file_there, is_jobless, is_shown_outsider, knows_jobs_of, login_change_text, of_first}
use Rattle.histar_leak.specs.Findings.{reading_text, replied}
use Rattle.histar_leak.specs.Findings.{reads_way, rights_of, shown_changer, shown_changer_login, shown_changes, shown_found}
use Rattle.histar_leak.specs.Findings.{shown_free_outsiders, shown_leak, shown_listeners, shown_login, shown_others, shown_readers, shown_roles}
use Rattle.histar_leak.specs.Findings.{shown_trusted}
use Rattle.histar_leak.proofs.Changing.{change_lines_done, done_text, login_change_lines}
use Rattle.histar_leak.proofs.ChangesShown.{below, change_is, entries_listed, first_by, first_mapped}
use Rattle.histar_leak.proofs.Members.{Is, jobless_same, knows_same, rights_are, texts_same}
use Rattle.histar_leak.proofs.Passwords.{own_passwords}
use Rattle.histar_leak.proofs.Pieces.{unless_so, when}
use Rattle.histar_leak.proofs.Replies.{OfFirst, first_passes, login_lines, trusted_lines}
use Rattle.histar_secrecy.proofs.Names.{some_process}
use Rattle.std.proofs.lemmas.Bool.{and_parts}
use Rattle.histar_flat.specs.Classes.{is_free}

-- the members among the processes that were found are those of the machine
pub members_found : {m : MachineModel} {processes found : List ProcessNode} {members listed : List Member} → AreProcessesIn m processes
    → map runner_of listed ≡ filter_map running_node found → found ≡ processes → members ≡ listed → AreMembers m members
members_found {processes = processes} are runners same is = record {
  processes = processes;
  are = are;
  runners = ap (map runner_of) is ∙ runners ∙ ap (filter_map running_node) same;
}

-- texts of users, one after another, are the same if each two are
users_same : (P : User → Type 0) (text of : User → List ℕ) → ((u : User) → P u → text u ≡ of u) → (us : List User) → AllOf P us
    → flat_map text us ≡ flat_map of us
users_same P text of agree [] all = refl
users_same P text of agree (u ∷ us) all = λ i. agree u all.0 i ++ users_same P text of agree us all.1 i

-- the text of a call, which is done
change_text_is : (me : ProcName) (o : Option Change) → change_text me o ≡ done_text me (option_map call_of o)
change_text_is me None = refl
change_text_is me (Some c) = refl

module _ {accounts : Accounts} {m : MachineModel} {f : Flat} (r : ShowsReached accounts m f) (path : Path) where
  abbrev s : State
  s = state m.kernel

  abbrev category : Categories
  category = r.shows.represents.matched.category

  abbrev number : ProcName → ℕ
  number = number_of category

  is_tree : IsTree f
  is_tree = subst IsTree r.reached.1 (paths_are_a_tree accounts r.reached.0)

  -- the password is the user's
  abbrev Knows : User → Type 0
  Knows user = is_password_of accounts user.name user.password ≡ true

  passwords : AllOf Knows accounts.users
  passwords = own_passwords accounts r.shows.declared.users.distinct

  module _ (members : List Member) (found : AreMembers m members) (classes : List FileClass)
      (to : map flat_class classes ≡ classes_on number f path) where
    -- ---- processes

    outsider_same : (member : Member) (c : Named) → Is r path members found member c → Runs f category c
        → is_shown_outsider accounts.groups classes member ≡ is_outside accounts f path c.0
    unfolding has_shown_role
    outsider_same member c same runs =
        ap (λ way. has_role accounts.groups way Outside member) to ∙ outside_same r members found member c same runs path

    role_same : (member : Member) (c : Named) → Is r path members found member c → Runs f category c
        → has_shown_role accounts.groups classes Trusted member ≡ is_trusted accounts (way_to f path) f c.0
    unfolding has_shown_role
    role_same member c same runs =
        ap (λ way. has_role accounts.groups way Trusted member) to ∙ trusted_same r members found member c same runs path

    reads_same : (user : Name) → reads_way accounts.groups classes user ≡ reaches accounts f (logged_in user) path
    unfolding reads_way
    reads_same user = ap (λ way. is_login_reader accounts.groups way user) to ∙ (is_so r).reader_login path user

    listeners_are : (me : Member) (c : Named) → Is r path members found me c → Runs f category c
        → shown_listeners accounts.groups classes members me ≡ listeners accounts f path c.0
    listeners_are me c same runs =
        chosen r members found (λ o. is_shown_outsider accounts.groups classes o && knows_jobs_of o me)
        (λ other. is_outside accounts f path other && knows_all_of accounts f path other c.0)
        (λ o co so ro i. outsider_same o co so ro i && knows_same r path members found o co so ro me c same runs i)

    free_are : shown_free_outsiders accounts.groups classes members ≡ free_outsiders accounts f path
    free_are =
        chosen r members found (λ o. is_shown_outsider accounts.groups classes o && is_jobless o)
        (λ other. is_outside accounts f path other && is_in_no_job accounts f path other)
        (λ o co so ro i. outsider_same o co so ro i && jobless_same r path members found o co so ro i)

    others_are : shown_others accounts.groups classes members ≡ others_in_no_job accounts f path
    others_are =
        chosen r members found (λ o. not (is_shown_changer accounts.groups classes o) && is_jobless o)
        (λ other. not (is_changer accounts f path other) && is_in_no_job accounts f path other)
        (λ o co so ro i. not (changer_same r members found o co so ro path classes to i) && jobless_same r path members found o co so ro i)

    -- ---- readers

    module _ (file : is_file_at f path ≡ true) where
      abbrev bytes : List ℕ
      bytes = bytes_at f path

      trusted_is : (me : Member) (c : Named) → Is r path members found me c → Runs f category c
          → shown_trusted accounts.groups classes path bytes members me ≡ trusted_text accounts f path c
      trusted_is me c same runs =
          let whom = listeners_are me c same runs in
          let title : ProcName × Name → List (ProcName × Name) → List ℕ = λ p w. codes "trusted " ++ who_text p ++ codes " tells " ++ some_text w in
          let shown = titled (title (with_user me) (shown_listeners accounts.groups classes members me))
          (of_first (shown_listeners accounts.groups classes members me) (asking_text me.name path bytes)) in
          let meant = paragraph accounts f (title (c.0, c.1.user) (listeners accounts f path c.0))
          (by_first (listeners accounts f path c.0) (λ other. asking c.0 other path 1)) in
          ap (λ b. (let l : List ℕ = if b then shown else [] in l)) (role_same me c same runs)
          ∙ when (is_trusted accounts (way_to f path) f c.0) shown meant
          (λ t. (λ i. titled (title ((same i).name, (same i).user) (whom i)) (of_first (whom i) (asking_text (same i).name path bytes)))
          ∙ ap (titled (title (c.0, c.1.user) (listeners accounts f path c.0))) (sym (trusted_lines accounts f r.reached path file c.0 c.1 runs t)))

      login_is : (user : User) → Knows user
          → shown_login accounts.groups classes path bytes (shown_free_outsiders accounts.groups classes members) user
          ≡ login_text accounts f path user
      login_is user right =
          let title : List (ProcName × Name) → List ℕ = λ w. codes "login " ++ user.name ++ codes " by " ++ some_text w in
          let shown = titled (title (shown_free_outsiders accounts.groups classes members))
          (of_first (shown_free_outsiders accounts.groups classes members) (reading_text user path bytes)) in
          let meant = paragraph accounts f (title (free_outsiders accounts f path))
          (by_first (free_outsiders accounts f path) (λ me. login_line me user ∷ (me, Read path) ∷ [])) in
          ap (λ b. (let l : List ℕ = if b then shown else [] in l)) (reads_same user.name)
          ∙ when (reaches accounts f (logged_in user.name) path) shown meant
          (λ t. (λ i. titled (title (free_are i)) (of_first (free_are i) (reading_text user path bytes)))
          ∙ ap (titled (title (free_outsiders accounts f path))) (sym (login_lines accounts f r.reached path file user right t)))

      readers_are : shown_readers accounts.groups classes path bytes accounts.users members ≡ readers_part accounts f path
      readers_are =
          λ i. if (ap is_open_way to ∙ open_by_number number f path) i then codes "\n# everyone\n" else
          texts_same f category (shown_trusted accounts.groups classes path bytes members) (trusted_text accounts f path) trusted_is members
          (running_in f) (members_are r members found) (all_run r members found) i
          ++ users_same Knows (shown_login accounts.groups classes path bytes (shown_free_outsiders accounts.groups classes members))
          (login_text accounts f path) login_is accounts.users passwords i

    -- ---- changers

    module _ (tree : List TreeNode) (is : IsTreeIn m tree) (short : length path ≤ most_names) where
      abbrev calls : List (Option Change)
      calls = changes_to tree path (bytes_at f path)

      listed : (d : Path) → entries_of d tree ≡ map (below d) (entries_in f d)
      listed d =
          entries_listed s category d tree f.files.entries
          (ap (map (tree_entry s)) (sym (same_tree r tree is)) ∙ (own_tree r tree is).same)

      change_same : (me : Member) (c : Named) → Is r path members found me c → Runs f category c
          → option_map call_of (first_change accounts.groups (rights_of me) classes calls) ≡ change_call accounts f path c.1
      change_same me c same runs =
          ap (option_map call_of) (first_mapped accounts.groups (rights_of me) classes calls
          ∙ (λ i. first_by accounts.groups (rights_are r path members found me c same runs i) (to i) calls))
          ∙ change_is accounts f s category tree (each r tree is) listed (one_number r) c.1 path short

      changer_is : (me : Member) (c : Named) → Is r path members found me c → Runs f category c
          → shown_changer accounts.groups classes calls me ≡ changer_text accounts f path c
      changer_is me c same runs =
          let title : ProcName × Name → List ℕ = λ p. codes "changer " ++ who_text p in
          let change = first_change accounts.groups (rights_of me) classes calls in
          let shown = titled (title (with_user me)) (change_text me.name change) in
          let meant = paragraph accounts f (title (c.0, c.1.user)) (change_lines c.0 (change_call accounts f path c.1)) in
          ap (λ b. (let l : List ℕ = if b then shown else [] in l)) (changer_same r members found me c same runs path classes to)
          ∙ when (is_changer accounts f path c.0) shown meant
          (λ t. ap (titled (title (with_user me))) (change_text_is me.name change)
          ∙ (λ i. titled (title ((same i).name, (same i).user)) (done_text (same i).name (change_same me c same runs i)))
          ∙ ap (titled (title (c.0, c.1.user))) (sym (change_lines_done accounts f is_tree c.0 c.1 runs path)))

      login_change_same : (user : Name)
          → option_map call_of (first_change accounts.groups (logged_in user) classes calls) ≡ change_call accounts f path (logged_in user)
      login_change_same user =
          ap (option_map call_of) (first_mapped accounts.groups (logged_in user) classes calls
          ∙ ap (λ way. first_by accounts.groups (logged_in user) way calls) to)
          ∙ change_is accounts f s category tree (each r tree is) listed (one_number r) (logged_in user) path short

      -- the property of those who log in
      abbrev Logs : ProcName → Type 0
      Logs me = (not (is_changer accounts f path me) && is_in_no_job accounts f path me) ≡ true

      login_by_is : (user : User) → Knows user → (whom : List (ProcName × Name)) → OfFirst Logs whom
          → shown_changer_login accounts.groups classes calls whom user ≡ login_by accounts f path whom user
      unfolding login_change_text
      login_by_is user right [] h = refl
      login_by_is user right (p ∷ more) h =
          let parts = and_parts (not (is_changer accounts f path p.0)) (is_in_no_job accounts f path p.0) h in
          let q = some_process (running f p.0) is_free parts.1 in
          let title : List ℕ = codes "changer-login " ++ user.name ++ codes " by " ++ some_text (p ∷ more) in
          let change = first_change accounts.groups (logged_in user.name) classes calls in
          let shown = titled title (changing_text user change p.0) in
          let meant = paragraph accounts f title (login_line p.0 user ∷ change_lines p.0 (change_call accounts f path (logged_in user.name))) in
          ap (λ b. (let l : List ℕ = if b then shown else [] in l)) ((is_so r).changer_login path classes to user.name)
          ∙ when (may_change accounts f (logged_in user.name) path) shown meant
          (λ t. ap (titled title) (ap (λ (l : List ℕ). replied (login_line p.0 user) Done ++ l)
          (change_text_is p.0 change ∙ ap (done_text p.0) (login_change_same user.name))
          ∙ sym (login_change_lines accounts f is_tree p.0 q.0 q.1 q.2 user right path)))

      changer_login_is : (user : User) → Knows user
          → shown_changer_login accounts.groups classes calls (shown_others accounts.groups classes members) user
          ≡ changer_login_text accounts f path user
      changer_login_is user right =
          ap (λ w. shown_changer_login accounts.groups classes calls w user) others_are
          ∙ login_by_is user right (others_in_no_job accounts f path)
          (first_passes (λ other. not (is_changer accounts f path other) && is_in_no_job accounts f path other) (running_in f))

      -- ---- what is at the path

      below_is : (q : Path) → is_below_shown_file tree q ≡ is_below_file accounts f path q
      below_is [] = refl
      below_is (n ∷ d) = λ i. one (node_at d tree) (get f.files d) (each r tree is d) i || below_is d i
        where
          one : (t : Option TreeNode) (o : Option Node) → AreAlike s category d t o
              → is_file_there t ≡ (is_some_and o (λ x. true) && not (is_some_and o is_dir))
          one None None h = refl
          one None (Some x) h = absurd h
          one (Some node) None h = absurd h
          one (Some node) (Some x) h = ap not h.kind

      changes_are : shown_changes accounts members classes path (bytes_at f path) tree ≡ changers_part accounts f path
      changes_are =
          λ i. if below_is path i then [] else
          texts_same f category (shown_changer accounts.groups classes calls) (changer_text accounts f path) changer_is members (running_in f)
          (members_are r members found) (all_run r members found) i
          ++ users_same Knows (shown_changer_login accounts.groups classes calls (shown_others accounts.groups classes members))
          (changer_login_text accounts f path) changer_login_is accounts.users passwords i

    roles_are : (node : TreeNode) (there : Node) → AreAlike s category path (Some node) (Some there) → get f.files path ≡ Some there
        → shown_roles accounts members classes path (bytes_at f path) node ≡ readers_of accounts f path there
    roles_are node there h at =
        let shown = shown_readers accounts.groups classes path (bytes_at f path) accounts.users members in
        ap (λ b. (let l : List ℕ = if b then [] else shown in l)) h.kind
        ∙ unless_so (is_dir there) shown (readers_part accounts f path)
        (λ e. readers_are (ap (λ o. is_some_and o (λ x. not (is_dir x))) at ∙ ap not e))

    found_is : (t : Option TreeNode) (o : Option Node) → AreAlike s category path t o → get f.files path ≡ o
        → shown_found accounts members classes path (bytes_at f path) t ≡ found_part accounts f path o
    found_is None None h at = refl
    found_is None (Some there) h at = absurd h
    found_is (Some node) None h at = absurd h
    found_is (Some node) (Some there) h at = λ i. head_is r members found path classes to node there h i ++ roles_are node there h at i

  bytes_are : (t : Option TreeNode) (o : Option Node) → AreAlike s category path t o → bytes_there s t ≡ bytes_of o
  bytes_are None None h = refl
  bytes_are None (Some there) h = absurd h
  bytes_are (Some node) None h = absurd h
  bytes_are (Some node) (Some there) h = h.bytes

  -- what is computed of a path is the text of the flat state
  pub text_there : (tree : List TreeNode) → IsTreeIn m tree → (members : List Member) → AreMembers m members → (classes : List FileClass)
      → map flat_class classes ≡ classes_to tree path → length path ≤ most_names
      → shown_leak accounts members classes path (bytes_there s (node_at path tree)) tree ≡ leak_text accounts f path
  text_there tree is members found classes are short =
      let to = are ∙ classes_are s category f tree (each r tree is) path in
      ap (λ (bytes : List ℕ). shown_leak accounts members classes path bytes tree)
      (bytes_are (node_at path tree) (get f.files path) (each r tree is path))
      ∙ (λ i. codes "# " ++ found_is members found classes to (node_at path tree) (get f.files path) (each r tree is path) refl i
      ++ changes_are members found classes to tree is short i)
