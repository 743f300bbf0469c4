-- The lines on the files of a machine are those of the flat state that it represents.
use Rattle.std.specs.Prelude.{◌≡◌, ℕ, ◌+◌, Bool, true, false, not, ◌&&◌, List}
use Rattle.std.specs.Prelude.{[], ◌∷◌, ◌++◌, Option, None, Some, codes, filter, is_some, length}
use Rattle.std.specs.Prelude.{map, take, if◌then◌else◌, refl}
use Rattle.std.proofs.Common.{ap, ap₂, sym, ◌∙◌, subst, append_assoc, append-nil, arith}
use Rattle.std.proofs.Math.Seq.{take-append_seam}
use Rattle.std.proofs.lemmas.Bool.{and_parts, true≢false}
use Rattle.std.proofs.lemmas.List.{length-append}
use Rattle.std.proofs.lemmas.List.Folds.{list_all-append}
use Rattle.std.specs.FinMap.{find, is_sorted}
use Rattle.std.specs.FinMap.Entries.{below_all}
use Rattle.std.specs.List.{flat_map, list_all}
use Rattle.std.specs.Ordering.{is_lt}
use Rattle.std.specs.declared.cmp.Ordering.TheVariants.{Less}
use Rattle.histar_flat.specs.Words.{Path, ProcName}
use Rattle.histar_base.specs.Paths.{path_cmp}
use Rattle.histar_flat.specs.Accounts.{Accounts}
use Rattle.histar_flat.specs.Files.{get}
use Rattle.histar_flat.specs.Classes.{Class, Process, is_free, may_read}
use Rattle.histar_flat.specs.FlatState.{Flat, Node}
use Rattle.histar_flat.specs.Texts.{path_text}
use Rattle.histar_flat.proofs.Finding.{is_less}
use Rattle.histar_noninterference.proofs.Unions.{find_here, find_past, holds}
use Rattle.histar_rights.specs.Running.{running_in}
use Rattle.histar_object.specs.State.{State}
use Rattle.histar_syscall.specs.KernelModel.{state}
use Rattle.histar_layout.specs.Listing.{is_directory}
use Rattle.histar_layout.specs.UserTable.{without_passwords}
use Rattle.histar_refinement.specs.Represents.{ObjectsMatch}
use Rattle.histar_refinement.proofs.LinesMatched.{node_there}
use Rattle.histar_refinement.proofs.Agreeing.{parent_is_dir}
use Rattle.histar_secrecy.specs.declared.role.Member.{Member}
use Rattle.histar_secrecy.specs.declared.role.Role.{Role}
use Rattle.histar_secrecy.specs.declared.role.Role.TheVariants.{Trusted, Confined, Outside}
use Rattle.histar_secrecy.specs.Logins.{logged_in}
use Rattle.histar_secrecy.specs.Ways.{way_to}
use Rattle.histar_secrecy.specs.Roles.{holding_none, is_confined, is_trusted}
use Rattle.histar_secrecy.specs.ShownRoles.{class_on, classes_on, has_role, is_same_role, of_groups, role_of, with_rights, with_user}
use Rattle.histar_readout.specs.declared.tree.TreeNode.{TreeNode}
use Rattle.histar_readout.specs.TreeEntries.{TreeEntry, flat_entry, tree_entry}
use Rattle.histar_readout.specs.TreeLines.{TreeLine, flat_line, line_at}
use Rattle.histar_shell.specs.Ending.{IsTreeIn}
use Rattle.histar_shell.specs.Machine.{MachineModel}
use Rattle.histar_trust.specs.Findings.{AreMembers, ShowsReached, names_of, next_way, on_ways, shown_members, shown_runners, shown_secret}
use Rattle.histar_trust.specs.Findings.{shown_secret_path, shown_secret_paths, shown_secrets, those_of}
use Rattle.histar_trust.specs.Secrets.{is_secret, is_secret_file, members_text, process_mark, runners_line, secret_paths, secret_text, secrets_text}
use Rattle.histar_trust.specs.Secrets.{user_mark}
use Rattle.histar_trust.specs.TrustText.{is_for_everyone}
use Rattle.histar_trust.proofs.Descent.{AreNext, IsNext, rooted}
use Rattle.histar_trust.proofs.Places.{IsAt, class_is, first_of_list, number_of, open_by_number, rest_of_list}
use Rattle.histar_trust.proofs.Runners.{AllOf, runners_shown}
use Rattle.histar_trust.proofs.ShownTrust.{chosen, confined_same, is_so, members_are as all_members, own_tree, same_names, same_tree, trusted_same}

-- ---- entries

-- an entry is above a path
abbrev IsAbove : Path → Path × Node → Type 0
IsAbove q e = path_cmp q e.0 ≡ Less

-- an entry is found at its path
abbrev IsIn : List (Path × Node) → Path × Node → Type 0
IsIn es e = find path_cmp e.0 es ≡ Some e.1

all_above : (q : Path) (es : List (Path × Node)) → below_all path_cmp q es ≡ true → AllOf (IsAbove q) es
all_above q [] h = tt
all_above q (e ∷ es) h =
    let parts = and_parts (is_lt (path_cmp q e.0)) (below_all path_cmp q es) h in
    (is_less (path_cmp q e.0) parts.0, all_above q es parts.1)

found_past : (e : Path × Node) (es xs : List (Path × Node)) → AllOf (IsAbove e.0) xs → AllOf (IsIn es) xs → AllOf (IsIn (e ∷ es)) xs
found_past e es [] above found = tt
found_past e es (x ∷ xs) above found = (find_past e es x.0 above.0 ∙ found.0, found_past e es xs above.1 found.1)

-- each entry of a map is found at its path
each_found : (es : List (Path × Node)) → is_sorted path_cmp es ≡ true → AllOf (IsIn es) es
each_found [] h = tt
each_found (e ∷ es) h =
    let parts = and_parts (below_all path_cmp e.0 es) (is_sorted path_cmp es) h in
    (find_here e es, found_past e es es (all_above e.0 es parts.0) (each_found es parts.1))

-- ---- the order of the classes on a way

-- each test holds of all classes of both lists, or of neither
abbrev AreAlike : List Class → List Class → Type 0
AreAlike way other = (test : Class → Bool) → list_all test way ≡ list_all test other

module _ (users : Accounts) (members : List Member) (way other : List Class) (alike : AreAlike way other) where
  role_same : (p : Process) → role_of users.groups way p ≡ role_of users.groups other p
  role_same p = λ i. if alike (may_read (of_groups users.groups) p) i then (if not (is_free p)
      && alike (may_read (of_groups users.groups) (holding_none p)) i then Confined else Trusted) else Outside

  those_same : (role : Role) → those_of users members way role ≡ those_of users members other role
  those_same role =
      λ i. map with_user (filter (λ (m : Member). is_same_role role (role_same (with_rights m.user m.jobs.items m.held.items) i)) members)

  members_same : shown_members users members way ≡ shown_members users members other
  members_same = λ i.
      flat_map (process_mark (codes "trusted")) (those_same Trusted i)
      ++ flat_map (process_mark (codes "confined")) (those_same Confined i)
      ++ flat_map (user_mark (codes "login")) (filter (λ user. alike (may_read (of_groups users.groups) (logged_in user)) i) (names_of users))

  -- a secret is shown alike by both
  secret_same : (node : TreeNode) → shown_secret users members node way ≡ shown_secret users members node other
  secret_same node = λ i.
      if (not (is_directory node.target) && not (alike is_for_everyone i)) then path_text node.path ++ members_same i ++ codes "\n" else []

-- appending three lists one after another, or at once
pub behind_three : (old p m n : List ℕ) → ((old ++ p) ++ m) ++ n ≡ old ++ ((p ++ m) ++ n)
behind_three old p m n = append_assoc (old ++ p) m n ∙ append_assoc old p (m ++ n) ∙ ap (λ t. old ++ t) (sym (append_assoc p m n))

-- ---- what was added

module _ (users : Accounts) (members : List Member) where
  -- a node that is no secret is passed over
  pub none_added : (node : TreeNode) (way : List Class) (text : List ℕ) → is_secret (is_directory node.target) way ≡ false
      → text ≡ text ++ shown_secret users members node way
  none_added node way text none =
      sym (append-nil text)
      ∙ ap (λ b. text ++ (if b then path_text node.path ++ shown_members users members way ++ codes "\n" else [])) (sym none)

  -- the path, the members and a line end of a secret were added
  pub one_added : (node : TreeNode) (way : List Class) (old : List ℕ) {mid late new : List ℕ} → is_secret (is_directory node.target) way ≡ true
      → mid ≡ old ++ path_text node.path → late ≡ mid ++ shown_members users members way → new ≡ late ++ codes "\n"
      → new ≡ old ++ shown_secret users members node way
  one_added node way old is_one path shown end =
      let all = shown_members users members way in
      end ∙ ap (λ t. t ++ codes "\n") (shown ∙ ap (λ t. t ++ all) path) ∙ behind_three old (path_text node.path) all (codes "\n")
      ∙ ap (λ b. old ++ (if b then path_text node.path ++ all ++ codes "\n" else [])) (sym is_one)

-- what is made of one more node was added
pub made_more : {A : Type 0} (made : TreeNode → List Class → List A) (way : List Class) (old : List A) {later : List Class}
    {nodes rest : List TreeNode} {node : TreeNode} {whole new : List A} → nodes ≡ node ∷ rest → later ≡ next_way way node
    → new ≡ old ++ made node later → whole ≡ old ++ on_ways made way nodes → whole ≡ new ++ on_ways made later rest
made_more {A} made way old {later} {nodes} {rest} {node} {whole} {new} turn go added before =
    before ∙ ap (λ (left : List TreeNode). old ++ on_ways made way left) turn
    ∙ ap (λ (w : List Class). old ++ (made node w ++ on_ways made w rest)) (sym go)
    ∙ sym (append_assoc old (made node later) (on_ways made later rest)) ∙ ap (λ (t : List A). t ++ on_ways made later rest) (sym added)

-- ---- the way of a path

module _ (number : ProcName → ℕ) (f : Flat) where
  -- the classes of the directories above a path, from `/` on
  abbrev above : Path → List Class
  above [] = []
  above (n ∷ d) = above d ++ class_on number (get f.files d)

  -- the classes on the way to a path, from `/` on
  abbrev down : Path → List Class
  down q = above q ++ class_on number (get f.files q)

  both_ways : (x y : Bool) → (x && y) ≡ (y && x)
  both_ways true true = refl
  both_ways true false = refl
  both_ways false true = refl
  both_ways false false = refl

  -- they are the same classes in the other order
  down_alike : (q : Path) → AreAlike (down q) (classes_on number f q)
  down_alike [] test = refl
  down_alike (n ∷ d) test =
      list_all-append test (down d) (class_on number (get f.files (n ∷ d)))
      ∙ both_ways (list_all test (down d)) (list_all test (class_on number (get f.files (n ∷ d))))
      ∙ ap (λ b. list_all test (class_on number (get f.files (n ∷ d))) && b) (down_alike d test)
      ∙ sym (list_all-append test (class_on number (get f.files (n ∷ d))) (classes_on number f d))

  -- the way to what is in a directory begins with that to the directory
  down_within : (s d : Path) → (more : List Class) × (down (s ++ d) ≡ down d ++ more)
  down_within [] d = ([], sym (append-nil (down d)))
  down_within (m ∷ s) d =
      let rest = down_within s d in
      let one = class_on number (get f.files (m ∷ (s ++ d))) in
      (rest.0 ++ one, ap (λ (t : List Class). t ++ one) rest.1 ∙ append_assoc (down d) rest.0 one)

  one_class : (o : Option Node) → is_some o ≡ true → length (class_on number o) ≡ 1
  one_class None h = absurd (true≢false (sym h))
  one_class (Some n) h = refl

-- ---- the paths

-- the path of an entry, if it is secret
abbrev path_of : Flat → Path × Node → List Path
path_of f e = if is_secret_file f e then e.0 ∷ [] else []

-- the paths of entries that are secret are those of the secret ones
listed_paths : (f : Flat) (es : List (Path × Node))
    → flat_map (path_of f) es ≡ map (λ (e : Path × Node). e.0) (filter (is_secret_file f) es)
listed_paths f [] = refl
listed_paths f (e ∷ es) = by (is_secret_file f e) (listed_paths f es)
  where
    by : (b : Bool) → flat_map (path_of f) es ≡ map (λ (x : Path × Node). x.0) (filter (is_secret_file f) es)
        → (let l : List Path = if b then e.0 ∷ [] else [] in l) ++ flat_map (path_of f) es
        ≡ map (λ (x : Path × Node). x.0)
        (let l : List (Path × Node) = if b then e ∷ filter (is_secret_file f) es else filter (is_secret_file f) es in l)
    by true h = ap (λ (paths : List Path). e.0 ∷ paths) h
    by false h = h

-- ---- a machine

module _ {accounts : Accounts} {m : MachineModel} {f : Flat} (r : ShowsReached accounts m f) where
  abbrev s : State
  s = state m.kernel

  abbrev l : ObjectsMatch accounts s f
  l = r.shows.represents.matched

  abbrev number : ProcName → ℕ
  number = number_of l.category

  -- of what is there the directories above are there, so each has a class
  length_above : (q : Path) (there : Node) → get f.files q ≡ Some there → length (above number f q) ≡ length q
  length_above [] there at = refl
  length_above (n ∷ d) there at =
      let parent = node_there (get f.files d) (parent_is_dir accounts s f l n d there at) in
      length-append (above number f d) (class_on number (get f.files d))
      ∙ (λ i. length_above d parent.0 parent.1 i + one_class number f (get f.files d) (ap is_some parent.1) i)
      ∙ omega arith

  -- the way to a node, if that to the node before begins with the classes of the directories above it
  way_is : (before : List Class) (node : TreeNode) (e : Path × Node) → IsAt s l.category e.0 node e.1 → get f.files e.0 ≡ Some e.1
      → take (length e.0) before ≡ above number f e.0 → next_way before node ≡ down number f e.0
  way_is before node e is at front =
      (λ i. take (length (is.path i)) before ++ class_is s l.category e.0 (Some node) (Some e.1) is i)
      ∙ (λ i. front i ++ class_on number (sym at i))

  -- the way to a path begins with the classes of the directories above the next one
  front_is : (p q : Path) (there : Node) → get f.files q ≡ Some there → IsNext p q → take (length q) (down number f p) ≡ above number f q
  front_is p q there at next =
      let d = next.directory in
      let rest = down_within number f next.within.0 d in
      let own : above number f q ≡ down number f d = ap (above number f) next.is in
      ap (λ k. take k (down number f p)) (sym (length_above q there at) ∙ ap length own)
      ∙ ap (take (length (down number f d))) (ap (down number f) next.within.1 ∙ rest.1)
      ∙ take-append_seam (down number f d) rest.0 ∙ sym own

  -- a node that shows the same as an entry matches it
  matches : (node : TreeNode) (e : Path × Node) → tree_entry s node ≡ flat_entry l.category e → line_at s node ≡ flat_line e
      → IsAt s l.category e.0 node e.1
  matches node e entry line = record {
    path = ap (λ (x : TreeEntry). x.path) entry;
    class = ap (λ (x : TreeEntry). x.class) entry;
    kind = ap (λ (x : TreeEntry). x.is_directory) entry;
    stat = ap (λ (x : TreeLine). x.stat) line;
    bytes = ap (λ (x : TreeLine). x.bytes) line;
  }

  module _ {A : Type 0} (made : TreeNode → List Class → List A) (of : Path × Node → List A)
      (agree : (node : TreeNode) (e : Path × Node) → IsAt s l.category e.0 node e.1 → made node (down number f e.0) ≡ of e) where
    -- what is made of nodes is made of the entries, where the way to a path is known, and the first node is next to it
    made_same : (p : Path) (before : List Class) → before ≡ down number f p → (nodes : List TreeNode) (es : List (Path × Node))
        → AreNext p nodes → map (tree_entry s) nodes ≡ map (flat_entry l.category) es → map (line_at s) nodes ≡ map flat_line es
        → AllOf (IsIn f.files.entries) es → on_ways made before nodes ≡ flat_map of es
    unfolding first_of_list rest_of_list
    made_same p before known [] [] next entries lines all = refl
    made_same p before known [] (e ∷ es) next entries lines all = absurd (cc)
    made_same p before known (node ∷ nodes) [] next entries lines all = absurd (cc)
    made_same p before known (node ∷ nodes) (e ∷ es) next entries lines all =
        let is = matches node e (ap (first_of_list (tree_entry s node)) entries) (ap (first_of_list (line_at s node)) lines) in
        let front = ap (take (length e.0)) known ∙ front_is p e.0 e.1 all.0 (subst (IsNext p) is.path next.0) in
        let way : next_way before node ≡ down number f e.0 = way_is before node e is all.0 front in
        ap₂ (λ (a b : List A). a ++ b) (ap (made node) way ∙ agree node e is)
        (made_same node.path (next_way before node) (way ∙ ap (down number f) (sym is.path)) nodes es next.1
        (ap rest_of_list entries) (ap rest_of_list lines) all.1)

    -- what is made of all nodes, from `/` on, is made of the entries
    all_made : (slash : TreeNode) (nodes : List TreeNode) (es : List (Path × Node)) → slash.path ≡ [] → AreNext [] nodes
        → map (tree_entry s) (slash ∷ nodes) ≡ map (flat_entry l.category) es → map (line_at s) (slash ∷ nodes) ≡ map flat_line es
        → AllOf (IsIn f.files.entries) es → on_ways made [] (slash ∷ nodes) ≡ flat_map of es
    unfolding first_of_list rest_of_list
    all_made slash nodes [] root next entries lines all = absurd (cc)
    all_made slash nodes (e ∷ es) root next entries lines all =
        let is = matches slash e (ap (first_of_list (tree_entry s slash)) entries) (ap (first_of_list (line_at s slash)) lines) in
        let here : e.0 ≡ [] = sym is.path ∙ root in
        let way : next_way [] slash ≡ down number f e.0 = way_is [] slash e is all.0
        (subst (λ (q : Path). take (length q) [] ≡ above number f q) (sym here) refl) in
        ap₂ (λ (a b : List A). a ++ b) (ap (made slash) way ∙ agree slash e is)
        (made_same [] (next_way [] slash) (way ∙ ap (down number f) here) nodes es next (ap rest_of_list entries) (ap rest_of_list lines) all.1)

    -- what is made of the nodes of a tree is made of the entries of the flat state
    on_ways_are : (tree : List TreeNode) → IsTreeIn m tree → on_ways made [] tree ≡ flat_map of f.files.entries
    on_ways_are tree is =
        let same : tree ≡ (own_tree r tree is).tree = sym (same_tree r tree is) in
        let root = rooted m.users s m.roots tree is in
        let parts : root.slash ∷ root.below ≡ (own_tree r tree is).tree = sym root.parts ∙ same in
        ap (on_ways made []) root.parts
        ∙ all_made root.slash root.below f.files.entries root.at_root root.next
        (ap (map (tree_entry s)) parts ∙ (own_tree r tree is).same) (ap (map (line_at s)) parts ∙ (own_tree r tree is).lines)
        (each_found f.files.entries (holds (is_sorted path_cmp f.files.entries) f.files.sorted))

  -- a node is secret by the way from `/` on if its entry is
  path_same : (node : TreeNode) (e : Path × Node) → IsAt s l.category e.0 node e.1
      → shown_secret_path node (down number f e.0) ≡ path_of f e
  path_same node e is =
      let reached = down_alike number f e.0 is_for_everyone ∙ open_by_number number f e.0 in
      λ i. if (not (is.kind i) && not (reached i)) then is.path i ∷ [] else []

  -- the paths of the secret files of a tree are those of the flat state
  pub secret_paths_there : (tree : List TreeNode) → IsTreeIn m tree → shown_secret_paths [] tree ≡ secret_paths f
  secret_paths_there tree is =
      on_ways_are shown_secret_path (path_of f) path_same tree is ∙ listed_paths f f.files.entries

  module _ (members : List Member) (found : AreMembers m members) where
    -- the members with their roles towards a file, and the login readers, are those of the flat state
    members_are : (path : Path)
        → shown_members (without_passwords accounts) members (classes_on number f path) ≡ members_text accounts f (way_to f path)
    members_are path = λ i.
        flat_map (process_mark (codes "trusted")) (chosen r members found
        (has_role accounts.groups (classes_on number f path) Trusted) (is_trusted accounts (way_to f path) f)
        (λ member c same runs. trusted_same r members found member c same runs path) i)
        ++ flat_map (process_mark (codes "confined")) (chosen r members found
        (has_role accounts.groups (classes_on number f path) Confined) (is_confined accounts (way_to f path) f)
        (λ member c same runs. confined_same r members found member c same runs path) i)
        ++ flat_map (user_mark (codes "login")) (filter (λ user. (is_so r).reader_login path user i) (same_names accounts.users i))

    -- a file's line, by the way from `/` on, is that of the flat state
    one_secret : (node : TreeNode) (e : Path × Node) → IsAt s l.category e.0 node e.1
        → shown_secret (without_passwords accounts) members node (down number f e.0) ≡ secret_text accounts f e
    one_secret node e is =
        secret_same (without_passwords accounts) members (down number f e.0) (classes_on number f e.0) (down_alike number f e.0) node
        ∙ (λ i. if (not (is.kind i) && not (open_by_number number f e.0 i)) then path_text (is.path i) ++ members_are e.0 i ++ codes "\n" else [])

    -- the line of the processes is that of the flat state
    runners_are : shown_runners members ≡ runners_line f
    runners_are = λ i. codes "running" ++ runners_shown f l.category members (running_in f) (all_members r members found) i ++ codes "\n"

    -- what is printed of a tree is the text of the flat state
    pub secrets_there : (tree : List TreeNode) → IsTreeIn m tree
        → shown_runners members ++ shown_secrets m.users members [] tree ≡ secrets_text accounts f
    secrets_there tree is =
        (λ i. runners_are i ++ shown_secrets (r.shows.users i) members [] tree)
        ∙ ap (λ t. runners_line f ++ t)
        (on_ways_are (shown_secret (without_passwords accounts) members) (secret_text accounts f) one_secret tree is)
