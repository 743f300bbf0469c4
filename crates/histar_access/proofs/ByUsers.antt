-- The table by users of a machine: line by line, and that it is the table of the flat state that the machine represents.
use Rattle.std.proofs.Common.{◌≡◌, ℕ, true, List, [], ◌∷◌, ◌++◌, take}
use Rattle.std.proofs.Common.{length, sym, ap, ◌∙◌, refl, append_assoc}
use Rattle.std.proofs.Common.{append-nil, get_or, ◌+◌}
use Rattle.std.specs.Prelude.{map, slice_get, suc, ◌≤◌, Option, None, Some}
use Rattle.std.specs.List.{flat_map}
use Rattle.std.proofs.lemmas.List.{map-append, take-map, take_more}
use Rattle.std.proofs.lemmas.Option.{get_or_from_slice_get, slice_get_within}
use Rattle.histar_flat.specs.declared.calls.User.{User}
use Rattle.histar_flat.specs.Words.{Name, Path, most_names}
use Rattle.histar_flat.specs.Accounts.{Accounts}
use Rattle.histar_flat.specs.Files.{get}
use Rattle.histar_flat.specs.Classes.{Class, may_read, may_write, nobody}
use Rattle.histar_flat.specs.FlatState.{Flat, IsTree, Node, is_there}
use Rattle.histar_flat.specs.FlatState.Content.{Dir}
use Rattle.histar_layout.specs.declared.class.Class.{Class as NumberedClass}
use Rattle.histar_layout.specs.UserTable.{called, without_password, without_passwords}
use Rattle.histar_refinement.specs.Categories.{Categories}
use Rattle.histar_refinement.specs.NumberedClasses.{numbered_class}
use Rattle.histar_refinement.proofs.Agreeing.{root_is_dir}
use Rattle.histar_object.specs.State.{State}
use Rattle.histar_syscall.specs.KernelModel.{state}
use Rattle.histar_rights.specs.declared.rights.Rights.{Rights}
use Rattle.histar_rights.specs.declared.users.UserRights.{UserRights}
use Rattle.histar_rights.specs.Rights.{above_root, rights_below}
use Rattle.histar_rights.specs.Laws.{HaveFewBytes, rights_above, rights_or}
use Rattle.histar_rights.specs.Running.{HaveShownNames}
use Rattle.histar_rights.specs.Users.{UsersLine, process_of, rights_of_user, somebody, users_line, users_table, users_text}
use Rattle.histar_rights.proofs.Giving.{directories_give_rights}
use Rattle.histar_diff.specs.declared.users.UsersTable.{UsersTable}
use Rattle.histar_diff.specs.Tables.{by_path}
use Rattle.histar_diff.specs.UserChanges.{users_rights}
use Rattle.histar_readout.specs.declared.tree.TreeNode.{TreeNode}
use Rattle.histar_readout.specs.Tree.{IsTreeOf}
use Rattle.histar_readout.specs.TreeEntries.{TreeEntry, flat_entry, tree_entry}
use Rattle.histar_readout.specs.TreeLines.{TreeLine, flat_line, line_at}
use Rattle.histar_readout.proofs.FlatTree.{walks_meet_all}
use Rattle.histar_readout.proofs.OneTree.{states_have_one_tree}
use Rattle.histar_shell.specs.Ending.{IsTreeIn}
use Rattle.histar_shell.specs.Machine.{MachineModel}
use Rattle.histar_shell.specs.Meaning.{Shows}
use Rattle.histar_prefix.proofs.Listed.{flat_tree, tree_here}
use Rattle.histar_cells.specs.ByClass.{class_reads, class_writes, from_above, user_below}
use Rattle.histar_cells.proofs.ClassesAlike.{reads_alike, writes_alike}
use Rattle.histar_cells.proofs.FlatTrees.{are_tree, few_bytes}
use Rattle.histar_access.specs.Rows.{last_or, rows_from}
use Rattle.histar_access.specs.Users.{IsUsersText, ShowsUsersTable, name_of, starting, users_below, users_from, users_line_at}
use Rattle.histar_access.proofs.Descent.{descent, found_above, found_at}
use Rattle.histar_access.proofs.Tables.{last_made, map_twice}

-- ---- line by line

-- the line of a table as a value
abbrev pub one_line : UsersLine → List (Path × List Rights)
one_line l = users_rights l ∷ []

-- what is made of each line alone is made of all
pub one_each : (lines : List UsersLine) → flat_map one_line lines ≡ map users_rights lines
one_each [] = refl
one_each (l ∷ lines) = ap (λ ls. users_rights l ∷ ls) (one_each lines)

module _ {X : Type 0} (made_of : UsersLine → List X) (users : Accounts) (start : List UserRights) (tree : List TreeNode) where
  -- what is made of the lines of these nodes
  abbrev rest_made : List (List UserRights) → List TreeNode → List X
  rest_made way left = flat_map made_of (users_from users start way left)

  -- the row of the next node
  abbrev pub next_users : List (List UserRights) → TreeNode → List UserRights
  next_users way node = users_below users node.class (last_or start (take (length node.path) way))

  -- this is made of the first lines of the table, and these nodes are left
  pub record AreUsersLines (way : List (List UserRights)) (left : List TreeNode) (made : List X) : Type 0 where
    pub are : rest_made [] tree ≡ made ++ rest_made way left

  -- nothing is made at first
  pub nothing_made : {way : List (List UserRights)} {made : List X} → way ≡ [] → made ≡ [] → AreUsersLines way tree made
  nothing_made no_way none = record { are = λ i. sym none i ++ rest_made (sym no_way i) tree }

  -- one more line is made
  pub made_more : {way next : List (List UserRights)} {left rest : List TreeNode} {made longer : List X} → (node : TreeNode)
      → left ≡ node ∷ rest → next ≡ take (length node.path) way ++ next_users way node ∷ []
      → longer ≡ made ++ made_of (users_line_at node (next_users way node)) → AreUsersLines way left made
      → AreUsersLines next rest longer
  made_more {way = way} {rest = rest} {made = made} node turn pushed added are =
      let line = made_of (users_line_at node (next_users way node)) in
      let later = rest_made (take (length node.path) way ++ next_users way node ∷ []) rest in
      record {
        are =
            are.are ∙ ap (λ l. made ++ rest_made way l) turn ∙ sym (append_assoc made line later)
            ∙ (λ i. sym added i ++ rest_made (sym pushed i) rest);
      }

  -- at the end all is made
  pub all_made : {way : List (List UserRights)} {left : List TreeNode} {made : List X} → left ≡ [] → AreUsersLines way left made
      → made ≡ rest_made [] tree
  all_made {way = way} {made = made} none are = sym (are.are ∙ ap (λ l. made ++ rest_made way l) none ∙ append-nil made)

-- the users so far with one more
pub names_more : (users : List User) (place : ℕ) (name : Name) → slice_get users place ≡ Some (called name)
    → map (λ (u : User). from_above u.name) (take (place + 1) users)
    ≡ map (λ (u : User). from_above u.name) (take place users) ++ from_above name ∷ []
names_more users place name is =
    ap (map (λ (u : User). from_above u.name)) (take_more users place (called name) (slice_get_within users place (called name) is))
    ∙ map-append (λ (u : User). from_above u.name) (take place users) (get_or users place (called name) ∷ [])
    ∙ ap (λ (u : User). map (λ (v : User). from_above v.name) (take place users) ++ from_above u.name ∷ [])
    (get_or_from_slice_get users place (called name) (called name) is)

-- ---- the table of a flat state

module _ (accounts : Accounts) (f : Flat) where
  -- the rights of each user at a path
  abbrev Row : Type 0
  Row = Name → Rights

  -- a row as a list
  abbrev listed : Row → List UserRights
  listed r = map (λ (user : Name). record { user = user; rights = r user }) (somebody accounts)

  abbrev start : Row
  start user = above_root

  -- the row that a directory gives, by the flat rules
  abbrev flat_below : Path × Node → Row → Row
  flat_below e r user = rights_below (r user) (may_read accounts (process_of user) e.1.class) (may_write accounts (process_of user) e.1.class)

  abbrev row_line : Path × Node → Row → UsersLine
  row_line e r = record { path = e.0; stat = (flat_line e).stat; users = listed r }

  -- the lines of entries with these rows
  zipped : List (Path × Node) → List Row → List UsersLine
  zipped [] rs = []
  zipped (e ∷ es) [] = []
  zipped (e ∷ es) (r ∷ rs) = row_line e r ∷ zipped es rs

  -- the rights of each user at a path, by the flat rules
  abbrev value : Path → Node → Row
  value q node user = rights_of_user accounts f user q node

  zipped_values : (es : List (Path × Node))
      → zipped es (map (λ (e : Path × Node). value e.0 e.1) es) ≡ map (users_line accounts f) es
  unfolding zipped
  zipped_values [] = refl
  zipped_values (e ∷ es) = ap (λ (ls : List UsersLine). users_line accounts f e ∷ ls) (zipped_values es)

  -- ---- the lines of a tree

  first_entry : TreeEntry → List TreeEntry → TreeEntry
  first_entry x [] = x
  first_entry x (y ∷ ys) = y

  first_line : TreeLine → List TreeLine → TreeLine
  first_line x [] = x
  first_line x (y ∷ ys) = y

  rest_entries : List TreeEntry → List TreeEntry
  rest_entries [] = []
  rest_entries (y ∷ ys) = ys

  rest_lines : List TreeLine → List TreeLine
  rest_lines [] = []
  rest_lines (y ∷ ys) = ys

  module _ (s : State) (category : Categories) where
    abbrev table : Accounts
    table = without_passwords accounts

    -- the rights below those of a row are those of the row below
    row_made : (class : NumberedClass) (e : Path × Node) → class ≡ numbered_class category e.1.class → (r : Row)
        → users_below table class (listed r) ≡ listed (flat_below e r)
    row_made class e is r =
        map_twice (user_below table class) (λ (user : Name). record { user = user; rights = r user }) (somebody accounts)
        ∙ (λ i. map (λ (user : Name). record {
          user = user;
          rights = rights_below (r user)
              ((ap (class_reads table user) is ∙ reads_alike accounts category user e.1.class) i)
              ((ap (class_writes table user) is ∙ writes_alike accounts category user e.1.class) i);
        }) (somebody accounts))

    -- the lines of a tree are those of the entries that it shows
    lines_alike : (tree : List TreeNode) (es : List (Path × Node)) → map (tree_entry s) tree ≡ map (flat_entry category) es
        → map (line_at s) tree ≡ map flat_line es → (way : List Row)
        → users_from table (listed start) (map listed way) tree
        ≡ zipped es (rows_from (λ (e : Path × Node). length e.0) flat_below start way es)
    unfolding zipped first_entry first_line rest_entries rest_lines
    lines_alike [] [] entries lines way = refl
    lines_alike [] (e ∷ es) entries lines way = absurd (cc)
    lines_alike (node ∷ tree) [] entries lines way = absurd (cc)
    lines_alike (node ∷ tree) (e ∷ es) entries lines way =
        let entry : tree_entry s node ≡ flat_entry category e = ap (first_entry (tree_entry s node)) entries in
        let line : line_at s node ≡ flat_line e = ap (first_line (line_at s node)) lines in
        let kept = take (length node.path) (map listed way) in
        let flat_kept = take (length e.0) way in
        let kept_is : kept ≡ map listed flat_kept =
        ap (λ (t : TreeEntry). take (length t.path) (map listed way)) entry ∙ take-map listed (length e.0) way in
        let row = users_below table node.class (last_or (listed start) kept) in
        let flat_row = flat_below e (last_or start flat_kept) in
        let row_is : row ≡ listed flat_row =
        ap (λ (k : List (List UserRights)). users_below table node.class (last_or (listed start) k)) kept_is
        ∙ ap (users_below table node.class) (last_made listed start flat_kept)
        ∙ row_made node.class e (ap (λ (t : TreeEntry). t.class) entry) (last_or start flat_kept) in
        let next_is : kept ++ row ∷ [] ≡ map listed (flat_kept ++ flat_row ∷ []) =
        (λ i. kept_is i ++ row_is i ∷ []) ∙ sym (map-append listed flat_kept (flat_row ∷ [])) in
        let line_is : users_line_at node row ≡ row_line e flat_row = λ i. record {
          path = (line i).path;
          stat = (line i).stat;
          users = row_is i;
        } in
        (λ i. line_is i ∷ users_from table (listed start) (next_is i) tree)
        ∙ ap (λ (ls : List UsersLine). row_line e flat_row ∷ ls)
        (lines_alike tree es (ap rest_entries entries) (ap rest_lines lines) (flat_kept ++ flat_row ∷ []))

  -- ---- the rights at each path are those that its directory gives

  module _ (tree : IsTree f) (small : HaveFewBytes f) where
    above_is : (q : Path) (user : Name) → found_above f start flat_below value q user ≡ rights_above accounts f [] (process_of user) q
    above_is [] user = refl
    above_is (n ∷ d) user = by (get f.files d)
      where
        by : (o : Option Node) → found_at f start flat_below value d o user ≡ rights_or accounts f [] (process_of user) d o
        by None = refl
        by (Some above) = refl

    is_given : (q : Path) (node : Node) → get f.files q ≡ Some node → flat_below (q, node) (found_above f start flat_below value q)
        ≡ value q node
    is_given q node at = λ i user.
        (ap (λ r. rights_below r (may_read accounts (process_of user) node.class) (may_write accounts (process_of user) node.class))
        (above_is q user)
        ∙ sym (directories_give_rights accounts f tree small [] (process_of user) q node at)) i

    rows_found : (root : (class : Class) × (get f.files [] ≡ Some (record { class = class; content = Dir })))
        → ((q : Path) → is_there f q ≡ true → length q ≤ most_names)
        → rows_from (λ (e : Path × Node). length e.0) flat_below start [] f.files.entries
        ≡ map (λ (e : Path × Node). value e.0 e.1) f.files.entries
    rows_found root shallow =
        let met = walks_meet_all f tree most_names shallow (record { class = root.0; content = Dir }) root.1 in
        let rows = rows_from (λ (e : Path × Node). length e.0) flat_below start [] in
        ap rows (sym met)
        ∙ descent f start flat_below value is_given (suc most_names) (record { class = root.0; content = Dir }) root.1
        ∙ ap (map (λ (e : Path × Node). value e.0 e.1)) met

  -- the users start with the rights above `/`
  start_is : starting (without_passwords accounts) ≡ listed start
  start_is =
      ap (λ us. from_above nobody ∷ us)
      (map_twice (λ (u : User). from_above u.name) without_password accounts.users
      ∙ sym (map_twice (λ (name : Name). from_above name) (λ (u : User). u.name) accounts.users))

-- ---- on a machine

-- the names of the users with which a walk starts
names_again : (r : Name → Rights) (names : List Name)
    → map name_of (map (λ (user : Name). record { user = user; rights = r user }) names) ≡ names
names_again r [] = refl
names_again r (name ∷ names) = ap (λ ns. name ∷ ns) (names_again r names)

module _ (m : MachineModel) (tree : List TreeNode) (is : IsTreeIn m tree) where
  -- the lines that are computed from a machine's tree are those of its table by users
  lines_shown : (accounts : Accounts) (f : Flat) → Shows accounts m f → HaveShownNames f
      → users_from m.users (starting m.users) [] tree ≡ users_table accounts f
  unfolding IsTreeOf
  lines_shown accounts f shows named =
      let s = state m.kernel in
      let l = shows.represents.matched in
      let has_tree = flat_tree accounts m f shows named in
      let es = f.files.entries in
      let same_tree = states_have_one_tree m.users s m.roots tree has_tree.tree is (tree_here accounts m f shows named) in
      let found = rows_found accounts f (are_tree accounts s f l) (few_bytes f shows.small) (root_is_dir accounts s f l) shows.shallow in
      (λ i. users_from (shows.users i) (starting (shows.users i)) [] (same_tree i))
      ∙ ap (λ start. users_from (without_passwords accounts) start [] has_tree.tree) (start_is accounts f)
      ∙ lines_alike accounts f s l.category has_tree.tree es has_tree.same has_tree.lines []
      ∙ ap (zipped accounts f es) found ∙ zipped_values accounts f es

  -- the text that is computed from a machine's tree is that of its table by users
  pub users_shown : IsUsersText m (users_text (users_from m.users (starting m.users) [] tree))
  users_shown accounts f shows named = ap users_text (lines_shown accounts f shows named)

  -- a table with the users and the lines that are computed shows the rights of the users
  pub users_table_shown : (t : UsersTable) → t.users.items ≡ map name_of (starting m.users)
      → by_path t.lines.items ≡ map users_rights (users_from m.users (starting m.users) [] tree) → ShowsUsersTable m t
  users_table_shown t users lines accounts f shows named = record {
    users = users ∙ (λ i. map name_of (starting (shows.users i))) ∙ ap (map name_of) (start_is accounts f)
        ∙ names_again (start accounts f) (somebody accounts);
    lines = lines ∙ ap (map users_rights) (lines_shown accounts f shows named);
  }
