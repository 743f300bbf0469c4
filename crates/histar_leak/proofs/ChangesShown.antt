-- The calls that are computed from a tree and from rights by numbers are those of the flat state.
use Rattle.std.specs.Prelude.{◌≡◌, ℕ, suc, ◌<◌, ◌≤◌, Bool, true, false, nat_lt, ◌&&◌, cond, List, [], ◌∷◌, ◌++◌, length, map, filter, codes}
use Rattle.std.specs.Prelude.{Option, None, Some, is_some, option_map, if◌then◌else◌, refl}
use Rattle.std.specs.List.{cons_option, filter_map}
use Rattle.std.proofs.Common.{ap, sym, ◌∙◌, inl, inr, arith, append-nil}
use Rattle.std.proofs.lemmas.Bool.{lt-ltb, true≢false}
use Rattle.histar_base.specs.Paths.{same, same_path}
use Rattle.histar_flat.specs.declared.calls.Mode.TheVariants as modes
use Rattle.histar_flat.specs.declared.calls.UnixCall.{UnixCall}
use Rattle.histar_flat.specs.declared.calls.UnixCall.TheVariants.{Mkdir, Rmtree, Write}
use Rattle.histar_flat.specs.Words.{Name, Path, ProcName, most_names}
use Rattle.histar_flat.specs.Accounts.{Accounts, Group}
use Rattle.histar_flat.specs.Files.{get}
use Rattle.histar_flat.specs.Classes.{Class as FlatClass, Process, may_write}
use Rattle.histar_flat.specs.FlatState.{Entry, Flat, Node, bytes_at, entries_in, entry_in, is_dir, is_dir_at, is_some_and, is_there, writes}
use Rattle.histar_flat.specs.FlatCalls.{most_entries}
use Rattle.histar_flat.proofs.FileLemmas.{same_path_found}
use Rattle.histar_object.specs.State.{State}
use Rattle.histar_layout.specs.Listing.{is_directory}
use Rattle.histar_refinement.specs.Categories.{Categories}
use Rattle.histar_readout.specs.declared.tree.TreeNode.{TreeNode}
use Rattle.histar_readout.specs.TreeEntries.{TreeEntry, flat_entry, tree_entry}
use Rattle.histar_secrecy.specs.Ways.{reaches, reads_all}
use Rattle.histar_secrecy.specs.Changers.{changes_at}
use Rattle.histar_secrecy.specs.declared.file_class.FileClass.{FileClass}
use Rattle.histar_secrecy.specs.ShownRoles.{AreNumbered, class_by_number, class_on, classes_on, flat_class, of_groups}
use Rattle.histar_secrecy.proofs.NumberedJobs.{named, writes_by_number}
use Rattle.histar_secrecy.proofs.ShownProcesses.{each_is}
use Rattle.histar_trust.specs.Findings.{node_at}
use Rattle.histar_trust.proofs.Places.{AreAlike, first_of_list, number_of, rest_of_list}
use Rattle.histar_leak.specs.declared.changes.Change.{Change}
use Rattle.histar_leak.specs.declared.changes.Change.TheVariants as changes
use Rattle.histar_leak.specs.ChangeCalls.{call_above, change_call, entry_call, made_name, other_bytes, own_call, way_call}
use Rattle.histar_leak.specs.Findings.{call_of, change_there, changes_above, changes_in, changes_to, entries_of, entry_change, first_change}
use Rattle.histar_leak.specs.Findings.{is_entry_of, make_in, other_write, way_change}

-- ---- entries

-- an entry of a directory as a path
abbrev pub below : Path → Entry → Path
below d e = e.0 ∷ d

abbrev path_of : TreeNode → Path
path_of node = node.path

mapped_node : (b : Bool) (node : TreeNode) (nodes : List TreeNode) → map path_of (let l : List TreeNode = if b then node ∷ nodes else nodes in l)
    ≡ (let l : List Path = if b then node.path ∷ map path_of nodes else map path_of nodes in l)
mapped_node true node nodes = refl
mapped_node false node nodes = refl

-- an entry or none, before others
one_entry : (b k : Bool) (p d : Path) (n : Name) (ps : List Path) (es : List Entry) → (b ≡ true → p ≡ n ∷ d) → ps ≡ map (below d) es
    → (let l : List Path = if b then p ∷ ps else ps in l) ≡ map (below d) (cons_option (cond b (Some (n, k)) None) es)
one_entry true k p d n ps es h rest = λ i. h refl i ∷ rest i
one_entry false k p d n ps es h rest = rest

-- two paths that are found the same are
same_paths : (d above : Path) → same_path d above ≡ true → d ≡ above
same_paths d above h = elim (same_path_found d above) [ inl t ↦ t.1 | inr t ↦ absurd (true≢false (sym h ∙ t.0)) ]

-- a node is an entry of a directory as the flat state has it
entry_or_not : (d : Path) (node : TreeNode) (q : Path) (there : Node) → node.path ≡ q → (ps : List Path) (es : List Entry) → ps ≡ map (below d) es
    → (let b : Bool = elim q [ [] ↦ false | n ∷ above ↦ same_path d above ] in let l : List Path = if b then node.path ∷ ps else ps in l)
    ≡ map (below d) (cons_option (entry_in d (q, there)) es)
entry_or_not d node [] there path ps es rest = rest
entry_or_not d node (n ∷ above) there path ps es rest =
    one_entry (same_path d above) (is_dir there) node.path d n ps es (λ h. path ∙ ap (λ (a : Path). n ∷ a) (sym (same_paths d above h))) rest

-- the paths of the entries of a directory
pub entries_listed : (s : State) (category : Categories) (d : Path) (tree : List TreeNode) (es : List (Path × Node))
    → map (tree_entry s) tree ≡ map (flat_entry category) es → entries_of d tree ≡ map (below d) (filter_map (entry_in d) es)
unfolding first_of_list rest_of_list
entries_listed s category d [] [] alike = refl
entries_listed s category d [] (e ∷ es) alike = absurd (cc)
entries_listed s category d (node ∷ tree) [] alike = absurd (cc)
entries_listed s category d (node ∷ tree) (e ∷ es) alike =
    let entry : tree_entry s node ≡ flat_entry category e = ap (first_of_list (tree_entry s node)) alike in
    let path : node.path ≡ e.0 = ap (λ (x : TreeEntry). x.path) entry in
    mapped_node (is_entry_of d node) node (filter (is_entry_of d) tree)
    ∙ (λ i. (let b : Bool = elim (path i) [ [] ↦ false | n ∷ above ↦ same_path d above ] in
    let l : List Path = if b then node.path ∷ entries_of d tree else entries_of d tree in l))
    ∙ entry_or_not d node e.0 e.1 path (entries_of d tree) (filter_map (entry_in d) es)
    (entries_listed s category d tree es (ap rest_of_list alike))

-- ---- calls by what is there

made_or_not : (b : Bool) (q : Path) → option_map call_of (let o : Option Change = if b then Some (changes.Mkdir q) else None in o)
    ≡ (let o : Option UnixCall = if b then Some (Mkdir q modes.Open) else None in o)
made_or_not true q = refl
made_or_not false q = refl

-- the call by an entry
entry_is : (es : List Entry) (d : Path) (name : Name) → option_map call_of (entry_change (map (below d) es) d name) ≡ entry_call es d name
entry_is [] d name = made_or_not (nat_lt (length d) most_names) (name ∷ d)
entry_is (e ∷ es) d name = refl

-- the call that writes other bytes
write_is : (q : Path) (bytes : List ℕ) → call_of (other_write q bytes) ≡ Write q (other_bytes bytes)
write_is q bytes = by (same bytes (codes "0"))
  where
    by : (b : Bool) → call_of (let c : Change = if b then changes.WriteOne q else changes.WriteZero q in c)
        ≡ Write q (let l : List ℕ = if b then codes "1" else codes "0" in l)
    by true = refl
    by false = refl

length_below : (d : Path) (es : List Entry) → length (map (below d) es) ≡ length es
length_below d [] = refl
length_below d (e ∷ es) = ap suc (length_below d es)

-- the first of the calls, by classes of the flat rules
abbrev pub first_by : List Group → Process → List FlatClass → List (Option Change) → Option Change
first_by groups p [] calls = None
first_by groups p (class ∷ above) [] = None
first_by groups p (class ∷ above) (c ∷ calls) =
    if is_some c && (may_write (of_groups groups) p class && reads_all (of_groups groups) above p) then c else first_by groups p above calls

pub first_mapped : (groups : List Group) (p : Process) (classes : List FileClass) (calls : List (Option Change))
    → first_change groups p classes calls ≡ first_by groups p (map flat_class classes) calls
first_mapped groups p [] calls = refl
first_mapped groups p (class ∷ above) [] = refl
first_mapped groups p (class ∷ above) (c ∷ calls) =
    ap (λ (o : Option Change). if is_some c && (may_write (of_groups groups) p (flat_class class)
    && reads_all (of_groups groups) (map flat_class above) p) then c else o) (first_mapped groups p above calls)

-- one of two calls, the second where there is no first one or where it is none of the process's
either : (w : Bool) (own rest : Option Change) → option_map call_of (let o : Option Change = if is_some own && w then own else rest in o)
    ≡ (let o : Option UnixCall = if w && is_some (option_map call_of own) then option_map call_of own else option_map call_of rest in o)
either true None rest = refl
either false None rest = refl
either true (Some c) rest = refl
either false (Some c) rest = refl

-- the same for a call by a directory
by_directory : (w dir : Bool) (way : Option Change) (rest : Option Change) → is_some (option_map call_of way) ≡ true
    → option_map call_of (let c : Option Change = if dir then way else None in let o : Option Change = if is_some c && w then c else rest in o)
    ≡ (let o : Option UnixCall = if w && dir then option_map call_of way else option_map call_of rest in o)
by_directory true true (Some c) rest h = refl
by_directory false true (Some c) rest h = refl
by_directory true false way rest h = refl
by_directory false false way rest h = refl
by_directory w true None rest h = absurd (true≢false (sym h))

and_true : (b : Bool) → (b && true) ≡ b
and_true true = refl
and_true false = refl

shorter : (k : ℕ) → suc k < most_names → k < most_names
shorter k h = omega (arith, h)

fits : (k : ℕ) → suc k ≤ most_names → k < most_names
fits k h = omega (arith, h)

module _ (accounts : Accounts) (f : Flat) where
  -- there is always a call by the entry on the way
  way_some : (n : Name) (d : Path) → is_some (way_call accounts f n d) ≡ true
  way_some n d = by (is_there f (n ∷ d)) (entries_in f d)
    where
      full : (b : Bool) (e : Entry) (es : List Entry)
          → is_some (let o : Option UnixCall = if b then Some (Mkdir (n ∷ d) modes.Open) else entry_call (e ∷ es) d n in o) ≡ true
      full true e es = refl
      full false e es = refl

      by : (there : Bool) (es : List Entry) → is_some (let o : Option UnixCall = if there then Some (Rmtree (n ∷ d)) else
          if nat_lt (length es) most_entries then Some (Mkdir (n ∷ d) modes.Open) else entry_call es d n in o) ≡ true
      by true es = refl
      by false [] = refl
      by false (e ∷ es) = full (nat_lt (length (e ∷ es)) most_entries) e es

  module _ (s : State) (category : Categories) (tree : List TreeNode) (alike : (q : Path) → AreAlike s category q (node_at q tree) (get f.files q))
      (listed : (d : Path) → entries_of d tree ≡ map (below d) (entries_in f d)) where
    listed_at : (d p : Path) → p ≡ d → entries_of p tree ≡ map (below d) (entries_in f d)
    listed_at d p e = ap (λ (r : Path). entries_of r tree) e ∙ listed d

    -- the call by the entry on the way
    way_is : (n : Name) (d p : Path) → p ≡ d → length d < most_names
        → option_map call_of (way_change (node_at (n ∷ d) tree) (entries_of p tree) p n) ≡ way_call accounts f n d
    way_is n d p e short =
        (λ i. option_map call_of (way_change (node_at (n ∷ d) tree) (listed_at d p e i) (e i) n))
        ∙ by (node_at (n ∷ d) tree) (get f.files (n ∷ d)) (alike (n ∷ d))
      where
        room : (b : Bool) (es : List Entry)
            → option_map call_of (let o : Option Change = if b then make_in d n else entry_change (map (below d) es) d n in o)
            ≡ (let o : Option UnixCall = if b then Some (Mkdir (n ∷ d) modes.Open) else entry_call es d n in o)
        room true es =
            made_or_not (nat_lt (length d) most_names) (n ∷ d)
            ∙ ap (λ b. (let o : Option UnixCall = if b then Some (Mkdir (n ∷ d) modes.Open) else None in o)) (lt-ltb (length d) most_names short)
        room false es = entry_is es d n

        by : (t : Option TreeNode) (o : Option Node) → AreAlike s category (n ∷ d) t o
            → option_map call_of (way_change t (map (below d) (entries_in f d)) d n)
            ≡ (let c : Option UnixCall = if is_some_and o (λ x. true) then Some (Rmtree (n ∷ d)) else
            if nat_lt (length (entries_in f d)) most_entries then Some (Mkdir (n ∷ d) modes.Open) else entry_call (entries_in f d) d n in c)
        by None None h =
            ap (λ k. option_map call_of (let o : Option Change = if nat_lt k most_entries then make_in d n
            else entry_change (map (below d) (entries_in f d)) d n in o)) (length_below d (entries_in f d))
            ∙ room (nat_lt (length (entries_in f d)) most_entries) (entries_in f d)
        by None (Some x) h = absurd h
        by (Some node) None h = absurd h
        by (Some node) (Some x) h = ap (λ (q : Path). Some (Rmtree q)) h.path

    -- the call by what is at a path
    own_is : (path : Path) (node : TreeNode) (there : Node) → AreAlike s category path (Some node) (Some there) → get f.files path ≡ Some there
        → option_map call_of (if is_directory node.target then entry_change (entries_of node.path tree) node.path made_name
        else Some (other_write node.path (bytes_at f path))) ≡ own_call accounts f path
    own_is path node there h at =
        (λ i. option_map call_of (let o : Option Change = if (h.kind ∙ sym (ap (λ o. is_some_and o is_dir) at)) i
        then entry_change (listed_at path node.path h.path i) (h.path i) made_name else Some (other_write (h.path i) (bytes_at f path)) in o))
        ∙ by (is_dir_at f path)
      where
        by : (b : Bool) → option_map call_of (let o : Option Change = if b then entry_change (map (below path) (entries_in f path)) path made_name
            else Some (other_write path (bytes_at f path)) in o)
            ≡ (let o : Option UnixCall = if b then entry_call (entries_in f path) path made_name
            else Some (Write path (other_bytes (bytes_at f path))) in o)
        by true = entry_is (entries_in f path) path made_name
        by false = ap (λ (c : UnixCall). Some c) (write_is path (bytes_at f path))

    module _ (one : AreNumbered (number_of category)) (p : Process) where
      abbrev number : ProcName → ℕ
      number = number_of category

      abbrev q : Process
      q = named number one p

      abbrev first : List FlatClass → List (Option Change) → Option Change
      first = first_by accounts.groups q

      -- where these are the calls by what is above a directory, and the process reaches that or not
      module _ (rest : List FlatClass) (calls : List (Option Change)) (reads : Bool)
          (all : reads_all (of_groups accounts.groups) rest q ≡ reads) where
        -- the first call by the directory, of which a name is the entry on the way, and by what is above
        step : (n : Name) (d : Path) → length d < most_names → (t : Option TreeNode) (o : Option Node) → AreAlike s category d t o
            → option_map call_of (first (class_on number o ++ rest) (changes_in tree t (node_at (n ∷ d) tree) n ++ calls))
            ≡ (let c : Option UnixCall = if (is_some_and o (λ x. may_write accounts p x.class) && reads) && is_some_and o is_dir
            then way_call accounts f n d else option_map call_of (first rest calls) in c)
        step n d short None None h = refl
        step n d short None (Some x) h = absurd h
        step n d short (Some node) None h = absurd h
        step n d short (Some node) (Some x) h =
            let way = way_change (node_at (n ∷ d) tree) (entries_of node.path tree) node.path n in
            let is = way_is n d node.path h.path short in
            by_directory (may_write (of_groups accounts.groups) q (class_by_number number x.class) && reads_all (of_groups accounts.groups) rest q)
            (is_directory node.target) way (first rest calls) (ap is_some is ∙ way_some n d)
            ∙ (λ i. (let c : Option UnixCall = if (writes_by_number number one accounts p x.class i && all i) && h.kind i then is i
            else option_map call_of (first rest calls) in c))

        -- the first call by what is at a path, and by what is above
        top : (path : Path) (t : Option TreeNode) (o : Option Node) → AreAlike s category path t o → get f.files path ≡ o
            → option_map call_of (first (class_on number o ++ rest) (change_there tree t (bytes_at f path) ++ calls))
            ≡ (let c : Option UnixCall = if (is_some_and o (λ x. may_write accounts p x.class) && reads) && is_some (own_call accounts f path)
            then own_call accounts f path else option_map call_of (first rest calls) in c)
        top path None None h at = refl
        top path None (Some x) h at = absurd h
        top path (Some node) None h at = absurd h
        top path (Some node) (Some x) h at =
            let own : Option Change = if is_directory node.target then entry_change (entries_of node.path tree) node.path made_name
            else Some (other_write node.path (bytes_at f path)) in
            let is = own_is path node x h at in
            either (may_write (of_groups accounts.groups) q (class_by_number number x.class) && reads_all (of_groups accounts.groups) rest q) own
            (first rest calls)
            ∙ (λ i. (let c : Option UnixCall = if (writes_by_number number one accounts p x.class i && all i) && is_some (is i) then is i
            else option_map call_of (first rest calls) in c))

      -- the first call by what is above a path
      above_is : (n : Name) (d : Path) → length d < most_names
          → option_map call_of (first (classes_on number f d) (changes_above tree (n ∷ d))) ≡ call_above accounts f p (n ∷ d)
      above_is n [] short =
          ap (λ (l : List FlatClass). option_map call_of (first l (changes_above tree (n ∷ []))))
          (sym (append-nil (class_on number (get f.files []))))
          ∙ step [] [] true refl n [] short (node_at [] tree) (get f.files []) (alike [])
          ∙ ap (λ b. (let c : Option UnixCall = if b && is_dir_at f [] then way_call accounts f n [] else None in c))
          (and_true (writes accounts f p []))
      above_is n (k ∷ d) short =
          step (classes_on number f d) (changes_above tree (k ∷ d)) (reaches accounts f p d) (each_is number one accounts f p d) n (k ∷ d) short
          (node_at (k ∷ d) tree) (get f.files (k ∷ d)) (alike (k ∷ d))
          ∙ ap (λ (o : Option UnixCall). (let c : Option UnixCall = if changes_at accounts f p (k ∷ d) && is_dir_at f (k ∷ d)
          then way_call accounts f n (k ∷ d) else o in c)) (above_is k d (shorter (length d) short))

      -- The first call by what is at a path and by what is above is the one by which the process changes what is at the path.
      pub change_is : (path : Path) → length path ≤ most_names
          → option_map call_of (first (classes_on number f path) (changes_to tree path (bytes_at f path))) ≡ change_call accounts f path p
      change_is [] short =
          ap (λ (l : List FlatClass). option_map call_of (first l (changes_to tree [] (bytes_at f []))))
          (sym (append-nil (class_on number (get f.files []))))
          ∙ top [] [] true refl [] (node_at [] tree) (get f.files []) (alike []) refl
          ∙ ap (λ b. (let c : Option UnixCall = if b && is_some (own_call accounts f []) then own_call accounts f [] else None in c))
          (and_true (writes accounts f p []))
      change_is (n ∷ d) short =
          top (classes_on number f d) (changes_above tree (n ∷ d)) (reaches accounts f p d) (each_is number one accounts f p d) (n ∷ d)
          (node_at (n ∷ d) tree) (get f.files (n ∷ d)) (alike (n ∷ d)) refl
          ∙ ap (λ (o : Option UnixCall). (let c : Option UnixCall = if changes_at accounts f p (n ∷ d) && is_some (own_call accounts f (n ∷ d))
          then own_call accounts f (n ∷ d) else o in c)) (above_is n d (fits (length d) short))
