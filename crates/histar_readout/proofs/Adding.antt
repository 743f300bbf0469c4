-- Adding the trees of a directory, entry by entry.
use Rattle.std.proofs.Common.{◌≡◌, ℕ, ◌-◌, ◌≤◌, ◌≢◌, List, [], ◌∷◌, ◌++◌, length, Option, Some, Result, Ok, Err, refl, sym, ap, subst, ◌∙◌}
use Rattle.std.proofs.Common.{arith, append-nil, append_assoc}
use Rattle.std.specs.Result.{IsErrAnd}
use Rattle.std.proofs.lemmas.Result.{err_from_is_err_and}
use Rattle.std.specs.FinMap as map
use Rattle.histar_flat.specs.Words.{Name, Path, most_names}
use Rattle.histar_flat.specs.Accounts.{Accounts}
use Rattle.histar_syscall.specs.KernelModel.{lent_bytes}
use Rattle.histar_object.specs.State.{State}
use Rattle.histar_layout.specs.Directory.{Entries, IsDirectory, ReadsDirectory}
use Rattle.histar_layout.specs.declared.entry.Target.{Target}
use Rattle.histar_layout.specs.declared.entry.Target.TheVariants.{Directory}
use Rattle.histar_layout.proofs.DirectoryLemmas.{same_directory}
use Rattle.histar_readout.specs.declared.tree.TreeNode.{TreeNode}
use Rattle.histar_readout.specs.declared.tree.TreeError.{TreeError}
use Rattle.histar_readout.specs.declared.tree.TreeError.TheVariants.{NotATree, OutOfMemory}
use Rattle.histar_programs.specs.declared.roots.Roots.{Roots}
use Rattle.histar_readout.specs.Tree.{IsTreeOf, HasNoTree, Listed, AreListed, IsNodeAt, IsTreeAt, levels_at, AddsTree, AddsBelow, FindsNode}

-- some of the entries of a directory are left, and the trees of those before them were added
pub record AddsFirst (is_tree : Listed) (d : Path) (entries left : List (Name × Target)) (old new : List TreeNode) : Type 0 where
  pub first : List (Name × Target)
  pub trees : List TreeNode
  pub parts : first ++ left ≡ entries
  pub listed : AreListed is_tree d first trees
  pub added : new ≡ old ++ trees

module _ (is_tree : Listed) (d : Path) where
  -- one more entry, after the others, is listed
  listed_more : (first : List (Name × Target)) (e : Name × Target) (trees tree : List TreeNode)
      → AreListed is_tree d first trees → is_tree (e.0 ∷ d) e.1 tree
      → AreListed is_tree d (first ++ e ∷ []) (trees ++ tree)
  listed_more [] e trees tree none is = (tree, [], is, refl, ap (λ (l : List TreeNode). l ++ tree) none ∙ sym (append-nil tree))
  listed_more (x ∷ first) e trees tree some is = (
    some.0,
    some.1 ++ tree,
    some.2,
    listed_more first e some.1 tree some.3 is,
    ap (λ (l : List TreeNode). l ++ tree) some.4 ∙ append_assoc some.0 some.1 tree,
  )

  -- where an entry has no tree, the entries from it on have none
  none_listed : (first rest : List (Name × Target)) (e : Name × Target)
      → ((tree : List TreeNode) → is_tree (e.0 ∷ d) e.1 tree → ⊥) → (trees : List TreeNode)
      → AreListed is_tree d (first ++ e ∷ rest) trees → ⊥
  none_listed [] rest e none trees some = none some.0 some.2
  none_listed (x ∷ first) rest e none trees some = none_listed first rest e none some.1 some.3

  -- before the first entry no tree was added
  pub adds_none : (entries left : List (Name × Target)) (old : List TreeNode) → left ≡ entries → AddsFirst is_tree d entries left old old
  adds_none entries left old same = record { first = []; trees = []; parts = same; listed = refl; added = sym (append-nil old) }

  -- the tree of the next entry is added
  pub adds_next : (entries left rest : List (Name × Target)) (e : Name × Target) (old mid new : List TreeNode)
      → left ≡ e ∷ rest → AddsFirst is_tree d entries left old mid → (tree : List TreeNode) → is_tree (e.0 ∷ d) e.1 tree
      → new ≡ mid ++ tree → AddsFirst is_tree d entries rest old new
  adds_next entries left rest e old mid new turn so_far tree is grown = record {
    first = so_far.first ++ e ∷ [];
    trees = so_far.trees ++ tree;
    parts = append_assoc so_far.first (e ∷ []) rest ∙ ap (λ (l : List (Name × Target)). so_far.first ++ l) (sym turn) ∙ so_far.parts;
    listed = listed_more so_far.first e so_far.trees tree so_far.listed is;
    added = grown ∙ ap (λ (l : List TreeNode). l ++ tree) so_far.added ∙ append_assoc old so_far.trees tree;
  }

  -- after the last entry all trees were added
  pub adds_all : (entries left : List (Name × Target)) (old new : List TreeNode) → left ≡ []
      → AddsFirst is_tree d entries left old new
      → (trees : List TreeNode) × AreListed is_tree d entries trees × (new ≡ old ++ trees)
  adds_all entries left old new none so_far = (
    so_far.trees,
    subst (λ (es : List (Name × Target)). AreListed is_tree d es so_far.trees)
        (sym (append-nil so_far.first) ∙ ap (λ (l : List (Name × Target)). so_far.first ++ l) (sym none) ∙ so_far.parts)
        so_far.listed,
    so_far.added,
  )

  -- where the next entry has no tree, the directory has none
  pub adds_no_more : (entries left rest : List (Name × Target)) (e : Name × Target) (old new : List TreeNode)
      → left ≡ e ∷ rest → AddsFirst is_tree d entries left old new
      → ((tree : List TreeNode) → is_tree (e.0 ∷ d) e.1 tree → ⊥) → (trees : List TreeNode)
      → AreListed is_tree d entries trees → ⊥
  adds_no_more entries left rest e old new turn so_far none trees some =
      none_listed so_far.first rest e none trees
      (subst (λ (es : List (Name × Target)). AreListed is_tree d es trees)
      (sym so_far.parts ∙ ap (λ (l : List (Name × Target)). so_far.first ++ l) turn) some)

-- bytes that were read as a directory are this directory
pub read_as : (bytes read : List ℕ) (o : Option Entries) (dir : Entries) → read ≡ bytes → o ≡ Some dir → ReadsDirectory read o → IsDirectory bytes dir
read_as bytes read o dir same is h = subst (λ (b : List ℕ). IsDirectory b dir) same (subst (ReadsDirectory read) is h)

module _ (accounts : Accounts) (s : State) where
  -- the trees of the entries of a directory
  abbrev pub below_at : Path → Listed
  below_at d = IsTreeAt (most_names - length d) accounts s

  -- an entry of a directory that may have entries has a path that can be named
  levels_below : (d : Path) (n : Name) → length d ≤ most_names → length d ≢ most_names → levels_at (n ∷ d) ≡ most_names - length d
  levels_below d n fits inner = omega (arith, fits, inner)

  -- so its tree is one of the directory's
  pub tree_below : (d : Path) (n : Name) (target : Target) (tree : List TreeNode) → length d ≤ most_names
      → length d ≢ most_names → IsTreeAt (levels_at (n ∷ d)) accounts s (n ∷ d) target tree
      → below_at d (n ∷ d) target tree
  tree_below d n target tree fits inner is = subst (λ (levels : ℕ). IsTreeAt levels accounts s (n ∷ d) target tree) (levels_below d n fits inner) is

  -- and where it has none, it has none in the directory
  pub no_tree_below : (d : Path) (n : Name) (target : Target) → length d ≤ most_names → length d ≢ most_names
      → ((tree : List TreeNode) → IsTreeAt (levels_at (n ∷ d)) accounts s (n ∷ d) target tree → ⊥)
      → (tree : List TreeNode) → below_at d (n ∷ d) target tree → ⊥
  no_tree_below d n target fits inner none tree is =
      none tree
      (subst (λ (levels : ℕ). IsTreeAt levels accounts s (n ∷ d) target tree) (sym (levels_below d n fits inner))
      is)

  -- at the last level no entry has a tree
  pub none_below : (d : Path) (n : Name) (target : Target) → length d ≡ most_names → (tree : List TreeNode) → below_at d (n ∷ d) target tree → ⊥
  none_below d n target last tree is =
      let no_level : most_names - length d ≡ 0 = omega (arith, last) in
      subst (λ (levels : ℕ). IsTreeAt levels accounts s (n ∷ d) target tree) no_level is

  -- where the entries of a directory have no trees, nothing can be added below it
  pub not_below : (d : Path) (listing : ℕ) (dir : Entries) → IsDirectory (lent_bytes s listing) dir
      → ((trees : List TreeNode) → AreListed (below_at d) d (map.entries dir) trees → ⊥)
      → (trees : List TreeNode)
      → (other : Entries) × IsDirectory (lent_bytes s listing) other
      × AreListed (below_at d) d (map.entries other) trees → ⊥
  not_below d listing dir is none trees some =
      none trees (subst (λ (x : Entries). AreListed (below_at d) d (map.entries x) trees)
      (same_directory (lent_bytes s listing) some.0 dir some.1 is) some.2)

  -- some entries of the directory in a segment are left, and the trees of those before them were added
  abbrev pub AddsEntries : Path → ℕ → List (Name × Target) → List TreeNode → List TreeNode → Type 0
  AddsEntries d listing left old new =
      (dir : Entries) × IsDirectory (lent_bytes s listing) dir
      × AddsFirst (below_at d) d (map.entries dir) left old new

  -- where the next entry has no tree, nothing can be added
  pub no_entry_more : (d : Path) (listing : ℕ) (left rest : List (Name × Target)) (e : Name × Target)
      (old mid new : List TreeNode) (error : TreeError) → left ≡ e ∷ rest → AddsEntries d listing left old mid
      → length d ≤ most_names → length d ≢ most_names
      → AddsTree accounts s (e.0 ∷ d) e.1 mid new (Err error) → AddsBelow accounts s d listing old new (Err error)
  no_entry_more d listing left rest e old mid new NotATree turn so_far fits inner none =
      not_below d listing so_far.0 so_far.1 (adds_no_more (below_at d) d (map.entries so_far.0) left rest e old mid turn so_far.2
      (no_tree_below d e.0 e.1 fits inner none))
  no_entry_more d listing left rest e old mid new OutOfMemory turn so_far fits inner none = tt

  -- and the addition fails with this error
  pub fails_below : (d : Path) (listing : ℕ) (old new : List TreeNode) (error : TreeError)
      (result : Result (Unit {0}) TreeError) → IsErrAnd result (λ e. e ≡ error)
      → AddsBelow accounts s d listing old new (Err error) → AddsBelow accounts s d listing old new result
  fails_below d listing old new error result gave fails =
      let given = err_from_is_err_and result gave in
      subst (AddsBelow accounts s d listing old new) (sym (given.1 ∙ ap Err given.2)) fails

  -- nor can anything be added at the last level
  pub no_level_more : (d : Path) (listing : ℕ) (left rest : List (Name × Target)) (e : Name × Target)
      (old new : List TreeNode) → left ≡ e ∷ rest → AddsEntries d listing left old new → length d ≡ most_names
      → AddsBelow accounts s d listing old new (Err NotATree)
  no_level_more d listing left rest e old new turn so_far last =
      not_below d listing so_far.0 so_far.1 (adds_no_more (below_at d) d (map.entries so_far.0) left rest e old new turn so_far.2
      (none_below d e.0 e.1 last))

  -- the tree of the next entry is added
  pub entry_more : (d : Path) (listing : ℕ) (left rest : List (Name × Target)) (e : Name × Target)
      (old mid new : List TreeNode) → left ≡ e ∷ rest → AddsEntries d listing left old mid → length d ≤ most_names
      → length d ≢ most_names
      → AddsTree accounts s (e.0 ∷ d) e.1 mid new (Ok tt) → AddsEntries d listing rest old new
  entry_more d listing left rest e old mid new turn so_far fits inner one = (
    so_far.0,
    so_far.1,
    adds_next (below_at d) d (map.entries so_far.0) left rest e old mid new turn so_far.2 one.0
        (tree_below d e.0 e.1 one.0 fits inner one.1) one.2,
  )

  -- after the last entry all trees were added
  pub entries_all : (d : Path) (listing : ℕ) (left : List (Name × Target)) (old new : List TreeNode) → left ≡ []
      → AddsEntries d listing left old new → AddsBelow accounts s d listing old new (Ok tt)
  entries_all d listing left old new none so_far =
      let all = adds_all (below_at d) d (map.entries so_far.0) left old new none so_far.2 in
      (all.0, (so_far.0, so_far.1, all.1), all.2)

  -- where no node is at a path, no tree is added there
  no_tree_at : (q : Path) (target : Target) (old new : List TreeNode) (error : TreeError)
      → FindsNode accounts s q target (Err error) → AddsTree accounts s q target old new (Err error)
  no_tree_at q target old new NotATree none = λ tree is. none is.0 is.2
  no_tree_at q target old new OutOfMemory none = tt

  pub no_node : (q : Path) (target : Target) (old new : List TreeNode) (error : TreeError)
      (result : Result (Unit {0}) TreeError) → IsErrAnd result (λ e. e ≡ error)
      → FindsNode accounts s q target (Err error) → AddsTree accounts s q target old new result
  no_node q target old new error result gave none =
      let given = err_from_is_err_and result gave in
      subst (AddsTree accounts s q target old new) (sym (given.1 ∙ ap Err given.2)) (no_tree_at q target old new error none)

  -- the tree of a directory is its node and the trees that were added below it
  directory_added : (q : Path) (container listing : ℕ) (node : TreeNode) (old mid new : List TreeNode)
      (result : Result (Unit {0}) TreeError) → IsNodeAt accounts s q (Directory container listing) node
      → mid ≡ old ++ node ∷ [] → AddsBelow accounts s q listing mid new result
      → AddsTree accounts s q (Directory container listing) old new result
  directory_added q container listing node old mid new (Ok done) at first below = (
    node ∷ below.0,
    (node, below.0, at, below.1, refl),
    below.2 ∙ ap (λ (l : List TreeNode). l ++ below.0) first
        ∙ append_assoc old (node ∷ []) below.0,
  )
  directory_added q container listing node old mid new (Err NotATree) at first none = λ tree is. none is.1 is.3
  directory_added q container listing node old mid new (Err OutOfMemory) at first below = tt

  pub adds_directory : (q : Path) (target : Target) (container listing : ℕ) → target ≡ Directory container listing
      → (node : TreeNode) → IsNodeAt accounts s q target node
      → (old mid new : List TreeNode) (result : Result (Unit {0}) TreeError) → mid ≡ old ++ node ∷ []
      → AddsBelow accounts s q listing mid new result → AddsTree accounts s q target old new result
  adds_directory q target container listing same node at old mid new result first below =
      subst (λ (t : Target). AddsTree accounts s q t old new result) (sym same)
      (directory_added q container listing node old mid new result (subst (λ (t : Target). IsNodeAt accounts s q t node) same at) first below)

  module _ (roots : Roots) (q : Path) (root : q ≡ []) (old new : List TreeNode) (result : Result (Unit {0}) TreeError)
      (added : AddsTree accounts s q (Directory roots.slash.container roots.slash.listing) old new result) where
    at_root : (r : Result (Unit {0}) TreeError) → result ≡ r → AddsTree accounts s [] (Directory roots.slash.container roots.slash.listing) old new r
    at_root r is =
        subst (AddsTree accounts s [] (Directory roots.slash.container roots.slash.listing) old new) is
        (subst (λ (p : Path). AddsTree accounts s p (Directory roots.slash.container roots.slash.listing) old new result) root added)

    -- the tree at `/` is the tree of the state
    pub tree_added : (done : Unit {0}) → result ≡ Ok done → old ≡ [] → IsTreeOf accounts s roots new
    unfolding IsTreeOf
    tree_added done is none =
        let at = at_root (Ok done) is in
        subst (IsTreeAt (levels_at []) accounts s [] (Directory roots.slash.container roots.slash.listing))
        (sym (at.2 ∙ ap (λ (l : List TreeNode). l ++ at.0) none)) at.1

    -- where there is no tree at `/`, the state has none
    pub no_tree_added : (error : TreeError) → result ≡ Err error → error ≡ NotATree → HasNoTree accounts s roots
    unfolding IsTreeOf
    no_tree_added error is said = at_root (Err NotATree) (is ∙ ap Err said)
