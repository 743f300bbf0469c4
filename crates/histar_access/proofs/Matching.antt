-- What labels allow at the nodes of a tree is what the flat rules allow.
use Rattle.std.specs.Prelude.{◌≡◌, ℕ, zero, suc, T, List, [], ◌∷◌, ◌++◌, map, None, Some}
use Rattle.std.proofs.Common.{ap, sym, ◌∙◌, subst}
use Rattle.std.proofs.lemmas.Option.{none-some, same_Some}
use Rattle.std.specs.FinMap as maps
use Rattle.std.specs.FinMap.{find, is_sorted}
use Rattle.std.specs.FinMap.Entries.{below_all}
use Rattle.histar_flat.specs.Words.{Name, Path}
use Rattle.histar_base.specs.Paths.{path_cmp}
use Rattle.histar_base.proofs.PathLaws.{path_cmp_total, path_cmp_exact}
use Rattle.histar_level.specs.Levels.{Levels}
use Rattle.histar_flat.specs.Accounts.{Accounts}
use Rattle.histar_flat.specs.Files.{get}
use Rattle.histar_flat.specs.Classes.{may_read, may_write}
use Rattle.histar_flat.specs.FlatState.{Flat, Node}
use Rattle.histar_flat.proofs.Finding.{first, second, find_first, find_later}
use Rattle.histar_object.specs.declared.objects.Kind.{Kind}
use Rattle.histar_object.specs.Objects.{label_there}
use Rattle.histar_object.specs.State.{State, Found, observes, modifies}
use Rattle.histar_layout.specs.ClassLabels.{IsClassLabel, class_label}
use Rattle.histar_layout.specs.declared.entry.Target.{Target}
use Rattle.histar_layout.specs.declared.entry.Target.TheVariants.{File, Directory}
use Rattle.histar_layout.specs.Listing.{object_of}
use Rattle.histar_refinement.specs.Guards.{Guard, guard_label}
use Rattle.histar_refinement.specs.NumberedClasses.{numbered_class}
use Rattle.histar_refinement.specs.Labels.{class_guard}
use Rattle.histar_refinement.specs.Represents.{ObjectsMatch}
use Rattle.histar_refinement.specs.Accounts.{AreAccounts}
use Rattle.histar_refinement.specs.Agrees.{bare, kind_bare}
use Rattle.histar_refinement.proofs.ClassFound.{label_of_class}
use Rattle.histar_refinement.proofs.ClassLaws.{observes_guarded, modifies_guarded}
use Rattle.histar_refinement.proofs.Agreeing.{guard_at}
use Rattle.histar_readout.specs.declared.tree.TreeNode.{TreeNode}
use Rattle.histar_readout.specs.Tree.{AreListed, IsBelow, IsNodeAt, IsTreeAt, Listed}
use Rattle.histar_readout.specs.TreeEntries.{TreeEntry, flat_entry, tree_entry}
use Rattle.histar_readout.specs.TreeLines.{TreeLine, flat_line, line_at, node_stat}
use Rattle.histar_cells.proofs.Visiting.{Visitor}

-- ---- the labels of the nodes of a tree

module _ (accounts : Accounts) (s : State) where
  -- the object of a node has a label, which is of the node's class
  pub record IsLabelled (node : TreeNode) : Type 0 where
    pub label : Levels
    pub is : label_there (s.objects (object_of node.target)) ≡ Some label
    pub of_class : IsClassLabel accounts node.class label

  -- each object of these nodes has such a label
  abbrev pub AreLabelled : List TreeNode → Type 0
  AreLabelled [] = Unit {0}
  AreLabelled (node ∷ tree) = IsLabelled node × AreLabelled tree

  both_labelled : (a b : List TreeNode) → AreLabelled a → AreLabelled b → AreLabelled (a ++ b)
  both_labelled [] b h k = k
  both_labelled (node ∷ a) b h k = (h.0, both_labelled a b h.1 k)

  node_labelled : (q : Path) (target : Target) (node : TreeNode) → IsNodeAt accounts s q target node → IsLabelled node
  node_labelled q target node is = record {
    label = is.label;
    is = ap (λ (t : Target). label_there (s.objects (object_of t))) is.target_is
        ∙ is.label_is;
    of_class = is.of_class;
  }

  abbrev pub AllLabelled : Listed → Type 0
  AllLabelled is_tree = (q : Path) (target : Target) (tree : List TreeNode) → is_tree q target tree → AreLabelled tree

  listed_labelled : (is_tree : Listed) → AllLabelled is_tree → (d : Path) (entries : List (Name × Target)) (trees : List TreeNode)
      → AreListed is_tree d entries trees → AreLabelled trees
  listed_labelled is_tree each d [] trees is = subst AreLabelled (sym is) tt
  listed_labelled is_tree each d (e ∷ entries) trees is =
      subst AreLabelled (sym is.4) (both_labelled is.0 is.1 (each (e.0 ∷ d) e.1 is.0 is.2) (listed_labelled is_tree each d entries is.1 is.3))

  below_labelled : (is_tree : Listed) → AllLabelled is_tree → (q : Path) (target : Target) (trees : List TreeNode)
      → IsBelow is_tree s q target trees → AreLabelled trees
  below_labelled is_tree each q (File file) trees is = subst AreLabelled (sym is) tt
  below_labelled is_tree each q (Directory container listing) trees is = listed_labelled is_tree each q (maps.entries is.0) trees is.2

  pub tree_labelled : (levels : ℕ) → AllLabelled (IsTreeAt levels accounts s)
  tree_labelled zero q target tree is = absurd is
  tree_labelled (suc levels) q target tree is =
      subst AreLabelled (sym is.4)
      (node_labelled q target is.0 is.2, below_labelled (IsTreeAt levels accounts s) (tree_labelled levels) q target is.1 is.3)

-- an object with a label
with_label : (o : Found) (label : Levels) → label_there o ≡ Some label
    → (kind : Kind Levels) × (bare o ≡ Some (record { label = label; kind = kind }))
with_label None label e = absurd (none-some label e)
with_label (Some o) label e =
    (kind_bare o.kind, ap (λ (k : Levels). Some (record { label = k; kind = kind_bare o.kind })) (same_Some o.label label e))

module _ (accounts : Accounts) (s : State) (f : Flat) (l : ObjectsMatch accounts s f) (ok : AreAccounts accounts) where
  -- a node of the tree matches the node of the flat state: `stat` shows the same, and labels allow each process what the flat rules do
  pub record IsMatch (node : TreeNode) (e : Path × Node) : Type 0 where
    pub path : node.path ≡ e.0
    pub stat : node_stat node ≡ (flat_line e).stat
    pub observed : (v : Visitor accounts s f l)
        → observes (s.objects v.thread) (s.objects (object_of node.target)) ≡ may_read accounts v.process e.1.class
    pub modified : (v : Visitor accounts s f l)
        → modifies (s.objects v.thread) (s.objects (object_of node.target)) ≡ may_write accounts v.process e.1.class

  -- the nodes match one by one
  abbrev pub AreMatched : List TreeNode → List (Path × Node) → Type 0
  AreMatched [] [] = Unit {0}
  AreMatched [] (e ∷ es) = ⊥
  AreMatched (node ∷ tree) [] = ⊥
  AreMatched (node ∷ tree) (e ∷ es) = IsMatch node e × AreMatched tree es

  -- the label of a node is that of the class in the flat state
  labelled_so : (node : TreeNode) (q : Path) (there : Node) (at : get f.files q ≡ Some there) → node.class ≡ numbered_class l.category there.class
      → IsLabelled accounts s node
      → (g : Guard) × (class_guard accounts there.class ≡ Some g)
      × (label_there (s.objects (object_of node.target)) ≡ Some (guard_label l.category g))
  labelled_so node q there at class labelled =
      let g = guard_at accounts s f l q there at in
      let same = sym labelled.of_class.is ∙ ap (class_label accounts) class ∙ (label_of_class accounts s f l q there at g.0 g.1).is in
      (g.0, g.1, labelled.is ∙ same)

  one_match : (node : TreeNode) (e : Path × Node) → get f.files e.0 ≡ Some e.1 → IsLabelled accounts s node
      → tree_entry s node ≡ flat_entry l.category e → line_at s node ≡ flat_line e → IsMatch node e
  one_match node e at labelled entry line =
      let so = labelled_so node e.0 e.1 at (ap (λ (t : TreeEntry). t.class) entry) labelled in
      let object = with_label (s.objects (object_of node.target)) (guard_label l.category so.0) so.2 in
      record {
        path = ap (λ (t : TreeLine). t.path) line;
        stat = ap (λ (t : TreeLine). t.stat) line;
        observed = λ v. observes_guarded accounts s f l ok v.name v.process v.runs.0 v.runs.1 v.thread v.runs.2 e.1.class so.0 so.1
            (object_of node.target) object.0 object.1;
        modified = λ v. modifies_guarded accounts s f l ok v.name v.process v.runs.0 v.runs.1 v.thread v.runs.2 e.1.class so.0 so.1
            (object_of node.target) object.0 object.1;
      }

  all_match : (tree : List TreeNode) (es : List (Path × Node)) → T (is_sorted path_cmp es)
      → ((r : Path) (x : Node) → find path_cmp r es ≡ Some x → get f.files r ≡ Some x)
      → AreLabelled accounts s tree → map (tree_entry s) tree ≡ map (flat_entry l.category) es → map
      (line_at s) tree ≡ map flat_line es → AreMatched tree es
  all_match [] [] sorted lead labelled entries lines = tt
  all_match [] (e ∷ es) sorted lead labelled entries lines = absurd (cc)
  all_match (node ∷ tree) [] sorted lead labelled entries lines = absurd (cc)
  all_match (node ∷ tree) (e ∷ es) sorted lead labelled entries lines = (
    one_match node e (lead e.0 e.1 (find_first path_cmp_total path_cmp_exact e.0 e.1 es)) labelled.0 (ap (first_entry (tree_entry s node)) entries)
        (ap (first_line (line_at s node)) lines),
    all_match tree es (second (below_all path_cmp e.0 es) _ sorted)
        (λ r x is. lead r x (find_later path_cmp_total path_cmp_exact e.0 e.1 es r x (first (below_all path_cmp e.0 es) _ sorted) is))
        labelled.1 (ap rest_entries entries) (ap rest_lines lines),
  )
    where
      first_entry : TreeEntry → List TreeEntry → TreeEntry
      first_entry x [] = x
      first_entry x (y ∷ ys) = y

      first_line : TreeLine → List TreeLine → TreeLine
      first_line x [] = x
      first_line x (y ∷ ys) = y

      rest_entries : List TreeEntry → List TreeEntry
      rest_entries [] = []
      rest_entries (y ∷ ys) = ys

      rest_lines : List TreeLine → List TreeLine
      rest_lines [] = []
      rest_lines (y ∷ ys) = ys

  -- a tree that shows the nodes of the flat state matches them
  pub tree_matched : (tree : List TreeNode) → AreLabelled accounts s tree → map (tree_entry s) tree ≡ map (flat_entry l.category) f.files.entries
      → map (line_at s) tree ≡ map flat_line f.files.entries
      → AreMatched tree f.files.entries
  tree_matched tree labelled entries lines = all_match tree f.files.entries f.files.sorted (λ r x is. is) labelled entries lines
