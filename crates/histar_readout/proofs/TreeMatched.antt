-- A state that represents a flat state has its tree.
use Rattle.std.specs.Prelude.{◌≡◌, ℕ, zero, suc, ◌+◌, ◌<◌, Bool, true, false, cond, T, List, [], ◌∷◌, ◌++◌, length, map, Option, Some, None}
use Rattle.std.specs.Prelude.{option_map, refl}
use Rattle.std.specs.List.{filter_map, cons_option, flat_map}
use Rattle.std.proofs.Common.{arith, ap, inl, inr, sym, ◌∙◌, subst}
use Rattle.std.proofs.lemmas.Bool.{true≢false}
use Rattle.std.proofs.lemmas.List.{map-append}
use Rattle.std.proofs.lemmas.Option.{none-some, same_Some}
use Rattle.std.specs.FinMap.{find, is_sorted}
use Rattle.std.specs.FinMap.Entries.{below_all}
use Rattle.histar_flat.specs.Words.{Name, Path, most_names}
use Rattle.histar_base.specs.Paths.{path_cmp}
use Rattle.histar_base.proofs.PathLaws.{path_cmp_total, path_cmp_exact}
use Rattle.histar_flat.specs.Accounts.{Accounts}
use Rattle.histar_flat.specs.Files.{get}
use Rattle.histar_flat.specs.Classes.{Class}
use Rattle.histar_flat.specs.FlatState.{Flat, Node, Content, IsTree, is_some_and, is_dir, bytes_of}
use Rattle.histar_flat.specs.FlatState.Content.{Dir, File}
use Rattle.histar_flat.proofs.FileLemmas.{same_path_found}
use Rattle.histar_flat.proofs.Finding.{first, second, find_first, find_later}
use Rattle.histar_object.specs.Objects.{bytes_in}
use Rattle.histar_syscall.specs.KernelModel.{lent_bytes}
use Rattle.histar_object.specs.State.{State}
use Rattle.histar_layout.specs.Listing.{object_of}
use Rattle.histar_layout.specs.declared.entry.Target.{Target}
use Rattle.histar_layout.specs.declared.entry.Target.TheVariants as targets
use Rattle.histar_layout.proofs.MapLemmas.{sorted_made}
use Rattle.histar_layout.specs.ShownClass.{stat_of}
use Rattle.histar_layout.specs.ClassLabels.{without_jobs}
use Rattle.histar_refinement.specs.Addresses.{address_of, slash_number, slash_listing_number}
use Rattle.histar_refinement.specs.Addresses.Step.{Slash, Listing}
use Rattle.histar_refinement.specs.Directories.{both_numbers, target_for, target_in, directory_of}
use Rattle.histar_refinement.specs.Represents.{ObjectsMatch}
use Rattle.histar_refinement.specs.Categories.{Categories}
use Rattle.histar_refinement.specs.Guards.{guard_label}
use Rattle.histar_refinement.specs.NumberedClasses.{numbered_class}
use Rattle.histar_refinement.proofs.ClassFound.{label_of_class, same_owner, same_mode}
use Rattle.histar_refinement.proofs.DirectoryLaws.{sorted_listed}
use Rattle.histar_refinement.proofs.FileLabels.{label_at}
use Rattle.histar_refinement.proofs.Lent.{shows_directory, lent_entry}
use Rattle.histar_refinement.proofs.Making.{entry_leads}
use Rattle.histar_refinement.proofs.Agreeing.{some_unless_none, guard_at, file_found, root_is_dir, parent_is_dir}
use Rattle.histar_readout.specs.declared.tree.TreeNode.{TreeNode}
use Rattle.histar_readout.specs.Tree.{IsTreeOf, IsNodeAt, AreListed, IsTreeAt}
use Rattle.histar_readout.specs.TreeEntries.{TreeEntry, tree_entry, flat_entry}
use Rattle.histar_readout.specs.TreeLines.{TreeLine, flat_line, line_at, lines_at}
use Rattle.histar_readout.specs.FlatTree.{nodes_in, walked}
use Rattle.histar_readout.specs.Laws.{AreShallow, FlatStatesHaveTheirTrees}
use Rattle.histar_readout.proofs.FlatTree.{walks_meet_all}

-- the target of a directory consists of its two numbers
pub led_to_directory : (x y : Option ℕ) (target : Target) → both_numbers x y ≡ Some target
    → (c : ℕ) × (g : ℕ) × (targets.Directory c g ≡ target) × (x ≡ Some c) × (y ≡ Some g)
led_to_directory None y target e = absurd (none-some target e)
led_to_directory (Some c) None target e = absurd (none-some target e)
led_to_directory (Some c) (Some g) target e = (c, g, same_Some (targets.Directory c g) target e, refl, refl)

-- the target of a file is its number
pub led_to_file : (x : Option ℕ) (target : Target) → option_map targets.File x ≡ Some target → (o : ℕ) × (targets.File o ≡ target) × (x ≡ Some o)
led_to_file None target e = absurd (none-some target e)
led_to_file (Some o) target e = (o, same_Some (targets.File o) target e, refl)

-- where a test says so, a node is there
there_is : (o : Option Node) → is_some_and o (λ n. true) ≡ true → (there : Node) × (o ≡ Some there)
there_is None e = absurd (true≢false (sym e))
there_is (Some there) e = (there, refl)

module _ (accounts : Accounts) (s : State) (f : Flat) (l : ObjectsMatch accounts s f) where
  -- `/` leads where boot left it
  pub slash_leads : (class : Class)
      → target_for l.naming.number ([], record { class = class; content = Dir })
      ≡ Some
      (targets.Directory (slash_number (length accounts.users)) (slash_listing_number (length accounts.users)))
  slash_leads class i =
      both_numbers (l.as_booted (Slash ∷ []) (slash_number (length accounts.users)) refl i)
      (l.as_booted (Listing ∷ Slash ∷ []) (slash_listing_number (length accounts.users)) refl i)

  -- the segment of a file holds its bytes
  pub bytes_held : (q : Path) (class : Class) (bytes : List ℕ)
      → get f.files q ≡ Some (record { class = class; content = File bytes }) → (o : ℕ)
      → l.naming.number (address_of q) ≡ Some o → lent_bytes s o ≡ bytes
  bytes_held [] class bytes at o numbered =
      absurd (true≢false (ap (λ (o : Option Node). is_some_and o is_dir) (sym (root_is_dir accounts s f l).1 ∙ at)))
  bytes_held (n ∷ d) class bytes at o numbered =
      let g = guard_at accounts s f l (n ∷ d) (record { class = class; content = File bytes }) at in
      lent_entry accounts s f l n d o numbered ∙ ap bytes_in (file_found accounts s f l (n ∷ d) class bytes at g.0 g.1 o numbered)

  -- a tree at a path, which is what the flat state has there and below it, down to this many levels
  record HasTreeAt (levels : ℕ) (q : Path) (node : Node) (target : Target) : Type 0 where
    tree : List TreeNode
    is_tree : IsTreeAt levels accounts s q target tree
    same : map (tree_entry s) tree ≡ map (flat_entry l.category) (walked levels f.files.entries q node)

  -- the target of a node, and the tree there
  record LeadsToTree (levels : ℕ) (q : Path) (node : Node) : Type 0 where
    target : Target
    leads : target_for l.naming.number (q, node) ≡ Some target
    there : HasTreeAt levels q node target

  -- the node of a state where the flat state has one of this class
  abbrev pub node_of : Path → Class → Target → TreeNode
  node_of q class target = record { path = q; class = numbered_class l.category class; target = target }

  -- the state has this node, by the label of its object
  pub agrees_at : (q : Path) (there : Node) → get f.files q ≡ Some there → (target : Target)
      → l.naming.number (address_of q) ≡ Some (object_of target)
      → IsNodeAt accounts s q target (node_of q there.class target)
  agrees_at q there at target numbered =
      let g = guard_at accounts s f l q there at in
      record {
        path_is = refl;
        target_is = refl;
        label = guard_label l.category g.0;
        label_is = label_at accounts s f l q there at (object_of target) numbered g.0 g.1;
        of_class = label_of_class accounts s f l q there at g.0 g.1;
      }

  module _ (levels : ℕ) (q : Path) where
    -- the entries of the directory among these paths, with their targets
    abbrev listed : List (Path × Node) → List (Name × Target)
    listed = filter_map (target_in l.naming.number q)

    -- the walk of an entry
    abbrev walk : Name × Node → List (Path × Node)
    walk c = walked levels f.files.entries (c.0 ∷ q) c.1

    -- trees that are what the flat state has at these entries and below them
    record HasTrees (entries : List (Name × Target)) (nodes : List (Name × Node)) : Type 0 where
      trees : List TreeNode
      are_listed : AreListed (IsTreeAt levels accounts s) q entries trees
      same : map (tree_entry s) trees ≡ map (flat_entry l.category) (flat_map walk nodes)

    -- each entry of the directory among these paths leads to a tree
    abbrev AllLead : List (Path × Node) → Type 0
    AllLead es = (n : Name) (there : Node) → find path_cmp (n ∷ q) es ≡ Some there → LeadsToTree levels (n ∷ q) there

    -- trees of the entries where one more path is tested
    abbrev HasTreesBy : Name → Path → Node → List (Path × Node) → Bool → Type 0
    HasTreesBy n above there es b =
        HasTrees (cons_option
        (cond b (option_map (λ target. (n, target)) (target_for l.naming.number (n ∷ above, there))) None)
        (listed es)) (cons_option (cond b (Some (n, there)) None) (nodes_in q es))

    -- trees with one more entry
    one_more : (n : Name) (there : Node) (es : List (Path × Node)) → LeadsToTree levels (n ∷ q) there
        → HasTrees (listed es) (nodes_in q es) → HasTreesBy n q there es true
    one_more n there es to rest =
        subst (λ (o : Option Target).
        HasTrees (cons_option (option_map (λ target. (n, target)) o) (listed es)) ((n, there) ∷ nodes_in q es))
        (sym to.leads)
        (record {
          trees = to.there.tree ++ rest.trees;
          are_listed = (to.there.tree, rest.trees, to.there.is_tree, rest.are_listed, refl);
          same =
              map-append (tree_entry s) to.there.tree rest.trees ∙ (λ i. to.there.same i ++ rest.same i)
              ∙ sym (map-append (flat_entry l.category) (walk (n, there)) (flat_map walk (nodes_in q es)));
        })

    -- the entries have trees, one after another
    trees_listed : (es : List (Path × Node)) → T (is_sorted path_cmp es) → AllLead es → HasTrees (listed es) (nodes_in q es)
    trees_listed [] h lead = record { trees = []; are_listed = refl; same = refl }
    trees_listed (e ∷ es) h lead = step e.0 e.1 lead (trees_listed es (second (below_all path_cmp e.0 es) _ h)
        (λ n there is. lead n there (find_later path_cmp_total path_cmp_exact e.0 e.1 es (n ∷ q) there (first (below_all path_cmp e.0 es) _ h) is)))
      where
        step : (r : Path) (there : Node) → AllLead ((r, there) ∷ es) → HasTrees (listed es) (nodes_in q es)
            → HasTrees (listed ((r, there) ∷ es)) (nodes_in q ((r, there) ∷ es))
        step [] there lead rest = rest
        step (n ∷ above) there lead rest = elim (same_path_found q above) [
          | inl t ↦
              let found : find path_cmp (n ∷ q) ((n ∷ above, there) ∷ es) ≡ Some there =
              subst (λ (a : Path). find path_cmp (n ∷ q) ((n ∷ a, there) ∷ es) ≡ Some there) t.1
              (find_first path_cmp_total path_cmp_exact (n ∷ q) there es) in
              subst (λ b. HasTreesBy n above there es b) (sym t.0)
              (subst (λ (a : Path). HasTreesBy n a there es true) t.1 (one_more n there es (lead n there found) rest))
          | inr t ↦ subst (λ b. HasTreesBy n above there es b) (sym t.0) rest
        ]

    module _ (class : Class) where
      -- a file has a tree
      tree_of_file : (bytes : List ℕ) → get f.files q ≡ Some (record { class = class; content = File bytes }) → (o : ℕ)
          → l.naming.number (address_of q) ≡ Some o
          → HasTreeAt (suc levels) q (record { class = class; content = File bytes }) (targets.File o)
      tree_of_file bytes at o numbered =
          let there : Node = record { class = class; content = File bytes } in
          let held = bytes_held q class bytes at o numbered in
          record {
            tree = node_of q class (targets.File o) ∷ [];
            is_tree = (node_of q class (targets.File o), [], agrees_at q there at (targets.File o) numbered, refl, refl);
            same = λ i. record { path = q; class = numbered_class l.category class; is_directory = false; bytes = held i } ∷ [];
          }

      -- a directory has a tree, if each entry leads to one
      tree_of_directory : get f.files q ≡ Some (record { class = class; content = Dir }) → (c g : ℕ)
          → l.naming.number (address_of q) ≡ Some c → l.naming.number (Listing ∷ address_of q) ≡ Some g
          → AllLead f.files.entries → HasTreeAt (suc levels) q (record { class = class; content = Dir }) (targets.Directory c g)
      tree_of_directory at c g numbered listing lead =
          let dir = directory_of f.files l.naming.number q in
          let entries = sorted_made (listed f.files.entries) (sorted_listed l.naming.number q f.files.entries f.files.sorted) in
          let below = trees_listed f.files.entries f.files.sorted lead in
          record {
            tree = node_of q class (targets.Directory c g) ∷ below.trees;
            is_tree = (
              node_of q class (targets.Directory c g),
              below.trees,
              agrees_at q (record { class = class; content = Dir }) at (targets.Directory c g) numbered,
              (
                dir,
                shows_directory accounts s f l q g (ap (λ (o : Option Node). is_some_and o is_dir) at) listing,
                subst (λ (es : List (Name × Target)). AreListed (IsTreeAt levels accounts s) q es below.trees) (sym entries) below.are_listed,
              ),
              refl,
            );
            same = λ i. record { path = q; class = numbered_class l.category class; is_directory = true; bytes = [] } ∷ below.same i;
          }

      -- a node of the flat state has a tree
      tree_of : (content : Content) → get f.files q ≡ Some (record { class = class; content = content })
          → (target : Target)
          → target_for l.naming.number (q, record { class = class; content = content }) ≡ Some target
          → AllLead f.files.entries → HasTreeAt (suc levels) q (record { class = class; content = content }) target
      tree_of Dir at target leads lead =
          let to = led_to_directory (l.naming.number (address_of q)) (l.naming.number (Listing ∷ address_of q)) target leads in
          subst (HasTreeAt (suc levels) q (record { class = class; content = Dir })) to.2 (tree_of_directory at to.0 to.1 to.3 to.4 lead)
      tree_of (File bytes) at target leads lead =
          let to = led_to_file (l.naming.number (address_of q)) target leads in
          subst (HasTreeAt (suc levels) q (record { class = class; content = File bytes })) to.1 (tree_of_file bytes at to.0 to.2)

  -- a node of the flat state leads to a tree, down to enough levels
  leads_to_tree : AreShallow f → (levels : ℕ) (q : Path) (node : Node) → get f.files q ≡ Some node
      → most_names < length q + levels → LeadsToTree levels q node
  leads_to_tree shallow zero q node at deep =
      let short = shallow q (ap (λ (o : Option Node). is_some_and o (λ n. true)) at) in
      absurd (omega arith)
  leads_to_tree shallow (suc levels) q node at deep =
      let to = some_unless_none (target_for l.naming.number (q, node)) (entry_leads accounts s f l q node at) in
      record {
        target = to.0;
        leads = to.1;
        there = tree_of levels q node.class node.content at to.0 to.1 (λ n there is. leads_to_tree shallow levels (n ∷ q) there is (omega arith));
      }

  -- the paths of the flat state are a tree
  are_tree : IsTree f
  are_tree = record {
    root = ap (λ (o : Option Node). is_some_and o is_dir) (root_is_dir accounts s f l).1;
    below = λ n d is. let there = there_is (get f.files (n ∷ d)) is in parent_is_dir accounts s f l n d there.0 there.1;
  }

-- what an entry shows
abbrev shown_line : TreeEntry → TreeLine
shown_line e = record { path = e.path; stat = stat_of (without_jobs e.class) e.is_directory; bytes = e.bytes }

flat_shown : (category : Categories) (es : List (Path × Node)) → map shown_line (map (flat_entry category) es) ≡ map flat_line es
flat_shown category [] = refl
flat_shown category (e ∷ es) = λ i.
    record {
      path = e.0;
      stat = record { is_directory = is_dir e.1; owner = same_owner category e.1.class i; mode = same_mode category e.1.class i };
      bytes = bytes_of (Some e.1);
    } ∷ flat_shown category es i

tree_shown : (s : State) (tree : List TreeNode) → lines_at s tree ≡ map shown_line (map (tree_entry s) tree)
tree_shown s [] = refl
tree_shown s (node ∷ tree) = ap (λ (lines : List TreeLine). line_at s node ∷ lines) (tree_shown s tree)

-- so where the entries are the same they show the same
same_lines : (s : State) (category : Categories) (tree : List TreeNode) (es : List (Path × Node))
    → map (tree_entry s) tree ≡ map (flat_entry category) es → lines_at s tree ≡ map flat_line es
same_lines s category tree es same = tree_shown s tree ∙ ap (map shown_line) same ∙ flat_shown category es

-- a state that represents a flat state has its tree
pub flat_states_have_their_trees : FlatStatesHaveTheirTrees
unfolding IsTreeOf
flat_states_have_their_trees accounts s f represents shallow =
    let l = represents.matched in
    let root = root_is_dir accounts s f l in
    let slash : Node = record { class = root.0; content = Dir } in
    let to = leads_to_tree accounts s f l shallow (suc most_names) [] slash root.1 (omega arith) in
    let all_same = to.there.same ∙ ap (map (flat_entry l.category)) (walks_meet_all f (are_tree accounts s f l) most_names shallow slash root.1) in
    let same =
    same_Some to.target
    (targets.Directory (slash_number (length accounts.users)) (slash_listing_number (length accounts.users)))
    (sym to.leads ∙ slash_leads accounts s f l root.0) in
    record {
      tree = to.there.tree;
      is_tree = subst (λ (target : Target). IsTreeAt (suc most_names) accounts s [] target to.there.tree) same to.there.is_tree;
      same = all_same;
      lines = same_lines s l.category to.there.tree f.files.entries all_same;
    }
