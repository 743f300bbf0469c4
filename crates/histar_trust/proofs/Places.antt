-- What a tree has at a path is what the flat state has there.
use Rattle.std.specs.Prelude.{◌≡◌, ℕ, true, ◌&&◌, cond, List, [], ◌∷◌, ◌++◌, map, Option, None, Some, if◌then◌else◌, refl}
use Rattle.std.proofs.Common.{ap, sym, ◌∙◌, subst, inl, inr}
use Rattle.std.specs.FinMap.{find}
use Rattle.std.specs.Ordering.{eq_by_cmp}
use Rattle.histar_flat.specs.Words.{Path, ProcName}
use Rattle.histar_base.specs.Paths.{path_cmp, same_path}
use Rattle.histar_flat.specs.Files.{get}
use Rattle.histar_flat.specs.Classes.{Class as FlatClass}
use Rattle.histar_flat.specs.Classes.Class.{Private as FlatPrivate, Readable as FlatReadable, Open as FlatOpen, Scratch as FlatScratch}
use Rattle.histar_flat.specs.Classes.Class.{Grouped as FlatGrouped}
use Rattle.histar_flat.specs.FlatState.{Flat, Node, bytes_of, class_of, is_dir}
use Rattle.histar_flat.proofs.FileLemmas.{same_path_found, ties}
use Rattle.histar_object.specs.State.{State}
use Rattle.histar_layout.specs.Listing.{is_directory}
use Rattle.histar_refinement.specs.Categories.{Categories}
use Rattle.histar_refinement.specs.Categories.CategoryName.{OfJob}
use Rattle.histar_refinement.specs.NumberedClasses.{numbered_class}
use Rattle.histar_secrecy.specs.Ways.{way_to}
use Rattle.histar_secrecy.specs.declared.file_class.FileClass.{FileClass}
use Rattle.histar_secrecy.specs.ShownRoles.{class_by_number, class_on, classes_on, flat_class}
use Rattle.histar_secrecy.proofs.NumberedJobs.{in_two_steps}
use Rattle.histar_readout.specs.declared.tree.TreeNode.{TreeNode}
use Rattle.histar_readout.specs.TreeEntries.{TreeEntry, flat_entry, node_bytes, tree_entry}
use Rattle.histar_readout.specs.TreeLines.{TreeLine, flat_line, line_at, node_stat}
use Rattle.histar_trust.specs.Findings.{are_for_everyone, class_flat, class_there, classes_to, node_at, place_there, places_to}
use Rattle.histar_trust.proofs.Powers.{place_on, places_on}
use Rattle.histar_trust.specs.TrustText.{is_for_everyone, is_open_way}

-- the number of a job is that of its category
abbrev pub number_of : Categories → ProcName → ℕ
number_of category job = category (OfJob job)

-- a class with its jobs by numbers is the same from the labels and directly
pub same_class : (category : Categories) (class : FlatClass) → class_flat (numbered_class category class) ≡ class_by_number (number_of category) class
same_class category (FlatPrivate owner) = refl
same_class category (FlatReadable owner) = refl
same_class category FlatOpen = refl
same_class category (FlatScratch owner jobs) = ap (FlatScratch owner) (in_two_steps (number_of category) jobs)
same_class category (FlatGrouped group) = refl

-- every process may read both or neither
same_everyone : (number : ProcName → ℕ) (class : FlatClass) → is_for_everyone (class_by_number number class) ≡ is_for_everyone class
same_everyone number (FlatPrivate owner) = refl
same_everyone number (FlatReadable owner) = refl
same_everyone number FlatOpen = refl
same_everyone number (FlatScratch owner jobs) = refl
same_everyone number (FlatGrouped group) = refl

everyone_on : (number : ProcName → ℕ) (o : Option Node) (rest : List FlatClass)
    → is_open_way (class_on number o ++ rest) ≡ (is_for_everyone (class_of o) && is_open_way rest)
everyone_on number None rest = refl
everyone_on number (Some n) rest = ap (λ b. b && is_open_way rest) (same_everyone number n.class)

everyone_root : (number : ProcName → ℕ) (o : Option Node) → is_open_way (class_on number o) ≡ (is_for_everyone (class_of o) && true)
everyone_root number None = refl
everyone_root number (Some n) = ap (λ b. b && true) (same_everyone number n.class)

-- the same of a list and of a way
pub open_mapped : (classes : List FileClass) → are_for_everyone classes ≡ is_open_way (map flat_class classes)
open_mapped [] = refl
open_mapped (c ∷ classes) = ap (λ b. is_for_everyone (flat_class c) && b) (open_mapped classes)

-- the way is everyone's exactly if the classes that are shown are
pub open_by_number : (number : ProcName → ℕ) (f : Flat) (path : Path) → is_open_way (classes_on number f path) ≡ is_open_way (way_to f path)
open_by_number number f [] = everyone_root number (get f.files [])
open_by_number number f (n ∷ d) =
    everyone_on number (get f.files (n ∷ d)) (classes_on number f d)
    ∙ ap (λ b. is_for_everyone (class_of (get f.files (n ∷ d))) && b) (open_by_number number f d)

unfoldable pub first_of_list : {A : Type 0} → A → List A → A
first_of_list x [] = x
first_of_list x (y ∷ ys) = y

unfoldable pub rest_of_list : {A : Type 0} → List A → List A
rest_of_list [] = []
rest_of_list (y ∷ ys) = ys

module _ (s : State) (category : Categories) where
  -- a node of the tree matches the flat state's node at a path
  pub record IsAt (q : Path) (node : TreeNode) (there : Node) : Type 0 where
    pub path : node.path ≡ q
    pub class : node.class ≡ numbered_class category there.class
    pub kind : is_directory node.target ≡ is_dir there
    pub stat : node_stat node ≡ (flat_line (q, there)).stat
    pub bytes : node_bytes s node ≡ bytes_of (Some there)

  -- both have a node at the path, or neither has
  abbrev pub AreAlike : Path → Option TreeNode → Option Node → Type 0
  AreAlike q None None = Unit {0}
  AreAlike q None (Some there) = ⊥
  AreAlike q (Some node) None = ⊥
  AreAlike q (Some node) (Some there) = IsAt q node there

  one_alike : (q : Path) (node : TreeNode) (e : Path × Node) (found : Option TreeNode) (rest : Option Node) → node.path ≡ e.0
      → tree_entry s node ≡ flat_entry category e → line_at s node ≡ flat_line e → AreAlike q found rest
      → AreAlike q (if same_path q e.0 then Some node else found) (cond (eq_by_cmp path_cmp q e.0) (Some e.1) rest)
  one_alike q node e found rest path entry line alike =
      subst (λ b. AreAlike q (if same_path q e.0 then Some node else found) (cond b (Some e.1) rest)) (sym (ties q e.0))
      (elim (same_path_found q e.0) [
        | inl t ↦ subst (λ b. AreAlike q (if b then Some node else found) (cond b (Some e.1) rest)) (sym t.0) (record {
          path = path ∙ sym t.1;
          class = ap (λ (x : TreeEntry). x.class) entry;
          kind = ap (λ (x : TreeEntry). x.is_directory) entry;
          stat = ap (λ (x : TreeLine). x.stat) line;
          bytes = ap (λ (x : TreeLine). x.bytes) line;
        })
        | inr t ↦ subst (λ b. AreAlike q (if b then Some node else found) (cond b (Some e.1) rest)) (sym t.0) alike
      ])

  -- a tree that shows the same as the entries has the same at each path
  pub alike : (q : Path) (tree : List TreeNode) (es : List (Path × Node)) → map (tree_entry s) tree ≡ map (flat_entry category) es
      → map (line_at s) tree ≡ map flat_line es → AreAlike q (node_at q tree) (find path_cmp q es)
  unfolding first_of_list rest_of_list
  alike q [] [] entries lines = tt
  alike q [] (e ∷ es) entries lines = absurd (cc)
  alike q (node ∷ tree) [] entries lines = absurd (cc)
  alike q (node ∷ tree) (e ∷ es) entries lines =
      let entry : tree_entry s node ≡ flat_entry category e = ap (first_of_list (tree_entry s node)) entries in
      let line : line_at s node ≡ flat_line e = ap (first_of_list (line_at s node)) lines in
      let path : node.path ≡ e.0 = ap (λ (x : TreeEntry). x.path) entry in
      let rest = alike q tree es (ap rest_of_list entries) (ap rest_of_list lines) in
      subst (λ (p : Path). AreAlike q (if same_path q p then Some node else node_at q tree) (find path_cmp q (e ∷ es))) (sym path)
      (one_alike q node e (node_at q tree) (find path_cmp q es) path entry line rest)

  -- both have the same class there, or none
  pub class_is : (q : Path) (found : Option TreeNode) (there : Option Node) → AreAlike q found there
      → class_there found ≡ class_on (number_of category) there
  class_is q None None h = refl
  class_is q None (Some there) h = absurd h
  class_is q (Some node) None h = absurd h
  class_is q (Some node) (Some there) h = ap (λ c. class_flat c ∷ []) h.class ∙ ap (λ c. c ∷ []) (same_class category there.class)

  -- so both have the same classes on the way to each path
  pub classes_are : (f : Flat) (tree : List TreeNode) → ((q : Path) → AreAlike q (node_at q tree) (get f.files q)) → (q : Path)
      → classes_to tree q ≡ classes_on (number_of category) f q
  classes_are f tree each [] = class_is [] (node_at [] tree) (get f.files []) (each [])
  classes_are f tree each (n ∷ d) =
      λ i. class_is (n ∷ d) (node_at (n ∷ d) tree) (get f.files (n ∷ d)) (each (n ∷ d)) i ++ classes_are f tree each d i

  place_is : (q : Path) (t : Option TreeNode) (o : Option Node) → AreAlike q t o → place_there t ≡ place_on o q
  place_is q None None h = refl
  place_is q None (Some there) h = absurd h
  place_is q (Some node) None h = absurd h
  place_is q (Some node) (Some there) h = ap (λ r. r ∷ []) h.path

  -- and on the way something is at the same paths
  pub places_are : (f : Flat) (tree : List TreeNode) → ((q : Path) → AreAlike q (node_at q tree) (get f.files q)) → (q : Path)
      → places_to tree q ≡ places_on f q
  places_are f tree each [] = place_is [] (node_at [] tree) (get f.files []) (each [])
  places_are f tree each (n ∷ d) =
      λ i. place_is (n ∷ d) (node_at (n ∷ d) tree) (get f.files (n ∷ d)) (each (n ∷ d)) i ++ places_are f tree each d i
