-- The files and directories at a path and below it, directory by directory.
use Rattle.std.specs.Prelude.{◌≡◌, ℕ, zero, suc, ◌≤◌, true, cond, List, [], ◌∷◌, length, Option, None, Some}
use Rattle.std.specs.List.{flat_map, filter_map}
use Rattle.histar_flat.specs.Words.{Name, Path}
use Rattle.histar_base.specs.Paths.{same_path}
use Rattle.histar_flat.specs.Files.{get}
use Rattle.histar_flat.specs.FlatState.{Flat, Node, is_there, is_dir, IsTree}

-- the entry of the directory d at this path, if the path is one of its entries
abbrev pub node_in : Path → Path × Node → Option (Name × Node)
node_in d e = elim e.0 [ [] ↦ None | n ∷ above ↦ cond (same_path d above) (Some (n, e.1)) None ]

-- the entries of the directory d, by rising names
abbrev pub nodes_in : Path → List (Path × Node) → List (Name × Node)
nodes_in d es = filter_map (node_in d) es

-- the node at a path, and then those below it, entry by entry, down to this many levels
abbrev pub walked : ℕ → List (Path × Node) → Path → Node → List (Path × Node)
walked zero es q node = []
walked (suc levels) es q node = (q, node) ∷ cond (is_dir node) (flat_map (λ (c : Name × Node). walked levels es (c.0 ∷ q) c.1) (nodes_in q es)) []

-- no path has more names than this
abbrev pub AreShallow : ℕ → Flat → Type 0
AreShallow most f = (q : Path) → is_there f q ≡ true → length q ≤ most

-- a walk from `/` on through a tree meets all its nodes, by rising paths
abbrev pub WalksMeetAll : Type 0
WalksMeetAll = (f : Flat) → IsTree f → (most : ℕ) → AreShallow most f → (slash : Node) → get f.files [] ≡ Some slash → walked (suc most) f.files.entries [] slash ≡ f.files.entries
