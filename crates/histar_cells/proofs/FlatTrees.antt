-- The files of a flat state that a state represents are a tree, and a file has few bytes.
use Rattle.std.specs.Prelude.{◌≡◌, ℕ, ◌≤◌, true, List, ◌∷◌, length, Option, None, Some, refl}
use Rattle.std.proofs.Common.{ap, arith}
use Rattle.histar_flat.specs.Words.{Name, Path}
use Rattle.histar_flat.specs.Accounts.{Accounts}
use Rattle.histar_flat.specs.Files.{get}
use Rattle.histar_flat.specs.Classes.{Class}
use Rattle.histar_flat.specs.FlatState.{Content, Flat, IsTree, Node, bytes_of, is_dir, is_dir_at, is_some_and}
use Rattle.histar_flat.specs.FlatState.Content.{Dir, File}
use Rattle.histar_flat.specs.FlatCalls.{most_bytes}
use Rattle.histar_object.specs.State.{State}
use Rattle.histar_refinement.specs.Represents.{ObjectsMatch}
use Rattle.histar_refinement.proofs.Agreeing.{parent_is_dir, root_is_dir}
use Rattle.histar_rights.specs.Laws.{HaveFewBytes}

module _ (accounts : Accounts) (s : State) (f : Flat) (l : ObjectsMatch accounts s f) where
  -- the paths are a tree
  pub are_tree : IsTree f
  are_tree = record {
    root = ap (λ (o : Option Node). is_some_and o is_dir) (root_is_dir accounts s f l).1;
    below = λ n d is. by n d (get f.files (n ∷ d)) refl is;
  }
    where
      by : (n : Name) (d : Path) (o : Option Node) → get f.files (n ∷ d) ≡ o → is_some_and o (λ x. true) ≡ true → is_dir_at f d ≡ true
      by n d None e is = absurd (cc)
      by n d (Some there) e is = parent_is_dir accounts s f l n d there e

-- files have few bytes
pub few_bytes : (f : Flat)
    → ((q : Path) (class : Class) (bytes : List ℕ) → get f.files q ≡ Some
    (record { class = class; content = File bytes }) → length bytes ≤ most_bytes) → HaveFewBytes f
few_bytes f small q = by (get f.files q) refl
  where
    of_content : (class : Class) (content : Content) → get f.files q ≡ Some (record { class = class; content = content })
        → length (bytes_of (Some (record { class = class; content = content }))) ≤ most_bytes
    of_content class Dir e = omega arith
    of_content class (File bytes) e = small q class bytes e

    by : (o : Option Node) → get f.files q ≡ o → length (bytes_of o) ≤ most_bytes
    by None e = omega arith
    by (Some node) e = of_content node.class node.content e
