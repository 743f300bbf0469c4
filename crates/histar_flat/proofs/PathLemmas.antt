-- A path is read name by name.
use Rattle.std.proofs.Common.{◌≡◌, ℕ, zero, suc, ◌-◌, ◌<◌, Bool, true, false, List, ◌∷◌, Some, None, refl, arith}
use Rattle.std.proofs.lemmas.Option.{cond_some}
use Rattle.histar_flat.specs.Words.{Name, Path, is_name, slash, split_at_first, name_of, path_from}

-- a word that is no name leads to no path
pub no_name : (most : ℕ) (directory : Path) (bs : List ℕ) → name_of (split_at_first slash bs).0 ≡ None → path_from most directory bs ≡ None
unfolding path_from
no_name zero directory bs none = refl
no_name (suc most) directory bs none = go (is_name (split_at_first slash bs).0) refl
  where
    go : (t : Bool) → is_name (split_at_first slash bs).0 ≡ t → path_from (suc most) directory bs ≡ None
    go true e = absurd cc
    go false e = rw e refl

-- a name with no slash after it is the last one
pub last_name : (most : ℕ) (directory : Path) (bs : List ℕ) (name : Name) → 0 < most
    → name_of (split_at_first slash bs).0 ≡ Some name → (split_at_first slash bs).1 ≡ None
    → path_from most directory bs ≡ Some (name ∷ directory)
unfolding path_from
last_name zero directory bs name some is end = absurd (omega arith)
last_name (suc most) directory bs name some is end =
    let named = cond_some (is_name (split_at_first slash bs).0) (split_at_first slash bs).0 name is in
    rw (named.0, end, named.1) refl

-- a name with a slash after it is a directory's, and the path goes on from there
pub next_name : (most : ℕ) (directory : Path) (bs rest : List ℕ) (name : Name) → 0 < most
    → name_of (split_at_first slash bs).0 ≡ Some name → (split_at_first slash bs).1 ≡ Some rest
    → path_from most directory bs ≡ path_from (most - 1) (name ∷ directory) rest
unfolding path_from
next_name zero directory bs rest name some is on = absurd (omega arith)
next_name (suc most) directory bs rest name some is on =
    let named = cond_some (is_name (split_at_first slash bs).0) (split_at_first slash bs).0 name is in
    let left : suc most - 1 ≡ most = omega arith in
    rw (named.0, on, named.1, left) refl
