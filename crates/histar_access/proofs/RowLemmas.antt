-- The last of some rows, and lists that are made item by item.
use Rattle.std.proofs.Common.{◌≡◌, ℕ, zero, suc, ◌+◌, ◌-◌, ◌<◌, List, [], ◌∷◌, ◌++◌, Option, Some, take, length, get_or, arith, sym, ap, ◌∙◌}
use Rattle.std.specs.Prelude.{map, slice_get}
use Rattle.std.specs.Global.{Vec}
use Rattle.std.specs.List.{cons_option, filter_map}
use Rattle.std.proofs.lemmas.List.{map-append, take-map, take_more}
use Rattle.std.proofs.lemmas.List.Elements.{filter_map-append}
use Rattle.std.proofs.lemmas.Option.{none-some, same_Some}
use Rattle.histar_access.specs.Rows.{last_or}

-- the cells of a row
abbrev pub cells_of : {A : Type 0} → Vec A → List A
cells_of row = row.items

last_at : {A : Type 0} (x : List A) (rows : List (Vec A)) (n : ℕ) (row : Vec A) → length rows ≡ suc n → slice_get rows n ≡ Some row
    → last_or x (map cells_of rows) ≡ row.items
last_at x [] n row long is = absurd (omega arith)
last_at x (y ∷ []) zero row long is = ap cells_of (same_Some y row is)
last_at x (y ∷ []) (suc n) row long is = absurd (omega arith)
last_at x (y ∷ z ∷ rows) zero row long is = absurd (omega arith)
last_at x (y ∷ z ∷ rows) (suc n) row long is = last_at y.items (z ∷ rows) n row (omega arith) is

-- the last of some rows, if there is one
pub last_found : {A : Type 0} (x : List A) (rows : List (Vec A)) (row : Vec A) → Some row ≡ slice_get rows (length rows - 1)
    → last_or x (map cells_of rows) ≡ row.items
last_found x [] row is = absurd (none-some row (sym is))
last_found x (y ∷ rows) row is = last_at x (y ∷ rows) (length rows) row (omega arith) (ap (slice_get (y ∷ rows)) (omega arith) ∙ sym is)

-- the items so far with one more
pub kept_more : {X Y : Type 0} (h : X → Option Y) (xs : List X) (i : ℕ) (x : X) → i < length xs → x ≡ get_or xs i x
    → filter_map h (take (i + 1) xs) ≡ filter_map h (take i xs) ++ cons_option (h x) []
kept_more h xs i x within is =
    ap (filter_map h) (take_more xs i x within) ∙ filter_map-append h (take i xs) (get_or xs i x ∷ [])
    ∙ ap (λ y. filter_map h (take i xs) ++ cons_option (h y) []) (sym is)

-- the rows on the way to a node, as they are kept
pub kept_way : {A : Type 0} (ways kept : List (Vec A)) (n : ℕ) → kept ≡ take n ways → map cells_of kept ≡ take n (map cells_of ways)
kept_way ways kept n is = ap (map cells_of) is ∙ sym (take-map cells_of n ways)

-- the rows on the way with one more
pub way_more : {A : Type 0} (ways kept new : List (Vec A)) (n : ℕ) (row : Vec A) (cells : List A) → kept ≡ take n ways → new ≡ kept ++ row ∷ []
    → row.items ≡ cells → map cells_of new ≡ take n (map cells_of ways) ++ cells ∷ []
way_more ways kept new n row cells is pushed same = ap (map cells_of) pushed ∙ map-append cells_of kept (row ∷ [])
    ∙ (λ i. kept_way ways kept n is i ++ same i ∷ [])
