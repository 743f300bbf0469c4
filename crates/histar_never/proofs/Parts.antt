-- Words, names and users of a claim.
use Rattle.std.specs.Prelude.{◌≡◌, ◌-◌, ◌||◌, Bool, List, [], ◌∷◌, ◌++◌, drop, length, map, take, Option, None, Some}
use Rattle.std.specs.Prelude.{option_map, refl}
use Rattle.std.specs.List.{list_any}
use Rattle.std.proofs.Common.{ap, append_assoc, arith, sym, ◌∙◌}
use Rattle.std.proofs.lemmas.List.{drop-map, length-map, take-map}

-- a test of a mapped list is the test of the mapped items
pub any_test : {A B : Type 0} (t : A → Bool) (h : B → A) (xs : List B) → list_any t (map h xs) ≡ list_any (λ x. t (h x)) xs
any_test t h [] = refl
any_test t h (x ∷ xs) = ap (λ b. t (h x) || b) (any_test t h xs)

-- the words between the first two and the last one
pub middle : {A B : Type 0} (h : A → B) (xs : List A) → map h (take (length xs - 1 - 2) (drop 2 xs))
    ≡ take (length (map h xs) - 3) (drop 2 (map h xs))
middle h xs =
    let count : length (map h xs) - 3 ≡ length xs - 1 - 2 = ap (λ n. n - 3) (length-map xs h) ∙ omega arith in
    sym (take-map h (length xs - 1 - 2) (drop 2 xs)) ∙ (λ i. take (sym count i) (sym (drop-map h 2 xs) i))

-- what comes after some items and one more comes after these items
pub more_after : {A : Type 0} (front : List A) (x : A) (found : Option (List A))
    → option_map (λ xs. front ++ xs) (option_map (λ xs. x ∷ xs) found) ≡ option_map (λ xs. (front ++ x ∷ []) ++ xs) found
more_after front x None = refl
more_after front x (Some xs) = ap Some (sym (append_assoc front (x ∷ []) xs))
