-- Names that elements of a list have, and names of users.
use Rattle.std.proofs.Common.{◌≡◌, ◌≢◌, Bool, true, false, not, List, [], ◌∷◌, get_or, refl, sym, ◌∙◌}
use Rattle.std.specs.Prelude.{All, AllPairs}
use Rattle.std.specs.List.{AllByRecursion, IsDistinct, list_any}
use Rattle.std.specs.Str.{bytes_eq}
use Rattle.std.proofs.lemmas.Slice.Eq.{bytes_eq-Decides}
use Rattle.std.proofs.lemmas.Bool.{false≢true, false_from_ne_true, and_parts, not-true, or_parts}
use Rattle.std.proofs.lemmas.List.Elements.{All-from_recursion, recursion_from_All}
use Rattle.std.proofs.lemmas.List.Folds.{Any-from_list_any, list_any-from_Any}
use Rattle.std.proofs.lemmas.List.Sums.{AllPass-from_list_all, list_all-from_AllPass}
use Rattle.std.proofs.lemmas.Map.Made.{AllPairs-from_IsDistinct, IsDistinct-from_AllPairs}
use Rattle.histar_flat.specs.declared.calls.User.{User}
use Rattle.histar_flat.specs.Words.{Name}
use Rattle.histar_flat.specs.Accounts.{has}
use Rattle.histar_script.specs.Script.{IsUserOf}
use Rattle.histar_script.specs.Reading.{has_user, are_users, are_distinct}

-- some element has the name
abbrev pub is_named : {X : Type 0} → (X → Name) → Name → List X → Bool
is_named name_of name xs = list_any (λ x. bytes_eq (name_of x) name) xs

-- if no element is found, each has another name, one after another
others_by_recursion : {X : Type 0} (name_of : X → Name) (name : Name) (xs : List X) → is_named name_of name xs ≡ false
    → AllByRecursion (λ x. name_of x ≢ name) xs
others_by_recursion name_of name [] h = tt
others_by_recursion name_of name (x ∷ xs) h =
    let p = or_parts (bytes_eq (name_of x) name) (is_named name_of name xs) h in
    (λ same. absurd (false≢true (sym p.0 ∙ (bytes_eq-Decides (name_of x) name).1 same)), others_by_recursion name_of name xs p.1)

-- if no element is found, each has another name
pub all_others : {X : Type 0} (name_of : X → Name) (name : Name) (xs : List X) → is_named name_of name xs ≡ false → All (λ x. name_of x ≢ name) xs
all_others name_of name xs h = All-from_recursion (λ x. name_of x ≢ name) xs (others_by_recursion name_of name xs h)

-- if each has another name, one after another, no element is found
unnamed_by_recursion : {X : Type 0} (name_of : X → Name) (name : Name) (xs : List X)
    → AllByRecursion (λ x. name_of x ≢ name) xs → is_named name_of name xs ≡ false
unnamed_by_recursion name_of name [] h = refl
unnamed_by_recursion name_of name (x ∷ xs) h =
    let first : bytes_eq (name_of x) name ≡ false =
    false_from_ne_true (bytes_eq (name_of x) name) (λ e. h.0 ((bytes_eq-Decides (name_of x) name).0 e)) in
    rw (first, unnamed_by_recursion name_of name xs h.1) refl

-- if each has another name, no element is found
pub not_named : {X : Type 0} (name_of : X → Name) (name : Name) (xs : List X) → All (λ x. name_of x ≢ name) xs → is_named name_of name xs ≡ false
not_named name_of name xs h = unnamed_by_recursion name_of name xs (recursion_from_All (λ x. name_of x ≢ name) xs h)

-- a name that is found is a user's
user_found : (users : List User) (name : Name) → has_user users name ≡ true → IsUserOf users name
user_found users name h =
    let found = Any-from_list_any (λ (u : User). bytes_eq u.name name) users h in
    (found.0, found.1, found.2, found.3, (bytes_eq-Decides found.1.name name).0 found.4)

-- a user's name is found
user_again : (users : List User) (name : Name) → IsUserOf users name → has_user users name ≡ true
user_again users name h =
    list_any-from_Any (λ (u : User). bytes_eq u.name name) users (h.0, h.1, h.2, h.3, (bytes_eq-Decides h.1.name name).1 h.4)

-- names that are found are users'
pub all_users : (users : List User) (names : List Name) → are_users users names ≡ true → All (IsUserOf users) names
all_users users names h = λ k d lt. user_found users (get_or names k d) (AllPass-from_list_all (has_user users) names h k d lt)

-- users' names are found
pub users_again : (users : List User) (names : List Name) → All (IsUserOf users) names → are_users users names ≡ true
users_again users names h = list_all-from_AllPass (has_user users) names (λ k d lt. user_again users (get_or names k d) (h k d lt))

-- each element of a list without the name is another one
unlike : (name : Name) (names : List Name) → has names name ≡ false → AllByRecursion (λ other. bytes_eq name other ≡ false) names
unlike name [] h = tt
unlike name (other ∷ names) h = let p = or_parts (bytes_eq name other) (has names name) h in (p.0, unlike name names p.1)

-- a list of other elements lacks the name
not_had : (name : Name) (names : List Name) → AllByRecursion (λ other. bytes_eq name other ≡ false) names → has names name ≡ false
not_had name [] h = refl
not_had name (other ∷ names) h = rw (h.0, not_had name names h.1) refl

-- names that pass the test are distinct
found_distinct : (names : List Name) → are_distinct names ≡ true → IsDistinct bytes_eq names
unfolding IsDistinct
found_distinct [] h = tt
found_distinct (name ∷ names) h =
    let p = and_parts (not (has names name)) (are_distinct names) h in (unlike name names (not-true (has names name) p.0), found_distinct names p.1)

-- distinct names pass the test
distinct_again : (names : List Name) → IsDistinct bytes_eq names → are_distinct names ≡ true
unfolding IsDistinct
distinct_again [] h = refl
distinct_again (name ∷ names) h = rw (not_had name names h.0, distinct_again names h.1) refl

-- no name occurs twice in a list that passes the test
pub all_distinct : (names : List Name) → are_distinct names ≡ true → AllPairs (λ a b. a ≢ b) names
all_distinct names h = AllPairs-from_IsDistinct bytes_eq-Decides names (found_distinct names h)

-- a list in which no name occurs twice passes the test
pub passes_distinct : (names : List Name) → AllPairs (λ a b. a ≢ b) names → are_distinct names ≡ true
passes_distinct names h = distinct_again names (IsDistinct-from_AllPairs bytes_eq-Decides names h)
