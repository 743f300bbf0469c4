-- What is among names of categories: first names and later ones, one list before another, and what holds of each.
use Rattle.std.proofs.Common.{◌≡◌, inl, inr, true, List, [], ◌∷◌, ◌++◌, refl, sym, ◌∙◌, subst}
use Rattle.std.specs.List.{list_all}
use Rattle.std.proofs.lemmas.Bool.{and_from, or_left, or_right, or_cases}
use mathlib.Core.Bool.{true≢false}
use Rattle.histar_refinement.specs.Categories.{CategoryName, same_category, among}
use Rattle.histar_refinement.proofs.CategoryTests.{among-append, same_itself, same_revealed}

-- each of these names is among those
pub covers : (names others : List CategoryName) → ((c : CategoryName) → among others c ≡ true → among names c ≡ true)
    → list_all (among names) others ≡ true
covers names [] each = refl
covers names (x ∷ others) each =
    and_from _ _ (each x (or_left (same_category x x) (among others x) (same_itself x)))
    (covers names others (λ c e. each c (or_right (same_category c x) (among others c) e)))

-- what is among some names is among more
pub in_first : (xs ys : List CategoryName) (c : CategoryName) → among xs c ≡ true → among (xs ++ ys) c ≡ true
in_first xs ys c e = among-append xs ys c ∙ or_left (among xs c) (among ys c) e

pub in_second : (xs ys : List CategoryName) (c : CategoryName) → among ys c ≡ true → among (xs ++ ys) c ≡ true
in_second xs ys c e = among-append xs ys c ∙ or_right (among xs c) (among ys c) e

pub at_head : (d : CategoryName) (names : List CategoryName) → among (d ∷ names) d ≡ true
at_head d names = or_left (same_category d d) (among names d) (same_itself d)

pub later : (d : CategoryName) (names : List CategoryName) (c : CategoryName) → among names c ≡ true → among (d ∷ names) c ≡ true
later d names c e = or_right (same_category c d) (among names c) e

-- a name among others, by its place
pub each_head : (P : CategoryName → Type 0) (d : CategoryName) (names : List CategoryName) → P d
    → ((c : CategoryName) → among names c ≡ true → P c) → (c : CategoryName) → among (d ∷ names) c ≡ true → P c
each_head P d names first others c e = elim (or_cases (same_category c d) (among names c) e) [
  | inl k ↦ subst P (sym (same_revealed c d k)) first
  | inr k ↦ others c k
]

pub each_append : (P : CategoryName → Type 0) (xs ys : List CategoryName)
    → ((c : CategoryName) → among xs c ≡ true → P c) → ((c : CategoryName) → among ys c ≡ true → P c)
    → (c : CategoryName) → among (xs ++ ys) c ≡ true → P c
each_append P xs ys first second c e =
    elim (or_cases (among xs c) (among ys c) (sym (among-append xs ys c) ∙ e))
    [ inl k ↦ first c k | inr k ↦ second c k ]

pub each_none : (P : CategoryName → Type 0) (c : CategoryName) → among [] c ≡ true → P c
each_none P c e = absurd (true≢false (sym e))

pub each_one : (P : CategoryName → Type 0) (d : CategoryName) → P d → (c : CategoryName) → among (d ∷ []) c ≡ true → P c
each_one P d first = each_head P d [] first (each_none P)

-- what is among one name is this one
pub revealed_one : (d c : CategoryName) → among (d ∷ []) c ≡ true → c ≡ d
revealed_one d c e = each_one (λ x. x ≡ d) d refl c e
