-- Going over the exceptions of a label, and over users.
use Rattle.std.proofs.Common.{◌≡◌, ℕ, zero, suc, ◌+◌, ◌-◌, ◌<◌, ◌≤◌, Bool, List, [], ◌∷◌, ◌++◌, length, get_or, take, map, Option, refl, ap}
use Rattle.std.proofs.Common.{sym, ◌∙◌, append_assoc, arith}
use Rattle.std.proofs.lemmas.List.{map-append, take_more}
use Rattle.std.specs.Prelude.{option_map}
use Rattle.std.specs.List.{find}
use Rattle.histar_flat.specs.declared.calls.User.{User}
use Rattle.histar_flat.specs.Classes.{nobody}
use Rattle.histar_level.specs.declared.level.Level.{Level}
use Rattle.histar_programs.specs.Kin.{user_name}

-- a category and its level
abbrev pub Exception : Type 0
Exception = ℕ × Level

module _ (test : Exception → Bool) where
  -- the category of the first exception that passes
  abbrev pub first_passed : List Exception → Option ℕ
  first_passed es = option_map (λ e. e.0) (find test es)

-- one more value that is made of the next element
pub mapped_more : (f : ℕ → ℕ) (xs before made : List ℕ) (i x : ℕ) → i < length xs → made ≡ before ++ map f (take i xs) → x ≡ f (get_or xs i 0)
    → made ++ x ∷ [] ≡ before ++ map f (take (i + 1) xs)
mapped_more f xs before made i x within so_far is =
    ap (λ (ys : List ℕ). ys ++ x ∷ []) so_far
    ∙ append_assoc before (map f (take i xs)) (x ∷ [])
    ∙ ap (λ (ys : List ℕ). before ++ ys) (
    ap (λ (y : ℕ). map f (take i xs) ++ y ∷ []) is
    ∙ sym (ap (map f) (take_more xs i 0 within) ∙ map-append f (take i xs) (get_or xs i 0 ∷ [])))

-- ---- names of users

-- a user's name
pub name_at : (users : List User) (number : ℕ) (d : User) → 0 < number → number ≤ length users
    → (get_or users (number - 1) d).name ≡ user_name users number
name_at users zero d some most = absurd (omega arith)
name_at [] (suc i) d some most = absurd (omega arith)
name_at (first ∷ users) (suc zero) d some most = refl
name_at (first ∷ users) (suc (suc i)) d some most =
    let less : suc (suc i) - 1 ≡ suc i = omega arith in
    let same : i ≡ suc i - 1 = omega arith in
    ap (λ (n : ℕ). (get_or (first ∷ users) n d).name) less ∙ ap (λ (n : ℕ). (get_or users n d).name) same
    ∙ name_at users (suc i) d (omega arith) (omega arith)

-- the name of user number 0 is nobody's
pub name_none : (users : List User) → user_name users 0 ≡ nobody
name_none [] = refl
name_none (user ∷ users) = refl

-- the name of a number that no user has is nobody's
pub name_past : (users : List User) (number : ℕ) → length users < number → user_name users number ≡ nobody
name_past [] zero past = refl
name_past (user ∷ users) zero past = refl
name_past [] (suc i) past = refl
name_past (user ∷ users) (suc zero) past = absurd (omega arith)
name_past (user ∷ users) (suc (suc i)) past = name_past users (suc i) (omega arith)
