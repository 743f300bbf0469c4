-- The members of a group are read name by name.
use Rattle.std.proofs.Common.{◌≡◌, ℕ, zero, suc, ◌-◌, ◌<◌, List, [], ◌∷◌, ◌++◌, Option, Some, None, refl, sym, ap, ◌∙◌, arith}
use Rattle.histar_flat.specs.Words.{Name, user_name_of}
use Rattle.histar_script.specs.Lines.{split_word}
use Rattle.histar_script.specs.Reading.{◌>>=◌, members_from}

-- the members that a member, if it is read, and what follows it lead to
abbrev pub members_after : ℕ → List Name → Name → Option (List ℕ) → Option (List Name)
members_after most members name after = elim after [ None ↦ Some (members ++ name ∷ []) | Some rest ↦ members_from most (members ++ name ∷ []) rest ]

-- members are read from the first one on
first_member : (most : ℕ) (members : List Name) (text : List ℕ) (name : Option Name)
    → user_name_of (split_word text).0 ≡ name
    → members_from (suc most) members text ≡ (name >>= λ n. members_after most members n (split_word text).1)
unfolding members_from
first_member most members text name is = ap (λ o. o >>= λ n. members_after most members n (split_word text).1) is

-- a word that is no user's name leads to no members
pub no_member : (most : ℕ) (members : List Name) (text : List ℕ) → user_name_of (split_word text).0 ≡ None → members_from most members text ≡ None
unfolding members_from
no_member zero members text none = refl
no_member (suc most) members text none = first_member most members text None none

-- a name with nothing after it is the last member's
pub last_member : (most : ℕ) (members : List Name) (text : List ℕ) (name : Name) → 0 < most
    → user_name_of (split_word text).0 ≡ Some name → (split_word text).1 ≡ None
    → members_from most members text ≡ Some (members ++ name ∷ [])
last_member zero members text name some is end = absurd (omega arith)
last_member (suc most) members text name some is end = first_member most members text (Some name) is ∙ ap (members_after most members name) end

-- a name with a space after it is a member's, and others follow
pub next_member : (most : ℕ) (members : List Name) (text rest : List ℕ) (name : Name) → 0 < most
    → user_name_of (split_word text).0 ≡ Some name → (split_word text).1 ≡ Some rest
    → members_from most members text ≡ members_from (most - 1) (members ++ name ∷ []) rest
next_member zero members text rest name some is on = absurd (omega arith)
next_member (suc most) members text rest name some is on =
    let left : suc most - 1 ≡ most = omega arith in
    first_member most members text (Some name) is ∙ ap (members_after most members name) on
    ∙ ap (λ k. members_from k (members ++ name ∷ []) rest) (sym left)

-- no more than 16 members are read
pub no_room : (members : List Name) (text : List ℕ) → members_from 0 members text ≡ None
unfolding members_from
no_room members text = refl
