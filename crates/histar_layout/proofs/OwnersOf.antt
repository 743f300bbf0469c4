-- The groups whose categories a user owns, one group after another.
use Rattle.std.proofs.Common.{◌≡◌, ℕ, ◌+◌, ◌<◌, Bool, true, false, List, [], ◌∷◌, ◌++◌, length, get_or, take, sym, ap, ◌∙◌, arith, add-zero}
use Rattle.std.proofs.Common.{append-nil, if◌then◌else◌}
use Rattle.std.specs.Prelude.{map}
use Rattle.std.proofs.lemmas.List.{map-append, length-take-le}
use Rattle.histar_flat.specs.Accounts.{Group, has, numbers_with}
use Rattle.histar_flat.specs.Words.{Name}
use Rattle.histar_layout.specs.Categories.{group_owner, owners_among}
use Rattle.histar_layout.proofs.LabellingLemmas.{take_next}

-- the list after a list that may begin with one more number
pub behind_choice : (b : Bool) (m : ℕ) (xs ys zs : List ℕ) → xs ≡ ys ++ zs → (if b then m ∷ xs else xs) ≡ (if b then m ∷ ys else ys) ++ zs
behind_choice true m xs ys zs e = ap (λ (l : List ℕ). m ∷ l) e
behind_choice false m xs ys zs e = e

-- the numbers of the groups of a member, with one more group
numbers-more : (m : ℕ) (xs : List Group) (x : Group) (name : Name)
    → numbers_with m (xs ++ x ∷ []) name ≡ numbers_with m xs name ++ (if has x.members name then (m + length xs) ∷ [] else [])
numbers-more m [] x name = ap (λ (k : ℕ). if has x.members name then k ∷ [] else []) (sym (add-zero m))
numbers-more m (y ∷ xs) x name =
    let next : m + 1 + length xs ≡ m + length (y ∷ xs) = omega arith in
    behind_choice (has y.members name) m (numbers_with (m + 1) (xs ++ x ∷ []) name) (numbers_with (m + 1) xs name)
    (if has x.members name then (m + length (y ∷ xs)) ∷ [] else [])
    (numbers-more (m + 1) xs x name ∙ ap (λ (k : ℕ). numbers_with (m + 1) xs name ++ (if has x.members name then k ∷ [] else [])) next)

-- the owners with one more group, depending on whether the user is a member
owners_with : (users : ℕ) (groups : List Group) (k i : ℕ) (x : Group) (name : Name) (b : Bool) → k < length groups
    → x ≡ get_or groups k x → has x.members name ≡ b
    → owners_among users (take (k + 1) groups) i name
    ≡ owners_among users (take k groups) i name ++ map (group_owner users) (if b then (k + 1) ∷ [] else [])
owners_with users groups k i x name b lt is member =
    let place : 1 + length (take k groups) ≡ k + 1 = omega (arith, length-take-le k groups (omega arith)) in
    ap (λ (l : List Group). owners_among users l i name) (take_next groups k x lt is)
    ∙ ap (λ (l : List ℕ). i ∷ map (group_owner users) l)
    (numbers-more 1 (take k groups) x name ∙ (λ j. numbers_with 1 (take k groups) name ++ (if member j then place j ∷ [] else [])))
    ∙ ap (λ (l : List ℕ). i ∷ l) (map-append (group_owner users) (numbers_with 1 (take k groups) name) (if b then (k + 1) ∷ [] else []))

-- with one more of its groups a user owns that group's categories too
pub owners_more : (users : ℕ) (groups : List Group) (k i : ℕ) (x : Group) (name : Name) → k < length groups
    → x ≡ get_or groups k x → has x.members name ≡ true
    → owners_among users (take (k + 1) groups) i name ≡ owners_among users (take k groups) i name ++ group_owner users (k + 1) ∷ []
owners_more users groups k i x name lt is member = owners_with users groups k i x name true lt is member

-- with a group that it is no member of it owns no more
pub owners_same : (users : ℕ) (groups : List Group) (k i : ℕ) (x : Group) (name : Name) → k < length groups
    → x ≡ get_or groups k x → has x.members name ≡ false
    → owners_among users (take (k + 1) groups) i name ≡ owners_among users (take k groups) i name
owners_same users groups k i x name lt is member = owners_with users groups k i x name false lt is member ∙ append-nil _
