-- Looking up the number of a user by the name.
use Rattle.std.proofs.Common.{◌≡◌, ◌≢◌, ℕ, zero, suc, ◌+◌, ◌<◌, ◌≤◌, Bool, true, false, cond, List, [], ◌∷◌, ◌++◌, length, get_or, take, None, Some}
use Rattle.std.proofs.Common.{refl, sym, ap, ◌∙◌, arith, if◌then◌else◌}
use Rattle.std.specs.Prelude.{◌||◌, map, nat_eq, nat_lt, not, option_map, position}
use Rattle.std.specs.List.{list_any, position_or_len}
use Rattle.std.specs.Cmp.Lexicographic.{pointwise, nat_list_eq_equiv, same_text}
use Rattle.std.proofs.lemmas.List.{length-map, map-append}
use Rattle.indexmap.specs.IndexSet.{insert_key}
use Rattle.histar_flat.specs.declared.calls.User.{User}
use Rattle.histar_base.specs.Paths.{same}
use Rattle.histar_flat.specs.Accounts.{Group, user_number}
use Rattle.histar_flat.specs.Words.{Name}
use Rattle.histar_layout.specs.declared.user_table.UserName.{UserName}
use Rattle.histar_layout.specs.UserTable.{HaveOwnNames, called, without_password}
use Rattle.histar_layout.proofs.LabellingLemmas.{take_next}

-- the key by which a user is looked up
abbrev pub key : User → UserName
key user = record { name = user.name }

-- two keys are the same
abbrev pub same_user : UserName → UserName → Bool
same_user a b = pointwise nat_eq a.name b.name

-- the user of a key that is kept
abbrev pub known : UserName → User
known kept = called kept.name

-- where the first test can't pass and the second fails, neither passes
not_first : (b c : Bool) → (b ≡ true → b ≡ false) → c ≡ false → (b || c) ≡ false
not_first true c never none = never refl
not_first false c never none = none

-- none of the users before a place has the name of another one
none_before : (user : User) (users : List User) (place : ℕ) → place ≤ length users
    → ((j : ℕ) → j < place → (get_or users j user).name ≢ user.name)
    → list_any (same_user (key user)) (map key (take place users)) ≡ false
none_before user [] zero within apart = refl
none_before user (x ∷ users) zero within apart = refl
none_before user [] (suc place) within apart = absurd (omega arith)
none_before user (x ∷ users) (suc place) within apart =
    not_first (pointwise nat_eq user.name x.name) (list_any (same_user (key user)) (map key (take place users)))
    (λ e. absurd (apart 0 (omega arith) (sym (same_text user.name x.name (sym e)))))
    (none_before user users place (omega arith) (λ j lt. apart (suc j) (omega arith)))

-- one more name is kept
pub names_more : (users : List User) (place : ℕ) (user : User) → HaveOwnNames users → place < length users
    → user ≡ get_or users place user → (kept : List UserName) → kept ≡ map key (take place users)
    → insert_key same_user kept (key user) ≡ map key (take (place + 1) users)
names_more users place user own below at kept is =
    let alone = none_before user users place (omega arith) (λ j lt e. own j place user lt below (e ∙ ap (λ (u : User). u.name) at)) in
    ap (λ (l : List UserName). insert_key same_user l (key user)) is
    ∙ ap (λ (b : Bool). if b then map key (take place users) else map key (take place users) ++ key user ∷ []) alone
    ∙ sym (ap (map key) (take_next users place user below at) ∙ map-append key (take place users) (user ∷ []))

-- a name is at the place of its user
same_place : (name : Name) (kept : List UserName)
    → position_or_len (λ (u : User). same u.name name) (map known kept)
    ≡ position_or_len (same_user (record { name = name })) kept
same_place name [] = refl
same_place name (k ∷ kept) = λ i. cond (not (nat_list_eq_equiv.symm k.name name i)) (1 + same_place name kept i) 0

-- there are as many users as names
as_many : (kept : List UserName) → length (map known kept) ≡ length kept
as_many kept = search length-map

-- so the number that is looked up is the user's
pub number_is : (name : Name) (kept : List UserName) (groups : List Group)
    → option_map (λ (place : ℕ). place + 1) (position (same_user (record { name = name })) kept)
    ≡ user_number (record { users = map known kept; groups = groups }) name
number_is name kept groups =
    λ i. option_map (λ (place : ℕ). place + 1) (cond (nat_lt (sym (same_place name kept) i) (sym (as_many kept) i))
    (Some (sym (same_place name kept) i)) None)

-- the users of the names that are kept are those that were declared, without passwords
pub known_again : (users : List User) → map known (map key users) ≡ map without_password users
known_again [] = refl
known_again (user ∷ users) = ap (λ (l : List User). without_password user ∷ l) (known_again users)
