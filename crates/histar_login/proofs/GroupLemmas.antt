-- What groups add to the gates and to the user table, one group after another.
use Rattle.std.proofs.Common.{◌≡◌, ℕ, ◌+◌, ◌*◌, ◌<◌, ◌≤◌, Bool, All, true, false, List, [], ◌∷◌, ◌++◌, length, get_or, take, refl, sym, ap, ◌∙◌}
use Rattle.std.proofs.Common.{arith, add-zero, append-nil, append_assoc, if◌then◌else◌}
use Rattle.std.specs.Prelude.{map}
use Rattle.std.proofs.lemmas.List.Elements.{All-nil, All-cons}
use Rattle.std.specs.Int.{w64, to_be_bytes}
use Rattle.std.proofs.lemmas.List.{get_or_default, length-take-le}
use Rattle.histar_flat.specs.declared.calls.User.{User}
use Rattle.histar_flat.specs.Accounts.{Group, Accounts, has, numbers_with}
use Rattle.histar_flat.specs.Words.{Name}
use Rattle.histar_level.specs.declared.level.Level.{Level}
use Rattle.histar_level.specs.Levels.{Levels}
use Rattle.histar_label.specs.Levels.{with_level}
use Rattle.histar_layout.specs.Categories.{read_category, write_category, group_owner, owners_of}
use Rattle.histar_layout.specs.Labelling.{with_levels, labelled}
use Rattle.histar_layout.proofs.LabellingLemmas.{take_next}
use Rattle.histar_layout.proofs.OwnersOf.{behind_choice}
use Rattle.histar_programs.specs.Start.{numbered, at_both, declared, own_read_category, numbers_among, group_entry, group_part}
use Rattle.histar_login.proofs.StartLemmas.{numbered_next}

-- both categories of one more owner come last
both-more : (L : Levels) (level : Level) (owners : List ℕ) (i : ℕ)
    → with_levels L (at_both level (owners ++ i ∷ []))
    ≡ with_level (with_level (with_levels L (at_both level owners)) (read_category i) level) (write_category i)
    level
both-more L level [] i = refl
both-more L level (j ∷ owners) i = both-more (with_level (with_level L (read_category j) level) (write_category j) level) level owners i

-- a label with the categories of one more
pub both_next : (level default : Level) (owners : List ℕ) (k : ℕ) → k < length owners
    → labelled (at_both level (take (k + 1) owners)) default
    ≡ with_level
    (with_level (labelled (at_both level (take k owners)) default) (read_category (get_or owners k 0)) level)
    (write_category (get_or owners k 0)) level
both_next level default owners k lt =
    ap (λ (l : List ℕ). labelled (at_both level l) default)
    (take_next owners k (get_or owners k 0) lt (get_or_default owners k 0 (get_or owners k 0) lt))
    ∙ both-more _ level (take k owners) (get_or owners k 0)

-- the numbers of the users with these names, where the last user is one more
numbers_behind : (i : ℕ) (users : List User) (user : User) (names : List Name)
    → numbers_among i (users ++ user ∷ []) names ≡ numbers_among i users names ++ (if has names user.name then (i + length users) ∷ [] else [])
numbers_behind i [] user names = ap (λ (k : ℕ). if has names user.name then k ∷ [] else []) (sym (add-zero i))
numbers_behind i (first ∷ users) user names =
    let next : i + 1 + length users ≡ i + length (first ∷ users) = omega arith in
    behind_choice (has names first.name) i (numbers_among (i + 1) (users ++ user ∷ []) names)
    (numbers_among (i + 1) users names) (if has names user.name then (i + length (first ∷ users)) ∷ [] else [])
    (numbers_behind (i + 1) users user names ∙ ap (λ (k : ℕ). numbers_among (i + 1) users names ++ (if has names user.name then k ∷ [] else [])) next)

-- the numbers of members with that of one user more, by whether it is a member
numbers_next : (users : List User) (names : List Name) (k : ℕ) (user : User) (b : Bool) → k < length users
    → user ≡ get_or users k user → has names user.name ≡ b
    → numbers_among 1 (take (k + 1) users) names ≡ numbers_among 1 (take k users) names ++ (if b then (k + 1) ∷ [] else [])
numbers_next users names k user b lt is member =
    let place : 1 + length (take k users) ≡ k + 1 = omega (arith, length-take-le k users (omega arith)) in
    ap (λ (l : List User). numbers_among 1 l names) (take_next users k user lt is) ∙ numbers_behind 1 (take k users) user names
    ∙ (λ j. numbers_among 1 (take k users) names ++ (if member j then place j ∷ [] else []))

-- the number of a member is appended to those before
pub member_more : (users : List User) (names : List Name) (k : ℕ) (user : User) (front before after : List ℕ)
    → k < length users → user ≡ get_or users k user → has names user.name ≡ true
    → before ≡ front ++ numbers_among 1 (take k users) names → after ≡ before ++ (k + 1) ∷ []
    → after ≡ front ++ numbers_among 1 (take (k + 1) users) names
member_more users names k user front before after lt is member old new =
    new ∙ ap (λ (l : List ℕ). l ++ (k + 1) ∷ []) old ∙ append_assoc front (numbers_among 1 (take k users) names) ((k + 1) ∷ [])
    ∙ ap (λ (l : List ℕ). front ++ l) (sym (numbers_next users names k user true lt is member))

-- a user who is no member adds none
pub member_same : (users : List User) (names : List Name) (k : ℕ) (user : User) (front before : List ℕ)
    → k < length users → user ≡ get_or users k user → has names user.name ≡ false
    → before ≡ front ++ numbers_among 1 (take k users) names → before ≡ front ++ numbers_among 1 (take (k + 1) users) names
member_same users names k user front before lt is stranger old =
    old ∙ ap (λ (l : List ℕ). front ++ l) (sym (numbers_next users names k user false lt is stranger ∙ append-nil _))

parts : (t0 t1 t2 t3 t4 t5 t6 : List ℕ) (n m : ℕ) (a b c d : List ℕ) → t1 ≡ t0 ++ n ∷ [] → t2 ≡ t1 ++ a → t3 ≡ t2 ++ b
    → t4 ≡ t3 ++ c → t5 ≡ t4 ++ m ∷ [] → t6 ≡ t5 ++ d
    → t6 ≡ t0 ++ ((((n ∷ a) ++ b) ++ c) ++ m ∷ d)
parts t0 t1 t2 t3 t4 t5 t6 n m a b c d e1 e2 e3 e4 e5 e6 =
    e6 ∙ ap (λ t. t ++ d) (e5 ∙ ap (λ t. t ++ m ∷ []) (e4 ∙ ap (λ t. t ++ c) (e3 ∙ ap (λ t. t ++ b) (e2 ∙ ap (λ t. t ++ a) e1)))) ∙ simp append_assoc

-- the parts of a group are appended to a table one by one
pub group_grows : (t0 t1 t2 t3 t4 t5 t6 : List ℕ) (users : List User) (k : ℕ) (group : Group)
    → t1 ≡ t0 ++ length group.name ∷ [] → t2 ≡ t1 ++ group.name → t3 ≡ t2 ++ to_be_bytes w64 (read_category (group_owner (length users) k))
    → t4 ≡ t3 ++ to_be_bytes w64 (write_category (group_owner (length users) k)) → t5 ≡ t4 ++ length group.members ∷ []
    → t6 ≡ t5 ++ numbers_among 1 users group.members → t6 ≡ t0 ++ group_entry users k group
unfolding group_entry
group_grows t0 t1 t2 t3 t4 t5 t6 users k group e1 e2 e3 e4 e5 e6 =
    parts t0 t1 t2 t3 t4 t5 t6 (length group.name) (length group.members) group.name _ _ _ e1 e2 e3 e4 e5 e6

-- the groups of the user table with one group more
pub groups_next : (users : List User) (groups : List Group) (k : ℕ) (x : Group) (front before after : List ℕ)
    → k < length groups → x ≡ get_or groups k x
    → before ≡ front ++ numbered (group_entry users) 1 (take k groups) → after ≡ before ++ group_entry users (k + 1) x
    → after ≡ front ++ numbered (group_entry users) 1 (take (k + 1) groups)
groups_next users groups k x front before after lt is old new =
    new ∙ ap (λ (l : List ℕ). l ++ group_entry users (k + 1) x) old
    ∙ append_assoc front (numbered (group_entry users) 1 (take k groups)) (group_entry users (k + 1) x)
    ∙ ap (λ (l : List ℕ). front ++ l) (sym (numbered_next (group_entry users) groups k x lt is))

-- all groups of the user table, if there is one
pub groups_all : (users : List User) (groups : List Group) (front after : List ℕ) → 0 < length groups
    → after ≡ (front ++ 0 ∷ []) ++ numbered (group_entry users) 1 groups
    → after ≡ front ++ group_part users groups
groups_all users [] front after some e = absurd (omega (arith, some))
groups_all users (g ∷ groups) front after some e = e ∙ append_assoc front (0 ∷ []) (numbered (group_entry users) 1 (g ∷ groups))

-- what holds of a group's number and of all others holds of all that the member owns, whether the group has the member or not
choice_within : (b : Bool) (P : ℕ → Type 0) (n k : ℕ) (ks : List ℕ) → P (group_owner n k)
    → All P (map (group_owner n) ks) → All P (map (group_owner n) (if b then k ∷ ks else ks))
choice_within true P n k ks here rest = All-cons P (group_owner n k) (map (group_owner n) ks) here rest
choice_within false P n k ks here rest = rest

-- the categories of a member's groups were made, where the last group's are
groups_within : (n next k : ℕ) (groups : List Group) (name : Name) → 2 + 2 * (n + k + length groups) ≤ next
    → All (λ o. write_category o < next) (map (group_owner n) (numbers_with k groups name))
groups_within n next k [] name enough = All-nil (λ o. write_category o < next)
groups_within n next k (g ∷ groups) name enough =
    choice_within (has g.members name) (λ o. write_category o < next) n k (numbers_with (k + 1) groups name)
    (omega (arith, enough)) (groups_within n next (k + 1) groups name (omega (arith, enough)))

-- the categories that a user owns were made before process 0
pub owners_within : (accounts : Accounts) (i : ℕ) (name : Name) (next : ℕ) → i ≤ length accounts.users
    → next ≡ own_read_category (declared accounts) → All (λ o. write_category o < next) (owners_of accounts i name)
owners_within accounts i name next within is =
    All-cons (λ o. write_category o < next) i _ (omega (arith, within, is))
    (groups_within (length accounts.users) next 1 accounts.groups name (omega (arith, is)))
