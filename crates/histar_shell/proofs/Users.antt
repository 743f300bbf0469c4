-- The users and the groups of a script are accounts, and its calls are calls that a line can make.
use Rattle.std.proofs.Common.{◌≡◌, ◌≢◌, ℕ, ◌+◌, ◌<◌, get_or, Bool, true, false, ◌&&◌, List, [], ◌∷◌, ◌++◌, length, cond, None, Some, Result, Ok, Err}
use Rattle.std.proofs.Common.{refl, sym, ap, ◌∙◌, subst, inl, inr, if◌then◌else◌, arith}
use Rattle.std.specs.Prelude.{IsTrue, All, AllPairs, is_some, not, nat_lt, option_map, slice_get}
use Rattle.std.specs.List.{AllByRecursion, position_or_len}
use Rattle.std.specs.Str.{bytes_eq}
use Rattle.std.proofs.lemmas.Bool.Decides.{nat_tests}
use Rattle.std.proofs.lemmas.List.Elements.{All-head, All-tail}
use Rattle.std.proofs.lemmas.Bool.{cases_lt, not-true}
use Rattle.std.proofs.lemmas.List.Folds.{Any-from_list_any}
use Rattle.std.proofs.lemmas.Option.{get_or_from_slice_get, slice_get-get_or, slice_get_within}
use Rattle.histar_flat.specs.declared.calls.User.{User}
use Rattle.histar_flat.specs.declared.calls.UnixCall.{UnixCall}
use Rattle.histar_flat.specs.Words.{Name, is_name, is_user_name, begins_with_letter}
use Rattle.histar_flat.specs.Accounts.{Group, Accounts, is_member, user_number}
use Rattle.histar_base.specs.Paths.{same}
use Rattle.histar_flat.specs.Classes.{nobody}
use Rattle.histar_flat.specs.declared.calls.CallLine.{CallLine}
use Rattle.histar_script.specs.declared.items.Item.{Item}
use Rattle.histar_script.specs.declared.items.Item.TheVariants as items
use Rattle.histar_script.specs.declared.fault.Fault.{Fault}
use Rattle.histar_script.specs.declared.fault.Fault.TheVariants.{TooLong}
use Rattle.histar_script.specs.Lines.{lines_of, is_too_long}
use Rattle.histar_script.specs.Script.{ScriptModel, nothing_read, IsUserList, IsUserOf, IsMembership, AreGroups, IsDeclared}
use Rattle.histar_script.specs.Grammar.{Says, Adds, TakesLines, IsScript}
use Rattle.histar_script.specs.Reading.{reading, script_of}
use Rattle.histar_script.proofs.FormsBack.{spelled_is_call}
use Rattle.histar_script.proofs.ScriptsBack.{found_from}
use Rattle.histar_script.proofs.Kept.{is_declared}
use Rattle.histar_refinement.specs.Accounts.{AreAccounts}
use Rattle.histar_refinement.proofs.AccountLemmas.{from_members}
use Rattle.histar_layout.proofs.Declared.{has_a_number, equal_tested, equal_names}
use Rattle.histar_flat.specs.Calls.{IsCall}

-- a test that comes last of three
last_passes : (a b c : Bool) → (a && b && c) ≡ true → c ≡ true
last_passes true true c h = h
last_passes true false c h = absurd cc
last_passes false b c h = absurd cc

-- a user's name is not `nobody`
is_not_nobody : (name : List ℕ) → IsTrue (is_user_name name) → bytes_eq name nobody ≡ false
unfolding is_user_name
is_not_nobody name h = not-true (bytes_eq name nobody) (last_passes (is_name name) (begins_with_letter name) (not (bytes_eq name nobody)) h)

-- no user of a script is the first with the name of nobody
none_first : (users : List User) → All (λ (u : User). IsTrue (is_user_name u.name)) users
    → position_or_len (λ (u : User). bytes_eq u.name nobody) users ≡ length users
none_first [] named = refl
none_first (u ∷ users) named =
    let later = none_first users (All-tail (λ (v : User). IsTrue (is_user_name v.name)) u users named) in
    let next : 1 + position_or_len (λ (v : User). bytes_eq v.name nobody) users ≡ length (u ∷ users) = omega (arith, later) in
    ap (λ (b : Bool). cond (not b) (1 + position_or_len (λ (v : User). bytes_eq v.name nobody) users) 0)
    (is_not_nobody u.name (All-head (λ (v : User). IsTrue (is_user_name v.name)) u users named)) ∙ next

-- nobody has no number
nobody_unnumbered : (accounts : Accounts) → IsUserList accounts.users → user_number accounts nobody ≡ None
nobody_unnumbered accounts h =
    let users = accounts.users in
    let outside : nat_lt (length users) (length users) ≡ false = grind (arith, nat_tests) in
    ap (λ (k : ℕ). option_map (λ (place : ℕ). place + 1) (cond (nat_lt k (length users)) (Some k) None)) (none_first users h.named)
    ∙ ap (λ (b : Bool). option_map (λ (place : ℕ). place + 1) (cond b (Some (length users)) None)) outside

-- groups of a script that have one name are one
one_group : (groups : List Group) → AllPairs (λ (g h : Group). g.name ≢ h.name) groups → (i j : ℕ) (g h : Group)
    → slice_get groups i ≡ Some g → slice_get groups j ≡ Some h → i < j → g.name ≢ h.name
one_group groups distinct i j g h at_i at_j lt same =
    let first : get_or groups i g ≡ g = get_or_from_slice_get groups i g g at_i in
    let second : get_or groups j g ≡ h = get_or_from_slice_get groups j h g at_j in
    distinct i j g lt (slice_get_within groups j h at_j) (ap (λ (x : Group). x.name) first ∙ same ∙ ap (λ (x : Group). x.name) (sym second))

groups_apart : (accounts : Accounts) → AreGroups accounts → (i j : ℕ) (g h : Group)
    → slice_get accounts.groups i ≡ Some g → slice_get accounts.groups j ≡ Some h → same g.name h.name ≡ true → i ≡ j
groups_apart accounts are i j g h at_i at_j alike = elim (cases_lt i j) [
  | inl less ↦ absurd (one_group accounts.groups are.distinct i j g h at_i at_j less (equal_names g.name h.name alike))
  | inr most ↦ elim (cases_lt j i) [
    | inl less ↦ absurd (one_group accounts.groups are.distinct j i h g at_j at_i less (sym (equal_names g.name h.name alike)))
    | inr least ↦ omega (arith, most, least)
  ]
]

-- a member of a group of a script is a user
member_declared : (accounts : Accounts) → AreGroups accounts → (name group : Name)
    → is_member accounts name group ≡ true → is_some (user_number accounts name) ≡ true
member_declared accounts are name group member =
    let found = from_members accounts.groups name group member in
    let i = found.0 in
    let g = found.1 in
    let of_group : IsMembership accounts.users g =
    subst (IsMembership accounts.users) (get_or_from_slice_get accounts.groups i g g found.2)
    (are.members i g (slice_get_within accounts.groups i g found.2)) in
    let among = Any-from_list_any (same name) g.members found.4 in
    let user : IsUserOf accounts.users among.1 = subst (IsUserOf accounts.users) among.3 (of_group.declared among.0 among.1 among.2) in
    has_a_number accounts name user.0 user.1 (slice_get-get_or accounts.users user.0 user.1 user.2 ∙ ap Some user.3)
    (equal_tested user.1.name name (user.4 ∙ sym (equal_names name among.1 among.4)))

-- the users and the groups of a script are accounts
pub is_accounts : (accounts : Accounts) → IsDeclared accounts → AreAccounts accounts
is_accounts accounts declared = record {
  no_one = nobody_unnumbered accounts declared.users;
  groups_differ = groups_apart accounts declared.groups;
  declared = member_declared accounts declared.groups;
}

-- the calls of lines are calls that a line can make
abbrev pub AreScriptable : List CallLine → Type 0
AreScriptable calls = AllByRecursion (λ (c : CallLine). IsCall c.call) calls

-- call lines with one call more
more_scriptable : (calls : List CallLine) (c : CallLine) → AreScriptable calls → IsCall c.call → AreScriptable (calls ++ c ∷ [])
more_scriptable [] c h k = (k, tt)
more_scriptable (d ∷ calls) c h k = (h.0, more_scriptable calls c h.1 k)

-- a call line says a call that a line can make
said_scriptable : (line process : List ℕ) (c : UnixCall) → Says line (items.Call process c) → IsCall c
said_scriptable line process c (inl h) = absurd cc
said_scriptable line process c (inr h) = spelled_is_call h.1.0 c h.1.3

-- an item that is added
item_scriptable : (s : ScriptModel) (n : ℕ) (line : List ℕ) (i : Item) (t : ScriptModel) → AreScriptable s.calls
    → Says line i → Adds s n i t → AreScriptable t.calls
item_scriptable s n line items.Comment t h said added = subst (λ (r : ScriptModel). AreScriptable r.calls) (sym added) h
item_scriptable s n line (items.User u) t h said added = subst (λ (r : ScriptModel). AreScriptable r.calls) (sym added.4) h
item_scriptable s n line (items.Group g) t h said added = subst (λ (r : ScriptModel). AreScriptable r.calls) (sym added.5) h
item_scriptable s n line (items.Call p c) t h said added =
    subst (λ (r : ScriptModel). AreScriptable r.calls) (sym added.2)
    (more_scriptable s.calls (record { line = n; process = p; call = c }) h (said_scriptable line p c said))

-- all lines
lines_scriptable : (s : ScriptModel) (n : ℕ) (lines : List (List ℕ)) (t : ScriptModel) → TakesLines s n lines t
    → AreScriptable s.calls → AreScriptable t.calls
lines_scriptable s n [] t h k = subst (λ (r : ScriptModel). AreScriptable r.calls) (sym h) k
lines_scriptable s n (line ∷ lines) t h k = lines_scriptable h.0 (n + 1) lines t h.2 (item_scriptable s (n + 1) line h.1.0 h.0 k h.1.1 h.1.2)

-- what was read of a text that is not too long is a script
script_is : (long : Bool) (fault : Result ScriptModel Fault) (text : List ℕ) (script : ScriptModel)
    → (if long then fault else reading text) ≡ Ok script → ((r : ScriptModel) → fault ≡ Ok r → ⊥) → IsScript text script
script_is true fault text script e never = absurd (never script e)
script_is false fault text script e never = found_from text script e

-- a fault is no script
too_long_is_none : (r : ScriptModel) → ◌≡◌ {A = Result ScriptModel Fault} (Err TooLong) (Ok r) → ⊥
too_long_is_none r e = absurd cc

-- the users, the groups and the calls of a text that is a script
pub script_says : (text : List ℕ) (script : ScriptModel) → script_of text ≡ Ok script → IsDeclared script.accounts × AreScriptable script.calls
script_says text script e =
    let is = script_is (is_too_long text) (Err TooLong) text script e too_long_is_none in
    (is_declared text script is, lines_scriptable nothing_read 0 (lines_of text) script is.0 tt)
