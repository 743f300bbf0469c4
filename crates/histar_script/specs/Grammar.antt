-- The grammar: what a line says, which script a text is, and which line is bad.
use Rattle.std.specs.Prelude.{◌≡◌, ◌≢◌, ℕ, ◌+◌, ◌-◌, ◌<◌, ◌≤◌, ◌⊎◌, IsTrue, All, Any, List, [], ◌∷◌, ◌++◌, length, take, codes}
use Rattle.std.specs.List.{flat_map}
use Rattle.histar_flat.specs.declared.calls.User.{User}
use Rattle.histar_flat.specs.declared.calls.UnixCall.{UnixCall}
use Rattle.histar_flat.specs.Words.{is_user_name, is_password, is_process}
use Rattle.histar_flat.specs.Texts.{process_text}
use Rattle.histar_flat.specs.Accounts.{Group, most_users, most_groups, most_members, with_user, with_group}
use Rattle.histar_script.specs.declared.items.Item.{Item}
use Rattle.histar_script.specs.declared.items.Item.TheVariants as items
use Rattle.histar_script.specs.Lines.{lines_of, is_plain, ◌space◌}
use Rattle.histar_script.specs.CallForms.{Value, Spells, CallForm, alone, one, two, call_forms}
use Rattle.histar_script.specs.Script.{ScriptModel, IsMembership, nothing_read, is_declared_call}

-- `user NAME PASSWORD`, where NAME may be a user's
pub record IsUserText (text : List ℕ) (u : User) : Type 0 where
  pub spelled : text ≡ codes "user" space u.name space u.password
  pub name : IsTrue (is_user_name u.name)
  pub password : IsTrue (is_password u.password)

-- words with a space before each
abbrev pub spaced : List (List ℕ) → List ℕ
spaced words = flat_map (λ word. 32 ∷ word) words

-- `group NAME USER..`: the name of the group and those of 1 to 16 members, each of which may be a user's
pub record IsGroupText (text : List ℕ) (g : Group) : Type 0 where
  pub spelled : text ≡ codes "group" space (g.name ++ spaced g.members)
  pub name : IsTrue (is_user_name g.name)
  pub members : All (λ member. IsTrue (is_user_name member)) g.members
  pub some : 0 < length g.members
  pub few : length g.members ≤ most_members

-- the text is the word of the form and the texts of its arguments, with a space before each, and the call is the one that their values make
abbrev pub SpellsCall : List ℕ → UnixCall → CallForm → Type 0
SpellsCall text call (alone word made) = (text ≡ word) × (call ≡ made)
SpellsCall text call (one word a make) = (s : List ℕ) × (x : Value a) × (text ≡ word space s) × Spells a s x × (call ≡ make x)
SpellsCall text call (two word a b make) =
    (s t : List ℕ) × (x : Value a) × (y : Value b) × (text ≡ word space s space t) × Spells a s x × Spells b t y × (call ≡ make x y)

-- the text spells the call by one of the forms
abbrev pub IsCallText : List ℕ → UnixCall → Type 0
IsCallText text call = Any (SpellsCall text call) call_forms

-- what a line that is not empty says: `#..`, `user NAME PASSWORD`, `group NAME USER..` or `PROC CALL`
abbrev pub SaysInWords : List ℕ → Item → Type 0
SaysInWords line items.Comment = (rest : List ℕ) × (line ≡ codes "#" ++ rest)
SaysInWords line (items.User u) = IsUserText line u
SaysInWords line (items.Group g) = IsGroupText line g
SaysInWords line (items.Call p c) = (rest : List ℕ) × (line ≡ process_text p space rest) × IsTrue (is_process p) × IsCallText rest c

-- an empty line is a comment, and any other is plain
abbrev pub Says : List ℕ → Item → Type 0
Says line item = ((line ≡ []) × (item ≡ items.Comment)) ⊎ (IsTrue (is_plain line) × SaysInWords line item)

-- a user line comes before the groups and the calls, is one of at most 16, and has a new name; a group line comes before the calls, is
-- one of at most 8, and has a name that is no user's and no group's, and users as its members; a call line comes after some user line,
-- and names no group that is not declared
abbrev pub Adds : ScriptModel → ℕ → Item → ScriptModel → Type 0
Adds old n items.Comment new = new ≡ old
Adds old n (items.User u) new =
    (old.calls ≡ []) × (old.accounts.groups ≡ []) × (length old.accounts.users < most_users) × All (λ v. v.name ≢ u.name) old.accounts.users
    × (new ≡ record { accounts = with_user old.accounts u; calls = old.calls })
Adds old n (items.Group g) new =
    (old.calls ≡ []) × (length old.accounts.groups < most_groups) × All (λ u. u.name ≢ g.name) old.accounts.users × All (λ h. h.name ≢ g.name) old.accounts.groups
    × IsMembership old.accounts.users g × (new ≡ record { accounts = with_group old.accounts g; calls = old.calls })
Adds old n (items.Call p c) new = (0 < length old.accounts.users) × IsTrue (is_declared_call old.accounts c) × (new ≡ record { accounts = old.accounts; calls = old.calls ++ (record { line = n; process = p; call = c }) ∷ [] })

-- line n says an item that adds to the script so far
abbrev pub Takes : ScriptModel → ℕ → List ℕ → ScriptModel → Type 0
Takes old n line new = (item : Item) × Says line item × Adds old n item new

-- these lines, after the first n, are taken one after another
abbrev pub TakesLines : ScriptModel → ℕ → List (List ℕ) → ScriptModel → Type 0
TakesLines old n [] new = new ≡ old
TakesLines old n (line ∷ lines) new = (mid : ScriptModel) × Takes old (n + 1) line mid × TakesLines mid (n + 1) lines new

-- the text is this script: all its lines are taken, and there is a user
abbrev pub IsScript : List ℕ → ScriptModel → Type 0
IsScript text script = TakesLines nothing_read 0 (lines_of text) script × (0 < length script.accounts.users)

-- no script begins with the first n lines of this text
abbrev pub BeginsNone : List ℕ → ℕ → Type 0
BeginsNone text n = (other : List ℕ) (script : ScriptModel) → take n (lines_of other) ≡ take n (lines_of text) → IsScript other script → ⊥

-- some script begins with these lines
abbrev pub BeginsSome : List (List ℕ) → Type 0
BeginsSome lines = (other : List ℕ) × (script : ScriptModel) × (take (length lines) (lines_of other) ≡ lines) × IsScript other script

-- Line n is the first bad one: no script begins with the lines up to it, and some script with those before it.
-- A text of which no line is bad lacks a user, and is bad at its number of lines plus one.
pub record IsFirstBad (text : List ℕ) (n : ℕ) : Type 0 where
  pub none : n ≤ length (lines_of text) → BeginsNone text n
  pub some : BeginsSome (take (n - 1) (lines_of text))
  pub before : (read : ScriptModel) × TakesLines nothing_read 0 (take (n - 1) (lines_of text)) read × (length (lines_of text) < n → read.accounts.users ≡ [])
  pub close : (0 < n) × (n ≤ length (lines_of text) + 1)
