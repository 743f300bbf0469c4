-- Reading a script from its first line to its last, up to the first bad line.
use Rattle.std.specs.Prelude.{ℕ, zero, suc, ◌+◌, Bool, true, not, ◌&&◌, List, [], ◌∷◌, ◌++◌, length, codes, Option, Some, None, Result, Ok, Err}
use Rattle.std.specs.Prelude.{option_and_then, option_map, nat_lt, nat_le, ◌==◌, if◌then◌else◌}
use Rattle.std.specs.List.{list_any, list_all}
use Rattle.std.specs.Str.{bytes_eq}
use Rattle.histar_flat.specs.declared.calls.User.{User}
use Rattle.histar_flat.specs.declared.calls.UnixCall.{UnixCall}
use Rattle.histar_flat.specs.Words.{Name, name_of, user_name_of, password_of, path_of, process_of, number_of}
use Rattle.histar_flat.specs.Modes.{mode_of}
use Rattle.histar_flat.specs.Accounts.{Accounts, Group, most_users, most_groups, most_members, with_user, with_group, has, is_group}
use Rattle.histar_script.specs.declared.fault.Fault.{Fault}
use Rattle.histar_script.specs.declared.fault.Fault.TheVariants.{BadScript, TooLong}
use Rattle.histar_script.specs.declared.items.Item.{Item}
use Rattle.histar_script.specs.declared.items.Item.TheVariants as items
use Rattle.histar_script.specs.Lines.{lines_of, is_too_long, is_plain, split_word}
use Rattle.histar_script.specs.CallForms.{Argument, a_path, a_mode, any_bytes, a_name, a_password, a_process, a_number, Value, CallForm, alone, one}
use Rattle.histar_script.specs.CallForms.{two, call_forms}
use Rattle.histar_script.specs.Script.{ScriptModel, nothing_read, is_declared_call}

-- the function of the value, if there is one
infixl 10 ◌>>=◌
abbrev pub ◌>>=◌ : {A B : Type 0} → Option A → (A → Option B) → Option B
o >>= f = option_and_then f o

-- NAME PASSWORD of a user line
unfoldable pub user_of : List ℕ → Option User
user_of text = do
  name ← user_name_of (split_word text).0
  rest ← (split_word text).1
  password ← password_of rest
  Some (record { name = name; password = password })

-- the members before, and then those that the text names, at most this many and with one space between two
unfoldable pub members_from : ℕ → List Name → List ℕ → Option (List Name)
members_from zero members text = None
members_from (suc most) members text = user_name_of (split_word text).0 >>= λ name.
    elim (split_word text).1 [ None ↦ Some (members ++ name ∷ []) | Some rest ↦ members_from most (members ++ name ∷ []) rest ]

-- the members that a text names: 1 to 16, with one space between two
abbrev pub members_of : List ℕ → Option (List Name)
members_of text = members_from most_members [] text

-- NAME USER.. of a group line
unfoldable pub group_of : List ℕ → Option Group
group_of text = do
  name ← user_name_of (split_word text).0
  rest ← (split_word text).1
  members ← members_of rest
  Some (record { name = name; members = members })

-- the value of an argument that the text spells
abbrev pub value_of : (a : Argument) → List ℕ → Option (Value a)
value_of a_path text = path_of text
value_of a_mode text = mode_of text
value_of any_bytes text = Some text
value_of a_name text = name_of text
value_of a_password text = password_of text
value_of a_process text = process_of text
value_of (a_number greatest) text = number_of (λ n. nat_le n greatest) text

-- the values of two arguments, the first of which ends at the first space
unfoldable pub two_values_of : (a b : Argument) → List ℕ → Option (Value a × Value b)
two_values_of a b text = do
  x ← value_of a (split_word text).0
  rest ← (split_word text).1
  y ← value_of b rest
  Some (x, y)

-- the word of a form
abbrev pub form_word : CallForm → List ℕ
form_word (alone word call) = word
form_word (one word a make) = word
form_word (two word a b make) = word

-- the call that has no argument, unless something follows its word
abbrev pub lone_call_of : UnixCall → Option (List ℕ) → Option UnixCall
lone_call_of call None = Some call
lone_call_of call (Some text) = None

-- the call that a form makes of what follows its word
abbrev pub call_by : CallForm → Option (List ℕ) → Option UnixCall
call_by (alone word call) rest = lone_call_of call rest
call_by (one word a make) rest = rest >>= λ text. option_map make (value_of a text)
call_by (two word a b make) rest = rest >>= λ text. option_map (λ w. make w.0 w.1) (two_values_of a b text)

-- the call of the first form that has this word, given what follows the word
abbrev pub call_among : List CallForm → List ℕ → Option (List ℕ) → Option UnixCall
call_among [] word rest = None
call_among (form ∷ forms) word rest = if bytes_eq word (form_word form) then call_by form rest else call_among forms word rest

-- a call: its word, and its arguments
unfoldable pub call_of : List ℕ → Option UnixCall
call_of text = call_among call_forms (split_word text).0 (split_word text).1

-- a user, as an item
abbrev pub user_item : List ℕ → Option Item
user_item text = do
  user ← user_of text
  Some (items.User user)

-- a group, as an item
abbrev pub group_item : List ℕ → Option Item
group_item text = do
  group ← group_of text
  Some (items.Group group)

-- a call of a process, as an item
abbrev pub call_item : List ℕ → List ℕ → Option Item
call_item word text = do
  process ← process_of word
  call ← call_of text
  Some (items.Call process call)

-- the item of `user NAME PASSWORD`, `group NAME USER..` or `PROC CALL`
unfoldable pub words_item : List ℕ → Option Item
words_item line = do
  rest ← (split_word line).1
  if bytes_eq (split_word line).0 (codes "user") then user_item rest
      else (if bytes_eq (split_word line).0 (codes "group") then group_item rest
      else call_item (split_word line).0 rest)

-- the item of a line, unless it is bad: a comment if the line is empty or begins with `#`
unfoldable pub item_of : List ℕ → Option Item
item_of [] = Some items.Comment
item_of (b ∷ bs) = if is_plain (b ∷ bs) then (if b == 35 then Some items.Comment else words_item (b ∷ bs)) else None

-- some user has the name
abbrev pub has_user : List User → Name → Bool
has_user users name = list_any (λ u. bytes_eq u.name name) users

-- no element
abbrev pub is_empty : {X : Type 0} → List X → Bool
is_empty xs = length xs == 0

-- a line that declares this user may be here
abbrev pub takes_user : ScriptModel → User → Bool
takes_user s u = is_empty s.accounts.groups && is_empty s.calls && nat_lt (length s.accounts.users) most_users && not (has_user s.accounts.users u.name)

-- each name is a user's
abbrev pub are_users : List User → List Name → Bool
are_users users names = list_all (has_user users) names

-- no name occurs twice
abbrev pub are_distinct : List Name → Bool
are_distinct [] = true
are_distinct (name ∷ names) = not (has names name) && are_distinct names

-- no user and no group has the name
abbrev pub is_new_name : Accounts → Name → Bool
is_new_name accounts name = not (has_user accounts.users name) && not (is_group accounts name)

-- a line that declares this group may be here
abbrev pub takes_group : ScriptModel → Group → Bool
takes_group s g = is_empty s.calls && nat_lt (length s.accounts.groups) most_groups && is_new_name s.accounts g.name && are_users s.accounts.users g.members && are_distinct g.members

-- a line with this call may be here
abbrev pub takes_call : ScriptModel → UnixCall → Bool
takes_call s c = not (is_empty s.accounts.users) && is_declared_call s.accounts c

-- the script after a line with this item, unless the item may not be here
unfoldable pub with_item : ScriptModel → ℕ → Item → Option ScriptModel
with_item s n items.Comment = Some s
with_item s n (items.User u) = if takes_user s u then Some (record { accounts = with_user s.accounts u; calls = s.calls }) else None
with_item s n (items.Group g) = if takes_group s g then Some (record { accounts = with_group s.accounts g; calls = s.calls }) else None
with_item s n (items.Call p c) = if takes_call s c then Some (record { accounts = s.accounts; calls = s.calls ++ (record { line = n; process = p; call = c }) ∷ [] }) else None

-- the script after line n
unfoldable pub with_line : ScriptModel → ℕ → List ℕ → Option ScriptModel
with_line s n line = item_of line >>= λ i. with_item s n i

-- the script after these lines, which follow n others, or their fault
unfoldable pub with_lines : ScriptModel → ℕ → List (List ℕ) → Result ScriptModel Fault
with_lines s n [] = if is_empty s.accounts.users then Err (BadScript (n + 1)) else Ok s
with_lines s n (line ∷ lines) = elim (with_line s (n + 1) line) [ None ↦ Err (BadScript (n + 1)) | Some t ↦ with_lines t (n + 1) lines ]

-- the script of a text that is not too long, or its fault
unfoldable pub reading : List ℕ → Result ScriptModel Fault
reading text = with_lines nothing_read 0 (lines_of text)

-- the script of a text, or its fault
abbrev pub script_of : List ℕ → Result ScriptModel Fault
script_of text = if is_too_long text then Err TooLong else reading text
