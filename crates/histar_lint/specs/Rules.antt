-- The rules that a line of a script has to keep, each with the sentence that is written if a bad line breaks it.
use Rattle.std.specs.Prelude.{ℕ, ◌+◌, Bool, false, not, nat_lt, List, [], ◌∷◌, ◌++◌, length, codes, decimal, Option, None, Some}
use Rattle.std.specs.Prelude.{true, ◌&&◌, ◌==◌, is_none, is_some, if◌then◌else◌}
use Rattle.std.specs.Option.{option_map_or}
use Rattle.std.specs.Str.{bytes_eq}
use Rattle.histar_flat.specs.declared.calls.CallLine.{CallLine}
use Rattle.histar_flat.specs.declared.calls.User.{User}
use Rattle.histar_flat.specs.declared.calls.UnixCall.{UnixCall}
use Rattle.histar_flat.specs.Words.{Name, password_of, user_name_of}
use Rattle.histar_flat.specs.Accounts.{Group, Accounts, is_group, most_groups, most_users}
use Rattle.histar_script.specs.declared.items.Item.{Item}
use Rattle.histar_script.specs.declared.items.Item.TheVariants as items
use Rattle.histar_script.specs.Script.{ScriptModel, is_declared_call}
use Rattle.histar_script.specs.Reading.{are_distinct, are_users, call_of, group_of, has_user, is_empty, item_of}
use Rattle.histar_lint.specs.declared.shapes.Kind.TheVariants.{Mode, Password}
use Rattle.histar_lint.specs.Lines.{Rule, after_word, byte_rules, first_sentence, rest_of, word_of}
use Rattle.histar_lint.specs.Calls.{call_word_rules, kind_text}
use Rattle.histar_lint.specs.FreeParts.{word_rules}

-- the script of the lines above
abbrev pub read_so_far : Accounts → List CallLine → ScriptModel
read_so_far accounts calls = record { accounts = accounts; calls = calls }

-- the sentence on the name of a user or a group
abbrev pub declared_name_text : List ℕ
declared_name_text = codes "the name of a user or a group has 1 to 32 of a-z, 0-9, dot, underscore and hyphen, begins with a letter and is not nobody"

-- a line declares the user of this name
abbrev pub declares : Name → Option Item → Bool
declares name (Some (items.User u)) = bytes_eq u.name name
declares name (Some (items.Group g)) = false
declares name (Some (items.Call p c)) = false
declares name (Some items.Comment) = false
declares name None = false

-- the number of the first of these lines, which are numbered from one on, that declares the user of this name
abbrev pub declared_from : ℕ → List (List ℕ) → Name → ℕ
declared_from n [] name = n
declared_from n (line ∷ lines) name = if declares name (item_of line) then n else declared_from (n + 1) lines name

-- the number of the first line of a text that declares the user of this name
abbrev pub declared_on : List (List ℕ) → Name → ℕ
declared_on lines name = declared_from 1 lines name

-- the first word of a text is a name for a user or a group, and is one already
abbrev pub is_taken : (Name → Bool) → List ℕ → Bool
is_taken taken text = option_map_or taken (user_name_of (word_of text)) false

-- the sentence that a user is declared already, with the line
abbrev pub declared_twice : List (List ℕ) → Name → List ℕ
declared_twice lines name = codes "user " ++ name ++ codes " stands already on line " ++ decimal (declared_on lines name)

-- the text is two words, with a space between them
abbrev pub are_two_words : List ℕ → Bool
are_two_words text = is_some (after_word text) && is_none (after_word (rest_of text))

-- The rules for the words that follow `user`.
abbrev pub user_word_rules : List ℕ → List Rule
user_word_rules text =
    (not (are_two_words text), codes "a user line is `user NAME PASSWORD`")
    ∷ (is_none (user_name_of (word_of text)), declared_name_text)
    ∷ (is_none (password_of (rest_of text)), kind_text Password) ∷ []

-- The rules for what a user line needs of the lines above, given their script.
abbrev pub user_place_rules : List (List ℕ) → ScriptModel → List ℕ → List Rule
user_place_rules lines s text =
    (not (is_empty s.accounts.groups), codes "a user line after a group line")
    ∷ (not (is_empty s.calls), codes "a user line after a call line")
    ∷ (not (nat_lt (length s.accounts.users) most_users), codes "17 users, and 16 is the most")
    ∷ (is_taken (has_user s.accounts.users) text, declared_twice lines (word_of text)) ∷ []

-- a group has a member that is no user
abbrev pub has_stranger : List User → Option Group → Bool
has_stranger users group = option_map_or (λ (g : Group). not (are_users users g.members)) group false

-- a group has a member twice
abbrev pub has_twin : Option Group → Bool
has_twin group = option_map_or (λ (g : Group). not (are_distinct g.members)) group false

-- The rules for the words that follow `group`.
abbrev pub group_word_rules : List ℕ → List Rule
group_word_rules text =
    (is_none (after_word text), codes "a group line is `group NAME USER..`")
    ∷ (is_none (user_name_of (word_of text)), declared_name_text)
    ∷ (is_none (group_of text), codes "a group has 1 to 16 members, each a user's name, with one space between two") ∷ []

-- The rules for the members of a group, given the users.
abbrev pub member_rules : List User → List ℕ → List Rule
member_rules users text =
    (has_stranger users (group_of text), codes "a member is no user of the lines above")
    ∷ (has_twin (group_of text), codes "a member is there twice") ∷ []

-- The rules for what a group line needs of the lines above.
abbrev pub group_place_rules : ScriptModel → List ℕ → List Rule
group_place_rules s text =
    (not (is_empty s.calls), codes "a group line after a call line")
    ∷ (not (nat_lt (length s.accounts.groups) most_groups), codes "9 groups, and 8 is the most")
    ∷ (is_taken (has_user s.accounts.users) text, codes "a user has this name already")
    ∷ (is_taken (is_group s.accounts) text, codes "a group has this name already")
    ∷ member_rules s.accounts.users text

-- the call names a group that is not declared
abbrev pub is_undeclared : Accounts → Option UnixCall → Bool
is_undeclared accounts call = option_map_or (λ (c : UnixCall). not (is_declared_call accounts c)) call false

-- The rules for what a call line needs of the lines above.
abbrev pub call_place_rules : ScriptModel → List ℕ → List Rule
call_place_rules s text =
    (is_empty s.accounts.users, codes "a call line before any user line")
    ∷ (is_undeclared s.accounts (call_of text), kind_text Mode) ∷ []

-- the rules for a line of the kind that its first word determines
abbrev pub kind_rules : List (List ℕ) → ScriptModel → List ℕ → List Rule
kind_rules lines s line =
    if bytes_eq (word_of line) (codes "user") then user_word_rules (rest_of line) ++ user_place_rules lines s (rest_of line)
    else (if bytes_eq (word_of line) (codes "group") then group_word_rules (rest_of line) ++ group_place_rules s (rest_of line)
    else (call_word_rules (word_of line) (rest_of line) ++ call_place_rules s (rest_of line)))

-- the line is a comment: it is empty, or begins with a number sign
abbrev pub is_comment : List ℕ → Bool
is_comment [] = true
is_comment (b ∷ text) = b == 35

-- The rules for what a line that is no comment says.
abbrev pub said_rules : List (List ℕ) → ScriptModel → List ℕ → List Rule
said_rules lines s line = if is_comment line then [] else (word_rules line ++ kind_rules lines s line)

-- The rules for a line of a text with these lines, in their order, given the script of the lines above.
abbrev pub rules_for : List (List ℕ) → ScriptModel → List ℕ → List Rule
rules_for lines s line = byte_rules line ++ said_rules lines s line

-- the sentence of the first rule that the line breaks
abbrev pub sentence : List (List ℕ) → ScriptModel → List ℕ → Option (List ℕ)
sentence lines s line = first_sentence (rules_for lines s line)
