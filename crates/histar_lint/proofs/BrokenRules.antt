-- Each bad line breaks a rule.
use Rattle.std.proofs.Common.{◌≡◌, ℕ, ◌+◌, Bool, true, false, cond, eqb, List, [], ◌∷◌, ◌++◌, length, codes, Option, Some, None, ◌||◌}
use Rattle.std.proofs.Common.{◌&&◌, inl, inr, refl, sym, ap, ◌∙◌, subst, arith}
use Rattle.std.specs.Prelude.{not, is_some, is_none, unwrap_or, nat_lt, nat_le}
use Rattle.std.specs.List.{list_all}
use Rattle.std.specs.Option.{option_map_or}
use Rattle.std.specs.Str.{bytes_eq}
use Rattle.histar_flat.proofs.Options.{bind_some, either_chosen}
use Rattle.histar_flat.specs.declared.calls.User.{User}
use Rattle.histar_flat.specs.declared.calls.UnixCall.{UnixCall}
use Rattle.histar_flat.specs.Words.{ProcName, process_of, password_of, user_name_of}
use Rattle.histar_flat.specs.Accounts.{Group, is_group, most_groups, most_users}
use Rattle.histar_script.specs.declared.items.Item.{Item}
use Rattle.histar_script.specs.declared.items.Item.TheVariants as items
use Rattle.histar_script.specs.Lines.{is_plain, is_plain_byte, most_line_bytes}
use Rattle.histar_script.specs.Script.{ScriptModel, is_declared_call}
use Rattle.histar_script.specs.Reading.{are_distinct, are_users, call_item, call_of, group_item, group_of, has_user, is_empty, item_of}
use Rattle.histar_script.specs.Reading.{members_of, takes_call, takes_group, takes_user, user_item, user_of, with_item, with_line}
use Rattle.histar_script.specs.Reading.{words_item}
use Rattle.histar_lint.specs.Lines.{Rule, after_word, byte_rules, ends_with, rest_of, space_rules, unprintable_from, word_of}
use Rattle.histar_lint.specs.declared.shapes.Shape.{Shape}
use Rattle.histar_lint.specs.Calls.{call_word_rules, has_too_little, has_too_much, shape_named, shape_rules}
use Rattle.histar_lint.specs.FreeParts.{free_of, second_word_rules, word_rules}
use Rattle.histar_lint.specs.Rules.{are_two_words, call_place_rules, group_place_rules, group_word_rules, has_stranger, has_twin, is_comment}
use Rattle.histar_lint.specs.Rules.{is_taken, is_undeclared, kind_rules, rules_for, said_rules, user_place_rules, user_word_rules}
use Rattle.histar_lint.specs.Laws.{EachBadLineBreaksOne}
use Rattle.histar_lint.proofs.Rules.{some_broken, or_first, or_second, is_said, in_front, behind, none_at}

-- a value that is `None` passes the test for it
is_nothing : {A : Type 0} (o : Option A) → o ≡ None → is_none o ≡ true
is_nothing o none = ap is_none none

-- words of a user line that declare no user break a rule
no_user : (text : List ℕ) → user_of text ≡ None → some_broken (user_word_rules text) ≡ true
unfolding user_of
no_user text bad =
    let name = user_name_of (word_of text) in
    let other = not (are_two_words text) in
    elim (none_at name _ bad) [
      | inl none ↦ or_second other _ (or_first (is_none name) _ (is_nothing name none))
      | inr named ↦ elim (none_at (after_word text) _ named.2) [
        | inl none ↦ or_first other _ (ap (λ (o : Option (List ℕ)). not (is_some o && is_none (after_word (unwrap_or o [])))) none)
        | inr rest ↦ elim (none_at (password_of rest.0) _ rest.2) [
          | inl none ↦
              let same : rest_of text ≡ rest.0 = ap (λ (o : Option (List ℕ)). unwrap_or o []) rest.1 in
              let wrong : is_none (password_of (rest_of text)) ≡ true =
              ap (λ (word : List ℕ). is_none (password_of word)) same ∙ is_nothing (password_of rest.0) none in
              or_second other _ (or_second (is_none name) _ (or_first (is_none (password_of (rest_of text))) false wrong))
          | inr password ↦ absurd cc
        ]
      ]
    ]

-- four tests, one of which fails
one_of_four : (a b c d : Bool) → (a && b && c && not d) ≡ false → (not a || (not b || (not c || (d || false)))) ≡ true
one_of_four false b c d e = refl
one_of_four true false c d e = refl
one_of_four true true false d e = refl
one_of_four true true true true e = refl
one_of_four true true true false e = absurd cc

-- a user that may not be declared here breaks a rule
misplaced_user : (lines : List (List ℕ)) (s : ScriptModel) (text : List ℕ) (u : User) → user_of text ≡ Some u
    → takes_user s u ≡ false → some_broken (user_place_rules lines s text) ≡ true
unfolding user_of
misplaced_user lines s text u is bad =
    let named = bind_some (user_name_of (word_of text)) _ u is in
    let rest = bind_some (after_word text) _ u named.2 in
    let password = bind_some (password_of rest.0) _ u rest.2 in
    let own : u.name ≡ named.0 = cc in
    let taken : is_taken (has_user s.accounts.users) text ≡ has_user s.accounts.users u.name =
    ap (λ (o : Option (List ℕ)). option_map_or (has_user s.accounts.users) o false) named.1 ∙ ap (has_user s.accounts.users) (sym own) in
    rw taken (one_of_four (is_empty s.accounts.groups) (is_empty s.calls) (nat_lt (length s.accounts.users) most_users)
    (has_user s.accounts.users u.name) bad)

-- six tests, one of which fails
one_of_six : (a b u h m d : Bool) → (a && b && (not u && not h) && m && d) ≡ false
    → (not a || (not b || (u || (h || (not m || (not d || false)))))) ≡ true
one_of_six false b u h m d e = refl
one_of_six true false u h m d e = refl
one_of_six true true true h m d e = refl
one_of_six true true false true m d e = refl
one_of_six true true false false false d e = refl
one_of_six true true false false true false e = refl
one_of_six true true false false true true e = absurd cc

-- the name of a group is the first word
pub name_of_group : (text : List ℕ) (g : Group) → group_of text ≡ Some g → user_name_of (word_of text) ≡ Some g.name
unfolding group_of
name_of_group text g is =
    let named = bind_some (user_name_of (word_of text)) _ g is in
    let rest = bind_some (after_word text) _ g named.2 in
    let members = bind_some (members_of rest.0) _ g rest.2 in
    let own : named.0 ≡ g.name = cc in
    named.1 ∙ ap (λ (n : List ℕ). Some n) own

-- a group that may not be declared here breaks a rule
misplaced_group : (s : ScriptModel) (text : List ℕ) (g : Group) → group_of text ≡ Some g → takes_group s g ≡ false
    → some_broken (group_place_rules s text) ≡ true
misplaced_group s text g is bad =
    let name = name_of_group text g is in
    let user : is_taken (has_user s.accounts.users) text ≡ has_user s.accounts.users g.name =
    ap (λ (o : Option (List ℕ)). option_map_or (has_user s.accounts.users) o false) name in
    let group : is_taken (is_group s.accounts) text ≡ is_group s.accounts g.name =
    ap (λ (o : Option (List ℕ)). option_map_or (is_group s.accounts) o false) name in
    let stranger : has_stranger s.accounts.users (group_of text) ≡ not (are_users s.accounts.users g.members) =
    ap (has_stranger s.accounts.users) is in
    let twin : has_twin (group_of text) ≡ not (are_distinct g.members) = ap has_twin is in
    rw (user, group, stranger, twin)
    (one_of_six (is_empty s.calls) (nat_lt (length s.accounts.groups) most_groups) (has_user s.accounts.users g.name) (is_group s.accounts g.name)
    (are_users s.accounts.users g.members) (are_distinct g.members) bad)

-- words that are no call break a rule for words
no_words : (text : List ℕ) (o : Option Shape) → call_of text ≡ None → some_broken (shape_rules text o) ≡ true
no_words text None bad = refl
no_words text (Some shape) bad =
    or_second (has_too_much text shape) _ (or_second (has_too_little text shape) _
    (or_first (is_none (call_of text)) false (is_nothing (call_of text) bad)))

-- a call line without a call breaks a rule
no_call : (process text : List ℕ) → call_item process text ≡ None → some_broken (call_word_rules process text) ≡ true
no_call process text bad =
    elim (none_at (process_of process) _ bad) [
      | inl none ↦ or_first (is_none (process_of process)) _ (is_nothing (process_of process) none)
      | inr named ↦ elim (none_at (call_of text) _ named.2) [
        | inl none ↦ or_second (is_none (process_of process)) _ (no_words text (shape_named (word_of text)) none)
        | inr call ↦ absurd cc
      ]
    ]

-- two tests, one of which fails
one_of_two : (a b : Bool) → (not a && b) ≡ false → (a || (not b || false)) ≡ true
one_of_two true b e = refl
one_of_two false false e = refl
one_of_two false true e = absurd cc

-- a call that may not be here breaks a rule
misplaced_call : (s : ScriptModel) (text : List ℕ) (c : UnixCall) → call_of text ≡ Some c → takes_call s c ≡ false
    → some_broken (call_place_rules s text) ≡ true
misplaced_call s text c is bad =
    let undeclared : is_undeclared s.accounts (call_of text) ≡ not (is_declared_call s.accounts c) = ap (is_undeclared s.accounts) is in
    rw undeclared (one_of_two (is_empty s.accounts.users) (is_declared_call s.accounts c) bad)

-- a byte that is not printable is found
found_byte : (n : ℕ) (line : List ℕ) → list_all is_plain_byte line ≡ false → is_some (unprintable_from n line) ≡ true
found_byte n [] bad = absurd cc
found_byte n (b ∷ line) bad = by n line (is_plain_byte b) b bad (found_byte (n + 1) line)
  where
    by : (n : ℕ) (line : List ℕ) (plain : Bool) (b : ℕ) → (plain && list_all is_plain_byte line) ≡ false
        → (list_all is_plain_byte line ≡ false → is_some (unprintable_from (n + 1) line) ≡ true)
        → is_some (cond plain (unprintable_from (n + 1) line) (Some (n, b))) ≡ true
    by n line true b bad go_on = go_on bad
    by n line false b bad go_on = refl

-- a line that is not plain breaks a rule
not_plain : (line : List ℕ) → is_plain line ≡ false → some_broken (byte_rules line) ≡ true
unfolding is_plain
not_plain line bad = by (nat_le (length line) most_line_bytes) refl bad
  where
    by : (short : Bool) → nat_le (length line) most_line_bytes ≡ short → (short && list_all is_plain_byte line) ≡ false
        → some_broken (byte_rules line) ≡ true
    by false is bad = or_first (nat_lt most_line_bytes (length line)) _ (grind (arith, is))
    by true is bad =
        or_second (nat_lt most_line_bytes (length line)) _ (or_second (ends_with 13 line) _
        (or_first (is_some (unprintable_from 1 line)) false (found_byte 1 line bad)))

-- the item of a line of words, by its kind
pub data IsKind (word rest : List ℕ) : Item → Type 0 where
  user : (u : User) → bytes_eq word (codes "user") ≡ true → user_of rest ≡ Some u → IsKind word rest (items.User u)
  group : (g : Group) → bytes_eq word (codes "user") ≡ false → bytes_eq word (codes "group") ≡ true
      → group_of rest ≡ Some g → IsKind word rest (items.Group g)
  call : (p : ProcName) (c : UnixCall) → bytes_eq word (codes "user") ≡ false → bytes_eq word (codes "group") ≡ false
      → call_of rest ≡ Some c → IsKind word rest (items.Call p c)

-- each line with an item is of a kind
kind : (word rest : List ℕ) (item : Item) (u g : Bool) → bytes_eq word (codes "user") ≡ u → bytes_eq word (codes "group") ≡ g
    → cond u (user_item rest) (cond g (group_item rest) (call_item word rest)) ≡ Some item → IsKind word rest item
kind word rest item true g is_user is_group says =
    let found = bind_some (user_of rest) _ item says in
    let same : items.User found.0 ≡ item = cc in
    subst (IsKind word rest) same (user found.0 is_user found.1)
kind word rest item false true is_user is_group says =
    let found = bind_some (group_of rest) _ item says in
    let same : items.Group found.0 ≡ item = cc in
    subst (IsKind word rest) same (group found.0 is_user is_group found.1)
kind word rest item false false is_user is_group says =
    let process = bind_some (process_of word) _ item says in
    let found = bind_some (call_of rest) _ item process.2 in
    let same : items.Call process.0 found.0 ≡ item = cc in
    subst (IsKind word rest) same (call process.0 found.0 is_user is_group found.1)

-- the rules for a line with this first word and this rest
abbrev pub rules_of_kind : List (List ℕ) → ScriptModel → List ℕ → List ℕ → Bool → Bool → List Rule
rules_of_kind lines s word rest u g =
    cond u (user_word_rules rest ++ user_place_rules lines s rest)
    (cond g (group_word_rules rest ++ group_place_rules s rest) (call_word_rules word rest ++ call_place_rules s rest))

-- a line whose words have no item breaks a rule
no_kind : (lines : List (List ℕ)) (s : ScriptModel) (word rest : List ℕ) (u g : Bool)
    → cond u (user_item rest) (cond g (group_item rest) (call_item word rest)) ≡ None
    → some_broken (rules_of_kind lines s word rest u g) ≡ true
no_kind lines s word rest true g bad =
    elim (none_at (user_of rest) _ bad) [
      | inl none ↦ in_front (user_word_rules rest) (user_place_rules lines s rest) (no_user rest none)
      | inr found ↦ absurd cc
    ]
no_kind lines s word rest false true bad =
    elim (none_at (group_of rest) _ bad) [
      | inl none ↦ in_front (group_word_rules rest) (group_place_rules s rest) (no_group rest none)
      | inr found ↦ absurd cc
    ]
  where
    no_group : (text : List ℕ) → group_of text ≡ None → some_broken (group_word_rules text) ≡ true
    no_group text none =
        or_second (is_none (after_word text)) _ (or_second (is_none (user_name_of (word_of text))) _
        (or_first (is_none (group_of text)) false (is_nothing (group_of text) none)))
no_kind lines s word rest false false bad = in_front (call_word_rules word rest) (call_place_rules s rest) (no_call word rest bad)

-- an item that may not be here breaks a rule
refused_item : (lines : List (List ℕ)) (s : ScriptModel) (n : ℕ) (word rest : List ℕ) (item : Item)
    → IsKind word rest item → with_item s n item ≡ None
    → some_broken (rules_of_kind lines s word rest (bytes_eq word (codes "user")) (bytes_eq word (codes "group"))) ≡ true
unfolding with_item
refused_item lines s n word rest _ (user u is_user says) bad =
    elim (either_chosen (takes_user s u) _ _ None bad) [
      | inl h ↦ absurd cc
      | inr h ↦ rw is_user (behind (user_word_rules rest) (user_place_rules lines s rest) (misplaced_user lines s rest u says h.0))
    ]
refused_item lines s n word rest _ (group g is_user is_group says) bad =
    elim (either_chosen (takes_group s g) _ _ None bad) [
      | inl h ↦ absurd cc
      | inr h ↦ rw (is_user, is_group) (behind (group_word_rules rest) (group_place_rules s rest) (misplaced_group s rest g says h.0))
    ]
refused_item lines s n word rest _ (call p c is_user is_group says) bad =
    elim (either_chosen (takes_call s c) _ _ None bad) [
      | inl h ↦ absurd cc
      | inr h ↦ rw (is_user, is_group) (behind (call_word_rules word rest) (call_place_rules s rest) (misplaced_call s rest c says h.0))
    ]

-- the rules for what a line says come after those for its bytes, if it is no comment
by_words : (lines : List (List ℕ)) (s : ScriptModel) (line : List ℕ) → is_comment line ≡ false
    → some_broken (word_rules line ++ kind_rules lines s line) ≡ true → some_broken (rules_for lines s line) ≡ true
by_words lines s line words broken =
    let rules = word_rules line ++ kind_rules lines s line in
    behind (byte_rules line) (said_rules lines s line)
    (ap (λ (comment : Bool). some_broken (cond comment [] rules)) words ∙ broken)

-- the rules for lines of its kind come after those for the words of any line
by_kind : (lines : List (List ℕ)) (s : ScriptModel) (line rest : List ℕ) → is_comment line ≡ false → after_word line ≡ Some rest
    → some_broken (rules_of_kind lines s (word_of line) rest (bytes_eq (word_of line) (codes "user"))
    (bytes_eq (word_of line) (codes "group"))) ≡ true
    → some_broken (rules_for lines s line) ≡ true
by_kind lines s line rest words is broken =
    let same : rest ≡ rest_of line = sym (ap (λ (o : Option (List ℕ)). unwrap_or o []) is) in
    by_words lines s line words
    (behind (word_rules line) (kind_rules lines s line)
    (subst (λ text. some_broken (rules_of_kind lines s (word_of line) text (bytes_eq (word_of line) (codes "user"))
    (bytes_eq (word_of line) (codes "group"))) ≡ true) same broken))

-- a line whose words have no item breaks a rule
no_words_item : (lines : List (List ℕ)) (s : ScriptModel) (line : List ℕ) → is_comment line ≡ false → words_item line ≡ None
    → some_broken (rules_for lines s line) ≡ true
unfolding words_item
no_words_item lines s line words bad =
    elim (none_at (after_word line) _ bad) [
      | inl none ↦ by_words lines s line words (in_front (word_rules line) (kind_rules lines s line) (lone_word line none))
      | inr found ↦
          by_kind lines s line found.0 words found.1 (no_kind lines s (word_of line) found.0 (bytes_eq (word_of line) (codes "user"))
          (bytes_eq (word_of line) (codes "group")) found.2)
    ]
  where
    lone_word : (line : List ℕ) → after_word line ≡ None → some_broken (word_rules line) ≡ true
    lone_word line none =
        behind (space_rules line (free_of line)) (second_word_rules line)
        (or_first (is_none (after_word line)) false (is_nothing (after_word line) none))

-- a line without an item breaks a rule
no_item : (lines : List (List ℕ)) (s : ScriptModel) (line : List ℕ) → item_of line ≡ None → some_broken (rules_for lines s line) ≡ true
unfolding item_of
no_item lines s [] bad = absurd cc
no_item lines s (b ∷ line) bad =
    elim (either_chosen (is_plain (b ∷ line)) _ _ None bad) [
      | inr h ↦ in_front (byte_rules (b ∷ line)) (said_rules lines s (b ∷ line)) (not_plain (b ∷ line) h.0)
      | inl h ↦ elim (either_chosen (eqb b 35) _ _ None h.1) [
        | inl comment ↦ absurd cc
        | inr words ↦ no_words_item lines s (b ∷ line) words.0 words.1
      ]
    ]

-- a line of words whose item may not be here breaks a rule
misplaced_words : (lines : List (List ℕ)) (s : ScriptModel) (n : ℕ) (line : List ℕ) (item : Item) → is_comment line ≡ false
    → words_item line ≡ Some item → with_item s n item ≡ None → some_broken (rules_for lines s line) ≡ true
unfolding words_item
misplaced_words lines s n line item words is bad =
    let rest = bind_some (after_word line) _ item is in
    by_kind lines s line rest.0 words rest.1
    (refused_item lines s n (word_of line) rest.0 item
    (kind (word_of line) rest.0 item (bytes_eq (word_of line) (codes "user")) (bytes_eq (word_of line) (codes "group")) refl refl rest.2) bad)

-- a comment may be anywhere
no_comment : (lines : List (List ℕ)) (s : ScriptModel) (n : ℕ) (line : List ℕ) (item : Item)
    → Some items.Comment ≡ Some item → with_item s n item ≡ None → some_broken (rules_for lines s line) ≡ true
unfolding with_item
no_comment lines s n line item is bad =
    let same : item ≡ items.Comment = cc in
    let bad' = subst (λ (i : Item). with_item s n i ≡ None) same bad in
    absurd cc

-- a line whose item may not be here breaks a rule
misplaced : (lines : List (List ℕ)) (s : ScriptModel) (n : ℕ) (line : List ℕ) (item : Item) → item_of line ≡ Some item
    → with_item s n item ≡ None → some_broken (rules_for lines s line) ≡ true
unfolding item_of
misplaced lines s n [] item is bad = no_comment lines s n [] item is bad
misplaced lines s n (b ∷ line) item is bad =
    elim (either_chosen (is_plain (b ∷ line)) _ _ (Some item) is) [
      | inr h ↦ absurd cc
      | inl h ↦ elim (either_chosen (eqb b 35) _ _ (Some item) h.1) [
        | inl comment ↦ no_comment lines s n (b ∷ line) item comment.1 bad
        | inr words ↦ misplaced_words lines s n (b ∷ line) item words.0 words.1 bad
      ]
    ]

pub each_bad_line_breaks_one : EachBadLineBreaksOne
unfolding with_line
each_bad_line_breaks_one lines s n line bad =
    is_said (rules_for lines s line)
    (elim (none_at (item_of line) (λ item. with_item s n item) bad)
    [ inl none ↦ no_item lines s line none | inr some ↦ misplaced lines s n line some.0 some.1 some.2 ])
