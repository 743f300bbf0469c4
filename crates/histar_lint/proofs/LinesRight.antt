-- No right line breaks a rule.
use Rattle.std.proofs.Common.{◌≡◌, ℕ, Bool, true, false, cond, eqb, ◌&&◌, not, List, [], ◌∷◌, ◌++◌, length, codes, Option, Some, None, refl, sym, ap}
use Rattle.std.proofs.Common.{subst, ◌∙◌, inl, inr}
use Rattle.std.specs.Prelude.{is_none, is_some, nat_lt, option_and_then}
use Rattle.std.specs.List.{list_all}
use Rattle.std.specs.Option.{option_map_or}
use Rattle.std.specs.Str.{bytes_eq}
use Rattle.std.proofs.lemmas.Bool.{and_parts}
use Rattle.std.proofs.lemmas.Option.{cond_some}
use Rattle.histar_flat.specs.declared.calls.User.{User}
use Rattle.histar_flat.specs.declared.calls.UnixCall.{UnixCall}
use Rattle.histar_flat.specs.Accounts.{Group, is_group, most_groups, most_users}
use Rattle.histar_flat.specs.Words.{Name, is_password, is_user_name, password_of, process_of, user_name_of}
use Rattle.histar_flat.proofs.Options.{bind_some, either_chosen}
use Rattle.histar_script.specs.declared.items.Item.{Item}
use Rattle.histar_script.specs.declared.items.Item.TheVariants as items
use Rattle.histar_script.specs.CallForms.{a_process}
use Rattle.histar_script.specs.Lines.{is_plain}
use Rattle.histar_script.specs.Script.{ScriptModel, is_declared_call}
use Rattle.histar_script.specs.Reading.{are_distinct, are_users, call_of, group_of, has_user, is_empty, item_of}
use Rattle.histar_script.specs.Reading.{takes_call, takes_group, takes_user, user_of, with_item, with_line, words_item}
use Rattle.histar_script.proofs.GroupsBack.{group_takes}
use Rattle.histar_script.proofs.Parting.{parted}
use Rattle.histar_script.proofs.WordsBack.{same_bytes}
use Rattle.histar_lint.specs.declared.shapes.Kind.TheVariants.{Name as AName, Password}
use Rattle.histar_lint.specs.declared.shapes.Shape.TheVariants.{Two}
use Rattle.histar_lint.specs.Lines.{after_word, byte_rules, first_sentence, rest_of, space_rules, word_of}
use Rattle.histar_lint.specs.Calls.{call_word_rules, shape_named}
use Rattle.histar_lint.specs.FreeParts.{free_in, free_in_call, free_of, second_word_rules, word_rules, words_behind}
use Rattle.histar_lint.specs.Rules.{are_two_words, call_place_rules, group_place_rules, group_word_rules, has_stranger, has_twin, is_taken}
use Rattle.histar_lint.specs.Rules.{is_undeclared, kind_rules, said_rules, sentence, user_place_rules, user_word_rules}
use Rattle.histar_lint.specs.Laws.{NoRightLineBreaksOne}
use Rattle.histar_lint.proofs.Rules.{AreKept, keep, keep_both}
use Rattle.histar_lint.proofs.SpacesRight.{AreWords, HasWords, IsWord, one_more, spaces_kept, word_before, words_alone}
use Rattle.histar_lint.proofs.BytesKept.{plain_kept}
use Rattle.histar_lint.proofs.ArgumentsRight.{ends_here, password_free, user_name_word, value_word}
use Rattle.histar_lint.proofs.CallsRight.{a_word, call_right, rest_is, words_are}
use Rattle.histar_lint.proofs.BrokenRules.{name_of_group, rules_of_kind}

-- ---- the rules for any line

-- a line with these words keeps the rules for words
words_kept : (line rest : List ℕ) (free : Option (List ℕ)) → HasWords line free → free_of line ≡ free → after_word line ≡ Some rest
    → AreKept (word_rules line)
words_kept line rest free has same is =
    keep_both (space_rules line (free_of line)) (second_word_rules line)
    (subst (λ (o : Option (List ℕ)). AreKept (space_rules line o)) (sym same) (spaces_kept line free has))
    (keep (is_none (after_word line)) _ _ (ap is_none is) refl)

module _ (lines : List (List ℕ)) (s : ScriptModel) (line rest : List ℕ) (is : after_word line ≡ Some rest) where
  -- a line of a kind keeps the rules if what follows its first word does
  kind_kept : (u g : Bool) → bytes_eq (word_of line) (codes "user") ≡ u → bytes_eq (word_of line) (codes "group") ≡ g
      → AreKept (rules_of_kind lines s (word_of line) rest u g) → AreKept (kind_rules lines s line)
  kind_kept u g is_user is_group kept =
      subst (λ (v : Bool). AreKept (rules_of_kind lines s (word_of line) (rest_of line) v (bytes_eq (word_of line) (codes "group")))) (sym is_user)
      (subst (λ (h : Bool). AreKept (rules_of_kind lines s (word_of line) (rest_of line) u h)) (sym is_group)
      (subst (λ (text : List ℕ). AreKept (rules_of_kind lines s (word_of line) text u g)) (sym (rest_is line rest is)) kept))

  -- a line with these words keeps all rules if what follows its first word does
  line_kept : (u g : Bool) (free : Option (List ℕ)) → bytes_eq (word_of line) (codes "user") ≡ u → bytes_eq (word_of line) (codes "group") ≡ g
      → HasWords line free → free_of line ≡ free → AreKept (rules_of_kind lines s (word_of line) rest u g)
      → AreKept (word_rules line ++ kind_rules lines s line)
  line_kept u g free is_user is_group has same kept =
      keep_both (word_rules line) (kind_rules lines s line) (words_kept line rest free has same is) (kind_kept u g is_user is_group kept)

  -- a line has the words that follow its first one
  line_words : (free : Option (List ℕ)) → IsWord (word_of line) → HasWords rest free → HasWords line free
  line_words free w has =
      subst (λ (l : List ℕ). HasWords l free) (sym (parted line (word_of line) rest refl is)) (one_more (word_of line) rest free w has)

-- the free part of a line, by its kind and the words behind its first one
abbrev free_of_kind : List ℕ → List ℕ → Bool → Bool → Option (List ℕ)
free_of_kind line words u g =
    cond u (free_in_call (Some (Two AName Password)) line) (cond g None (free_in_call (shape_named (word_of words)) words))

free_by : (line words : List ℕ) (u g : Bool) → bytes_eq (word_of line) (codes "user") ≡ u → bytes_eq (word_of line) (codes "group") ≡ g
    → words_behind line ≡ words → free_of line ≡ free_of_kind line words u g
free_by line words u g is_user is_group behind =
    ap (λ (l : List ℕ). free_of_kind line l (bytes_eq (word_of line) (codes "user")) (bytes_eq (word_of line) (codes "group"))) behind
    ∙ ap (λ (v : Bool). free_of_kind line words v (bytes_eq (word_of line) (codes "group"))) is_user ∙ ap (free_of_kind line words u) is_group

-- a word that is found is one
found_word : (word other : List ℕ) → IsWord other → bytes_eq word other ≡ true → IsWord word
found_word word other w same = subst IsWord (sym (same_bytes word other same)) w

-- ---- a user line

-- four tests that pass
four_kept : (a b c d : Bool) (p q r t : List ℕ) → (a && b && c && not d) ≡ true
    → cond (not a) (Some p) (cond (not b) (Some q) (cond (not c) (Some r) (cond d (Some t) None))) ≡ None
four_kept false b c d p q r t e = absurd cc
four_kept true false c d p q r t e = absurd cc
four_kept true true false d p q r t e = absurd cc
four_kept true true true true p q r t e = absurd cc
four_kept true true true false p q r t e = refl

-- the parts of the text of a user
record IsUserRest (text : List ℕ) (u : User) : Type 0 where
  pub password : List ℕ
  pub after : after_word text ≡ Some password
  pub named : user_name_of (word_of text) ≡ Some u.name
  pub name : is_user_name (word_of text) ≡ true
  pub secret : is_password password ≡ true

user_rest : (text : List ℕ) (u : User) → user_of text ≡ Some u → IsUserRest text u
unfolding user_of
user_rest text u is =
    let named = bind_some (user_name_of (word_of text)) _ u is in
    let rest = bind_some (after_word text) _ u named.2 in
    let password = bind_some (password_of rest.0) _ u rest.2 in
    let own : named.0 ≡ u.name = cc in record {
      password = rest.0;
      after = rest.1;
      named = named.1 ∙ ap (λ (n : List ℕ). Some n) own;
      name = (cond_some (is_user_name (word_of text)) (word_of text) named.0 named.1).0;
      secret = (cond_some (is_password rest.0) rest.0 password.0 password.1).0;
    }

user_place_kept : (lines : List (List ℕ)) (s : ScriptModel) (text : List ℕ) (u : User) → user_name_of (word_of text) ≡ Some u.name
    → takes_user s u ≡ true → AreKept (user_place_rules lines s text)
user_place_kept lines s text u named takes =
    let taken : is_taken (has_user s.accounts.users) text ≡ has_user s.accounts.users u.name =
    ap (λ (o : Option (List ℕ)). option_map_or (has_user s.accounts.users) o false) named in
    rw taken (four_kept (is_empty s.accounts.groups) (is_empty s.calls) (nat_lt (length s.accounts.users) most_users)
    (has_user s.accounts.users u.name) _ _ _ _ takes)

user_line : (lines : List (List ℕ)) (s : ScriptModel) (line rest : List ℕ) (u : User) → after_word line ≡ Some rest
    → bytes_eq (word_of line) (codes "user") ≡ true → user_of rest ≡ Some u → takes_user s u ≡ true
    → AreKept (word_rules line ++ kind_rules lines s line)
user_line lines s line rest u is is_user says takes =
    let r = user_rest rest u says in
    let free : Option (List ℕ) = Some r.password in
    let secret = password_free r.password r.secret in
    let behind : HasWords rest free =
    subst (λ (l : List ℕ). HasWords l free) (sym (parted rest (word_of rest) r.password refl r.after))
    (word_before (word_of rest) r.password (user_name_word (word_of rest) r.name)) in
    let first = found_word (word_of line) (codes "user") (a_word (codes "user") refl) is_user in
    let words = words_are line rest free is behind in
    let same : free_of line ≡ free =
    free_by line rest true (bytes_eq (word_of line) (codes "group")) is_user refl words
    ∙ ap (λ (l : List ℕ). option_and_then (free_in Password) (after_word l)) words
    ∙ ap (option_and_then (free_in Password)) r.after ∙ secret.1 in
    let two : are_two_words rest ≡ true =
    ap (λ (o : Option (List ℕ)). is_some o && is_none (after_word (rest_of rest))) r.after
    ∙ ap (λ (l : List ℕ). is_none (after_word l)) (rest_is rest r.password r.after) ∙ ap is_none (ends_here r.password secret.0) in
    let read : is_none (password_of (rest_of rest)) ≡ false =
    ap (λ (l : List ℕ). is_none (password_of l)) (rest_is rest r.password r.after) ∙ rw r.secret refl in
    line_kept lines s line rest is true (bytes_eq (word_of line) (codes "group")) free is_user refl
    (line_words lines s line rest is free first behind) same
    (keep_both (user_word_rules rest) (user_place_rules lines s rest)
    (keep (not (are_two_words rest)) _ _ (ap not two)
    (keep (is_none (user_name_of (word_of rest))) _ _ (ap is_none r.named) (keep (is_none (password_of (rest_of rest))) _ _ read refl)))
    (user_place_kept lines s rest u r.named takes))

-- ---- a group line

-- six tests that pass
six_kept : (a b u h m d : Bool) (p q r t v w : List ℕ) → (a && b && (not u && not h) && m && d) ≡ true
    → cond (not a) (Some p) (cond (not b) (Some q) (cond u (Some r) (cond h (Some t) (cond (not m) (Some v) (cond (not d) (Some w) None))))) ≡ None
six_kept false b u h m d p q r t v w e = absurd cc
six_kept true false u h m d p q r t v w e = absurd cc
six_kept true true true h m d p q r t v w e = absurd cc
six_kept true true false true m d p q r t v w e = absurd cc
six_kept true true false false false d p q r t v w e = absurd cc
six_kept true true false false true false p q r t v w e = absurd cc
six_kept true true false false true true p q r t v w e = refl

group_place_kept : (s : ScriptModel) (text : List ℕ) (g : Group) → group_of text ≡ Some g → takes_group s g ≡ true
    → AreKept (group_place_rules s text)
group_place_kept s text g is takes =
    let name = name_of_group text g is in
    let user : is_taken (has_user s.accounts.users) text ≡ has_user s.accounts.users g.name =
    ap (λ (o : Option (List ℕ)). option_map_or (has_user s.accounts.users) o false) name in
    let group : is_taken (is_group s.accounts) text ≡ is_group s.accounts g.name =
    ap (λ (o : Option (List ℕ)). option_map_or (is_group s.accounts) o false) name in
    let stranger : has_stranger s.accounts.users (group_of text) ≡ not (are_users s.accounts.users g.members) =
    ap (has_stranger s.accounts.users) is in
    let twin : has_twin (group_of text) ≡ not (are_distinct g.members) = ap has_twin is in
    rw (user, group, stranger, twin)
    (six_kept (is_empty s.calls) (nat_lt (length s.accounts.groups) most_groups) (has_user s.accounts.users g.name) (is_group s.accounts g.name)
    (are_users s.accounts.users g.members) (are_distinct g.members) _ _ _ _ _ _ takes)

name_words : (names : List Name) → list_all is_user_name names ≡ true → AreWords names
name_words [] all = tt
name_words (name ∷ names) all =
    let p = and_parts (is_user_name name) (list_all is_user_name names) all in
    (user_name_word name p.0, name_words names p.1)

-- something follows the name of a group
group_goes_on : (text : List ℕ) (g : Group) → group_of text ≡ Some g → is_none (after_word text) ≡ false
unfolding group_of
group_goes_on text g is =
    let named = bind_some (user_name_of (word_of text)) _ g is in
    let rest = bind_some (after_word text) _ g named.2 in
    ap is_none rest.1

group_line : (lines : List (List ℕ)) (s : ScriptModel) (line rest : List ℕ) (g : Group) → after_word line ≡ Some rest
    → (bytes_eq (word_of line) (codes "user") ≡ false) × (bytes_eq (word_of line) (codes "group") ≡ true) → group_of rest ≡ Some g
    → takes_group s g ≡ true → AreKept (word_rules line ++ kind_rules lines s line)
group_line lines s line rest g is kinds says takes =
    let spelled = group_takes rest g says in
    let behind : HasWords rest None =
    subst (λ (l : List ℕ). HasWords l None) (sym spelled.0)
    (words_alone g.name g.members (user_name_word g.name spelled.1) (name_words g.members spelled.2)) in
    let first = found_word (word_of line) (codes "group") (a_word (codes "group") refl) kinds.1 in
    let same : free_of line ≡ None = free_by line rest false true kinds.0 kinds.1 (words_are line rest None is behind) in
    line_kept lines s line rest is false true None kinds.0 kinds.1 (line_words lines s line rest is None first behind) same
    (keep_both (group_word_rules rest) (group_place_rules s rest)
    (keep (is_none (after_word rest)) _ _ (group_goes_on rest g says)
    (keep (is_none (user_name_of (word_of rest))) _ _ (ap is_none (name_of_group rest g says))
    (keep (is_none (group_of rest)) _ _ (ap is_none says) refl)))
    (group_place_kept s rest g says takes))

-- ---- a call line

-- two tests that pass
two_kept : (a b : Bool) (p q : List ℕ) → (not a && b) ≡ true → cond a (Some p) (cond (not b) (Some q) None) ≡ None
two_kept true b p q e = absurd cc
two_kept false false p q e = absurd cc
two_kept false true p q e = refl

call_place_kept : (s : ScriptModel) (text : List ℕ) (c : UnixCall) → call_of text ≡ Some c → takes_call s c ≡ true → AreKept (call_place_rules s text)
call_place_kept s text c is takes =
    let undeclared : is_undeclared s.accounts (call_of text) ≡ not (is_declared_call s.accounts c) = ap (is_undeclared s.accounts) is in
    rw undeclared (two_kept (is_empty s.accounts.users) (is_declared_call s.accounts c) _ _ takes)

call_line : (lines : List (List ℕ)) (s : ScriptModel) (line rest : List ℕ) (p : List ℕ) (c : UnixCall) → after_word line ≡ Some rest
    → (bytes_eq (word_of line) (codes "user") ≡ false) × (bytes_eq (word_of line) (codes "group") ≡ false)
    → (process_of (word_of line) ≡ Some p) × (call_of rest ≡ Some c) × (takes_call s c ≡ true)
    → AreKept (word_rules line ++ kind_rules lines s line)
call_line lines s line rest p c is kinds h =
    let right = call_right rest c h.1 in
    let same : free_of line ≡ right.free =
    free_by line rest false false kinds.0 kinds.1 (words_are line rest right.free is right.words) ∙ right.is_free in
    let first = value_word a_process (word_of line) p refl refl h.0 in
    line_kept lines s line rest is false false right.free kinds.0 kinds.1 (line_words lines s line rest is right.free first right.words) same
    (keep_both (call_word_rules (word_of line) rest) (call_place_rules s rest)
    (keep (is_none (process_of (word_of line))) _ _ (ap is_none h.0) right.kept)
    (call_place_kept s rest c h.1 h.2))

-- ---- any line

-- an item that may be here passes the tests for its kind
takes_one : (s : ScriptModel) (n : ℕ) (u : User) (t : ScriptModel) → with_item s n (items.User u) ≡ Some t → takes_user s u ≡ true
unfolding with_item
takes_one s n u t adds = elim (either_chosen (takes_user s u) _ _ (Some t) adds) [ inl h ↦ h.0 | inr h ↦ absurd cc ]

takes_members : (s : ScriptModel) (n : ℕ) (g : Group) (t : ScriptModel) → with_item s n (items.Group g) ≡ Some t → takes_group s g ≡ true
unfolding with_item
takes_members s n g t adds = elim (either_chosen (takes_group s g) _ _ (Some t) adds) [ inl h ↦ h.0 | inr h ↦ absurd cc ]

takes_this : (s : ScriptModel) (n : ℕ) (p : List ℕ) (c : UnixCall) (t : ScriptModel) → with_item s n (items.Call p c) ≡ Some t → takes_call s c ≡ true
unfolding with_item
takes_this s n p c t adds = elim (either_chosen (takes_call s c) _ _ (Some t) adds) [ inl h ↦ h.0 | inr h ↦ absurd cc ]

-- a line of words that is right keeps the rules for what it says
words_right : (lines : List (List ℕ)) (s : ScriptModel) (n : ℕ) (line : List ℕ) (item : Item) (t : ScriptModel) → words_item line ≡ Some item
    → with_item s n item ≡ Some t → AreKept (word_rules line ++ kind_rules lines s line)
unfolding words_item
words_right lines s n line item t says adds =
    let rest = bind_some (after_word line) _ item says in
    let words = rest.0 in
    elim (either_chosen (bytes_eq (word_of line) (codes "user")) _ _ (Some item) rest.2) [
      | inl h ↦
          let found = bind_some (user_of words) _ item h.1 in
          let same : item ≡ items.User found.0 = cc in
          user_line lines s line words found.0 rest.1 h.0 found.1 (takes_one s n found.0 t (ap (with_item s n) (sym same) ∙ adds))
      | inr h ↦ elim (either_chosen (bytes_eq (word_of line) (codes "group")) _ _ (Some item) h.1) [
        | inl k ↦
            let found = bind_some (group_of words) _ item k.1 in
            let same : item ≡ items.Group found.0 = cc in
            group_line lines s line words found.0 rest.1 (h.0, k.0) found.1 (takes_members s n found.0 t (ap (with_item s n) (sym same) ∙ adds))
        | inr k ↦
            let process = bind_some (process_of (word_of line)) _ item k.1 in
            let call = bind_some (call_of words) _ item process.2 in
            let same : item ≡ items.Call process.0 call.0 = cc in
            call_line lines s line words process.0 call.0 rest.1 (h.0, k.0)
            (process.1, call.1, takes_this s n process.0 call.0 t (ap (with_item s n) (sym same) ∙ adds))
      ]
    ]

-- a right line keeps all rules
item_right : (lines : List (List ℕ)) (s : ScriptModel) (n : ℕ) (line : List ℕ) (item : Item) (t : ScriptModel) → item_of line ≡ Some item
    → with_item s n item ≡ Some t → sentence lines s line ≡ None
unfolding item_of
item_right lines s n [] item t says adds = refl
item_right lines s n (b ∷ text) item t says adds =
    let line : List ℕ = b ∷ text in
    let rules = word_rules line ++ kind_rules lines s line in
    elim (either_chosen (is_plain line) _ None (Some item) says) [
      | inl plain ↦
          keep_both (byte_rules line) (said_rules lines s line) (plain_kept line plain.0)
          (elim (either_chosen (eqb b 35) _ (words_item line) (Some item) plain.1) [
            | inl h ↦ ap (λ (comment : Bool). first_sentence (cond comment [] rules)) h.0
            | inr h ↦ ap (λ (comment : Bool). first_sentence (cond comment [] rules)) h.0 ∙ words_right lines s n line item t h.1 adds
          ])
      | inr h ↦ absurd cc
    ]

pub no_right_line_breaks_one : NoRightLineBreaksOne
unfolding with_line
no_right_line_breaks_one lines s n line t right =
    let item = bind_some (item_of line) _ t right in
    item_right lines s n line item.0 t item.1 item.2
