-- Lines are read as what they say by the grammar.
use Rattle.std.proofs.Common.{◌≡◌, ℕ, true, false, cond, eqb, List, [], ◌∷◌, ◌++◌, Option, Some, None, codes, refl, sym, ap, subst, ◌∙◌, inl, inr}
use Rattle.std.specs.Str.{bytes_eq}
use Rattle.std.proofs.lemmas.Bool.{eqb-true}
use Rattle.std.proofs.lemmas.List.Sums.{AllPass-from_list_all, list_all-from_AllPass}
use Rattle.histar_flat.specs.declared.calls.User.{User}
use Rattle.histar_flat.specs.declared.calls.UnixCall.{UnixCall}
use Rattle.histar_flat.specs.Words.{ProcName, split_at_first, is_user_name, is_process, process_of}
use Rattle.histar_flat.specs.Texts.{process_text}
use Rattle.histar_flat.specs.Accounts.{Group}
use Rattle.histar_flat.proofs.Options.{bind_some, either_chosen}
use Rattle.histar_script.specs.declared.items.Item.{Item}
use Rattle.histar_script.specs.declared.items.Item.TheVariants as items
use Rattle.histar_script.specs.Lines.{is_plain, split_word, ◌space◌}
use Rattle.histar_script.specs.Reading.{◌>>=◌, user_of, group_of, call_of, user_item, group_item, call_item, words_item, item_of}
use Rattle.histar_script.specs.Grammar.{IsUserText, IsGroupText, IsCallText, SaysInWords, Says}
use Rattle.histar_script.proofs.Parting.{parted}
use Rattle.histar_script.proofs.WordsBack.{same_bytes}
use Rattle.histar_script.proofs.ProcessesBack.{process_begins, process_takes, process_again, split_process}
use Rattle.histar_script.proofs.CallsBack.{user_takes, user_again, call_takes, call_again}
use Rattle.histar_script.proofs.GroupsBack.{group_takes, group_again}

-- a user line that is read spells its user
user_line_takes : (line rest : List ℕ) (i : Item) → line ≡ codes "user" space rest → user_item rest ≡ Some i → SaysInWords line i
user_line_takes line rest i spelled e =
    let a = bind_some (user_of rest) (λ user. Some (items.User user)) i e in
    let u = user_takes rest a.0 a.1 in
    let same : items.User a.0 ≡ i = cc in
    let is : IsUserText line a.0 = record { spelled = spelled ∙ ap (λ (l : List ℕ). codes "user" space l) u.0; name = u.1; password = u.2 } in
    subst (SaysInWords line) same is

-- a group line that is read spells its group
group_line_takes : (line rest : List ℕ) (i : Item) → line ≡ codes "group" space rest → group_item rest ≡ Some i → SaysInWords line i
group_line_takes line rest i spelled e =
    let a = bind_some (group_of rest) (λ group. Some (items.Group group)) i e in
    let g = group_takes rest a.0 a.1 in
    let same : items.Group a.0 ≡ i = cc in
    let is : IsGroupText line a.0 = record {
      spelled = spelled ∙ ap (λ (l : List ℕ). codes "group" space l) g.0;
      name = g.1;
      members = AllPass-from_list_all is_user_name a.0.members g.2;
      some = g.3;
      few = g.4;
    } in
    subst (SaysInWords line) same is

-- a call line that is read spells its call
call_line_takes : (line word rest : List ℕ) (i : Item) → line ≡ word space rest → call_item word rest ≡ Some i → SaysInWords line i
call_line_takes line word rest i spelled e =
    let a = bind_some (process_of word) (λ process. call_of rest >>= λ call. Some (items.Call process call)) i e in
    let b = bind_some (call_of rest) (λ call. Some (items.Call a.0 call)) i a.2 in
    let p = process_takes word a.0 a.1 in
    let same : items.Call a.0 b.0 ≡ i = cc in
    subst (SaysInWords line) same (rest, spelled ∙ ap (λ (w : List ℕ). w space rest) p.0, p.1, call_takes rest b.0 b.1)

-- the item of a line other than a user's, by its word and what follows it
abbrev group_or_call : List ℕ → List ℕ → Option Item
group_or_call word rest = cond (bytes_eq word (codes "group")) (group_item rest) (call_item word rest)

-- the item of a line, by its word and what follows it
abbrev line_by : List ℕ → List ℕ → Option Item
line_by word rest = cond (bytes_eq word (codes "user")) (user_item rest) (group_or_call word rest)

-- a line of words that is read says its item
words_take : (line : List ℕ) (i : Item) → words_item line ≡ Some i → SaysInWords line i
unfolding words_item
words_take line i e =
    let w = split_word line in
    let a = bind_some w.1 (line_by w.0) i e in
    elim (either_chosen (bytes_eq w.0 (codes "user")) (user_item a.0) (group_or_call w.0 a.0) (Some i) a.2) [
      | inl h ↦ user_line_takes line a.0 i (parted line (codes "user") a.0 (same_bytes w.0 (codes "user") h.0) a.1) h.1
      | inr h ↦ elim (either_chosen (bytes_eq w.0 (codes "group")) (group_item a.0) (call_item w.0 a.0) (Some i) h.1) [
        | inl k ↦ group_line_takes line a.0 i (parted line (codes "group") a.0 (same_bytes w.0 (codes "group") k.0) a.1) k.1
        | inr k ↦ call_line_takes line w.0 a.0 i (parted line w.0 a.0 refl a.1) k.1
      ]
    ]

-- a line that is read as an item says it by the grammar
pub item_takes : (line : List ℕ) (i : Item) → item_of line ≡ Some i → Says line i
unfolding item_of
item_takes [] i e = inl (refl, cc)
item_takes (b ∷ bs) i e =
    elim (either_chosen (is_plain (b ∷ bs)) (cond (eqb b 35) (Some items.Comment) (words_item (b ∷ bs))) None (Some i) e) [
      | inl plain ↦ inr (
        plain.0,
        elim (either_chosen (eqb b 35) (Some items.Comment) (words_item (b ∷ bs)) (Some i) plain.1) [
          | inl h ↦ let same : items.Comment ≡ i = cc in subst (SaysInWords (b ∷ bs)) same (bs, ap (λ (x : ℕ). x ∷ bs) (eqb-true b 35 h.0))
          | inr h ↦ words_take (b ∷ bs) i h.1
        ],
      )
      | inr h ↦ absurd cc
    ]

-- a line that begins with a 0 is read word by word
zero_item : (line rest : List ℕ) → line ≡ codes "0" ++ rest → is_plain line ≡ true → item_of line ≡ words_item line
unfolding item_of
zero_item line rest begins plain = ap item_of begins ∙ rw (ap is_plain (sym begins) ∙ plain) (ap words_item (sym begins))

-- the text of a process is not `user`
no_user : (process : ProcName) → bytes_eq (process_text process) (codes "user") ≡ false
no_user process = ap (λ (l : List ℕ). bytes_eq l (codes "user")) (process_begins process).1

-- the text of a process is not `group`
no_group : (process : ProcName) → bytes_eq (process_text process) (codes "group") ≡ false
no_group process = ap (λ (l : List ℕ). bytes_eq l (codes "group")) (process_begins process).1

-- the item of a line of words, by its parts
abbrev item_by : List ℕ × Option (List ℕ) → Option Item
item_by w = w.1 >>= line_by w.0

-- a call line that is spelled is read
call_line_again : (process : ProcName) (rest : List ℕ) (c : UnixCall)
    → is_plain (process_text process space rest) ≡ true → is_process process ≡ true → IsCallText rest c
    → item_of (process_text process space rest) ≡ Some (items.Call process c)
unfolding words_item
call_line_again process rest c plain named said =
    let begins = process_begins process in
    zero_item (process_text process space rest) (begins.0 space rest) (ap (λ (l : List ℕ). l space rest) begins.1) plain
    ∙ ap item_by (split_process process rest named)
    ∙ ap (λ b. cond b (user_item rest) (group_or_call (process_text process) rest)) (no_user process)
    ∙ ap (λ b. cond b (group_item rest) (call_item (process_text process) rest)) (no_group process)
    ∙ ap (λ o. o >>= λ p. call_of rest >>= λ call. Some (items.Call p call)) (process_again process named)
    ∙ ap (λ o. o >>= λ call. Some (items.Call process call)) (call_again rest c said)

-- a line of words that says an item is read as it
words_again : (line : List ℕ) (i : Item) → is_plain line ≡ true → SaysInWords line i → item_of line ≡ Some i
unfolding item_of words_item split_at_first
words_again line items.Comment plain h = ap item_of h.1 ∙ rw (ap is_plain (sym h.1) ∙ plain) refl
words_again line (items.User u) plain h =
    ap item_of h.spelled ∙ rw (ap is_plain (sym h.spelled) ∙ plain, user_again u.name u.password h.name h.password) refl
words_again line (items.Group g) plain h =
    ap item_of h.spelled
    ∙ rw (
      ap is_plain (sym h.spelled)
          ∙ plain,
      group_again g.name g.members h.name (list_all-from_AllPass is_user_name g.members h.members)
          h.some h.few,
    ) refl
words_again line (items.Call process c) plain h = ap item_of h.1 ∙ call_line_again process h.0 c (ap is_plain (sym h.1) ∙ plain) h.2 h.3

-- a line that says an item by the grammar is read as it
pub item_again : (line : List ℕ) (i : Item) → Says line i → item_of line ≡ Some i
unfolding item_of
item_again line i (inl h) = ap item_of h.0 ∙ ap (λ (x : Item). Some x) (sym h.1)
item_again line i (inr h) = words_again line i h.0 h.1

-- a user line spells its user
pub spells_user : (line : List ℕ) (u : User) → Says line (items.User u) → IsUserText line u
spells_user line u (inl h) = absurd cc
spells_user line u (inr h) = h.1

-- a group line spells its group
pub spells_group : (line : List ℕ) (g : Group) → Says line (items.Group g) → IsGroupText line g
spells_group line g (inl h) = absurd cc
spells_group line g (inr h) = h.1
