-- Some script begins with lines that are right.
use Rattle.std.proofs.Common.{◌≡◌, ◌≢◌, ℕ, ◌+◌, ◌<◌, Bool, true, false, not, eqb, leb, List, [], ◌∷◌, ◌++◌, length, take, codes, refl, sym, ap, subst}
use Rattle.std.proofs.Common.{◌∙◌, inl, inr, arith, append_assoc, append-nil, length-append}
use Rattle.std.specs.List.{list_all, flat_map, AllByRecursion}
use Rattle.std.proofs.lemmas.Bool.{false≢true, cases_lt, eqb-true, and_parts, not-true}
use Rattle.std.proofs.lemmas.List.Elements.{All-nil}
use Rattle.std.proofs.lemmas.List.{nil_from_length, take_at}
use Rattle.histar_flat.specs.declared.calls.User.{User}
use Rattle.histar_flat.specs.Words.{is_name, is_user_name, is_password}
use Rattle.histar_flat.specs.Accounts.{Group, with_user}
use Rattle.histar_script.specs.declared.items.Item.{Item}
use Rattle.histar_script.specs.declared.items.Item.TheVariants as items
use Rattle.histar_script.specs.Lines.{lines_of, is_plain, is_plain_byte, most_line_bytes}
use Rattle.histar_script.specs.Script.{ScriptModel, IsMembership, nothing_read}
use Rattle.histar_script.specs.Grammar.{Says, Adds, Takes, TakesLines, BeginsSome}

-- the byte ends no line
abbrev is_no_end : ℕ → Bool
is_no_end b = not (eqb b 10)

-- the bytes are one line
abbrev IsOneLine : List ℕ → Type 0
IsOneLine line = list_all is_no_end line ≡ true

-- the text of these lines, each with its end
abbrev with_ends : List (List ℕ) → List ℕ
with_ends lines = flat_map (λ line. line ++ 10 ∷ []) lines

-- a line ends at its line end
pub line_back : (line rest : List ℕ) → IsOneLine line → lines_of (line ++ 10 ∷ rest) ≡ line ∷ lines_of rest
unfolding lines_of
line_back [] rest h = refl
line_back (b ∷ bs) rest h =
    let p = and_parts (is_no_end b) (list_all is_no_end bs) h in
    let no_end : eqb b 10 ≡ false = not-true (eqb b 10) p.0 in
    rw (no_end, line_back bs rest p.1) refl

-- the lines of a text that is made of lines are these lines
lines_back : (lines : List (List ℕ)) (rest : List ℕ) → AllByRecursion IsOneLine lines → lines_of (with_ends lines ++ rest) ≡ lines ++ lines_of rest
lines_back [] rest h = refl
lines_back (line ∷ lines) rest h =
    ap lines_of (simp append_assoc) ∙ line_back line (with_ends lines ++ rest) h.0
    ∙ ap (λ (ls : List (List ℕ)). line ∷ ls) (lines_back lines rest h.1)

-- a printable byte ends no line
plain_is_no_end : (b : ℕ) → is_plain_byte b ≡ true → is_no_end b ≡ true
plain_is_no_end b h = no_end (eqb b 10) refl
  where
    no_end : (t : Bool) → eqb b 10 ≡ t → not (eqb b 10) ≡ true
    no_end false e = rw e refl
    no_end true e =
        let same : b ≡ 10 = eqb-true b 10 e in let bad : is_plain_byte 10
        ≡ true = subst (λ (x : ℕ). is_plain_byte x ≡ true) same h in absurd (false≢true bad)

-- printable bytes are one line
plain_bytes : (line : List ℕ) → list_all is_plain_byte line ≡ true → IsOneLine line
plain_bytes [] h = refl
plain_bytes (b ∷ bs) h = let p = and_parts (is_plain_byte b) (list_all is_plain_byte bs) h in rw (plain_is_no_end b p.0, plain_bytes bs p.1) refl

-- a line that says something is one line
pub said_is_one_line : (line : List ℕ) (i : Item) → Says line i → IsOneLine line
unfolding is_plain
said_is_one_line line i (inl h) = rw h.0 refl
said_is_one_line line i (inr h) = plain_bytes line (and_parts (leb (length line) most_line_bytes) (list_all is_plain_byte line) h.0).1

-- each line that is taken is one line
taken_are_lines : (s : ScriptModel) (k : ℕ) (lines : List (List ℕ)) (t : ScriptModel) → TakesLines s k lines t → AllByRecursion IsOneLine lines
taken_are_lines s k [] t h = tt
taken_are_lines s k (line ∷ lines) t h = (said_is_one_line line h.1.0 h.1.1, taken_are_lines h.0 (k + 1) lines t h.2)

-- one more line can be taken after the others
pub takes_on : (s : ScriptModel) (k n : ℕ) (lines : List (List ℕ)) (t : ScriptModel) (line : List ℕ) (u : ScriptModel)
    → TakesLines s k lines t → n ≡ k + length lines + 1 → Takes t n line u → TakesLines s k (lines ++ line ∷ []) u
takes_on s k n [] t line u h is next =
    let number : n
    ≡ k
    + 1 = omega arith in (
      u,
      subst (λ (x : ℕ). Takes s x line u) number (subst (λ (x : ScriptModel). Takes x n line u) h next),
      refl,
    )
takes_on s k n (first ∷ lines) t line u h is next = (h.0, h.1, takes_on h.0 (k + 1) n lines t line u h.2 (omega arith) next)

-- without a user, there is no call and no group
abbrev IsBlank : ScriptModel → Type 0
IsBlank s = s.accounts.users ≡ [] → (s.calls ≡ []) × (s.accounts.groups ≡ [])

-- no group has members if there is no user
no_members : (users : List User) (g : Group) → users ≡ [] → IsMembership users g → ⊥
no_members users g none is =
    let some : 0 < length g.members = is.some in
    let member = is.declared 0 [] some in
    let among : member.0 < length users = member.2 in
    let len : length users ≡ 0 = ap length none in
    omega arith

-- an item that adds no user adds no call and no group if there is no user
still : (s t : ScriptModel) (n : ℕ) (i : Item) → IsBlank s → Adds s n i t → IsBlank t
still s t n items.Comment here added = subst IsBlank (sym added) here
still s t n (items.User u) here added =
    λ none. (
      ap (λ (x : ScriptModel). x.calls) added.4 ∙ added.0,
      ap (λ (x : ScriptModel). x.accounts.groups) added.4
          ∙ added.1,
    )
still s t n (items.Group g) here added =
    λ none.
    absurd (no_members s.accounts.users g (sym (ap (λ (x : ScriptModel). x.accounts.users) added.5) ∙ none) added.4)
still s t n (items.Call p c) here added = λ e.
    let none : s.accounts.users ≡ [] = sym (ap (λ (x : ScriptModel). x.accounts.users) added.2) ∙ e in
    let some : 0 < length s.accounts.users = added.0 in
    let len : length s.accounts.users ≡ 0 = ap length none in
    absurd (omega arith)

-- without a user there is no call and no group
stays_blank : (s : ScriptModel) (k : ℕ) (lines : List (List ℕ)) (t : ScriptModel) → IsBlank s → TakesLines s k lines t → IsBlank t
stays_blank s k [] t here h = subst IsBlank (sym h) here
stays_blank s k (line ∷ lines) t here h = stays_blank h.0 (k + 1) lines t (still s h.0 (k + 1) h.1.0 here h.1.2) h.2

-- a user line
abbrev user_line : List ℕ
user_line = codes "user a a"

-- the user that it declares
abbrev user_a : User
user_a = record { name = codes "a"; password = codes "a" }

-- a script with this user added
abbrev with_a : ScriptModel → ScriptModel
with_a t = record { accounts = with_user t.accounts user_a; calls = t.calls }

-- the user line is taken if there is no user
takes_user : (t : ScriptModel) (n : ℕ) → t.accounts.users ≡ [] → IsBlank t → Takes t n user_line (with_a t)
unfolding is_plain is_name is_user_name is_password
takes_user t n none blank = (
  items.User user_a,
  inr (refl, record { spelled = refl; name = refl; password = refl }),
  ((blank none).0, (blank none).1, rw none (omega arith), rw none (All-nil (λ v. v.name ≢ user_a.name)), refl),
)

-- the user line is one line
user_line_alone : lines_of user_line ≡ user_line ∷ []
unfolding lines_of
user_line_alone = refl

-- nothing has no line
no_lines_left : lines_of [] ≡ []
unfolding lines_of
no_lines_left = refl

-- without a user, the lines and the user line make a script
begun_without : (lines : List (List ℕ)) (t : ScriptModel) → TakesLines nothing_read 0 lines t → t.accounts.users ≡ [] → BeginsSome lines
begun_without lines t h none =
    let is : lines_of (with_ends lines ++ user_line) ≡ lines ++ user_line ∷ [] =
    lines_back lines user_line (taken_are_lines nothing_read 0 lines t h)
    ∙ ap (λ (l : List (List ℕ)). lines ++ l) user_line_alone in
    let next = takes_user t (length lines + 1) none (stays_blank nothing_read 0 lines t (λ _. (refl, refl)) h) in
    let all = takes_on nothing_read 0 (length lines + 1) lines t user_line (with_a t) h (omega arith) next in (
      with_ends lines ++ user_line,
      with_a t,
      ap (take (length lines)) is ∙ take_at lines (user_line ∷ []) (length lines) refl,
      (
        subst (λ (l : List (List ℕ)). TakesLines nothing_read 0 l (with_a t)) (sym is) all,
        omega
            (arith, length-append t.accounts.users (user_a ∷ [])),
      ),
    )

-- with a user, the lines make a script
begun_with : (lines : List (List ℕ)) (t : ScriptModel) → TakesLines nothing_read 0 lines t → 0 < length t.accounts.users → BeginsSome lines
begun_with lines t h some =
    let is : lines_of (with_ends lines ++ []) ≡ lines ++ [] =
    lines_back lines [] (taken_are_lines nothing_read 0 lines t h)
    ∙ ap (λ (l : List (List ℕ)). lines ++ l) no_lines_left in (
      with_ends lines ++ [],
      t,
      ap (take (length lines)) is ∙ take_at lines [] (length lines) refl,
      (subst (λ (l : List (List ℕ)). TakesLines nothing_read 0 l t) (sym (is ∙ append-nil lines)) h, some),
    )

-- some script begins with lines that are taken
pub begun : (lines : List (List ℕ)) (t : ScriptModel) → TakesLines nothing_read 0 lines t → BeginsSome lines
begun lines t h =
    elim (cases_lt 0 (length t.accounts.users)) [
      | inl some ↦ begun_with lines t h some
      | inr none ↦ begun_without lines t h (nil_from_length t.accounts.users (omega arith))
    ]
