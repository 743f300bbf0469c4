-- Lines of one number, taken from the front of others.
use Rattle.std.proofs.Common.{◌≡◌, ℕ, ◌+◌, List, [], ◌∷◌, ◌++◌, map, take, drop, refl}
use Rattle.std.proofs.Common.{sym, ap, ap₂, ◌∙◌, Bool, true, false, cond, zero, suc, arith}
use Rattle.std.specs.Prelude.{codes, if◌then◌else◌}
use Rattle.std.specs.List.{list_all, prefix_len}
use Rattle.std.proofs.lemmas.Bool.{and_parts}
use Rattle.std.proofs.lemmas.List.{drop-drop, drop-map, take-map}
use Rattle.std.proofs.Math.Seq.{drop-nil}
use Rattle.histar_page.specs.Laws.{other_item}
use Rattle.histar_page.specs.Lines.{is_own, mark_number}
use Rattle.histar_page.specs.Order.{Follow, past_own, reply_numbers, taken_own}

-- the lines of a number at the front are as many as pass its test in a row
pub taken_is : (number : List ℕ) (lines : List (List ℕ)) → taken_own number lines ≡ take (prefix_len (is_own number) lines) lines
taken_is number [] = refl
taken_is number (line ∷ lines) = by (is_own number line) (taken_is number lines)
  where
    by : (b : Bool) → taken_own number lines ≡ take (prefix_len (is_own number) lines) lines
        → (if b then line ∷ taken_own number lines else []) ≡ take (cond b (1 + prefix_len (is_own number) lines) 0) (line ∷ lines)
    by true e =
        ap (λ l. line ∷ l) e
        ∙ ap (λ n. take n (line ∷ lines)) (let e : suc (prefix_len (is_own number) lines)
        ≡ 1 + prefix_len (is_own number) lines = omega arith in e)
    by false e = refl

-- what was taken of the lines after a place is all that the number has there, element by element
pub taken_front : {A : Type 0} (f : A → List ℕ) (number : List ℕ) (lines own : List A) (from n : ℕ)
    → n ≡ prefix_len (is_own number) (map f (drop from lines)) → own ≡ take n (drop from lines)
    → map f own ≡ taken_own number (drop from (map f lines))
taken_front f number lines own from n is taken =
    ap (map f) taken ∙ sym (take-map f n (drop from lines)) ∙ ap (λ k. take k (map f (drop from lines))) is
    ∙ sym (taken_is number (map f (drop from lines))) ∙ ap (taken_own number) (sym (drop-map f from lines))

-- ---- what is left

-- the lines after those of a number are the lines after as many
pub past_is : (number : List ℕ) (lines : List (List ℕ)) → past_own number lines ≡ drop (prefix_len (is_own number) lines) lines
past_is number [] = refl
past_is number (line ∷ lines) = by (is_own number line) (past_is number lines)
  where
    by : (b : Bool) → past_own number lines ≡ drop (prefix_len (is_own number) lines) lines
        → (if b then past_own number lines else line ∷ lines) ≡ drop (cond b (1 + prefix_len (is_own number) lines) 0) (line ∷ lines)
    by true e =
        e
        ∙ ap (λ n. drop n (line ∷ lines)) (let e : suc (prefix_len (is_own number) lines)
        ≡ 1 + prefix_len (is_own number) lines = omega arith in e)
    by false e = refl

-- the lines after those that were taken are the lines after all of the number, also element by element
pub past_texts : {A : Type 0} (f : A → List ℕ) (number : List ℕ) (lines : List A) (from n : ℕ)
    → n ≡ prefix_len (is_own number) (map f (drop from lines)) → drop (from + n) (map f lines) ≡ past_own number (drop from (map f lines))
past_texts f number lines from n is =
    sym (drop-drop n from (map f lines))
    ∙ ap (λ k. drop k (drop from (map f lines))) (is ∙ ap (prefix_len (is_own number)) (sym (drop-map f from lines)))
    ∙ sym (past_is number (drop from (map f lines)))

-- the lines after a place, element by element
pub behind_texts : {A : Type 0} (f : A → List ℕ) (lines later : List A) (k : ℕ) → later ≡ drop k lines → map f later ≡ drop k (map f lines)
behind_texts f lines later k behind = ap (map f) behind ∙ sym (drop-map f k lines)

-- the lines that a number takes have it
pub taken_pass : (number : List ℕ) (lines : List (List ℕ)) → list_all (is_own number) (taken_own number lines) ≡ true
taken_pass number [] = refl
taken_pass number (line ∷ lines) = by (is_own number line) refl (taken_pass number lines)
  where
    by : (b : Bool) → is_own number line ≡ b → list_all (is_own number) (taken_own number lines) ≡ true
        → list_all (is_own number) (if b then line ∷ taken_own number lines else []) ≡ true
    by true is e = rw is e
    by false is e = refl

-- the lines that a number takes and those that it leaves are all lines
pub own_whole : (number : List ℕ) (lines : List (List ℕ)) → taken_own number lines ++ past_own number lines ≡ lines
own_whole number [] = refl
own_whole number (line ∷ lines) = by (is_own number line) (own_whole number lines)
  where
    by : (b : Bool) → taken_own number lines ++ past_own number lines ≡ lines
        → (if b then line ∷ taken_own number lines else []) ++ (if b then past_own number lines else line ∷ lines) ≡ line ∷ lines
    by true e = ap (λ l. line ∷ l) e
    by false e = refl

-- ---- what no reply takes

-- the lines that are left after each number in turn has taken its own from the front
abbrev pub left_over : List (List ℕ) → List (List ℕ) → List (List ℕ)
left_over [] lines = lines
left_over (number ∷ numbers) lines = left_over numbers (past_own number lines)

-- the numbers of the raw calls and explanations that no reply takes
abbrev pub other_numbers : List (List ℕ) → List (List ℕ) → List (List ℕ) → List (List ℕ)
other_numbers replies raw_calls explanations =
    map mark_number (left_over (reply_numbers replies) raw_calls) ++ map mark_number (left_over (reply_numbers replies) explanations)

-- 0 for boot, and then those of the raw calls and explanations that neither boot nor a reply takes
abbrev pub session_numbers : List (List ℕ) → List (List ℕ) → List (List ℕ) → List (List ℕ)
session_numbers replies raw_calls explanations = codes "0" ∷ other_numbers replies (past_own (codes "0") raw_calls) explanations

-- if a number's own lines are passed over from any place on, an end of the rest is left
past_some : (number : List ℕ) (own rest : List (List ℕ)) (k : ℕ) → list_all (is_own number) own ≡ true
    → (j : ℕ) × (past_own number (drop k (own ++ rest)) ≡ drop j rest)
past_some number [] rest k h = (
  k + prefix_len (is_own number) (drop k rest),
  past_is number (drop k rest)
      ∙ drop-drop (prefix_len (is_own number) (drop k rest)) k rest,
)
past_some number (line ∷ own) rest zero h =
    let parts = and_parts (is_own number line) (list_all (is_own number) own) h in
    let more = past_some number own rest 0 parts.1 in
    (more.0, ap (λ b. if b then past_own number (own ++ rest) else line ∷ own ++ rest) parts.0 ∙ more.1)
past_some number (line ∷ own) rest (suc k) h = past_some number own rest k (and_parts (is_own number line) (list_all (is_own number) own) h).1

-- nothing is left of lines that follow the numbers
none_left : (numbers lines : List (List ℕ)) (k : ℕ) → Follow numbers lines → left_over numbers (drop k lines) ≡ []
none_left [] lines k h = ap (drop k) h ∙ drop-nil k
none_left (number ∷ numbers) lines k h =
    let past = past_some number h.0 h.1 k h.3 in
    ap (λ l. left_over numbers (past_own number (drop k l))) h.2 ∙ ap (left_over numbers) past.1 ∙ none_left numbers h.1 past.0 h.4

-- only 0 is shown without a call
pub boot_alone : (replies raw_calls explanations : List (List ℕ)) → Follow (codes "0" ∷ reply_numbers replies) raw_calls
    → Follow (reply_numbers replies) explanations → map other_item (session_numbers replies raw_calls explanations) ≡ other_item (codes "0") ∷ []
boot_alone replies raw_calls explanations raw why =
    ap₂ (λ (a b : List (List ℕ)). other_item (codes "0") ∷ map other_item (map mark_number a ++ map mark_number b))
    (none_left (codes "0" ∷ reply_numbers replies) raw_calls 0 raw) (none_left (reply_numbers replies) explanations 0 why)
