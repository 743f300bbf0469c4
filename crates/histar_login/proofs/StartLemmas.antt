-- One turn of each loop of boot.
use Rattle.std.proofs.Common.{◌≡◌, ℕ, zero, suc, ◌+◌, ◌*◌, ◌<◌, List, [], ◌∷◌, ◌++◌, length, get_or, take, sym, ap, ◌∙◌, arith, add-zero, append-nil}
use Rattle.std.proofs.Common.{append_assoc, codes}
use Rattle.std.specs.List.{range_with_len}
use Rattle.std.proofs.lemmas.List.{length-take-le}
use Rattle.histar_flat.specs.declared.calls.User.{User}
use Rattle.histar_flat.specs.Words.{Name}
use Rattle.std.specs.Int.{w64, to_be_bytes}
use Rattle.histar_layout.specs.Categories.{read_category, write_category}
use Rattle.histar_layout.proofs.LabellingLemmas.{take_next}
use Rattle.histar_programs.specs.Start.{numbered, user_entry, user_entries, entry_of}

-- a range with the next number
pub range-suc : (a n : ℕ) → range_with_len a (suc n) ≡ range_with_len a n ++ (a + n) ∷ []
range-suc a zero = ap (λ x. x ∷ []) (sym (add-zero a))
range-suc a (suc n) = ap (λ l. a ∷ l) (range-suc (a + 1) n ∙ ap (λ y. range_with_len (a + 1) n ++ y ∷ []) (omega arith))

numbered-more : {A B : Type 0} (f : ℕ → B → List A) (k : ℕ) (xs : List B) (x : B)
    → numbered f k (xs ++ x ∷ []) ≡ numbered f k xs ++ f (k + length xs) x
numbered-more f k [] x = append-nil (f k x) ∙ ap (λ n. f n x) (sym (add-zero k))
numbered-more f k (y ∷ xs) x =
    ap (λ l. f k y ++ l) (numbered-more f (k + 1) xs x) ∙ sym (append_assoc (f k y) (numbered f (k + 1) xs) (f (k + 1 + length xs) x))
    ∙ ap (λ n. (f k y ++ numbered f (k + 1) xs) ++ f n x) (omega arith)

-- the users, or the groups, with one more
pub numbered_next : {A B : Type 0} (f : ℕ → B → List A) (xs : List B) (i : ℕ) (x : B) → i < length xs
    → x ≡ get_or xs i x → numbered f 1 (take (i + 1) xs) ≡ numbered f 1 (take i xs) ++ f (i + 1) x
numbered_next f xs i x lt is =
    let at : 1 + length (take i xs) ≡ i + 1 = omega (arith, length-take-le i xs (omega arith)) in
    ap (numbered f 1) (take_next xs i x lt is) ∙ numbered-more f 1 (take i xs) x ∙ ap (λ n. numbered f 1 (take i xs) ++ f n x) at

-- the users of the user table with one user more
pub table_next : (xs : List User) (i : ℕ) (x : User) (name : Name) (before after : List ℕ) → i < length xs → x ≡ get_or xs i x → name ≡ x.name
    → before ≡ user_entries (take i xs) → after ≡ before ++ user_entry name (i + 1) (2 * i + 4) (2 * i + 3) → after ≡ user_entries (take (i + 1) xs)
table_next xs i x name before after lt is named old new =
    let gate : 2 * i + 4 ≡ 2 + 2 * (i + 1) = omega arith in
    let password : 2 * i + 3 ≡ 1 + 2 * (i + 1) = omega arith in
    let nobody = user_entry (codes "nobody") 0 0 0 in
    new ∙ (λ j. old j ++ user_entry (named j) (i + 1) (gate j) (password j))
    ∙ append_assoc nobody (numbered entry_of 1 (take i xs)) (entry_of (i + 1) x)
    ∙ ap (λ (l : List ℕ). nobody ++ l) (sym (numbered_next entry_of xs i x lt is))

parts : (t0 t1 t2 t3 t4 t5 t6 : List ℕ) (n : ℕ) (a b c d e : List ℕ) → t1 ≡ t0 ++ n ∷ [] → t2 ≡ t1 ++ a → t3 ≡ t2 ++ b
    → t4 ≡ t3 ++ c → t5 ≡ t4 ++ d → t6 ≡ t5 ++ e
    → t6 ≡ t0 ++ (((((n ∷ a) ++ b) ++ c) ++ d) ++ e)
parts t0 t1 t2 t3 t4 t5 t6 n a b c d e e1 e2 e3 e4 e5 e6 =
    e6
    ∙ ap (λ t. t ++ e)
    (e5 ∙ ap (λ t. t ++ d) (e4 ∙ ap (λ t. t ++ c) (e3 ∙ ap (λ t. t ++ b) (e2 ∙ ap (λ t. t ++ a) e1))))
    ∙ simp append_assoc

-- the parts of an entry are appended to a table one by one
pub entry_grows : (t0 t1 t2 t3 t4 t5 t6 : List ℕ) (name : Name) (i gate password : ℕ) → t1 ≡ t0 ++ length name ∷ [] → t2 ≡ t1 ++ name
    → t3 ≡ t2 ++ to_be_bytes w64 (read_category i) → t4 ≡ t3 ++ to_be_bytes w64 (write_category i)
    → t5 ≡ t4 ++ to_be_bytes w64 gate → t6 ≡ t5 ++ to_be_bytes w64 password
    → t6 ≡ t0 ++ user_entry name i gate password
unfolding user_entry
entry_grows t0 t1 t2 t3 t4 t5 t6 name i gate password e1 e2 e3 e4 e5 e6 = parts t0 t1 t2 t3 t4 t5 t6 (length name) name _ _ _ _ e1 e2 e3 e4 e5 e6
