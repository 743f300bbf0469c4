-- A raw call that is read from a line can be read.
use Rattle.std.proofs.Common.{◌≡◌, ℕ, suc, ◌≤◌, ◌^◌, Bool, true, false, leb, List, [], ◌∷◌, Option, Some, None, Result, Ok, Err, refl, subst, arith}
use Rattle.std.specs.Prelude.{◌==◌, if◌then◌else◌}
use Rattle.std.specs.List.{slice_split}
use Rattle.std.proofs.lemmas.Bool.{leb-true}
use Rattle.std.proofs.lemmas.Option.{same_Some}
use Rattle.hex.specs.declared.error.FromHexError.{FromHexError}
use Rattle.hex.specs.Hex.{decode_of, IsBytes}
use Rattle.hex.proofs.HexLemmas.{decode_of-ok}
use Rattle.histar_flat.specs.Words.{split_at_first}
use Rattle.histar_level.specs.declared.level.Level.{Level}
use Rattle.histar_level.specs.Levels.{Levels}
use Rattle.histar_label.specs.Levels.{constant, with_level, is_made}
use Rattle.histar_label.proofs.Made.{is_made-law, is_made-constant, is_made-with_level}
use Rattle.histar_object.specs.declared.objects.Entry.TheVariants.{Login, Mark}
use Rattle.histar_rules.specs.declared.raw.RawCall.{RawCall}
use Rattle.histar_rules.specs.declared.raw.RawCall.TheVariants.{MakeCategory, OwnLabel, SetLabel, SetClearance, MakeSegment, MakeContainer}
use Rattle.histar_rules.specs.declared.raw.RawCall.TheVariants.{MakeThread, MakeGate, Enter, Read, Write, Unlink, LabelOf}
use Rattle.histar_rawtext.specs.RawTextLaws.{IsNumber}
use Rattle.histar_rawtext.specs.Readable.{IsReadable, IsReadableLabel, IsReadableEntry, AreBytes}
use Rattle.histar_rawtext.specs.Reading.{◌>>=◌, between, number_in, category_in, short_number_in, user_in, level_in, exception_in, with_exception}
use Rattle.histar_rawtext.specs.Reading.{label_of_texts, label_in, decoded, bytes_in, entry_named, entry_in, next_word, make_segment_in}
use Rattle.histar_rawtext.specs.Reading.{make_container_in, make_thread_in, make_gate_in, enter_in, write_in, pair_in, own_label_in, call_named}
use Rattle.histar_rawtext.specs.Reading.{thread_call_in}
use Rattle.histar_rawtext.proofs.Numbers.{number_is}

-- a value that is there has a property
record Has {A : Type 0} (P : A → Type 0) (o : Option A) : Type 0 where
  all : (x : A) → o ≡ Some x → P x

-- a missing value has every property
nothing : {A : Type 0} {P : A → Type 0} → Has P None
nothing = record { all = λ x e. absurd cc }

-- a value has the property that it is shown to have
value : {A : Type 0} {P : A → Type 0} (a : A) → P a → Has P (Some a)
value {P = P} a p = record { all = λ x e. subst P (same_Some a x e) p }

-- a value after a value with a property has a property
after : {A B : Type 0} {Q : A → Type 0} {P : B → Type 0} (o : Option A) (f : A → Option B) → Has Q o → ((a : A) → Q a → Has P (f a)) → Has P (o >>= f)
after None f q next = nothing
after (Some a) f q next = next a (q.all a refl)

-- a value after any value has a property
after_any : {A B : Type 0} {P : B → Type 0} (o : Option A) (f : A → Option B) → ((a : A) → Has P (f a)) → Has P (o >>= f)
after_any None f next = nothing
after_any (Some a) f next = next a

-- a chosen value has a property if both have it
either : {A : Type 0} {P : A → Type 0} (b : Bool) (x y : Option A) → Has P x → Has P y → Has P (if b then x else y)
either true x y p q = p
either false x y p q = q

-- ---- words

-- a number has 64 bits
number_right : (word : List ℕ) → Has IsNumber (number_in word)
number_right word = record { all = λ n e. (number_is word n e).1 }

-- a number between two is between them
between_right : (least most n : ℕ) → Has (λ m. (least ≤ m) × (m ≤ most)) (between least most n)
between_right least most n = record { all = λ m. by m (leb least n) (leb n most) refl refl }
  where
    by : (m : ℕ) (a b : Bool) → leb least n ≡ a → leb n most ≡ b
        → (if a then (if b then Some n else None) else None) ≡ Some m → (least ≤ m) × (m ≤ most)
    by m true true low high is = subst (λ k. (least ≤ k) × (k ≤ most)) (same_Some n m is) (leb-true least n low, leb-true n most high)
    by m true false low high is = absurd cc
    by m false b low high is = absurd cc

-- a category has 64 bits and is 1 or more
category_right : (word : List ℕ) → Has (λ c. (1 ≤ c) × (c ≤ 18446744073709551615)) (category_in word)
category_right word = after_any (number_in word) (between 1 18446744073709551615) (between_right 1 18446744073709551615)

-- a short number has 32 bits
short_right : (word : List ℕ) → Has (λ n. (0 ≤ n) × (n ≤ 4294967295)) (short_number_in word)
short_right word = after_any (number_in word) (between 0 4294967295) (between_right 0 4294967295)

-- a user is 1 to 255
user_right : (word : List ℕ) → Has (λ n. (1 ≤ n) × (n ≤ 255)) (user_in word)
user_right word = after_any (number_in word) (between 1 255) (between_right 1 255)

-- a label names categories of 64 bits from 1 on, as a test
abbrev IsMadeSo : Levels → Type 0
IsMadeSo label = is_made (2 ^ 64) label ≡ true

-- an exception has such a category
exception_right : (text : List ℕ) → Has (λ (e : ℕ × Level). (1 ≤ e.0) × (e.0 ≤ 18446744073709551615)) (exception_in text)
unfolding exception_in
exception_right text =
    after (category_in (split_at_first 58 text).0) _ (category_right (split_at_first 58 text).0) (λ c right.
    after_any (split_at_first 58 text).1 _ (λ rest. after_any (level_in rest) _ (λ level. value (c, level) right)))

-- so has a label with one more
more_right : (text : List ℕ) (label : Option Levels) → Has IsMadeSo label → Has IsMadeSo (with_exception text label)
unfolding with_exception
more_right text label p =
    after label _ p (λ levels made. after (exception_in text) _ (exception_right text) (λ e right.
    value (with_level levels e.0 e.1) (is_made-with_level (2 ^ 64) levels e.0 e.1 (omega (arith, right.0)) (omega (arith, right.1)) made)))

-- and a label of texts
texts_right : (texts : List (List ℕ)) → Has IsMadeSo (label_of_texts texts)
unfolding label_of_texts
texts_right [] = nothing
texts_right (text ∷ []) = after_any (level_in text) _ (λ default. value (constant default) (is_made-constant (2 ^ 64) default))
texts_right (text ∷ more ∷ texts) = more_right text (label_of_texts (more ∷ texts)) (texts_right (more ∷ texts))

-- a label can be read
label_right : (word : List ℕ) → Has IsReadableLabel (label_in word)
label_right [] = nothing
label_right (b ∷ text) = record { all = λ L e. (is_made-law (2 ^ 64) L).0 ((texts_right (slice_split (λ c. c == 44) text)).all L e) }

-- bytes at each place are bytes one by one
each_byte : (bs : List ℕ) → IsBytes bs → AreBytes bs
each_byte [] p = tt
each_byte (b ∷ bs) p = (p 0, each_byte bs (λ i. p (suc i)))

-- bytes can be read
bytes_right : (word : List ℕ) → Has AreBytes (bytes_in word)
bytes_right [] = nothing
bytes_right (b ∷ text) = record { all = λ bs. by bs (decode_of text) refl }
  where
    by : (bs : List ℕ) (r : Result (List ℕ) FromHexError) → decode_of text ≡ r → decoded r ≡ Some bs → AreBytes bs
    by bs (Ok found) is same = subst AreBytes (same_Some found bs same) (each_byte found (decode_of-ok text found is).3)
    by bs (Err f) is same = absurd cc

-- a gate's entry can be read
entry_right : (word : List ℕ) → Has IsReadableEntry (entry_in word)
entry_right word =
    let name = (split_at_first 58 word).0 in
    after_any (split_at_first 58 word).1 (entry_named name) (λ number.
    either _ _ _ (after (user_in number) _ (user_right number) (λ n right. value (Login n) (right.0, omega (arith, right.1))))
    (either _ _ _ (after (short_number_in number) _ (short_right number) (λ n right. value (Mark n) (omega (arith, right.1)))) nothing))

-- ---- calls

make_segment_right : (words : Option (List ℕ)) → Has IsReadable (make_segment_in words)
unfolding make_segment_in
make_segment_right words =
    after_any (next_word words) _ (λ a. after_any (next_word a.1) _ (λ b. after_any (next_word b.1) _ (λ c.
    after (number_in a.0) _ (number_right a.0)
    (λ container p0. after (label_in b.0) _ (label_right b.0) (λ label p1. after (bytes_in c.0) _ (bytes_right c.0) (λ bytes p2.
    value (MakeSegment container label bytes) (p0, p1, p2)))))))

make_container_right : (words : Option (List ℕ)) → Has IsReadable (make_container_in words)
unfolding make_container_in
make_container_right words =
    after_any (next_word words) _ (λ a. after_any (next_word a.1) _ (λ b.
    after (number_in a.0) _ (number_right a.0) (λ container p0. after (label_in b.0) _ (label_right b.0) (λ label p1.
    value (MakeContainer container label) (p0, p1)))))

make_thread_right : (words : Option (List ℕ)) → Has IsReadable (make_thread_in words)
unfolding make_thread_in
make_thread_right words =
    after_any (next_word words) _ (λ a. after_any (next_word a.1) _ (λ b. after_any (next_word b.1) _ (λ c.
    after (number_in a.0) _ (number_right a.0)
    (λ container p0. after (label_in b.0) _ (label_right b.0) (λ label p1. after (label_in c.0) _ (label_right c.0) (λ clearance p2.
    value (MakeThread container label clearance) (p0, p1, p2)))))))

make_gate_right : (words : Option (List ℕ)) → Has IsReadable (make_gate_in words)
unfolding make_gate_in
make_gate_right words =
    after_any (next_word words) _ (λ a. after_any (next_word a.1) _ (λ b. after_any (next_word b.1) _ (λ c. after_any (next_word c.1) _ (λ d.
    after (number_in a.0) _ (number_right a.0)
    (λ container p0. after (label_in b.0) _ (label_right b.0)
    (λ label p1. after (label_in c.0) _ (label_right c.0) (λ clearance p2. after (entry_in d.0) _ (entry_right d.0) (λ entry p3.
    value (MakeGate container label clearance entry) (p0, p1, p2, p3)))))))))

enter_right : (words : Option (List ℕ)) → Has IsReadable (enter_in words)
unfolding enter_in
enter_right words =
    after_any (next_word words) _
    (λ a. after_any (next_word a.1) _ (λ b. after_any (next_word b.1) _ (λ c. after_any (next_word c.1) _ (λ d. after_any (next_word d.1) _ (λ f.
    after (number_in a.0) _ (number_right a.0)
    (λ container p0. after (number_in b.0) _ (number_right b.0)
    (λ gate p1. after (label_in c.0) _ (label_right c.0)
    (λ wanted p2. after (label_in d.0) _ (label_right d.0) (λ clearance p3. after (label_in f.0) _ (label_right f.0) (λ verify p4.
    value (Enter container gate wanted clearance verify) (p0, p1, p2, p3, p4)))))))))))

write_right : (words : Option (List ℕ)) → Has IsReadable (write_in words)
unfolding write_in
write_right words =
    after_any (next_word words) _ (λ a. after_any (next_word a.1) _ (λ b. after_any (next_word b.1) _ (λ c. after_any (next_word c.1) _ (λ d.
    after (number_in a.0) _ (number_right a.0)
    (λ container p0. after (number_in b.0) _ (number_right b.0)
    (λ segment p1. after (short_number_in c.0) _ (short_right c.0) (λ keep p2. after (bytes_in d.0) _ (bytes_right d.0) (λ bytes p3.
    value (Write container segment keep bytes) (p0, p1, omega (arith, p2.1), p3)))))))))

pair_right : (words : Option (List ℕ)) → Has (λ (pair : ℕ × ℕ). IsNumber pair.0 × IsNumber pair.1) (pair_in words)
unfolding pair_in
pair_right words =
    after_any (next_word words) _ (λ a. after_any (next_word a.1) _ (λ b.
    after (number_in a.0) _ (number_right a.0) (λ container p0. after (number_in b.0) _ (number_right b.0) (λ object p1.
    value (container, object) (p0, p1)))))

own_label_right : (words : Option (List ℕ)) → Has IsReadableLabel (own_label_in words)
unfolding own_label_in
own_label_right words = after_any (next_word words) _ (λ a. label_right a.0)

-- a call that is read can be read
call_right : (name : List ℕ) (words : Option (List ℕ)) → Has IsReadable (call_named name words)
call_right name words =
    let pair : (make : ℕ → ℕ → RawCall) → ((m n : ℕ) → IsNumber m × IsNumber n → IsReadable (make m n))
    → Has IsReadable (pair_in words >>= λ pair. Some (make pair.0 pair.1)) =
    λ make right.
    after (pair_in words) _ (pair_right words) (λ p both. value (make p.0 p.1) (right p.0 p.1 both)) in
    either _ _ _ (value MakeCategory tt)
    (either _ _ _ (value OwnLabel tt)
    (either _ _ _ (after (own_label_in words) _ (own_label_right words) (λ label p. value (SetLabel label) p))
    (either _ _ _ (after (own_label_in words) _ (own_label_right words) (λ clearance p. value (SetClearance clearance) p))
    (either _ _ _ (make_segment_right words)
    (either _ _ _ (make_container_right words)
    (either _ _ _ (make_thread_right words)
    (either _ _ _ (make_gate_right words)
    (either _ _ _ (enter_right words)
    (either _ _ _ (write_right words)
    (either _ _ _ (pair Read (λ m n p. p))
    (either _ _ _ (pair Unlink (λ m n p. p))
    (either _ _ _ (pair LabelOf (λ m n p. p)) nothing))))))))))))

-- so can a thread and its call
call_of_thread_right : (line : List ℕ) → Has (λ (asked : ℕ × RawCall). IsNumber asked.0 × IsReadable asked.1) (thread_call_in line)
unfolding thread_call_in
call_of_thread_right line =
    after_any (next_word (Some line)) _ (λ a. after_any (next_word a.1) _ (λ b.
    after (number_in a.0) _ (number_right a.0) (λ thread small. after (call_named b.0 b.1) _ (call_right b.0 b.1) (λ call right.
    value (thread, call) (small, right)))))

-- so each thread and call that are read
pub thread_call_right : (line : List ℕ) (asked : ℕ × RawCall) → thread_call_in line ≡ Some asked → IsNumber asked.0 × IsReadable asked.1
thread_call_right line = (call_of_thread_right line).all
