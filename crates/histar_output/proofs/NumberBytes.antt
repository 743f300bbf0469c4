-- A text that JSON takes for a number is one line.
use Rattle.std.proofs.Common.{◌≡◌, ℕ, suc, ◌+◌, Bool, true, false, cond, not, eqb, List, [], ◌∷◌, drop, refl, sym, ap}
use Rattle.std.proofs.Common.{◌∙◌, subst, inl, inr, arith, Some, None}
use Rattle.std.specs.Prelude.{Option, option_and_then, ◌==◌, ◌||◌}
use Rattle.std.specs.Char.{is_ascii_digit}
use Rattle.std.specs.List.{list_all, prefix_len}
use Rattle.std.proofs.lemmas.Bool.{eqb-true, or_cases, true≢false, ne_eqb}
use Rattle.json.specs.Print.{IsNumber}
use Rattle.json.specs.Word.{head, after_digits, after_minus, after_sign, after_whole, after_fraction, after_exponent, after_number}

-- the byte ends no line
abbrev pub is_no_end : ℕ → Bool
is_no_end b = not (eqb b 10)

-- no byte of the text ends a line
abbrev pub IsLine : List ℕ → Type 0
IsLine text = list_all is_no_end text ≡ true

-- the text is a line if what is left of it is one, where something is left
abbrev Passes : List ℕ → Option (List ℕ) → Type 0
Passes text None = Unit {0}
Passes text (Some left) = IsLine left → IsLine text

-- a byte that is another than 10 may stand before a line
byte_first : (b : ℕ) (bs : List ℕ) → eqb b 10 ≡ false → IsLine bs → IsLine (b ∷ bs)
byte_first b bs other line = rw other line

-- the first byte may be passed over, where it is another than 10
one : (text : List ℕ) (c : ℕ) → eqb c 10 ≡ false → (head text == c) ≡ true → IsLine (drop 1 text) → IsLine text
one [] c other same line = refl
one (b ∷ bs) c other same line = byte_first b bs (ap (λ x. eqb x 10) (eqb-true b c same) ∙ other) line

-- a digit ends no line
digit_byte : (b : ℕ) → is_ascii_digit b ≡ true → eqb b 10 ≡ false
digit_byte b digit = ne_eqb b 10 (λ same. true≢false (sym digit ∙ ap is_ascii_digit same))

-- digits may be passed over
past_digits : (text : List ℕ) → IsLine (drop (prefix_len is_ascii_digit text) text) → IsLine text
past_digits [] line = refl
past_digits (b ∷ bs) line = by_digit (is_ascii_digit b) refl (past_digits bs)
  where
    by_digit : (d : Bool) → is_ascii_digit b ≡ d → (IsLine (drop (prefix_len is_ascii_digit bs) bs) → IsLine bs) → IsLine (b ∷ bs)
    by_digit true so further =
        let next : 1 + prefix_len is_ascii_digit bs ≡ suc (prefix_len is_ascii_digit bs) = omega arith in
        byte_first b bs (digit_byte b so) (further (rw (so, next) at line))
    by_digit false so further = rw so at line

-- what either side of a test passes over
by_test : (text : List ℕ) (b : Bool) (x y : Option (List ℕ)) → (b ≡ true → Passes text x) → Passes text y → Passes text (cond b x y)
by_test text true x y yes_so no_so = yes_so refl
by_test text false x y yes_so no_so = no_so

-- a part that follows another
then : (text left : List ℕ) (o : Option (List ℕ)) → (IsLine left → IsLine text) → Passes left o → Passes text o
then text left None first next = tt
then text left (Some more) first next = λ line. first (next line)

-- a part that follows one that may fail
and_then : (text : List ℕ) (f : List ℕ → Option (List ℕ)) → ((left : List ℕ) → Passes left (f left)) → (o : Option (List ℕ))
    → Passes text o
    → Passes text (option_and_then f o)
and_then text f each None first = tt
and_then text f each (Some left) first = then text left (f left) first (each left)

-- the parts of a number
all_digits : (text : List ℕ) → Passes text (after_digits text)
all_digits text =
    by_test text (prefix_len is_ascii_digit text == 0) None (Some (drop (prefix_len is_ascii_digit text) text)) (λ none. tt) (past_digits text)

minus : (text : List ℕ) → IsLine (after_minus text) → IsLine text
minus text = optional (head text == 45) refl
  where
    optional : (b : Bool) → (head text == 45) ≡ b → IsLine (cond b (drop 1 text) text) → IsLine text
    optional true so line = one text 45 refl so line
    optional false so line = line

sign : (text : List ℕ) → IsLine (after_sign text) → IsLine text
sign text = optional (head text == 45) (head text == 43) refl refl
  where
    optional : (a b : Bool) → (head text == 45) ≡ a → (head text == 43) ≡ b → IsLine (cond (a || b) (drop 1 text) text) → IsLine text
    optional true b so other line = one text 45 refl so line
    optional false true so other line = one text 43 refl other line
    optional false false so other line = line

whole : (text : List ℕ) → Passes text (after_whole text)
whole text = by_test text (head text == 48) (Some (drop 1 text)) (after_digits text) (one text 48 refl) (all_digits text)

fraction : (text : List ℕ) → Passes text (after_fraction text)
fraction text =
    by_test text (head text == 46) (after_digits (drop 1 text)) (Some text)
    (λ point. then text (drop 1 text) (after_digits (drop 1 text)) (one text 46 refl point) (all_digits (drop 1 text))) (λ line. line)

exponent : (text : List ℕ) → Passes text (after_exponent text)
exponent text =
    let digits = after_digits (after_sign (drop 1 text)) in
    let signed = then (drop 1 text) (after_sign (drop 1 text)) digits (sign (drop 1 text)) (all_digits (after_sign (drop 1 text))) in
    by_test text ((head text == 101) || (head text == 69)) digits (Some text)
    (λ e. elim (or_cases (head text == 101) (head text == 69) e) [
      | inl lower ↦ then text (drop 1 text) digits (one text 101 refl lower) signed
      | inr upper ↦ then text (drop 1 text) digits (one text 69 refl upper) signed
    ]) (λ line. line)

-- a number is one line
pub number_is_line : (text : List ℕ) → IsNumber text → IsLine text
unfolding after_number
number_is_line text number = rest number
  where
    passes : Passes text (after_number text)
    passes =
        and_then text after_exponent exponent (option_and_then after_fraction (after_whole (after_minus text)))
        (and_then text after_fraction fraction (after_whole (after_minus text))
        (then text (after_minus text) (after_whole (after_minus text)) (minus text) (whole (after_minus text))))

    rest : after_number text ≡ Some [] → IsLine text
    rest same = subst (Passes text) same passes refl
