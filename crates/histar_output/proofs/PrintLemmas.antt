-- What is written of a value is one line.
use Rattle.std.proofs.Common.{◌≡◌, ℕ, zero, suc, ◌<◌, Bool, true, false, cond, List, []}
use Rattle.std.proofs.Common.{◌∷◌, ◌++◌, refl, ap, ap₂, ◌∙◌, inl, inr, arith}
use Rattle.std.specs.Prelude.{◌&&◌}
use Rattle.std.specs.List.{list_all}
use Rattle.std.proofs.lemmas.Bool.{and_parts, cases_lt, ne_eqb}
use Rattle.std.proofs.lemmas.Bool.Decides.{eqb_tells}
use Rattle.std.proofs.lemmas.List.Folds.{list_all-append}
use Rattle.json.specs.Token.{Token, begin_object, end_object, begin_array, end_array, key, string, number, boolean, null, bad}
use Rattle.json.specs.Print.{ArePrintable, IsPrintable, begins, ends, escape, escape_byte, print_from, quoted, separator, token_text}
use Rattle.json.proofs.Printed.Strings.{escape_byte_plain}
use Rattle.histar_output.proofs.NumberBytes.{IsLine, is_no_end, number_is_line}

-- two lines one behind the other are a line
joined : (front back : List ℕ) → IsLine front → IsLine back → IsLine (front ++ back)
joined front back a b = list_all-append is_no_end front back ∙ ap₂ (λ x y. x && y) a b

-- each number below n passes the test
abbrev all_below : (ℕ → Bool) → ℕ → Bool
all_below test zero = true
all_below test (suc n) = test n && all_below test n

-- so does a number that is below it
below_passes : (test : ℕ → Bool) (n : ℕ) → all_below test n ≡ true → (x : ℕ) → x < n → test x ≡ true
below_passes test zero all x low = absurd (omega arith)
below_passes test (suc n) all x low =
    let parts = and_parts (test n) (all_below test n) all in
    elim (eqb_tells x n) [
      | inl same ↦ ap test same.1 ∙ parts.0
      | inr other ↦ below_passes test n parts.1 x (omega (arith, other.1))
    ]

-- what is written for a byte of a string is a line
escaped_byte : (x : ℕ) → IsLine (escape_byte x)
unfolding escape_byte
escaped_byte x =
    elim (cases_lt x 93) [
      | inl low ↦ below_passes (λ y. list_all is_no_end (escape_byte y)) 93 refl x low
      | inr high ↦ rw (escape_byte_plain x (omega arith) (omega arith) (omega arith)) (rw (ne_eqb x 10 (omega arith)) refl)
    ]

-- so is what is written for a string
escaped : (s : List ℕ) → IsLine (escape s)
escaped [] = refl
escaped (b ∷ bs) = joined (escape_byte b) (escape bs) (escaped_byte b) (escaped bs)

-- a string in its quotes is a line
in_quotes : (s : List ℕ) → IsLine (quoted s)
in_quotes s = joined (escape s) (34 ∷ []) (escaped s) refl

-- the text of a token is a line
token_line : (t : Token) → IsPrintable t → IsLine (token_text t)
token_line begin_object ok = refl
token_line end_object ok = refl
token_line begin_array ok = refl
token_line end_array ok = refl
token_line (key s) ok = joined (quoted s) (58 ∷ []) (in_quotes s) refl
token_line (string s) ok = in_quotes s
token_line (number s) ok = number_is_line s ok
token_line (boolean true) ok = refl
token_line (boolean false) ok = refl
token_line null ok = refl
token_line bad ok = absurd ok

-- a comma or nothing is a line
comma_line : (b : Bool) → IsLine (cond b (44 ∷ []) [])
comma_line true = refl
comma_line false = refl

-- what is written of tokens is a line
pub print_line : (after : Bool) (ts : List Token) → ArePrintable ts → IsLine (print_from after ts)
unfolding print_from ArePrintable
print_line after [] ok = refl
print_line after (t ∷ ts) ok =
    joined (separator after t) (token_text t ++ print_from (ends t) ts) (comma_line (after && begins t))
    (joined (token_text t) (print_from (ends t) ts) (token_line t ok.0) (print_line (ends t) ts ok.1))
