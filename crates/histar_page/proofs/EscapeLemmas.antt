-- Escaped bytes are text, and are read back.
use Rattle.std.proofs.Common.{◌≡◌, ℕ, List, [], ◌∷◌, ◌++◌, refl, ap, ◌∙◌, false, inl, inr}
use Rattle.std.specs.Prelude.{◌==◌, ◌-◌, length, Option, None, Some}
use Rattle.std.proofs.lemmas.Bool.Decides.{eqb_tells}
use Rattle.histar_page.specs.Escape.{escaped, escaped_byte}
use Rattle.histar_page.specs.Reading.{IsText, read_past, reference_at, unescaped}

-- a property of each of the five bytes of markup and of all others holds of each byte
by_byte : (P : ℕ → Type 0) → P 60 → P 62 → P 38 → P 34 → P 39
    → ((b : ℕ) → (b == 60) ≡ false → (b == 62) ≡ false → (b == 38) ≡ false → (b == 34) ≡ false → (b == 39) ≡ false → P b)
    → (b : ℕ) → P b
by_byte P less greater and quote apostrophe other b =
    elim (eqb_tells b 60) [
      | inl h ↦ rw h.1 less
      | inr n60 ↦
          elim (eqb_tells b 62) [
            | inl h ↦ rw h.1 greater
            | inr n62 ↦
                elim (eqb_tells b 38) [
                  | inl h ↦ rw h.1 and
                  | inr n38 ↦
                      elim (eqb_tells b 34) [
                        | inl h ↦ rw h.1 quote
                        | inr n34 ↦
                            elim (eqb_tells b 39) [ inl h ↦ rw h.1 apostrophe | inr n39 ↦ other b n60.0 n62.0 n38.0 n34.0 n39.0 ]
                      ]
                ]
          ]
    ]

-- a byte other than these five is escaped as itself
plain_byte : (b : ℕ) → (b == 60) ≡ false → (b == 62) ≡ false → (b == 38) ≡ false → (b == 34) ≡ false → (b == 39) ≡ false → escaped_byte b ≡ b ∷ []
plain_byte b n60 n62 n38 n34 n39 = rw (n60, n62, n38, n34, n39) refl

-- a byte other than `&` begins no reference
no_reference : (b : ℕ) (rest : List ℕ) → (b == 38) ≡ false → reference_at (b ∷ rest) ≡ None
no_reference b rest n38 = rw n38 refl

-- if no reference begins, the byte is read as itself
plain_read : (b : ℕ) (rest : List ℕ) → reference_at (b ∷ rest) ≡ None → unescaped (b ∷ rest) ≡ b ∷ unescaped rest
plain_read b rest e = ap (λ (o : Option (ℕ × List ℕ)). elim o [ None ↦ b ∷ read_past 0 rest | Some r ↦ r.0 ∷ read_past (length r.1 - 1) rest ]) e

-- an escaped byte is read as the byte
read_byte : (rest : List ℕ) (b : ℕ) → unescaped (escaped_byte b ++ rest) ≡ b ∷ unescaped rest
read_byte rest = by_byte (λ b. unescaped (escaped_byte b ++ rest) ≡ b ∷ unescaped rest) refl refl refl refl refl
    (λ b n60 n62 n38 n34 n39. ap (λ l. unescaped (l ++ rest)) (plain_byte b n60 n62 n38 n34 n39) ∙ plain_read b rest (no_reference b rest n38))

-- escaped bytes are read as the bytes
pub read_bytes : (bytes : List ℕ) → unescaped (escaped bytes) ≡ bytes
read_bytes [] = refl
read_bytes (b ∷ bs) = read_byte (escaped bs) b ∙ ap (λ l. b ∷ l) (read_bytes bs)

-- an escaped byte before a text is text
text_byte : (rest : List ℕ) → IsText rest → (b : ℕ) → IsText (escaped_byte b ++ rest)
text_byte rest is = by_byte (λ b. IsText (escaped_byte b ++ rest))
    (refl, (refl, (refl, (refl, is)))) (refl, (refl, (refl, (refl, is)))) (refl, (refl, (refl, (refl, (refl, is)))))
    (refl, (refl, (refl, (refl, (refl, (refl, is)))))) (refl, (refl, (refl, (refl, (refl, is)))))
    (λ b n60 n62 n38 n34 n39. rw (n60, n62, n38, n34, n39) (rw (n60, n62, n34, n39, n38) refl, is))

-- escaped bytes are text
pub text_bytes : (bytes : List ℕ) → IsText (escaped bytes)
text_bytes [] = tt
text_bytes (b ∷ bs) = text_byte (escaped bs) (text_bytes bs) b
