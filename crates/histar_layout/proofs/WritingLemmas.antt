-- Bytes that are pushed piece by piece.
use Rattle.std.proofs.Common.{◌≡◌, ℕ, List, [], ◌∷◌, ◌++◌, refl, ap, ◌∙◌, append_assoc}
use Rattle.std.specs.Int.{w64, to_be_bytes}
use Rattle.histar_layout.specs.declared.entry.Target.{Target}
use Rattle.histar_layout.specs.declared.entry.Target.TheVariants.{File, Directory}
use Rattle.histar_layout.specs.Directory.{target_bytes}
use Rattle.histar_layout.specs.Writing.{letter_of, numbers_of}

-- three pieces, one after another, are one piece
in_pieces : (old one two three : List ℕ) → ((old ++ one) ++ two) ++ three ≡ old ++ ((one ++ two) ++ three)
in_pieces old one two three = simp append_assoc

-- a target is its letter and its numbers
letter_and_numbers : (t : Target) → letter_of t ∷ to_be_bytes w64 (numbers_of t).0 ++ to_be_bytes w64 (numbers_of t).1 ≡ target_bytes t
letter_and_numbers (File file) = refl
letter_and_numbers (Directory container listing) = refl

-- the letter and the numbers are pushed one after another
pub target_written : (old first second third a b : List ℕ) (letter : ℕ) (numbers : ℕ × ℕ) (t : Target) → letter ≡ letter_of t → numbers ≡ numbers_of t
    → a ≡ to_be_bytes w64 numbers.0 → b ≡ to_be_bytes w64 numbers.1
    → first ≡ old ++ letter ∷ [] → second ≡ first ++ a → third ≡ second ++ b → third ≡ old ++ target_bytes t
target_written old first second third a b letter numbers t l n p q x y z =
    z ∙ (λ i. (y ∙ ap (λ (w : List ℕ). w ++ a) x) i ++ b) ∙ in_pieces old (letter ∷ []) a b
    ∙ ap (λ (w : List ℕ). old ++ w)
    ((λ i. (l i ∷ p i) ++ q i) ∙ ap (λ (m : ℕ × ℕ). letter_of t ∷ to_be_bytes w64 m.0 ++ to_be_bytes w64 m.1) n
    ∙ letter_and_numbers t)
