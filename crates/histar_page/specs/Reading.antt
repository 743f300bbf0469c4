-- How a reader reads the text of a page.
use Rattle.std.specs.Prelude.{◌≡◌, ℕ, zero, suc, ◌-◌, Bool, true, false, not, ◌&&◌, ◌||◌, List, [], ◌∷◌, ◌==◌}
use Rattle.std.specs.Prelude.{codes, length, find, Option, None, Some, is_some}
use Rattle.histar_page.specs.Escape.{escaped}

-- the text begins with these bytes
abbrev pub begins_with : List ℕ → List ℕ → Bool
begins_with text [] = true
begins_with [] (c ∷ cs) = false
begins_with (b ∷ bs) (c ∷ cs) = (b == c) && begins_with bs cs

-- the five references, each with the byte that it is read as: `<`, `>`, `&`, `"` and `'`
abbrev pub references : List (ℕ × List ℕ)
references = (60, codes "&lt;") ∷ (62, codes "&gt;") ∷ (38, codes "&amp;") ∷ (34, codes "&quot;") ∷ (39, codes "&#39;") ∷ []

-- the reference that a text begins with, if it begins with one
abbrev pub reference_at : List ℕ → Option (ℕ × List ℕ)
reference_at text = find (λ r. begins_with text r.1) references

-- the bytes that a text is read as after this many bytes: a byte in place of each reference, and the other bytes
abbrev pub read_past : ℕ → List ℕ → List ℕ
read_past zero [] = []
read_past (suc n) [] = []
read_past zero (b ∷ bs) = elim (reference_at (b ∷ bs)) [ None ↦ b ∷ read_past 0 bs | Some r ↦ r.0 ∷ read_past (length r.1 - 1) bs ]
read_past (suc n) (b ∷ bs) = read_past n bs

-- the bytes that a text of a page is read as
abbrev pub unescaped : List ℕ → List ℕ
unescaped text = read_past 0 text

-- a byte that begins or ends markup or an attribute: `<`, `>`, `"` or `'`
abbrev pub is_markup_byte : ℕ → Bool
is_markup_byte b = b == 60 || b == 62 || b == 34 || b == 39

-- the first byte of a text is none of these, and if it is `&`, it begins a reference
abbrev pub begins_as_text : List ℕ → Bool
begins_as_text [] = true
begins_as_text (b ∷ bs) = not (is_markup_byte b) && (not (b == 38) || is_some (reference_at (b ∷ bs)))

-- no byte of a text is `<`, `>`, `"` or `'`, and each `&` begins one of five references
abbrev pub IsText : List ℕ → Type 0
IsText [] = Unit {0}
IsText (b ∷ bs) = (begins_as_text (b ∷ bs) ≡ true) × IsText bs

-- escaped bytes are read as the bytes
abbrev pub BytesAreRead : Type 0
BytesAreRead = (bytes : List ℕ) → unescaped (escaped bytes) ≡ bytes

-- escaped bytes are such a text
abbrev pub EscapedIsText : Type 0
EscapedIsText = (bytes : List ℕ) → IsText (escaped bytes)
