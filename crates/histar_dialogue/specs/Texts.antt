-- The text of a session, which grows by a line.
use Rattle.std.specs.Prelude.{◌≡◌, ℕ, List, [], ◌∷◌, ◌++◌}
use Rattle.histar_lint.specs.Session.{IsFinding}

-- a text with one line more
abbrev pub with_line : List ℕ → List ℕ → List ℕ
with_line text line = text ++ (line ++ 10 ∷ [])

-- this is the sentence of the first rule that the line of this number breaks, the first bad one of the text, and a line end
abbrev pub SaysRule : List ℕ → ℕ → List ℕ → Type 0
SaysRule text n said = (sentence : List ℕ) × IsFinding text n sentence × (said ≡ sentence ++ 10 ∷ [])
