-- The name of a file as it is shown on a line.
use Rattle.std.specs.Prelude.{ℕ, List, [], ◌∷◌, ◌==◌, if◌then◌else◌}

-- a byte of a name: a line feed is written as `\n`
abbrev pub shown_byte : ℕ → List ℕ
shown_byte b = if b == 10 then 92 ∷ 110 ∷ [] else b ∷ []
