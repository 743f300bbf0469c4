-- Escaping of bytes as text of a page.
use Rattle.std.specs.Prelude.{ℕ, List, [], ◌∷◌, ◌==◌, codes, if◌then◌else◌}
use Rattle.std.specs.List.{flat_map}

-- an escaped byte: a reference for each of the five bytes of markup, or else the byte
abbrev pub escaped_byte : ℕ → List ℕ
escaped_byte b =
    if b == 60 then codes "&lt;"
    else if b == 62 then codes "&gt;"
    else if b == 38 then codes "&amp;"
    else if b == 34 then codes "&quot;"
    else if b == 39 then codes "&#39;"
    else b ∷ []

-- escaped bytes
abbrev pub escaped : List ℕ → List ℕ
escaped bytes = flat_map escaped_byte bytes
