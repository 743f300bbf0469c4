-- The fact that a line says, as JSON.
use Rattle.std.specs.Prelude.{◌≡◌, ℕ, List, [], ◌∷◌, ⊤, Some, encode_utf8_all, if◌then◌else◌}
use Rattle.std.specs.Str.{is_utf8}
use Rattle.json.specs.Json.{Json, object, document}
use Rattle.histar_output.specs.declared.forms.Form.{Form}
use Rattle.histar_output.specs.Parts.{members_of}
use Rattle.histar_output.specs.Forms.{parts_of}

-- a line as text: itself if it is UTF-8, or else the characters that have its bytes as their numbers
abbrev pub as_text : List ℕ → List ℕ
as_text line = if is_utf8 line then line else encode_utf8_all line

-- the fact of a text: an object with the members that its parts make
abbrev pub fact_of_text : Form → List ℕ → Json
fact_of_text form text = object (members_of (parts_of form text) (Some text))

-- the fact that a line in this form says
abbrev pub fact_of : Form → List ℕ → Json
fact_of form line = fact_of_text form (as_text line)

-- there are as many JSON texts as lines, and each one is the fact of its line
abbrev pub AreFacts : Form → List (List ℕ) → List (List ℕ) → Type 0
AreFacts form [] [] = ⊤
AreFacts form [] (out ∷ outs) = ⊥
AreFacts form (line ∷ lines) [] = ⊥
AreFacts form (line ∷ lines) (out ∷ outs) = (document out ≡ Some (fact_of form line)) × AreFacts form lines outs
