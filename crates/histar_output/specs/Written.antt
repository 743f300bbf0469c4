-- What is written for a line: for private clauses.
use Rattle.std.specs.Prelude.{◌≡◌, ℕ, List, [], ◌∷◌, ◌++◌, codes, Option, None, Some, Result, OnOk, if◌then◌else◌}
use Rattle.json.specs.Token as tokens
use Rattle.json.specs.Json.{Json}
use Rattle.json.specs.Tree.{json_tokens}
use Rattle.json.specs.Print.{print}
use Rattle.json.specs.Written.{Written}
use Rattle.histar_output.specs.declared.forms.Form.{Form}
use Rattle.histar_output.specs.declared.parts.Part as code
use Rattle.histar_output.specs.declared.parts.Part.TheVariants as parts
use Rattle.histar_output.specs.Cuts.{behind, cut_at, is_marked, unmarked}
use Rattle.histar_output.specs.Parts.{Part, upto, upto_last, rest, past, is}
use Rattle.histar_output.specs.Facts.{fact_of, fact_of_text}

-- the part that a value of the enum is
abbrev pub part_of : code.Part → Part
part_of (parts.Upto name kind mark) = upto name.now kind mark.now
part_of (parts.UptoLast name kind mark) = upto_last name.now kind mark.now
part_of (parts.Rest name kind) = rest name.now kind
part_of (parts.Past mark) = past mark.now
part_of (parts.Is name b) = is name.now b

-- if all went well, these tokens were written
abbrev pub Adds : {T E : Type 0} → Result T E → Written → Written → List tokens.Token → Type 0
Adds result old new added = OnOk result ((new.before ≡ old.before) × (new.tokens ≡ old.tokens ++ added))

-- the tokens of a member, if there is one
abbrev pub member_tokens : Option (List ℕ × Json) → List tokens.Token
member_tokens None = []
member_tokens (Some m) = tokens.key m.0 ∷ json_tokens m.1

-- what is written for a text
abbrev pub text_line : Form → List ℕ → List ℕ
text_line form text = print (json_tokens (fact_of_text form text)) ++ 10 ∷ []

-- what is written for a line
abbrev pub fact_line : Form → List ℕ → List ℕ
fact_line form line = print (json_tokens (fact_of form line)) ++ 10 ∷ []

-- the tokens of a word among the holders: of its name, if it ends with `!`
abbrev pub holder_tokens : List ℕ → List tokens.Token
holder_tokens word = if is_marked word then tokens.string (unmarked word) ∷ [] else []

-- the tokens of a word `WHO:RIGHTS`, as a member
abbrev pub right_tokens : List ℕ → List tokens.Token
right_tokens word = tokens.key (cut_at (codes ":") word).0 ∷ tokens.string (behind (codes ":") word) ∷ []
