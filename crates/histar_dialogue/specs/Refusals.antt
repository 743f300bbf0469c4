-- Why the last call of a session that was refused was refused, and why its raw calls were denied.
use Rattle.std.specs.Prelude.{◌≡◌, ℕ, ◌⊎◌, Bool, false, ◌==◌, nat_eq, List, [], ◌∷◌, ◌++◌}
use Rattle.std.specs.Prelude.{codes, Result, Ok, Err, if◌then◌else◌}
use Rattle.std.specs.List.{flat_map, starts_with}
use Rattle.histar_script.specs.declared.fault.Fault.{Fault}
use Rattle.histar_script.specs.Lines.{lines_of, split_word}
use Rattle.histar_script.specs.Reading.{script_of}
use Rattle.histar_script.specs.Script.{ScriptModel}
use Rattle.histar_dialogue.specs.Asked.{IsExplained}
use Rattle.histar_dialogue.specs.Running.{said_behind}

-- the line says why a call was refused: it begins with `!`
abbrev pub is_reason : List ℕ → Bool
is_reason [] = false
is_reason (b ∷ line) = b == 33

-- the last of these lines that says why a call was refused, with its end, or what was said before
abbrev pub last_reason : List ℕ → List (List ℕ) → List ℕ
last_reason said [] = said
last_reason said (line ∷ lines) = last_reason (if is_reason line then line ++ 10 ∷ [] else said) lines

-- the answer where no call was refused
abbrev pub no_refusal_text : List ℕ
no_refusal_text = codes "no call was refused\n"

-- the last line of answers that says why a call was refused, or that no call was
abbrev pub last_reason_of : List ℕ → List ℕ
last_reason_of answers = last_reason no_refusal_text (lines_of answers)

-- why the last refused call of a session was refused
abbrev pub why_text : Result ScriptModel Fault → List ℕ
why_text (Ok script) = last_reason_of (said_behind 0 script)
why_text (Err fault) = no_refusal_text

-- the number of a line that says why a call was refused: the word behind its `!`
abbrev pub reason_number : List ℕ → List ℕ
reason_number [] = []
reason_number (b ∷ line) = (split_word line).0

-- what the lines of the denials on the line of this number begin with: `?`, the number and a space
abbrev pub denial_mark : List ℕ → List ℕ
denial_mark number = 63 ∷ (number ++ 32 ∷ [])

-- a line with its end, if it begins with this mark
abbrev pub marked_line : List ℕ → List ℕ → List ℕ
marked_line mark line = if starts_with nat_eq line mark then line ++ 10 ∷ [] else []

-- the lines of the denials on the line of this number, each with its end
abbrev pub denials_of : List ℕ → List (List ℕ) → List ℕ
denials_of number lines = flat_map (marked_line (denial_mark number)) lines

-- a reason, and behind it the denials on its line; what is no reason stays alone
abbrev pub with_denials : List ℕ → List (List ℕ) → List ℕ
with_denials reason lines = if is_reason reason then reason ++ denials_of (reason_number reason) lines else reason

-- why the last refused call of a text was refused, with the denials of its raw calls as `run --explain` writes them; or no call was refused, as
-- the text is no script as yet
abbrev pub Explains : List ℕ → List ℕ → Type 0
Explains text said =
    ((explained : List ℕ) × IsExplained text explained
    × (said ≡ with_denials (why_text (script_of text)) (lines_of explained)))
    ⊎ ((fault : Fault) × (script_of text ≡ Err fault) × (said ≡ no_refusal_text))
