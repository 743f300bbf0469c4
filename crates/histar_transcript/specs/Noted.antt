-- The output of a run with each reply after its call, and behind it why it was refused, by the rules and by the kernel.
use Rattle.std.specs.Prelude.{ℕ, Bool, false, ◌==◌, ◌||◌, if◌then◌else◌, List, [], ◌∷◌, ◌++◌, codes}
use Rattle.std.specs.List.{filter}
use Rattle.histar_base.specs.Paths.{same}
use Rattle.histar_script.specs.Lines.{lines_of, split_word}
use Rattle.histar_transcript.specs.Transcript.{with_call}

-- this line begins with this byte
abbrev pub is_marked : ℕ → List ℕ → Bool
is_marked mark [] = false
is_marked mark (c ∷ line) = c == mark

-- this line of an output says why a call was refused: it begins with `!`
abbrev pub is_reason : List ℕ → Bool
is_reason line = is_marked 33 line

-- this line of an output says why a raw call was denied: it begins with `?`
abbrev pub is_denial : List ℕ → Bool
is_denial line = is_marked 63 line

-- this line is one of these
abbrev pub is_note : List ℕ → Bool
is_note line = is_reason line || is_denial line

-- a word without its first character
abbrev pub behind_first : List ℕ → List ℕ
behind_first [] = []
behind_first (c ∷ word) = word

-- a note is of the reply on this line: behind its mark it has the word that the line begins with
abbrev pub is_about : List ℕ → List ℕ → Bool
is_about note line = same (behind_first (split_word note).0) (split_word line).0

-- the first of these reasons with the end of a line, if it is of the reply on this line
abbrev pub reason_behind : List ℕ → List (List ℕ) → List ℕ
reason_behind line [] = []
reason_behind line (reason ∷ reasons) = if is_about reason line then reason ++ codes "\n" else []

-- these reasons without the first one, if that is of the reply on this line
abbrev pub reasons_after : List ℕ → List (List ℕ) → List (List ℕ)
reasons_after line [] = []
reasons_after line (reason ∷ reasons) = if is_about reason line then reasons else reason ∷ reasons

-- the first of these denials, each with the end of a line, up to one that is not of the reply on this line
abbrev pub denials_behind : List ℕ → List (List ℕ) → List ℕ
denials_behind line [] = []
denials_behind line (denial ∷ denials) = if is_about denial line then (denial ++ codes "\n") ++ denials_behind line denials else []

-- these denials from the first one on that is not of the reply on this line
abbrev pub denials_after : List ℕ → List (List ℕ) → List (List ℕ)
denials_after line [] = []
denials_after line (denial ∷ denials) = if is_about denial line then denials_after line denials else denial ∷ denials

-- the first of these reasons, and then the first of these denials, that are of the reply on this line
abbrev pub notes_behind : List ℕ → List (List ℕ) → List (List ℕ) → List ℕ
notes_behind line reasons denials = reason_behind line reasons ++ denials_behind line denials

-- The lines of an output, each reply after its call and before its reason and its denials. These are left out where
-- they are.
abbrev pub with_notes : List (List ℕ) → List (List ℕ) → List (List ℕ) → List (List ℕ) → List ℕ
with_notes script reasons denials [] = []
with_notes script reasons denials (line ∷ lines) =
    if is_note line then with_notes script reasons denials lines
    else (((with_call script line ++ codes "\n") ++ notes_behind line reasons denials)
    ++ with_notes script (reasons_after line reasons) (denials_after line denials) lines)

-- the output of a run of the script in a text, with each reply after its call, and the notes of each behind it
abbrev pub noted_transcript : List ℕ → List ℕ → List ℕ
noted_transcript text output =
    with_notes (lines_of text) (filter is_reason (lines_of output)) (filter is_denial (lines_of output)) (lines_of output)
