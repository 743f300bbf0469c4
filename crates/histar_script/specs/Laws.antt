-- What reading guarantees, whatever memory does: the grammar, and its first bad lines.
use Rattle.std.specs.Prelude.{◌≡◌, ◌↔◌, ◌⊎◌, ℕ, ◌+◌, Bool, false, IsTrue, Any, List, [], ◌∷◌, ◌++◌, length, map, codes, Option, None, Some, Ok, Err}
use Rattle.std.specs.Prelude.{if◌then◌else◌}
use Rattle.histar_flat.specs.declared.calls.UnixCall.{UnixCall}
use Rattle.histar_flat.specs.Words.{ProcName}
use Rattle.histar_flat.specs.PathOrder.{under_process}
use Rattle.histar_script.specs.declared.items.Item.{Item}
use Rattle.histar_script.specs.declared.items.Item.TheVariants as items
use Rattle.histar_script.specs.declared.fault.Fault.TheVariants.{BadScript}
use Rattle.histar_script.specs.CallForms.{Value, CallForm, alone, one, two, call_forms}
use Rattle.histar_script.specs.Script.{ScriptModel, is_declared_call, without_job}
use Rattle.histar_script.specs.Lines.{is_too_long, lines_of}
use Rattle.histar_script.specs.Reading.{item_of, reading, script_of}
use Rattle.histar_script.specs.Grammar.{IsScript, IsFirstBad, Says}

-- the form makes the call of some values of its arguments
abbrev pub Makes : UnixCall → CallForm → Type 0
Makes call (alone word made) = call ≡ made
Makes call (one word a make) = (x : Value a) × (call ≡ make x)
Makes call (two word a b make) = (x : Value a) × (y : Value b) × (call ≡ make x y)

-- each call has a form
abbrev pub EachCallHasForm : Type 0
EachCallHasForm = (call : UnixCall) → Any (Makes call) call_forms

-- a text is read as a script exactly if it is this script by the grammar
abbrev pub ReadingIsGrammar : Type 0
ReadingIsGrammar = (text : List ℕ) (s : ScriptModel) → (reading text ≡ Ok s) ↔ IsScript text s

-- line n is reported as the bad one exactly if it is the first bad line by the grammar
abbrev pub BadLineIsFirst : Type 0
BadLineIsFirst = (text : List ℕ) (n : ℕ) → (reading text ≡ Err (BadScript n)) ↔ IsFirstBad text n

-- each text is a script by the grammar or has a first bad line
abbrev pub ScriptOrBadLine : Type 0
ScriptOrBadLine = (text : List ℕ) → ((s : ScriptModel) × IsScript text s) ⊎ ((n : ℕ) × IsFirstBad text n)

-- a text is at most one script
abbrev pub OneReading : Type 0
OneReading = (text : List ℕ) (a b : ScriptModel) → IsScript text a → IsScript text b → a ≡ b

-- the item is a call of the job: of its first process, or of one below that
abbrev pub is_job_item : ProcName → Option Item → Bool
is_job_item job (Some (items.Call p c)) = under_process job p
is_job_item job (Some (items.User u)) = false
is_job_item job (Some (items.Group g)) = false
is_job_item job (Some items.Comment) = false
is_job_item job None = false

-- the line, or `#` if it is a call of the job
abbrev pub line_without : ProcName → List ℕ → List ℕ
line_without job line = if is_job_item job (item_of line) then codes "#" else line

-- a script in which each line of a job is made the comment `#` is the script without the job's calls
abbrev pub CommentsLeaveOut : Type 0
CommentsLeaveOut = (job : ProcName) (text other : List ℕ) (s : ScriptModel) → IsScript text s → lines_of other ≡ map (line_without job) (lines_of text) → IsScript other (without_job job s)

-- the text has no line, or its last line has its end
abbrev pub EndsItsLines : List ℕ → Type 0
EndsItsLines text = (text ≡ []) ⊎ ((front : List ℕ) × (text ≡ front ++ 10 ∷ []))

-- One more line: behind a script whose last line has its end, a line that says a call of no group that isn't declared adds this call, within
-- the limits of a script.
abbrev pub OneMoreLine : Type 0
OneMoreLine = (text line : List ℕ) (s : ScriptModel) (p : ProcName) (call : UnixCall) → script_of text ≡ Ok s → EndsItsLines text
    → Says line (items.Call p call) → IsTrue (is_declared_call s.accounts call) → is_too_long (text ++ (line ++ 10 ∷ [])) ≡ false
    → script_of (text ++ (line ++ 10 ∷ []))
    ≡ Ok (record { accounts = s.accounts; calls = s.calls ++ record { line = length (lines_of text) + 1; process = p; call = call } ∷ [] })
