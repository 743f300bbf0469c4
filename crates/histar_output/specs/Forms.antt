-- The parts of the lines that each subcommand writes.
use Rattle.std.specs.Prelude.{ℕ, ◌||◌, Bool, true, false, List, [], ◌∷◌, ◌++◌, codes, if◌then◌else◌}
use Rattle.histar_output.specs.declared.forms.Form.{Form}
use Rattle.histar_output.specs.declared.forms.Form.TheVariants.{Run, Access, Trust, Flows, Check, CheckAll}
use Rattle.histar_output.specs.declared.forms.Form.TheVariants.{Diff, DiffUsers, Test, Lint}
use Rattle.histar_output.specs.declared.parts.Kind.TheVariants as kinds
use Rattle.histar_output.specs.Cuts.{begins, behind}
use Rattle.histar_output.specs.Parts.{Part, upto, upto_last, rest, past, is}

-- the text up to a mark, as a string
abbrev pub text : List ℕ → List ℕ → Part
text name mark = upto name kinds.Text mark

-- a word, as a string
abbrev pub word : List ℕ → Part
word name = text name (codes " ")

-- all that is left, as a string
abbrev pub ending : List ℕ → Part
ending name = rest name kinds.Text

-- a word, as a number
abbrev pub count : List ℕ → Part
count name = upto name kinds.Number (codes " ")

-- what is at a path, and then more: its kind, its owner and its mode, which ends at this mark
abbrev pub entry_parts : List ℕ → List Part → List Part
entry_parts mark more = word (codes "path") ∷ word (codes "kind") ∷ word (codes "owner") ∷ text (codes "mode") mark ∷ more

-- a line with a reply has its call too: two spaces follow its number
abbrev pub has_call : List ℕ → Bool
has_call line = begins (codes " ") (behind (codes " ") line)

-- the call of a line is a `read`
abbrev pub is_read : List ℕ → Bool
is_read line = begins (codes "read ") (behind (codes " ") (behind (codes "  ") line))

-- A line with a call and its reply. Two spaces may be also in the bytes that a file has: the reply to a `read` follows the first two behind the
-- process, and any other reply follows the last two.
abbrev pub call_parts : List ℕ → List Part
call_parts line =
    upto (codes "line") kinds.Number (codes "  ") ∷ word (codes "process")
    ∷ (if is_read line then text (codes "call") (codes "  ") else upto_last (codes "call") kinds.Text (codes "  "))
    ∷ word (codes "reply") ∷ ending (codes "value") ∷ []

-- a line with a reply
abbrev pub reply_parts : List ℕ → List Part
reply_parts line = if has_call line then call_parts line else count (codes "line") ∷ word (codes "reply") ∷ ending (codes "value") ∷ []

-- what explains a denial has the user of the process, in brackets
abbrev pub has_user : List ℕ → Bool
has_user line = begins (codes "(") (behind (codes " ") (behind (codes " ") line))

-- whose denial is explained: a process with its user, or without one, or a thread
abbrev pub denied_parts : Bool → List Part
denied_parts true = word (codes "process") ∷ past (codes "(") ∷ text (codes "user") (codes ") may not ") ∷ []
denied_parts false = text (codes "process") (codes " may not ") ∷ []

-- a line that explains a denial
abbrev pub denial_parts : List ℕ → List Part
denial_parts line =
    past (codes "?") ∷ count (codes "line") ∷ denied_parts (has_user line)
    ++ text (codes "denied") (codes ": ") ∷ ending (codes "because") ∷ []

-- a line of `run`, `try` or `raw`: of the tree, of the trace, a reason, an explanation, or a reply
abbrev pub run_parts : List ℕ → List Part
run_parts line =
    if begins (codes "/") line then entry_parts (codes " = ") (ending (codes "bytes") ∷ [])
    else if begins (codes "@") line then
    past (codes "@") ∷ count (codes "line") ∷ count (codes "thread") ∷ text (codes "call") (codes " = ") ∷ ending (codes "outcome") ∷ []
    else if begins (codes "!") line then
    past (codes "!") ∷ count (codes "line") ∷ text (codes "reply") (codes ": ") ∷ ending (codes "why") ∷ []
    else if begins (codes "?") line then denial_parts line
    else reply_parts line

-- a line of `access` shows what is at its path
abbrev pub has_kind : List ℕ → Bool
has_kind line = begins (codes "dir ") (behind (codes " ") line) || begins (codes "file ") (behind (codes " ") line)

-- a line of `access`: with what is at the path, or, of `access --ever`, without
abbrev pub access_parts : List ℕ → List Part
access_parts line =
    if has_kind line then entry_parts (codes " ") (rest (codes "rights") kinds.Rights ∷ [])
    else word (codes "path") ∷ rest (codes "rights") kinds.Rights ∷ []

-- a line of `trust`: what is at the path, or who has which role
abbrev pub trust_parts : List ℕ → List Part
trust_parts line =
    if begins (codes "/") line then entry_parts (codes " ") []
    else if begins (codes "no ") line then ending (codes "entry") ∷ []
    else if begins (codes "login ") line then word (codes "role") ∷ ending (codes "user") ∷ []
    else if begins (codes "changer-login ") line then word (codes "role") ∷ text (codes "user") (codes " by ") ∷ ending (codes "by") ∷ []
    else word (codes "role") ∷ word (codes "process") ∷ text (codes "user") (codes " by ") ∷ ending (codes "by") ∷ []

-- a line of `flows`: the processes in no job, or those to whom a process in a job can pass on what it learns
abbrev pub flows_parts : List ℕ → List Part
flows_parts line =
    if begins (codes "free ") line then past (codes " ") ∷ upto (codes "free") kinds.Names (codes " tell everyone") ∷ []
    else
    word (codes "process") ∷ text (codes "user") (codes " tells ") ∷ rest (codes "holders") kinds.Holders ∷ rest (codes "tells") kinds.Names
    ∷ []

-- both sides of a difference
abbrev pub side_parts : List Part
side_parts = text (codes "with") (codes " | ") ∷ ending (codes "without") ∷ []

-- a line of `check`: the verdict, with what differs, or the line that released it
abbrev pub check_parts : List ℕ → List Part
check_parts line =
    if begins (codes "line ") line then word (codes "verdict") ∷ upto (codes "line") kinds.Number (codes ": ") ∷ side_parts
    else if begins (codes "tree ") line then word (codes "verdict") ∷ text (codes "path") (codes ": ") ∷ side_parts
    else if begins (codes "released ") line then past (codes " by line ") ∷ rest (codes "released") kinds.Number ∷ []
    else ending (codes "verdict") ∷ []

-- a line of `check --all`: the job, and then a line of `check`
abbrev pub check_all_parts : List ℕ → List Part
check_all_parts line = word (codes "job") ∷ check_parts (behind (codes " ") line)

-- a line of `diff`: a process that one side lacks, or the rights of a process at a path
abbrev pub diff_parts : List ℕ → List Part
diff_parts line =
    if begins (codes "process ") line then
    past (codes " ") ∷ word (codes "process") ∷ word (codes "user") ∷ ending (codes "change") ∷ []
    else word (codes "path") ∷ word (codes "process") ∷ word (codes "user") ∷ word (codes "old") ∷ ending (codes "new") ∷ []

-- a line of `diff --users`: a user that one side lacks, or the rights of a user at a path
abbrev pub diff_users_parts : List ℕ → List Part
diff_users_parts line =
    if begins (codes "user ") line then past (codes " ") ∷ word (codes "user") ∷ ending (codes "change") ∷ []
    else word (codes "path") ∷ word (codes "user") ∷ word (codes "old") ∷ ending (codes "new") ∷ []

-- what follows the first words of a check of `test`
abbrev pub met_parts : List Part
met_parts = upto (codes "number") kinds.Number (codes " - ") ∷ text (codes "place") (codes ": ") ∷ ending (codes "check") ∷ []

-- a line of `test`: a check, why it is not met, or how many there are
abbrev pub test_parts : List ℕ → List Part
test_parts line =
    if begins (codes "ok ") line then is (codes "met") true ∷ past (codes "ok ") ∷ met_parts
    else if begins (codes "not ok ") line then is (codes "met") false ∷ past (codes "not ok ") ∷ met_parts
    else if begins (codes "# ") line then past (codes "# ") ∷ ending (codes "because") ∷ []
    else past (codes "..") ∷ rest (codes "checks") kinds.Number ∷ []

-- a line of `lint`
abbrev pub lint_parts : List Part
lint_parts = text (codes "place") (codes ": ") ∷ ending (codes "sentence") ∷ []

-- the parts of a line in this form
abbrev pub parts_of : Form → List ℕ → List Part
parts_of Run line = run_parts line
parts_of Access line = access_parts line
parts_of Trust line = trust_parts line
parts_of Flows line = flows_parts line
parts_of Check line = check_parts line
parts_of CheckAll line = check_all_parts line
parts_of Diff line = diff_parts line
parts_of DiffUsers line = diff_users_parts line
parts_of Test line = test_parts line
parts_of Lint line = lint_parts
