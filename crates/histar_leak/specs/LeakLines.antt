-- Calls as lines of a script, each with the reply that is expected of it: paragraphs, and lists of processes.
use Rattle.std.specs.Prelude.{ℕ, nat_le, List, [], ◌∷◌, ◌++◌, length, codes, if◌then◌else◌}
use Rattle.std.specs.Fmt.{decimal}
use Rattle.histar_flat.specs.declared.calls.Mode.TheVariants as modes
use Rattle.histar_flat.specs.declared.calls.UnixCall.{UnixCall}
use Rattle.histar_flat.specs.declared.calls.UnixCall.TheVariants.{Exit, Login, Mkdir, Read, Rmtree, Status, Write}
use Rattle.histar_flat.specs.declared.replies.Reply.{Reply}
use Rattle.histar_flat.specs.Words.{Name, ProcName}
use Rattle.histar_flat.specs.Accounts.{Accounts}
use Rattle.histar_flat.specs.FlatState.{Flat}
use Rattle.histar_flat.specs.FlatCalls.{flat_after, reply_to}
use Rattle.histar_flat.specs.Texts.{path_text, process_text, reply_text}
use Rattle.histar_script.specs.Lines.{most_line_bytes}
use Rattle.histar_secrecy.specs.Leaks.{Line}

-- the text of each kind of call that is printed, as a script has it
abbrev pub call_text : UnixCall → List ℕ
call_text (Read q) = codes "read " ++ path_text q
call_text (Status name) = codes "status " ++ process_text name
call_text (Exit n) = codes "exit " ++ decimal n
call_text (Login name password) = codes "login " ++ name ++ codes " " ++ password
call_text (Write q bytes) = codes "write " ++ path_text q ++ codes " " ++ bytes
call_text (Mkdir q modes.Open) = codes "mkdir " ++ path_text q ++ codes " open"
call_text (Rmtree q) = codes "rmtree " ++ path_text q
call_text _ = []

-- the line of a process and its call
abbrev pub call_line : Line → List ℕ
call_line c = process_text c.0 ++ codes " " ++ call_text c.1 ++ codes "\n"

-- the line that a reply is expected by: a comment, if a line may have as many bytes
abbrev pub reply_line : Reply → List ℕ
reply_line reply =
    let text = codes "#= " ++ reply_text reply in
    if nat_le (length text) most_line_bytes then text ++ codes "\n" else []

-- calls, made one after another, each on a line, with the reply to it on the next
abbrev pub lines_text : Accounts → Flat → List Line → List ℕ
lines_text accounts f [] = []
lines_text accounts f (c ∷ calls) =
    call_line c ++ reply_line (reply_to accounts f c.0 c.1) ++ lines_text accounts (flat_after accounts f c.0 c.1) calls

-- an empty line, a title as a comment, and lines
abbrev pub titled : List ℕ → List ℕ → List ℕ
titled title lines = codes "\n# " ++ title ++ codes "\n" ++ lines

-- the lines of calls, with a title
abbrev pub paragraph : Accounts → Flat → List ℕ → List Line → List ℕ
paragraph accounts f title calls = titled title (lines_text accounts f calls)

-- a process and its user
abbrev pub who_text : ProcName × Name → List ℕ
who_text p = process_text p.0 ++ codes " " ++ p.1

-- at most three processes, and how many more there are
abbrev pub some_text : List (ProcName × Name) → List ℕ
some_text [] = codes "nobody"
some_text (a ∷ []) = who_text a
some_text (a ∷ b ∷ []) = who_text a ++ codes ", " ++ who_text b
some_text (a ∷ b ∷ c ∷ []) = who_text a ++ codes ", " ++ who_text b ++ codes ", " ++ who_text c
some_text (a ∷ b ∷ c ∷ more) =
    who_text a ++ codes ", " ++ who_text b ++ codes ", " ++ who_text c
    ++ codes " and " ++ decimal (length more) ++ codes " more"

-- the calls that the first of these makes
abbrev pub by_first : List (ProcName × Name) → (ProcName → List Line) → List Line
by_first [] calls = []
by_first (p ∷ others) calls = calls p.0
