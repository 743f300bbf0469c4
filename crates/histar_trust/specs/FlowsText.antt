-- To whom each process can pass on what it learns: the text of a flat state.
use Rattle.std.specs.Prelude.{ℕ, Bool, not, ◌&&◌, List, [], ◌∷◌, ◌++◌, codes, filter, if◌then◌else◌, Option}
use Rattle.std.specs.List.{flat_map, list_any}
use Rattle.histar_base.specs.Paths.{same}
use Rattle.histar_flat.specs.Words.{ProcName}
use Rattle.histar_flat.specs.Accounts.{has}
use Rattle.histar_flat.specs.Classes.{Process, is_free, sees}
use Rattle.histar_flat.specs.FlatState.{Flat}
use Rattle.histar_flat.specs.Texts.{process_text}
use Rattle.histar_rights.specs.Running.{Named, running_in}
use Rattle.histar_script.specs.Script.{ScriptModel}
use Rattle.histar_prefix.specs.Prefix.{state_before}

-- the second process is another one than the first, and knows each job that the first one is in
abbrev pub is_observer : Named → Named → Bool
is_observer p c = not (same p.0 c.0) && sees c.1 p.1

-- the second process holds a job that the first one is in
abbrev pub holds_one : Process → Process → Bool
holds_one p q = list_any (has q.held) p.chain

-- the observers of a process: all that are listed behind it, in the order of names
abbrev pub observers : Flat → Named → List Named
observers f p = filter (is_observer p) (running_in f)

-- the process of this name is listed behind the first one
abbrev pub is_listed : Flat → Named → ProcName → Bool
is_listed f p x = list_any (λ (c : Named). same c.0 x) (observers f p)

-- an observer after a space, and `!` directly behind it if it holds a job that the first process is in
abbrev pub observer_mark : Named → Named → List ℕ
observer_mark p c = codes " " ++ process_text c.0 ++ (if holds_one p.1 c.1 then codes "!" else [])

-- each of these observers, or the word `nobody` if there are none
abbrev pub observers_text : Named → List Named → List ℕ
observers_text p [] = codes " nobody"
observers_text p (c ∷ cs) = flat_map (observer_mark p) (c ∷ cs)

-- the line of a process: its name, a space, its user, the word `tells` after a space, its observers, and a line end
abbrev pub flow_line : Flat → Named → List ℕ
flow_line f p =
    process_text p.0 ++ codes " " ++ p.1.user ++ codes " tells" ++ observers_text p (observers f p) ++ codes "\n"

-- a process after a space
abbrev pub free_mark : Named → List ℕ
free_mark c = codes " " ++ process_text c.0

-- the line of the processes that are in no job, or nothing if there are none
abbrev pub free_line : List Named → List ℕ
free_line [] = []
free_line (c ∷ cs) = codes "free" ++ flat_map free_mark (c ∷ cs) ++ codes " tell everyone\n"

-- the process is in no job
abbrev pub is_in_none : Named → Bool
is_in_none c = is_free c.1

-- the process is in a job
abbrev pub is_in_job : Named → Bool
is_in_job c = not (is_in_none c)

-- the line of the processes that run in no job, and then a line for each that runs in a job, in the order of names
abbrev pub flows_text : Flat → List ℕ
flows_text f = free_line (filter is_in_none (running_in f)) ++ flat_map (flow_line f) (filter is_in_job (running_in f))

-- the text of the flat state of a script before this line, or after all calls
abbrev pub flows_before : Option ℕ → ScriptModel → List ℕ
flows_before at script = flows_text (state_before at script)
