-- What a reader would want to know of a right script, a line each.
use Rattle.std.specs.Prelude.{ℕ, Bool, false, not, ◌&&◌, List, [], ◌∷◌, ◌++◌, codes, length, Option, None, Some, if◌then◌else◌}
use Rattle.std.specs.Fmt.{decimal}
use Rattle.std.specs.List.{list_any}
use Rattle.std.specs.Option.{option_to_list}
use Rattle.histar_base.specs.Paths.{same, same_path}
use Rattle.histar_flat.specs.Accounts.{has}
use Rattle.histar_flat.specs.PathOrder.{under_process}
use Rattle.histar_flat.specs.Texts.{path_text, process_text}
use Rattle.histar_flat.specs.Words.{Name, Path, ProcName}
use Rattle.histar_lint.specs.Session.{finding_text}
use Rattle.histar_policy.specs.declared.notes.Event.{Event}
use Rattle.histar_policy.specs.declared.notes.Event.TheVariants.{IsGone, Starts, StartsJob, WrongPassword, Made, Wrote}
use Rattle.histar_policy.specs.declared.notes.Note.{Note}
use Rattle.histar_policy.specs.declared.takers.Creation.{Creation}

-- a call line of the script is of a process of this job
abbrev pub is_used : List Note → ProcName → Bool
is_used script job = list_any (λ (note : Note). under_process job note.process) script

-- a call line wrote the file at this path, by a process of another user than this one
abbrev pub is_write_of_another : Name → Path → Event → Bool
is_write_of_another maker q (Wrote user path) = same_path path q && not (same user maker)
is_write_of_another maker q event = false

-- a call line of the script, above or below, did so
abbrev pub is_written_by_another : List Note → Name → Path → Bool
is_written_by_another script maker q = list_any (λ (note : Note). is_write_of_another maker q note.event) script

-- the sentence that a process was never started
abbrev pub never_started : ProcName → List ℕ
never_started me = process_text me ++ codes " was never started"

-- the sentence that a job is never used
abbrev pub never_used : ProcName → List ℕ
never_used job = codes "job " ++ process_text job ++ codes " is never used"

-- the sentence that a password is not the user's
abbrev pub wrong_password : List ℕ → List ℕ
wrong_password user = codes "that is not the password of " ++ user

-- the names of users, and of more than three how many more there are
abbrev pub whom_text : List Name → List ℕ
whom_text [] = []
whom_text (a ∷ []) = a
whom_text (a ∷ b ∷ []) = a ++ codes ", " ++ b
whom_text (a ∷ b ∷ c ∷ []) = a ++ codes ", " ++ b ++ codes ", " ++ c
whom_text (a ∷ b ∷ c ∷ more) = a ++ codes ", " ++ b ++ codes ", " ++ c ++ codes " and " ++ decimal (length more) ++ codes " more"

-- the sentence on who may take away what is at a path
abbrev pub may_take : List Name → Path → List ℕ
may_take takers q = whom_text takers ++ codes " may take " ++ path_text q ++ codes " away"

-- the sentence that these may write what is at a path, which no one but its maker writes
abbrev pub others_may_write : List Name → Path → Name → List ℕ
others_may_write writers q maker =
    whom_text writers ++ codes " may write " ++ path_text q ++ codes ", which no one but " ++ maker ++ codes " writes"

-- a sentence on these users, if there are any
abbrev pub if_any : List Name → List ℕ → Option (List ℕ)
if_any [] said = None
if_any (user ∷ users) said = Some said

-- the sentence on who may take away what a call made, if there is anybody
abbrev pub taking_sentence : Creation → Option (List ℕ)
taking_sentence made = if_any made.takers (may_take made.takers made.path)

-- the sentence on who may write what a call made, if there is anybody and no other user wrote there
abbrev pub writing_sentence : Creation → Bool → Option (List ℕ)
writing_sentence made by_another = if by_another then None else if_any made.writers (others_may_write made.writers made.path made.maker)

-- the sentence on who may write what a call line made, given the script
abbrev pub writing_sentence_on : List Note → Event → Option (List ℕ)
writing_sentence_on script (Made made) = writing_sentence made (is_written_by_another script made.maker made.path)
writing_sentence_on script event = None

-- the sentence on what else a call line of this process says, given the script and the processes started above it
abbrev pub sentence_on : List Note → List ProcName → ProcName → Event → Option (List ℕ)
sentence_on script started me IsGone = if has started me then None else Some (never_started me)
sentence_on script started me (StartsJob job) = if is_used script job then None else Some (never_used job)
sentence_on script started me (WrongPassword user) = Some (wrong_password user)
sentence_on script started me (Made made) = taking_sentence made
sentence_on script started me event = None

-- the line of a warning, if there is one
abbrev pub warning_line : List ℕ → ℕ → Option (List ℕ) → List ℕ
warning_line file n None = []
warning_line file n (Some said) = finding_text file n said

-- the lines of the warnings on a call line: on its process, a password, a job or who may take away what it made, and on who may write that
abbrev pub warning_lines : List ℕ → List Note → List ProcName → Note → List ℕ
warning_lines file script started note =
    warning_line file note.line (sentence_on script started note.process note.event)
    ++ warning_line file note.line (writing_sentence_on script note.event)

-- the process that was started, if one was
abbrev pub child_of : Event → Option ProcName
child_of (Starts child) = Some child
child_of (StartsJob child) = Some child
child_of event = None

-- the processes that were started, and the one that this event started
abbrev pub with_child : List ProcName → Event → List ProcName
with_child started event = started ++ option_to_list (child_of event)

-- the warnings on these call lines of a script, given the processes that were started above them
abbrev pub warnings_from : List ℕ → List Note → List ProcName → List Note → List ℕ
warnings_from file script started [] = []
warnings_from file script started (note ∷ notes) =
    warning_lines file script started note ++ warnings_from file script (with_child started note.event) notes

-- the warnings on a script's call lines: process 0 is there at the start
abbrev pub warnings_text : List ℕ → List Note → List ℕ
warnings_text file script = warnings_from file script ([] ∷ []) script
