-- What a line that begins with a colon asks for.
use Rattle.std.specs.Prelude.{ℕ, Bool, false, ◌||◌, ◌==◌, nat_le, List, [], ◌∷◌, ◌++◌, Option, None, Some}
use Rattle.std.specs.Prelude.{codes, if◌then◌else◌}
use Rattle.std.specs.Str.{bytes_eq}
use Rattle.histar_flat.specs.Words.{Path, number_of, path_of, process_of}
use Rattle.histar_script.specs.Lines.{most_script_lines, split_word}
use Rattle.histar_dialogue.specs.declared.commands.Asked.TheVariants as asked
use Rattle.histar_dialogue.specs.declared.commands.Command.{Command}
use Rattle.histar_dialogue.specs.declared.commands.Command.TheVariants as commands

-- the line begins with a colon
abbrev pub is_command : List ℕ → Bool
is_command [] = false
is_command (b ∷ line) = b == 58

-- the word asks for something only with what is behind it
abbrev pub takes_argument : List ℕ → Bool
takes_argument word = bytes_eq word (codes ":trust") || bytes_eq word (codes ":leak") || bytes_eq word (codes ":save")

-- what a word alone asks for
abbrev pub command_alone : List ℕ → Command
command_alone word =
    if bytes_eq word (codes ":help") then commands.Help
    else (if bytes_eq word (codes ":why") then commands.Why
    else (if bytes_eq word (codes ":access") then commands.Show asked.Access
    else (if bytes_eq word (codes ":flows") then commands.Show asked.Flows
    else (if bytes_eq word (codes ":tree") then commands.Show asked.Tree
    else (if bytes_eq word (codes ":trace") then commands.Show asked.Trace
    else (if bytes_eq word (codes ":undo") then commands.Undo 1
    else (if bytes_eq word (codes ":redo") then commands.Redo 1
    else (if bytes_eq word (codes ":as") then commands.As None
    else (if bytes_eq word (codes ":expect") then commands.Expect
    else (if bytes_eq word (codes ":session") then commands.Session
    else (if bytes_eq word (codes ":quit") then commands.Quit
    else (if takes_argument word then commands.Misused
    else commands.Unknown))))))))))))

-- the word takes a path
abbrev pub takes_path : List ℕ → Bool
takes_path word =
    bytes_eq word (codes ":access") || bytes_eq word (codes ":trust") || bytes_eq word (codes ":leak")
    || bytes_eq word (codes ":expect")

-- what a word that takes a path asks for at this one
abbrev pub command_at : List ℕ → Path → Command
command_at word path =
    if bytes_eq word (codes ":access") then commands.Show (asked.AccessAt path)
    else (if bytes_eq word (codes ":trust") then commands.Show (asked.Trust path)
    else (if bytes_eq word (codes ":leak") then commands.Show (asked.Leak path)
    else commands.ExpectAt path))

-- what it asks for at this path, if it is one
abbrev pub at_path : List ℕ → Option Path → Command
at_path word None = commands.Misused
at_path word (Some path) = command_at word path

-- what is done with so many lines, if that is a number
abbrev pub counted : (ℕ → Command) → Option ℕ → Command
counted make None = commands.Misused
counted make (Some n) = make n

-- the process as which lines are read, if it is one
abbrev pub spoken_as : Option (List ℕ) → Command
spoken_as None = commands.Misused
spoken_as (Some process) = commands.As (Some process)

-- the number of lines that the bytes spell
abbrev pub count_of : List ℕ → Option ℕ
count_of = number_of (λ n. nat_le n most_script_lines)

-- what a word asks for with what is behind it
abbrev pub command_with : List ℕ → List ℕ → Command
command_with word argument =
    if takes_path word then at_path word (path_of argument)
    else (if bytes_eq word (codes ":undo") then counted commands.Undo (count_of argument)
    else (if bytes_eq word (codes ":redo") then counted commands.Redo (count_of argument)
    else (if bytes_eq word (codes ":as") then spoken_as (process_of argument)
    else (if bytes_eq word (codes ":save") then commands.Misused
    else commands.Unknown))))

-- what a word asks for, with what is behind it or alone
abbrev pub command_by : List ℕ → Option (List ℕ) → Command
command_by word None = command_alone word
command_by word (Some argument) = command_with word argument

-- what a line asks for
abbrev pub command_of : List ℕ → Command
command_of line = command_by (split_word line).0 (split_word line).1

-- the text, if it has a byte
abbrev pub some_bytes : Option (List ℕ) → Option (List ℕ)
some_bytes None = None
some_bytes (Some []) = None
some_bytes (Some (b ∷ text)) = Some (b ∷ text)

-- the name of the file as which a line saves the session, if it does: all that is behind `:save`
abbrev pub saved_as : List ℕ → Option (List ℕ)
saved_as line = if bytes_eq (split_word line).0 (codes ":save") then some_bytes (split_word line).1 else None

-- the list of the commands that ask for something
abbrev pub asking_text : List ℕ
asking_text =
    codes ":help           this list\n"
    ++ codes ":why            why the last call that was refused was refused\n"
    ++ codes ":access [PATH]  what each process may do, at each path or at this one\n"
    ++ codes ":trust PATH     whom the file at this path rests on\n"
    ++ codes ":leak PATH      how what is at this path is revealed and changed\n"
    ++ codes ":flows          to whom each process can pass on what it learns\n"
    ++ codes ":tree           each file and directory\n"
    ++ codes ":trace          each raw call, and why it was denied\n"

-- the list of the others
abbrev pub changing_text : List ℕ
changing_text =
    codes ":undo [N]       takes back the last line, or the last N lines\n"
    ++ codes ":redo [N]       enters the next line that was taken back, or the next N\n"
    ++ codes ":as [PROC]      reads a line that begins with no process as one of PROC\n"
    ++ codes ":expect [PATH]  adds the last reply as the expected one, or what each process may do at this path\n"
    ++ codes ":session        the session, which is a script\n"
    ++ codes ":save FILE      writes the session into a new file\n"
    ++ codes ":quit           ends, as the end of input does\n"

-- the list of what may be asked for
abbrev pub help_text : List ℕ
help_text = asking_text ++ changing_text

-- the answer to what is no command
abbrev pub unknown_text : List ℕ
unknown_text = codes "there is no such command (:help lists them)\n"

-- the answer to a command with other words than it takes
abbrev pub misused_text : List ℕ
misused_text = codes "the command takes other words (:help lists them)\n"

-- the answer to a line with which the session would be too long
abbrev pub too_long_text : List ℕ
too_long_text = codes "the session would be too long\n"

-- the answer where a session with a user is asked for
abbrev pub no_user_text : List ℕ
no_user_text = codes "the session has no user\n"

-- the answer where a reply is asked for
abbrev pub no_call_text : List ℕ
no_call_text = codes "no call was made\n"

-- the answer where a file to save the session in is there
abbrev pub is_there_text : List ℕ
is_there_text = codes "there is such a file already\n"

-- the answer where a file can't be written
abbrev pub not_written_text : List ℕ
not_written_text = codes "the file can't be written\n"
