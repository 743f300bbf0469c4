-- A session that is entered line by line, and the answer to each line.
use Rattle.std.specs.Prelude.{◌≡◌, ℕ, ◌+◌, ◌⊎◌, nat_lt, List, [], ◌∷◌, ◌++◌, length}
use Rattle.std.specs.Prelude.{Option, None, Some, Result, Ok, Err, IsOk, MatchBool, MatchOption}
use Rattle.histar_flat.specs.Words.{Path}
use Rattle.histar_script.specs.declared.fault.Fault.{Fault}
use Rattle.histar_script.specs.declared.fault.Fault.TheVariants.{BadScript, TooLong}
use Rattle.histar_script.specs.declared.fault.Fault.TheVariants.{OutOfMemory, ReadFailed, WriteFailed}
use Rattle.histar_script.specs.Laws.{EndsItsLines}
use Rattle.histar_script.specs.Lines.{lines_of}
use Rattle.histar_script.specs.Reading.{script_of}
use Rattle.histar_script.specs.Script.{ScriptModel}
use Rattle.histar_dialogue.specs.declared.commands.Command.{Command}
use Rattle.histar_dialogue.specs.declared.commands.Command.TheVariants as commands
use Rattle.histar_dialogue.specs.declared.running.Running.{Running}
use Rattle.histar_dialogue.specs.declared.session.Session.{Session}
use Rattle.histar_dialogue.specs.Asked.{IsAnswer, IsRun, IsTable, LacksUser, Shows, of_replies}
use Rattle.histar_dialogue.specs.Claims.{claims_at}
use Rattle.histar_dialogue.specs.Commands.{command_of, saved_as, help_text, is_command, is_there_text, misused_text}
use Rattle.histar_dialogue.specs.Commands.{no_call_text, not_written_text, too_long_text, unknown_text}
use Rattle.histar_dialogue.specs.Parts.{expecting, no_entry_text}
use Rattle.histar_dialogue.specs.Refusals.{Explains}
use Rattle.histar_dialogue.specs.Running.{HasRun, said_behind}
use Rattle.histar_dialogue.specs.Shelf.{Saved}
use Rattle.histar_dialogue.specs.Talk.{Talk, entered_again, nothing_yet, with_file, spoken, spoken_by, taken_back, with_text}
use Rattle.histar_dialogue.specs.Texts.{SaysRule}

-- How a line is answered, by what the session with this line behind it is read as: as a script, it is added, and its call is answered, if it
-- has one; where only a user is missing, it is added; where it is bad, it isn't added, and the answer is the sentence of the first rule
-- that it breaks; and where the session would be too long, the answer says so.
abbrev pub AnswersRead : Talk → List ℕ → Result ScriptModel Fault → Talk → List ℕ → Type 0
AnswersRead talk longer (Ok script) after said =
    (after ≡ with_text talk longer) × (said ≡ said_behind (length (lines_of talk.text)) script)
AnswersRead talk longer (Err (BadScript n)) after said =
    MatchBool (nat_lt (length (lines_of longer)) n) ((after ≡ with_text talk longer) × (said ≡ []))
    ((after ≡ talk) × SaysRule longer n said)
AnswersRead talk longer (Err TooLong) after said = (after ≡ talk) × (said ≡ too_long_text)
AnswersRead talk longer (Err OutOfMemory) after said = ⊥
AnswersRead talk longer (Err ReadFailed) after said = ⊥
AnswersRead talk longer (Err WriteFailed) after said = ⊥

-- how some text behind the session is answered: as one line is, however many it has
abbrev pub AnswersText : Talk → List ℕ → Talk → List ℕ → Type 0
AnswersText talk more after said = AnswersRead talk (talk.text ++ more) (script_of (talk.text ++ more)) after said

-- how a line of a script is answered
abbrev pub AnswersLine : Talk → List ℕ → Talk → List ℕ → Type 0
AnswersLine talk line after said = AnswersText talk (line ++ 10 ∷ []) after said

-- the answers to the calls of a session behind its first lines, if it is a script
abbrev pub answers_of : ℕ → Result ScriptModel Fault → List ℕ
answers_of first (Ok script) = said_behind first script
answers_of first (Err fault) = []

-- the comment that expects a reply is taken as a line, if there is one
abbrev pub ExpectsLast : Talk → Option (List ℕ) → Talk → List ℕ → Type 0
ExpectsLast talk None after said = (after ≡ talk) × (said ≡ no_call_text)
ExpectsLast talk (Some line) after said = AnswersLine talk line after said

-- the comment that expects the last reply of the session is taken as a line; or there is no user as yet
abbrev pub Expects : Talk → Talk → List ℕ → Type 0
Expects talk after said =
    ((replies : List ℕ) × IsRun of_replies talk.text replies
    × ExpectsLast talk (expecting None (lines_of replies)) after said)
    ⊎ ((after ≡ talk) × LacksUser talk.text said)

-- the claims are taken as a line is, all at once; without one there is no entry
abbrev pub ExpectsClaims : Talk → List ℕ → Talk → List ℕ → Type 0
ExpectsClaims talk [] after said = (after ≡ talk) × (said ≡ no_entry_text)
ExpectsClaims talk (b ∷ claims) after said = AnswersText talk (b ∷ claims) after said

-- what each process may do at a path, by the table of the session, is claimed; or there is no user as yet
abbrev pub ExpectsAt : Path → Talk → Talk → List ℕ → Type 0
ExpectsAt path talk after said =
    ((table : List ℕ) × IsTable talk.text table
    × ExpectsClaims talk (claims_at path (lines_of table)) after said)
    ⊎ ((after ≡ talk) × LacksUser talk.text said)

-- how a command is answered
abbrev pub ObeysCommand : Command → Talk → Talk → List ℕ → Type 0
ObeysCommand commands.Help talk after said = (after ≡ talk) × (said ≡ help_text)
ObeysCommand commands.Why talk after said = (after ≡ talk) × Explains talk.text said
ObeysCommand (commands.Show ask) talk after said = (after ≡ talk) × Shows (IsAnswer ask) talk.text said
ObeysCommand (commands.Undo n) talk after said = (after ≡ taken_back n talk) × (said ≡ [])
ObeysCommand (commands.Redo n) talk after said =
    (after ≡ entered_again n talk)
    × (said ≡ answers_of (length (lines_of talk.text)) (script_of (entered_again n talk).text))
ObeysCommand (commands.As process) talk after said = (after ≡ spoken_by process talk) × (said ≡ [])
ObeysCommand commands.Expect talk after said = Expects talk after said
ObeysCommand (commands.ExpectAt path) talk after said = ExpectsAt path talk after said
ObeysCommand commands.Session talk after said = (after ≡ talk) × (said ≡ talk.text)
ObeysCommand commands.Quit talk after said = (after ≡ talk) × (said ≡ [])
ObeysCommand commands.Misused talk after said = (after ≡ talk) × (said ≡ misused_text)
ObeysCommand commands.Unknown talk after said = (after ≡ talk) × (said ≡ unknown_text)

-- the session is saved as a new file of this name, without an answer; or it isn't, and the answer says why
abbrev pub Saves : List ℕ → Talk → Talk → List ℕ → Type 0
Saves name talk after said =
    ((after ≡ with_file name talk) × (said ≡ []))
    ⊎ ((after ≡ talk) × ((said ≡ is_there_text) ⊎ (said ≡ not_written_text)))

-- how a line that begins with a colon is answered: as a command, or by saving the session
abbrev pub Obeys : Talk → List ℕ → Talk → List ℕ → Type 0
Obeys talk line after said =
    MatchOption (saved_as line) (ObeysCommand (command_of line) talk after said) (λ name. Saves name talk after said)

-- how a line that begins with no colon is answered: as it is read
abbrev pub AnswersSpoken : Talk → List ℕ → Talk → List ℕ → Type 0
AnswersSpoken talk line after said = AnswersLine talk (spoken talk.speaker line) after said

-- how a line is answered
abbrev pub Answers : Talk → List ℕ → Talk → List ℕ → Type 0
Answers talk line after said = MatchBool (is_command line) (Obeys talk line after said)
    (AnswersSpoken talk line after said)

-- ---- the session that code keeps

-- a machine has made the calls of the session, which is a script; or there is none, as only a user is missing: the first bad line is the one
-- behind the session
abbrev pub IsRunning : List ℕ → Option Running → Type 0
IsRunning text None = script_of text ≡ Err (BadScript (length (lines_of text) + 1))
IsRunning text (Some r) = (script : ScriptModel) × HasRun text r script

-- the state of a dialogue that a session is, where these files were saved
abbrev pub talk_of : Saved → Session → Talk
talk_of saved s = record { text = s.text.items; undone = s.undone.items; speaker = s.speaker; saved = saved }

-- the text is a script, or has no user as yet
abbrev pub IsBegun : List ℕ → Type 0
IsBegun text = IsOk (script_of text) ⊎ (script_of text ≡ Err (BadScript (length (lines_of text) + 1)))

-- Each line of the session has its end, the lines are counted, and a machine has made the calls. With the lines that were taken back it is
-- a session too.
pub record IsRight (s : Session) : Type 0 where
  pub ends : EndsItsLines s.text.items
  pub count : s.count ≡ length (lines_of s.text.items)
  pub running : IsRunning s.text.items s.running
  pub undone_ends : EndsItsLines s.undone.items
  pub whole : IsBegun (s.text.items ++ s.undone.items)

-- a session of no lines
abbrev pub IsNew : Session → Type 0
IsNew s = ((saved : Saved) → talk_of saved s ≡ nothing_yet saved) × IsRight s

-- a right session was left as this says of a line, whatever was saved, and it is right
abbrev pub FollowsBy : (Talk → List ℕ → Talk → List ℕ → Type 0) → Session → Session → List ℕ → List ℕ → Type 0
FollowsBy Says old new line said =
    IsRight old → ((saved : Saved) → Says (talk_of saved old) line (talk_of saved new) said) × IsRight new

-- a right session was left as this says, whatever was saved, and it is right
abbrev pub FollowsSo : (Talk → Talk → List ℕ → Type 0) → Session → Session → List ℕ → Type 0
FollowsSo Says old new said =
    IsRight old → ((saved : Saved) → Says (talk_of saved old) (talk_of saved new) said) × IsRight new

-- a right session answered a line, before and behind which these files were saved, and it is right
abbrev pub Follows : Saved → Saved → Session → Session → List ℕ → List ℕ → Type 0
Follows saved more old new line said =
    IsRight old → Answers (talk_of saved old) line (talk_of more new) said × IsRight new

-- the session has this text, and these lines of it were taken back; the answers are those to its calls behind the first lines
pub record Became (first : ℕ) (old new : Session) (text undone said : List ℕ) : Type 0 where
  pub talk :
      (saved : Saved)
      → talk_of saved new ≡ record { text = text; undone = undone; speaker = old.speaker; saved = saved }
  pub said_so : said ≡ answers_of first (script_of text)
  pub right : IsRight new

-- a text and lines behind it that are a session together become the session and the lines that were taken back
abbrev pub Becomes : ℕ → Session → Session → List ℕ → List ℕ → List ℕ → Type 0
Becomes first old new text undone said =
    EndsItsLines text → EndsItsLines undone → IsBegun (text ++ undone) → Became first old new text undone said
