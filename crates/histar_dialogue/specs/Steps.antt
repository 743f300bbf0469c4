-- The steps by which a session takes a line.
use Rattle.std.specs.Prelude.{◌≡◌, ℕ, ◌+◌, ◌<◌, ◌≤◌, ◌⊎◌, nat_lt, List}
use Rattle.std.specs.Prelude.{[], length, Option, None, Some, is_some, true, MatchBool}
use Rattle.histar_script.specs.Lines.{lines_of, most_script_bytes, most_script_lines}
use Rattle.histar_dialogue.specs.declared.running.Running.{Running}
use Rattle.histar_dialogue.specs.declared.session.Session.{Session}
use Rattle.histar_flat.specs.declared.calls.CallLine.{CallLine}
use Rattle.histar_dialogue.specs.Running.{AnswersCall}
use Rattle.histar_dialogue.specs.Texts.{SaysRule, with_line}

-- a session with this line more keeps the limits of a script
pub record HasRoom (s : Session) (line : List ℕ) : Type 0 where
  pub lines : s.count < most_script_lines
  pub bytes : length s.text.items + length line + 1 ≤ most_script_bytes

-- a machine has made the calls, and the session may have this line more
pub record MayGrow (s : Session) (line : List ℕ) : Type 0 where
  pub running : is_some s.running ≡ true
  pub room : HasRoom s line

-- the line was added to the text, and the machine is as it was
pub record IsPushed (old new : Session) (line : List ℕ) : Type 0 where
  pub text : new.text.items ≡ with_line old.text.items line
  pub undone : new.undone.items ≡ []
  pub count : new.count ≡ old.count + 1
  pub running : new.running ≡ old.running
  pub speaker : new.speaker ≡ old.speaker

-- the session has its text, perhaps with one line more
abbrev pub KeepsText : Session → Session → Type 0
KeepsText old new =
    (new.text.items ≡ old.text.items) ⊎ ((line : List ℕ) × (new.text.items ≡ with_line old.text.items line))

-- the session has this text, which was counted, and this machine
pub record IsRestarted (old new : Session) (longer : List ℕ) (found : Option Running) : Type 0 where
  pub text : new.text.items ≡ longer
  pub undone : new.undone.items ≡ []
  pub count : new.count ≡ length (lines_of longer)
  pub running : new.running ≡ found
  pub speaker : new.speaker ≡ old.speaker

-- a text whose first bad line has this number is the session now, if only a user is missing; else the session stays, and the answer is the
-- sentence of the rule that the line breaks
abbrev pub Refuses : Session → Session → List ℕ → ℕ → List ℕ → Type 0
Refuses old new longer bad said =
    MatchBool (nat_lt (length (lines_of longer)) bad) (IsRestarted old new longer None × (said ≡ []))
    ((new ≡ old) × SaysRule longer bad said)

-- the machine that runs answered a call, if there is one
abbrev pub AnswersOn : Option Running → Option Running → CallLine → List ℕ → Type 0
AnswersOn None new call said = Unit {0}
AnswersOn (Some r) new call said = (next : Running) × (new ≡ Some next) × AnswersCall r next call said
