-- One line of a dialogue, and the lines of the script to begin with.
use Rattle.std.specs.Prelude.{◌≡◌, ℕ, ◌⊎◌, Bool, false, List, Option, Result, Err, MatchOption}
use Rattle.std.specs.Io.KnownBytes.{Appends, Keeps}
use Rattle.histar_io.specs.Writing.{AppendsFront}
use Rattle.histar_script.specs.declared.fault.Fault.{Fault}
use Rattle.histar_script.specs.declared.fault.Fault.TheVariants.{BadScript, TooLong}
use Rattle.histar_script.specs.declared.fault.Fault.TheVariants.{OutOfMemory, ReadFailed, WriteFailed}
use Rattle.histar_script.specs.Lines.{lines_of}
use Rattle.histar_script.specs.Reading.{script_of}
use Rattle.histar_dialogue.specs.declared.session.Session.{Session}
use Rattle.histar_dialogue.specs.Dialogue.{Begins, BeginsLines, Converses, IsSessionText, StopsAt, TalksFrom, TalksOn}
use Rattle.histar_dialogue.specs.Session.{Answers, IsRight, talk_of}
use Rattle.histar_dialogue.specs.Shelf.{Saved}
use Rattle.histar_dialogue.specs.Steps.{KeepsText}
use Rattle.histar_dialogue.specs.Talk.{Talk, nothing_yet}

-- a session answered a line, before and behind which these files were saved, and the answer was written
pub record AnswersTo (before after : Session) (line : List ℕ) (saved held : Saved) (old new : Option (List ℕ)) : Type 0 where
  pub said : List ℕ
  pub answers : Answers (talk_of saved before) line (talk_of held after) said
  pub right : IsRight after
  pub written : Appends old new said

-- a line was answered, the files that are held now were saved then, and a beginning of the answer was written
pub record AnswersSome (before : Session) (line : List ℕ) (saved held : Saved) (old new : Option (List ℕ)) : Type 0 where
  pub after : Talk
  pub said : List ℕ
  pub answers : Answers (talk_of saved before) line after said
  pub holds : after.saved ≡ held
  pub written : AppendsFront old new said

-- Where memory ran out nothing was written or saved, and the session has its text, perhaps with one line more; where a write failed a
-- beginning of the answer to a line was written.
abbrev pub StopsAnswer : Session → Session → List ℕ → Saved → Saved → Option (List ℕ) → Option (List ℕ)
    → Fault → Type 0
StopsAnswer before now line saved held old new OutOfMemory = Keeps old new × (held ≡ saved) × KeepsText before now
StopsAnswer before now line saved held old new WriteFailed = AnswersSome before line saved held old new
StopsAnswer before now line saved held old new fault = ⊥

-- a beginning of the answer to a line was written, or nothing was, and nothing was saved
abbrev pub BeginsAnswer : Session → List ℕ → Saved → Saved → Option (List ℕ) → Option (List ℕ) → Type 0
BeginsAnswer before line saved held old new =
    (Keeps old new × (held ≡ saved)) ⊎ AnswersSome before line saved held old new

-- the lines of a text were answered, before and behind which these files were saved, and what was said was written
pub record AnswersLines (text : List ℕ) (after : Session) (saved held : Saved) (old new : Option (List ℕ)) : Type 0 where
  pub said : List ℕ
  pub converses : Converses false (nothing_yet saved) (lines_of text) (talk_of held after) said
  pub right : IsRight after
  pub written : Appends old new said

-- the text is no script, or its first lines were answered
abbrev pub BeginsFile : List ℕ → Saved → Saved → Option (List ℕ) → Option (List ℕ) → Fault → Type 0
BeginsFile text saved held old new (BadScript n) = script_of text ≡ Err (BadScript n)
BeginsFile text saved held old new TooLong = script_of text ≡ Err TooLong
BeginsFile text saved held old new OutOfMemory = BeginsLines text saved held old new
BeginsFile text saved held old new WriteFailed = BeginsLines text saved held old new
BeginsFile text saved held old new ReadFailed = ⊥

-- the script to begin with, if there is one, was answered, and what was said was written
pub record BeginsWith (first : Option (List ℕ)) (session : Session) (saved held : Saved) (old new : Option (List ℕ)) : Type 0 where
  pub greeting : List ℕ
  pub begins : Begins first saved (talk_of held session) greeting
  pub right : IsRight session
  pub written : Appends old new greeting

-- the script to begin with is none, or its first lines were answered
abbrev pub BeginsFirst : Option (List ℕ) → Saved → Saved → Option (List ℕ) → Option (List ℕ) → Fault → Type 0
BeginsFirst first saved held old new fault = MatchOption first ⊥ (λ text. BeginsFile text saved held old new fault)

-- how far a dialogue went before the session was written, which has this text: as `TalksOn` says, but for the session
abbrev pub TalksAlong : Bool → Talk → Option (List ℕ) → Option (List ℕ) → Option (List ℕ)
    → Option (List ℕ) → Saved → List ℕ → Result (Unit {0}) Fault → Type 0
TalksAlong prompt begun left rest old new held text (Err OutOfMemory) = TalksFrom prompt begun left rest held StopsAt
    (λ end said. AppendsFront old new said × IsSessionText end text)
TalksAlong prompt begun left rest old new held text (Err WriteFailed) = TalksFrom prompt begun left rest held StopsAt
    (λ end. AppendsFront old new)
TalksAlong prompt begun left rest old new held text result = TalksOn prompt begun left rest old new held result

-- this text was written, and the fault is that of memory; or a beginning of it, and the fault is that of a write
abbrev pub LeavesText : Option (List ℕ) → Option (List ℕ) → List ℕ → Fault → Type 0
LeavesText old new text OutOfMemory = Appends old new text
LeavesText old new text WriteFailed = AppendsFront old new text
LeavesText old new text fault = ⊥
