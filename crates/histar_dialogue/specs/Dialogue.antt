-- A dialogue: the lines of a source, each answered before the next one is read.
use Rattle.std.specs.Prelude.{◌≡◌, ℕ, ◌+◌, ◌⊎◌, Bool, false, List, []}
use Rattle.std.specs.Prelude.{◌∷◌, ◌++◌, length, codes, decimal, Option, None, Some}
use Rattle.std.specs.Prelude.{Result, Ok, Err, IsOk, MatchOption, if◌then◌else◌}
use Rattle.std.specs.List.{AllByRecursion}
use Rattle.std.specs.Str.{bytes_eq}
use Rattle.std.specs.Io.KnownBytes.{Appends, Consumes, IsAtEnd}
use Rattle.histar_io.specs.Writing.{AppendsFront}
use Rattle.histar_script.specs.declared.fault.Fault.{Fault}
use Rattle.histar_script.specs.declared.fault.Fault.TheVariants.{BadScript, TooLong}
use Rattle.histar_script.specs.declared.fault.Fault.TheVariants.{OutOfMemory, ReadFailed, WriteFailed}
use Rattle.histar_script.specs.Lines.{lines_of}
use Rattle.histar_script.specs.Reading.{script_of}
use Rattle.histar_dialogue.specs.Session.{Answers}
use Rattle.histar_dialogue.specs.Shelf.{Saved}
use Rattle.histar_dialogue.specs.Texts.{with_line}
use Rattle.histar_dialogue.specs.Talk.{Talk, nothing_yet}

-- the line ends the dialogue
abbrev pub is_quit : List ℕ → Bool
is_quit line = bytes_eq line (codes ":quit")

-- the prompt, if there is one: the number of the next line of a session
abbrev pub prompt_text : Bool → List ℕ → List ℕ
prompt_text prompt text = if prompt then decimal (length (lines_of text) + 1) ++ codes "> " else []

-- These lines were answered one after another, each as the session says with the lines before it, and this is what was said: before each
-- line the prompt, and behind it its answer.
abbrev pub Converses : Bool → Talk → List (List ℕ) → Talk → List ℕ → Type 0
Converses prompt talk [] end said = (end ≡ talk) × (said ≡ [])
Converses prompt talk (line ∷ lines) end said =
    (mid : Talk) × (first rest : List ℕ) × Answers talk line mid first × Converses prompt mid lines end rest
    × (said ≡ (prompt_text prompt talk.text ++ first) ++ rest)

-- the script to begin with, if there is one, is a script, and its lines were answered without a prompt; these files were saved before
abbrev pub Begins : Option (List ℕ) → Saved → Talk → List ℕ → Type 0
Begins None saved begun said = (begun ≡ nothing_yet saved) × (said ≡ [])
Begins (Some text) saved begun said = IsOk (script_of text) × Converses false (nothing_yet saved) (lines_of text) begun said

-- the script to begin with has this fault
abbrev pub HasFault : Option (List ℕ) → Fault → Type 0
HasFault first fault = MatchOption first ⊥ (λ text. script_of text ≡ Err fault)

-- what is behind the lines that were answered: nothing, and the source is at its end; or a line that ends the dialogue
abbrev pub EndsAt : Option (List ℕ) → List (List ℕ) → Type 0
EndsAt rest more = ((more ≡ []) × IsAtEnd rest) ⊎ ((others : List (List ℕ)) × (more ≡ codes ":quit" ∷ others))

-- it may be anything
abbrev pub StopsAt : List (List ℕ) → Type 0
StopsAt more = Unit {0}

-- Bytes were taken from the source. Their first lines, none of which ends the dialogue, were answered, and what is behind them is as `Ends`
-- says. The files that are held now are those that were saved so. What was said and a last prompt were written as far as `Writes` says.
pub record TalksFrom (prompt : Bool) (begun : Talk) (left rest : Option (List ℕ)) (held : Saved) (Ends : List (List ℕ)
    → Type 0) (Writes : Talk → List ℕ → Type 0) : Type 0 where
  pub taken : List ℕ
  pub consumed : Consumes left rest taken
  pub lines : List (List ℕ)
  pub more : List (List ℕ)
  pub parts : lines_of taken ≡ lines ++ more
  pub stays : AllByRecursion (λ line. is_quit line ≡ false) lines
  pub ends : Ends more
  pub end : Talk
  pub said : List ℕ
  pub converses : Converses prompt begun lines end said
  pub holds : end.saved ≡ held
  pub written : Writes end (said ++ prompt_text prompt end.text)

-- the text is that of the session, perhaps with one line more
abbrev pub IsSessionText : Talk → List ℕ → Type 0
IsSessionText talk text = (text ≡ talk.text) ⊎ ((line : List ℕ) × (text ≡ with_line talk.text line))

-- a beginning of what was said was written, and then of the session as far as `Writes` says
abbrev pub LeavesSession : (Option (List ℕ) → List ℕ → Type 0) → Option (List ℕ) → Talk → List ℕ → Type 0
LeavesSession Writes old end said =
    (mid : Option (List ℕ)) × (text : List ℕ) × AppendsFront old mid said × IsSessionText end text × Writes mid text

-- the whole session was written behind what was said
abbrev pub EndsWithSession : Option (List ℕ) → Option (List ℕ) → Talk → List ℕ → Type 0
EndsWithSession old new = LeavesSession (λ mid. Appends mid new) old

-- a beginning of what was said was written, or behind it a beginning of the session
abbrev pub StopsWriting : Option (List ℕ) → Option (List ℕ) → Talk → List ℕ → Type 0
StopsWriting old new end said = AppendsFront old new said ⊎ LeavesSession (λ mid. AppendsFront mid new) old end said

-- The dialogue from this state on went to its end, or as far as the fault allowed, and these files are held behind it. Where memory ran out
-- the session was written at last.
abbrev pub TalksOn : Bool → Talk → Option (List ℕ) → Option (List ℕ) → Option (List ℕ)
    → Option (List ℕ) → Saved → Result (Unit {0}) Fault → Type 0
TalksOn prompt begun left rest old new held (Ok u) = TalksFrom prompt begun left rest held (EndsAt rest) (λ end. Appends old new)
TalksOn prompt begun left rest old new held (Err OutOfMemory) = TalksFrom prompt begun left rest held StopsAt
    (EndsWithSession old new)
TalksOn prompt begun left rest old new held (Err WriteFailed) = TalksFrom prompt begun left rest held StopsAt
    (StopsWriting old new)
TalksOn prompt begun left rest old new held (Err ReadFailed) = TalksFrom prompt begun left rest held StopsAt
    (λ end. Appends old new)
TalksOn prompt begun left rest old new held (Err (BadScript n)) = ⊥
TalksOn prompt begun left rest old new held (Err TooLong) = ⊥

-- The first lines of a text were answered without a prompt, and a beginning of what was said was written. These files were saved before,
-- and those are held behind it.
pub record BeginsLines (text : List ℕ) (saved held : Saved) (old new : Option (List ℕ)) : Type 0 where
  pub lines : List (List ℕ)
  pub more : List (List ℕ)
  pub parts : lines_of text ≡ lines ++ more
  pub end : Talk
  pub said : List ℕ
  pub converses : Converses false (nothing_yet saved) lines end said
  pub holds : end.saved ≡ held
  pub written : AppendsFront old new said

-- the script to begin with was answered, where these files were saved before, and what was said was written, and then the dialogue went on
-- as this says
pub record Greets (first : Option (List ℕ)) (old : Option (List ℕ)) (saved : Saved) (GoesOn : Talk → Option (List ℕ)
    → Type 0) : Type 0 where
  pub begun : Talk
  pub greeting : List ℕ
  pub begins : Begins first saved begun greeting
  pub mid : Option (List ℕ)
  pub written : Appends old mid greeting
  pub goes_on : GoesOn begun mid

-- the first lines of the script to begin with were answered, and nothing was read
abbrev pub StopsFirst : Option (List ℕ) → Option (List ℕ) → Option (List ℕ) → Option (List ℕ) → Option (List ℕ)
    → Saved → Saved → Type 0
StopsFirst first left rest old new saved held =
    (rest ≡ left) × MatchOption first ⊥ (λ text. BeginsLines text saved held old new)

-- The script to begin with was answered, and then the lines of the source; or as many as the fault allowed. These files were saved before,
-- and those are held behind it.
abbrev pub Talks : Option (List ℕ) → Bool → Option (List ℕ) → Option (List ℕ) → Option (List ℕ)
    → Option (List ℕ) → Saved → Saved → Result (Unit {0}) Fault → Type 0
Talks first prompt left rest old new saved held (Err (BadScript n)) = HasFault first (BadScript n)
Talks first prompt left rest old new saved held (Err TooLong) = HasFault first TooLong
Talks first prompt left rest old new saved held (Err OutOfMemory) =
    StopsFirst first left rest old new saved held
    ⊎ Greets first old saved (λ begun mid. TalksOn prompt begun left rest mid new held (Err OutOfMemory))
Talks first prompt left rest old new saved held (Err WriteFailed) =
    StopsFirst first left rest old new saved held
    ⊎ Greets first old saved (λ begun mid. TalksOn prompt begun left rest mid new held (Err WriteFailed))
Talks first prompt left rest old new saved held result = Greets first old saved
    (λ begun mid. TalksOn prompt begun left rest mid new held result)

-- a script to begin with that is bad, or too long, leaves the sink and the shelf as they were
abbrev pub LeavesBoth : {W S : Type 0} → W → W → S → S → Fault → Type 0
LeavesBoth old new saved held (BadScript n) = (new ≡ old) × (held ≡ saved)
LeavesBoth old new saved held TooLong = (new ≡ old) × (held ≡ saved)
LeavesBoth old new saved held fault = Unit {0}

-- it leaves the source as it was too
abbrev pub LeavesAll : {R W S : Type 0} → R → R → W → W → S → S → Fault → Type 0
LeavesAll from to old new saved held (BadScript n) = (to ≡ from) × (new ≡ old) × (held ≡ saved)
LeavesAll from to old new saved held TooLong = (to ≡ from) × (new ≡ old) × (held ≡ saved)
LeavesAll from to old new saved held fault = Unit {0}
