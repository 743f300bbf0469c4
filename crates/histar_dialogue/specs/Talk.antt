-- The state of a dialogue: a session, the lines of it that were taken back, the process as which lines are read, and the files that were saved.
use Rattle.std.specs.Prelude.{ℕ, suc, ◌-◌, Bool, false, not, ◌&&◌, ◌==◌, List, [], ◌∷◌, ◌++◌, length, take, drop}
use Rattle.std.specs.Prelude.{Option, None, Some, is_none, codes, if◌then◌else◌}
use Rattle.std.specs.Str.{bytes_eq}
use Rattle.histar_flat.specs.Words.{ProcName, process_of}
use Rattle.histar_flat.specs.Texts.{process_text}
use Rattle.histar_script.specs.Lines.{lines_of, split_word}
use Rattle.histar_dialogue.specs.Shelf.{Saved, with_saved}

-- the state of a dialogue: the text of the session, the lines that were taken back, each with its end, the process as which a line without
-- one is read, and the files that were saved
pub record Talk : Type 0 where
  pub text : List ℕ
  pub undone : List ℕ
  pub speaker : Option ProcName
  pub saved : Saved

-- the state before the first line, where these files were saved
abbrev pub nothing_yet : Saved → Talk
nothing_yet saved = record { text = []; undone = []; speaker = None; saved = saved }

-- the session is this text, and no line of it was taken back
abbrev pub with_text : Talk → List ℕ → Talk
with_text talk text = record { text = text; undone = []; speaker = talk.speaker; saved = talk.saved }

-- the session was saved as a file of this name
abbrev pub with_file : List ℕ → Talk → Talk
with_file name talk =
    record { text = talk.text; undone = talk.undone; speaker = talk.speaker; saved = with_saved (name, talk.text) talk.saved }

-- lines are read as those of this process, or as they are
abbrev pub spoken_by : Option ProcName → Talk → Talk
spoken_by process talk = record { text = talk.text; undone = talk.undone; speaker = process; saved = talk.saved }

-- ---- lines that are taken back

-- how many bytes the first lines of a text have
unfoldable pub bytes_of_lines : ℕ → List ℕ → ℕ
bytes_of_lines n [] = 0
bytes_of_lines n (b ∷ text) = if n == 0 then 0 else suc (bytes_of_lines (if b == 10 then n - 1 else n) text)

-- the first so many bytes of the session stay, and the others come before the lines that were taken back
abbrev pub cut_at : ℕ → Talk → Talk
cut_at k talk =
    record { text = take k talk.text; undone = drop k talk.text ++ talk.undone; speaker = talk.speaker; saved = talk.saved }

-- the last lines are taken back, so many or all
abbrev pub taken_back : ℕ → Talk → Talk
taken_back n talk = cut_at (bytes_of_lines (length (lines_of talk.text) - n) talk.text) talk

-- so many bytes of what was taken back come behind the session again
abbrev pub grown_by : ℕ → Talk → Talk
grown_by k talk =
    record { text = talk.text ++ take k talk.undone; undone = drop k talk.undone; speaker = talk.speaker; saved = talk.saved }

-- the first lines of those that were taken back come behind the session again, so many or all
abbrev pub entered_again : ℕ → Talk → Talk
entered_again n talk = grown_by (bytes_of_lines n talk.undone) talk

-- ---- lines without a process

-- the word is no process, and begins no declaration
abbrev pub is_no_process : List ℕ → Bool
is_no_process word =
    not (bytes_eq word (codes "user")) && not (bytes_eq word (codes "group")) && is_none (process_of word)

-- the line begins with no process, and is no comment and no declaration
abbrev pub lacks_process : List ℕ → Bool
lacks_process [] = false
lacks_process (b ∷ line) = not (b == 35) && is_no_process (split_word (b ∷ line)).0

-- a line as it is read: behind the process, if it lacks one
abbrev pub spoken : Option ProcName → List ℕ → List ℕ
spoken None line = line
spoken (Some process) line = if lacks_process line then process_text process ++ 32 ∷ line else line
