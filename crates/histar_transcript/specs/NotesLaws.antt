-- What is true of each transcript with notes.
use Rattle.std.specs.Prelude.{◌≡◌, ℕ, not, List}
use Rattle.std.specs.List.{filter}
use Rattle.histar_script.specs.Lines.{lines_of}
use Rattle.histar_transcript.specs.Extended.{ended_lines}
use Rattle.histar_transcript.specs.Noted.{is_note, noted_transcript}
use Rattle.histar_transcript.specs.Transcript.{transcript_of}

-- the lines of a text but its notes
abbrev pub without_notes : List ℕ → List ℕ
without_notes text = ended_lines (filter (λ line. not (is_note line)) (lines_of text))

-- Without its notes a transcript with notes is the transcript of the output without its notes.
abbrev pub NotesAreAdded : Type 0
NotesAreAdded = (text output : List ℕ) → without_notes (noted_transcript text output) ≡ transcript_of text (without_notes output)
