-- Proves the goals of `notes_are_added` of src/notes_laws.rt that the search leaves open.
use Rattle.histar_transcript.proofs.WithoutNotes.{notes_are_added}
use Rattle.histar_transcript.proofs.notes_laws.notes_are_added.Goals as goal

pub returns : goal.returns
returns c = notes_are_added
