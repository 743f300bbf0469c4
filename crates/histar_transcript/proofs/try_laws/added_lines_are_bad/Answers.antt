-- Proves the goals of `added_lines_are_bad` of src/try_laws.rt that the search leaves open.
use Rattle.histar_transcript.proofs.BadCalls.{added_lines_are_bad}
use Rattle.histar_transcript.proofs.try_laws.added_lines_are_bad.Goals as goal

pub returns : goal.returns
returns c = added_lines_are_bad
