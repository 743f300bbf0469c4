-- Proves the goals of `write_prompt` of src/dialogue.rt that the search leaves open.
use Rattle.histar_dialogue.proofs.Talking.{front_none, on_err}
use Rattle.histar_dialogue.proofs.dialogue.write_prompt.Goals as goal

pub returns-in_err-text-clause-err : goal.returns-in_err-text-clause-err
returns-in_err-text-clause-err g c = on_err _ _ (front_none _ _)
