-- Proves the goals of `enter` of src/dialogue.rt that the search leaves open.
use Rattle.histar_io.proofs.Residuals.{passed_on}
use Rattle.histar_dialogue.proofs.Talking.{file_fault}
use Rattle.histar_dialogue.proofs.dialogue.enter.Goals as goal

pub returns-in_err-_script-clause-err : goal.returns-in_err-_script-clause-err
returns-in_err-_script-clause-err g c =
    rw (passed_on _ _ c.from_residual.ensures.1) (file_fault c.args.text.now _ _ c.in_err-_script.field-0.0 c.in_err-_script.ensures.exact)
