-- Proves the goals of `pull_line` of src/input.rt that the search leaves open.
use Rattle.std.proofs.Common.{take}
use Rattle.std.proofs.KnownBytes.{Consumes-trans}
use Rattle.std.proofs.lemmas.Result.{err_from_is_err_and}
use Rattle.histar_dialogue.proofs.input.Input.pull_line.Goals as goal

pub returns-in_err-extend_from_slice-in-Ok-clause-err : goal.returns-in_err-extend_from_slice-in-Ok-clause-err
returns-in_err-extend_from_slice-in-Ok-clause-err g c =
    let p = err_from_is_err_and c.from_residual.result c.from_residual.ensures.1 in
    let piece = take c.in-Ok.n c.pull.new.buffer in
    rw (p.1, p.2) (_, Consumes-trans _ _ _ c.chunks.invariant.taken piece c.chunks.invariant.consumed c.in-Ok.ensures.bytes.0)
