-- Proves the goals of `read_input` of src/input.rt that the search leaves open.
use Rattle.std.proofs.Common.{◌+◌, ◌≤◌, length, take, rules}
use Rattle.std.proofs.lemmas.List.{length-take}
use Rattle.std.proofs.lemmas.Result.{err_from_is_err_and}
use Rattle.histar_io.specs.Input.{most_taken}
use Rattle.histar_io.proofs.InputLemmas.{takes_piece}
use Rattle.histar_io.proofs.input.read_input.Goals as goal

pub returns-in_err-extend-in-Ok-clause-err : goal.returns-in_err-extend-in-Ok-clause-err
returns-in_err-extend-in-Ok-clause-err g c =
    let p = err_from_is_err_and c.from_residual.result c.from_residual.ensures.1 in
    let piece = take c.in-Ok.n c.pull.new.buffer in
    let within : length c.chunks.input.items + length piece ≤ most_taken = search (rules, length-take) in
    rw p.1 (takes_piece _ _ _ c.chunks.input.items piece c.chunks.invariant.taken c.in-Ok.ensures.bytes.0 within)
