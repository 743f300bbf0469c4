-- Proves the goals of `write_check` of src/running.rt that the search leaves open.
use Rattle.std.proofs.Common.{subst, ◌∙◌}
use Rattle.std.proofs.lemmas.Result.{err_from_is_err_and}
use Rattle.histar_io.specs.Writing.{AppendsFront}
use Rattle.histar_io.proofs.WritingLemmas.{sent_none}
use Rattle.histar_test.specs.Checks.{check_text}
use Rattle.histar_test.proofs.running.write_check.Goals as goal

pub returns-in_err-text-clause-err : goal.returns-in_err-text-clause-err
returns-in_err-text-clause-err g c =
    let p = err_from_is_err_and c.from_residual.result c.from_residual.ensures.1 in
    rw p.1 (_, sent_none (g.W.Sink.written c.args.writer.now) (check_text c.args.file.now c.args.number c.args.check.now))

pub returns-in_err-write_bytes-clause-err : goal.returns-in_err-write_bytes-clause-err
returns-in_err-write_bytes-clause-err g c =
    let p = err_from_is_err_and c.from_residual-in_err-write_bytes.result c.from_residual-in_err-write_bytes.ensures.1 in
    rw p.1 (subst (AppendsFront (g.W.Sink.written c.args.writer.now) (g.W.Sink.written c.write_bytes.new.writer))
    (c.as_slice.ensures.value ∙ c.in_ok-text.ensures) c.in_err-write_bytes.ensures.err)
