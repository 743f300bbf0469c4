-- Proves the goals of `Run::count_check` of src/running.rt that the search leaves open.
use Rattle.std.proofs.Common.{◌≡◌, ◌+◌, subst, rules}
use Rattle.std.specs.Prelude.{ℕ}
use Rattle.std.specs.Io.KnownBytes.{Appends}
use Rattle.std.proofs.lemmas.Result.{err_from_is_err_and}
use Rattle.histar_io.specs.Writing.{AppendsFront}
use Rattle.histar_io.proofs.WritingLemmas.{sent_none}
use Rattle.histar_test.specs.Checks.{check_text}
use Rattle.histar_test.proofs.running.Run.count_check.Goals as goal

pub returns-in_default-clause-err : goal.returns-in_default-clause-err
returns-in_default-clause-err g c = (_, sent_none (g.W.Sink.written c.args.writer.now) _)

pub returns-in_err-write_check-clause-err : goal.returns-in_err-write_check-clause-err
returns-in_err-write_check-clause-err g c =
    let p = err_from_is_err_and c.from_residual.result c.from_residual.ensures.1 in
    let number : c.in-Some.number ≡ c.args.self.now.tally.count + 1 = search rules in
    rw p.1 (subst (λ (n : ℕ). AppendsFront (g.W.Sink.written c.args.writer.now) (g.W.Sink.written c.write_check.new.writer)
    (check_text c.args.file.now n c.args.check.now)) number c.in_err-write_check.ensures.err)

pub returns-clause-written : goal.returns-clause-written
returns-clause-written g c =
    let number : c.in-Some.number ≡ c.args.self.now.tally.count + 1 = search rules in
    subst (λ (n : ℕ). Appends (g.W.Sink.written c.args.writer.now) (g.W.Sink.written c.write_check.new.writer)
    (check_text c.args.file.now n c.args.check.now)) number c.in_ok-write_check.ensures.ok
