-- Proves the goals of `Run::check_asked` of src/running.rt that the search leaves open.
use Rattle.std.proofs.lemmas.Result.{err_from_is_err_and}
use Rattle.histar_test.proofs.RunLemmas.{after_err, after_ok, rights_begun, rights_taken, rights_unwritten, rights_written}
use Rattle.histar_test.proofs.running.Run.check_asked.Goals as goal

pub returns-in_err-check-clause-err : goal.returns-in_err-check-clause-err
returns-in_err-check-clause-err g c =
    let p = err_from_is_err_and c.from_residual.result c.from_residual.ensures.1 in
    rw p.1 (rights_unwritten c.args.file.now c.args.self.now c.args.asking (g.W.Sink.written c.args.writer.now))

pub returns-clause-ok : goal.returns-clause-ok
returns-clause-ok g c =
    after_ok c.count_check.result
    (rights_taken c.args.self.now c.count_check.new.self c.args.asking c.in_ok-check.check c.in_ok-check.ensures) c.count_check.ensures.ok

pub returns-clause-written : goal.returns-clause-written
returns-clause-written g c =
    after_ok c.count_check.result
    (rights_written (g.W.Sink.written c.args.writer.now) (g.W.Sink.written c.count_check.new.writer) c.args.file.now
    c.args.self.now c.args.asking c.in_ok-check.check c.in_ok-check.ensures) c.count_check.ensures.written

pub returns-clause-err : goal.returns-clause-err
returns-clause-err g c =
    after_err c.count_check.result
    (rights_begun (g.W.Sink.written c.args.writer.now) (g.W.Sink.written c.count_check.new.writer) c.args.file.now
    c.args.self.now c.args.asking c.in_ok-check.check c.in_ok-check.ensures) c.count_check.ensures.err
