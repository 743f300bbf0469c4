-- Proves the goals of `Run::close` of src/running.rt that the search leaves open.
use Rattle.std.proofs.Common.{ap, subst, sym, ◌∙◌}
use Rattle.histar_io.specs.Writing.{AppendsFront}
use Rattle.histar_test.specs.Checks.{unexpected}
use Rattle.histar_test.proofs.RunLemmas.{after_err, closing_lines}
use Rattle.histar_test.proofs.running.Run.close.Goals as goal

pub returns-clause-err : goal.returns-clause-err
returns-clause-err g c =
    let old = c.args.self.now in
    let is = ap (unexpected old.strict) (sym c.take-last.ensures.value) ∙ sym c.unexpected.ensures ∙ c.in-Some.is in
    after_err c.count_check.result
    (subst (AppendsFront (g.W.Sink.written c.args.writer.now) (g.W.Sink.written c.count_check.new.writer))
    (closing_lines c.args.file.now old c.in-Some.check is)) c.count_check.ensures.err
