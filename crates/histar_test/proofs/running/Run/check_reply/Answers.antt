-- Proves the goals of `Run::check_reply` of src/running.rt that the search leaves open.
use Rattle.std.proofs.Common.{refl, sym, ◌∙◌}
use Rattle.histar_test.specs.declared.running.Run.{Run}
use Rattle.histar_test.proofs.RunLemmas.{after_err, after_ok, nothing_counted, nothing_written, text_begun, text_counted, text_written}
use Rattle.histar_test.proofs.running.Run.check_reply.Goals as goal

pub returns-in_default-clause-ok : goal.returns-in_default-clause-ok
returns-in_default-clause-ok g c =
    let old = c.args.self.now in
    let new : Run = record { strict = old.strict; watched = old.watched; last = c.take.new.self; tally = old.tally } in
    nothing_counted old new c.args.wanted (sym c.take.ensures.value ∙ c.in_default.is) refl refl c.take.ensures.after refl

pub returns-in_default-clause-written : goal.returns-in_default-clause-written
returns-in_default-clause-written g c =
    nothing_written c.args.file.now c.args.self.now c.args.wanted (g.W.Sink.written c.args.writer.now) (sym c.take.ensures.value ∙ c.in_default.is)

pub returns-clause-ok : goal.returns-clause-ok
returns-clause-ok g c =
    after_ok c.count_check.result
    (text_counted c.args.self.now c.count_check.new.self c.in-Some.made c.args.wanted c.take.new.self (sym c.take.ensures.value ∙ c.in-Some.is)
    c.take.ensures.after) c.count_check.ensures.ok

pub returns-clause-written : goal.returns-clause-written
returns-clause-written g c =
    after_ok c.count_check.result
    (text_written (g.W.Sink.written c.args.writer.now) (g.W.Sink.written c.count_check.new.writer) c.args.file.now
    c.args.self.now c.in-Some.made c.args.wanted (sym c.take.ensures.value ∙ c.in-Some.is))
    c.count_check.ensures.written

pub returns-clause-err : goal.returns-clause-err
returns-clause-err g c =
    after_err c.count_check.result
    (text_begun (g.W.Sink.written c.args.writer.now) (g.W.Sink.written c.count_check.new.writer) c.args.file.now
    c.args.self.now c.in-Some.made c.args.wanted (sym c.take.ensures.value ∙ c.in-Some.is))
    c.count_check.ensures.err
