-- Proves the goals of `test` of src/session.rt that the search leaves open.
use Rattle.std.proofs.Common.{Bool, false, subst, sym, true}
use Rattle.histar_test.specs.Session.{TestsFiles}
use Rattle.histar_test.proofs.FileLemmas.{files_tested}
use Rattle.histar_test.proofs.session.test.Goals as goal

pub returns-then-strict-clause-tests : goal.returns-then-strict-clause-tests
returns-then-strict-clause-tests g c =
    let r = c.report_strictly in
    let old = g.W.Sink.written c.args.writer.now in
    let new = g.W.Sink.written r.new.writer in
    subst (λ (strict : Bool). TestsFiles strict c.args.files.now old new r.result) (sym c.if-strict.true)
    (files_tested true r.result c.args.files.now c.in_ok-total.ensures.each
    (record { written = r.ensures.ok; met = r.ensures.met; begun = r.ensures.err; faults = r.ensures.faults }))

pub returns-clause-tests : goal.returns-clause-tests
returns-clause-tests g c =
    let r = c.report in
    let old = g.W.Sink.written c.args.writer.now in
    let new = g.W.Sink.written r.new.writer in
    subst (λ (strict : Bool). TestsFiles strict c.args.files.now old new r.result) (sym c.if-strict.false)
    (files_tested false r.result c.args.files.now c.in_ok-total.ensures.each
    (record { written = r.ensures.ok; met = r.ensures.met; begun = r.ensures.err; faults = r.ensures.faults }))
