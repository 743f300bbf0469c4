-- Proves the goals of `diff` of src/changes.rt that the search leaves open.
use Rattle.std.proofs.Common.{ℕ, List, subst}
use Rattle.histar_io.proofs.Residuals.{passed_on}
use Rattle.histar_script.specs.Outcome.{input_fault}
use Rattle.histar_script.proofs.Sinks.{sink_left}
use Rattle.histar_access.specs.Diff.{ComparesTexts}
use Rattle.histar_access.proofs.Comparing.{compares_taken, inputs_known, new_fails, none_fails, old_fails, stops_at_new, stops_at_old}
use Rattle.histar_access.proofs.changes.diff.Goals as goal

pub returns-in_err-old-clause-nothing : goal.returns-in_err-old-clause-nothing
returns-in_err-old-clause-nothing g c =
    rw (passed_on _ _ c.from_residual.ensures.1) (sink_left c.args.writer.now (input_fault c.in_err-old.field-0.0))

pub returns-in_err-old-clause-reads : goal.returns-in_err-old-clause-reads
returns-in_err-old-clause-reads g c =
    rw (passed_on _ _ c.from_residual.ensures.1) (old_fails c.in_err-old.field-0.0 _ _ _ c.in_err-old.ensures.count)

pub returns-in_err-old-clause-runs : goal.returns-in_err-old-clause-runs
returns-in_err-old-clause-runs g c =
    rw (passed_on _ _ c.from_residual.ensures.1) (stops_at_old c.args.options c.in_err-old.field-0.0 _ _ _ _ c.in_err-old.ensures.err)

pub returns-in_err-old-clause-known : goal.returns-in_err-old-clause-known
returns-in_err-old-clause-known g c = inputs_known c.args.options _ _ _ _ _ _ (returns-in_err-old-clause-runs g c)

pub returns-in_err-new-clause-nothing : goal.returns-in_err-new-clause-nothing
returns-in_err-new-clause-nothing g c =
    rw (passed_on _ _ c.from_residual-in_err-new.ensures.1) (sink_left c.args.writer.now (input_fault c.in_err-new.field-0.0))

pub returns-in_err-new-clause-reads : goal.returns-in_err-new-clause-reads
returns-in_err-new-clause-reads g c =
    rw (passed_on _ _ c.from_residual-in_err-new.ensures.1) (new_fails c.in_err-new.field-0.0 _ _ _ _ c.in_ok-old.ensures.count
    c.in_err-new.ensures.count)

pub returns-in_err-new-clause-runs : goal.returns-in_err-new-clause-runs
returns-in_err-new-clause-runs g c =
    rw (passed_on _ _ c.from_residual-in_err-new.ensures.1) (stops_at_new c.args.options c.in_err-new.field-0.0 _ _ _ _ c.in_ok-old.ensures.ok
    c.in_err-new.ensures.err)

pub returns-in_err-new-clause-known : goal.returns-in_err-new-clause-known
returns-in_err-new-clause-known g c = inputs_known c.args.options _ _ _ _ _ _ (returns-in_err-new-clause-runs g c)

pub returns-clause-reads : goal.returns-clause-reads
returns-clause-reads g c = none_fails _ _ _ _ _ c.in_ok-old.ensures.count c.in_ok-new.ensures.count c.compare_texts.ensures.reads

pub returns-clause-runs : goal.returns-clause-runs
returns-clause-runs g c =
    compares_taken c.args.options _ _ _ _ c.compare_texts.result
    (record {
      old_taken = c.in_ok-old.old.items;
      takes_old = c.in_ok-old.ensures.ok;
      new_taken = c.in_ok-new.new.items;
      takes_new = c.in_ok-new.ensures.ok;
      compares = subst
          (λ (texts : List ℕ × List ℕ). ComparesTexts c.args.options texts.0 texts.1 (g.W.Sink.written c.args.writer.now)
          (g.W.Sink.written c.compare_texts.new.writer) c.compare_texts.result)
          (λ i. (c.as_slice.ensures.value i, c.as_slice-2.ensures.value i)) c.compare_texts.ensures.runs;
    })
    c.compare_texts.ensures.reads

pub returns-clause-known : goal.returns-clause-known
returns-clause-known g c = inputs_known c.args.options _ _ _ _ _ _ (returns-clause-runs g c)
