-- Proves the goals of `compare_texts` of src/changes.rt that the search leaves open.
use Rattle.std.proofs.Common.{subst, sym}
use Rattle.histar_io.proofs.Residuals.{passed_on}
use Rattle.histar_access.specs.Diff.{IsTextBetween, IsTextOfChanges}
use Rattle.histar_access.proofs.Comparing.{none_written, text_begun, text_written}
use Rattle.histar_access.proofs.changes.compare_texts.Goals as goal

pub returns-in_err-write_bytes-clause-runs : goal.returns-in_err-write_bytes-clause-runs
returns-in_err-write_bytes-clause-runs g c =
    let old = c.args.old.now in
    let new = c.args.new.now in
    let lines = c.as_slice-lines.result.now in
    let is = subst (IsTextBetween (IsTextOfChanges c.args.options) old new) (sym c.as_slice-lines.ensures.value) c.in_ok-text.ensures in
    rw (passed_on _ _ c.from_residual-in_err-write_bytes.ensures.1)
    (text_begun c.args.options old new lines is _ _ c.in_err-write_bytes.ensures.err)

pub returns-clause-runs : goal.returns-clause-runs
returns-clause-runs g c =
    let old = c.args.old.now in
    let new = c.args.new.now in
    let lines = c.as_slice-lines.result.now in
    let is = subst (IsTextBetween (IsTextOfChanges c.args.options) old new) (sym c.as_slice-lines.ensures.value) c.in_ok-text.ensures in
    text_written c.args.options old new lines is _ _ c.is_empty.result (none_written lines c.is_empty.result c.is_empty.ensures)
    c.in_ok-write_bytes.ensures.ok
