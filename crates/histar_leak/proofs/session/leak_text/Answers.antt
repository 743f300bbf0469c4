-- Proves the goals of `leak_text` of src/session.rt that the search leaves open.
use Rattle.std.proofs.Common.{◌≡◌, ◌∙◌}
use Rattle.histar_io.proofs.Residuals.{passed_on}
use Rattle.histar_trust.proofs.Runs.{begun_text, written_text}
use Rattle.histar_leak.specs.Session.{leak_before}
use Rattle.histar_leak.proofs.Runs.{unmade_text}
use Rattle.histar_leak.proofs.session.leak_text.Goals as goal

pub returns-in_err-lines-clause-runs : goal.returns-in_err-lines-clause-runs
returns-in_err-lines-clause-runs g c =
    rw (passed_on _ _ c.from_residual-in_err-lines.ensures.1) (unmade_text (leak_before c.args.at c.args.path.now) c.args.text.now _ _
    (rw c.in_err-lines.was at c.script_lines-shown.ensures))

pub returns-in_err-write_bytes-clause-runs : goal.returns-in_err-write_bytes-clause-runs
returns-in_err-write_bytes-clause-runs g c =
    let shown : c.as_slice.result.now ≡ leak_before c.args.at c.args.path.now c.in_ok-machine.ensures.script =
    c.as_slice.ensures.value
    ∙ (rw c.in_ok-lines.was at c.script_lines-shown.ensures) c.in_ok-machine.ensures.script c.in_ok-machine.ensures.is_read in
    rw (passed_on _ _ c.from_residual-in_err-write_bytes.ensures.1) (begun_text (leak_before c.args.at c.args.path.now) c.in_ok-machine.ensures _
    shown _ _ c.in_err-write_bytes.ensures.err)

pub returns-clause-runs : goal.returns-clause-runs
returns-clause-runs g c =
    let shown : c.as_slice.result.now ≡ leak_before c.args.at c.args.path.now c.in_ok-machine.ensures.script =
    c.as_slice.ensures.value
    ∙ (rw c.in_ok-lines.was at c.script_lines-shown.ensures) c.in_ok-machine.ensures.script c.in_ok-machine.ensures.is_read in
    written_text (leak_before c.args.at c.args.path.now) c.in_ok-machine.ensures _ shown _ _ c.in_ok-write_bytes.ensures.ok
