-- Proves the goals of `trust_text` of src/session.rt that the search leaves open.
use Rattle.std.proofs.Common.{◌≡◌, ◌∙◌, refl}
use Rattle.histar_io.proofs.Residuals.{passed_on}
use Rattle.histar_prefix.specs.Prefix.{state_before}
use Rattle.histar_trust.specs.Session.{text_before}
use Rattle.histar_trust.proofs.Runs.{begun_text, has_state, shows_reached, unwritten_text, written_text}
use Rattle.histar_trust.proofs.session.trust_text.Goals as goal

pub trust_lines-shown-requires : goal.trust_lines-shown-requires
trust_lines-shown-requires g c = has_state c.args.options.at c.args.text.now c.in_ok-machine.machine c.in_ok-machine.ensures

pub returns-in_err-lines-clause-nothing : goal.returns-in_err-lines-clause-nothing
returns-in_err-lines-clause-nothing g c =
    rw (passed_on _ _ c.from_residual-in_err-lines.ensures.1) tt

pub returns-in_err-lines-clause-reads : goal.returns-in_err-lines-clause-reads
returns-in_err-lines-clause-reads g c =
    rw (passed_on _ _ c.from_residual-in_err-lines.ensures.1) refl

pub returns-in_err-lines-clause-writes : goal.returns-in_err-lines-clause-writes
returns-in_err-lines-clause-writes g c =
    rw (passed_on _ _ c.from_residual-in_err-lines.ensures.1) refl

pub returns-in_err-lines-clause-runs : goal.returns-in_err-lines-clause-runs
returns-in_err-lines-clause-runs g c =
    rw (passed_on _ _ c.from_residual-in_err-lines.ensures.1) (unwritten_text (text_before c.args.options c.args.path.now) c.args.text.now _)

pub returns-in_err-write_bytes-clause-nothing : goal.returns-in_err-write_bytes-clause-nothing
returns-in_err-write_bytes-clause-nothing g c =
    rw (passed_on _ _ c.from_residual-in_err-write_bytes.ensures.1) tt

pub returns-in_err-write_bytes-clause-reads : goal.returns-in_err-write_bytes-clause-reads
returns-in_err-write_bytes-clause-reads g c =
    rw (passed_on _ _ c.from_residual-in_err-write_bytes.ensures.1) refl

pub returns-in_err-write_bytes-clause-writes : goal.returns-in_err-write_bytes-clause-writes
returns-in_err-write_bytes-clause-writes g c =
    rw (passed_on _ _ c.from_residual-in_err-write_bytes.ensures.1) c.in_err-write_bytes.ensures.count

pub returns-in_err-write_bytes-clause-runs : goal.returns-in_err-write_bytes-clause-runs
returns-in_err-write_bytes-clause-runs g c =
    let shown : c.as_slice.result.now ≡ text_before c.args.options c.args.path.now c.in_ok-machine.ensures.script =
    c.as_slice.ensures.value
    ∙ (rw c.in_ok-lines.was at c.trust_lines-shown.ensures) c.in_ok-machine.ensures.script.accounts
    (state_before c.args.options.at c.in_ok-machine.ensures.script)
    (shows_reached c.args.options.at c.args.text.now c.in_ok-machine.machine c.in_ok-machine.ensures) in
    rw (passed_on _ _ c.from_residual-in_err-write_bytes.ensures.1) (begun_text (text_before c.args.options c.args.path.now) c.in_ok-machine.ensures _
    shown _ _ c.in_err-write_bytes.ensures.err)

pub returns-clause-runs : goal.returns-clause-runs
returns-clause-runs g c =
    let shown : c.as_slice.result.now ≡ text_before c.args.options c.args.path.now c.in_ok-machine.ensures.script =
    c.as_slice.ensures.value
    ∙ (rw c.in_ok-lines.was at c.trust_lines-shown.ensures) c.in_ok-machine.ensures.script.accounts
    (state_before c.args.options.at c.in_ok-machine.ensures.script)
    (shows_reached c.args.options.at c.args.text.now c.in_ok-machine.machine c.in_ok-machine.ensures) in
    written_text (text_before c.args.options c.args.path.now) c.in_ok-machine.ensures _ shown _ _ c.in_ok-write_bytes.ensures.ok
