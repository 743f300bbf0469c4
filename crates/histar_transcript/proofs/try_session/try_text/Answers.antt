-- Proves the goals of `try_text` of src/try_session.rt that the search leaves open.
use Rattle.std.proofs.Common.{map}
use Rattle.histar_io.proofs.Residuals.{passed_on}
use Rattle.histar_transcript.proofs.Trying.{no_script}
use Rattle.histar_transcript.proofs.try_session.try_text.Goals as goal

pub returns-in_err-_script-clause-runs : goal.returns-in_err-_script-clause-runs
returns-in_err-_script-clause-runs g c =
    rw (passed_on _ _ c.from_residual.ensures.1)
    (no_script c.args.at (map (λ call. call.now) c.args.calls.now) c.args.text.now _ c.in_err-_script.field-0.0 c.in_err-_script.ensures.exact)
