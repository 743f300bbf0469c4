-- Proves the goals of `on_text` of `InternedRun` of src/session.rt that the search leaves open.
use Rattle.histar_io.proofs.Residuals.{passed_on}
use Rattle.histar_shell.proofs.CallRefinements.{calls_refine}
use Rattle.histar_shell.proofs.RunLemmas.{unbooted_text}
use Rattle.histar_shell.proofs.session.InternedRunCommand.on_text.Goals as goal

pub returns-in_err-store-clause-runs : goal.returns-in_err-store-clause-runs
returns-in_err-store-clause-runs g c =
    rw (passed_on _ _ c.from_residual.ensures.1) (unbooted_text c.args.self.options calls_refine c.args.text.items _)
