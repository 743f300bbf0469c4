-- Proves the goals of `explain_outcome` of src/replaying.rt that the search leaves open.
use Rattle.histar_syscall.specs.KernelModel.{state}
use Rattle.histar_run_explain.proofs.Replays.{denied_adds, granted_adds}
use Rattle.histar_run_explain.proofs.replaying.explain_outcome.Goals as goal

pub returns-in_default : goal.returns-in_default
returns-in_default g c =
    granted_adds (g.V.Wording.words c.args.words.now) (state c.args.kernel.now) c.args.entry.now c.args.text.now.items
    c.in_default.is

pub returns : goal.returns
returns g c =
    denied_adds (g.V.Wording.words c.args.words.now) (state c.args.kernel.now) c.args.entry.now c.in-Some.denied
    c.in_ok-explanation.explanation c.in-Some.is c.in_ok-explanation.ensures c.push_explanation.result
    c.args.text.now.items
    c.push_explanation.new.text.items c.push_explanation.ensures
