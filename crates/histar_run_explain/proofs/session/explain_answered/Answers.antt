-- Proves the goals of `explain_answered` of src/session.rt that the search leaves open.
use Rattle.std.proofs.Common.{◌∙◌}
use Rattle.std.proofs.lemmas.Result.{on_ok_weaker}
use Rattle.histar_syscall.specs.KernelModel.{state}
use Rattle.histar_names.specs.Births.{births_after}
use Rattle.histar_run_explain.proofs.session.explain_answered.Goals as goal

pub returns-clause-explained : goal.returns-clause-explained
returns-clause-explained g c = rw c.explain_line.ensures.births c.explain_line.ensures.explained

pub returns-clause-births : goal.returns-clause-births
returns-clause-births g c =
    on_ok_weaker c.explain_line.result
    (λ explained. c.explain_line.ensures.births ∙ c.in_ok-note_births.ensures
    ∙ (λ i. births_after (state (c.kernel.ensures i)) (c.roots.ensures i) c.args.clue.now.caller c.args.explainer.now.births.items))
    c.explain_line.ensures.ends
