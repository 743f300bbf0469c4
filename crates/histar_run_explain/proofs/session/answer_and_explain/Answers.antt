-- Proves the goals of `answer_and_explain` of src/session.rt that the search leaves open.
use Rattle.std.proofs.Common.{◌≤◌, length, refl, sym, ap, ◌∙◌, subst}
use Rattle.histar_syscall.specs.KernelModel.{state}
use Rattle.histar_raw_explain.proofs.Errors.{on_err}
use Rattle.histar_names.specs.declared.clues.Clue.{Clue}
use Rattle.histar_names.specs.Births.{births_after}
use Rattle.histar_run_explain.proofs.Turns.{grown, runs_on, same_end, line_said, line_begins}
use Rattle.histar_run_explain.proofs.session.answer_and_explain.Goals as goal

pub explain_answered-requires-clause-within : goal.explain_answered-requires-clause-within
explain_answered-requires-clause-within g c =
    subst (λ n. n ≤ length c.answer_call.new.machine.kernel.trace) (sym (c.len-before.ensures ∙ ap length c.trace.ensures))
    (grown c.args.machine.now c.answer_call.new.machine _ _ c.args.call c.in_ok-answer_call.ensures.ok _ refl)

pub explain_answered-requires-clause-run : goal.explain_answered-requires-clause-run
explain_answered-requires-clause-run g c =
    runs_on c.args.machine.now c.answer_call.new.machine _ _ c.args.call c.in_ok-answer_call.ensures.ok _ refl _
    (c.len-before.ensures ∙ ap length c.trace.ensures) _ c.requires

pub returns-in_err-explain_answered-clause-err : goal.returns-in_err-explain_answered-clause-err
returns-in_err-explain_answered-clause-err g c = on_err _ _ (line_begins _ _ _ _ c.args.call c.in_ok-answer_call.ensures.ok)

pub returns-clause-ok : goal.returns-clause-ok
returns-clause-ok g c =
    let adds = c.in_ok-explain_answered.ensures.explained in (
      adds.0,
      adds.1,
      line_said c.args.machine.now c.answer_call.new.machine _ _ c.args.call c.in_ok-answer_call.ensures.ok _ refl _
          (c.len-before.ensures ∙ ap length c.trace.ensures) _ c.requires _ c.clue_of-clue.result _ adds.0 c.clue_of-clue.ensures
          c.in_ok-explain_answered.ensures.ends adds.2,
    )

pub returns-clause-births : goal.returns-clause-births
returns-clause-births g c =
    c.in_ok-explain_answered.ensures.births
    ∙ ap (λ (clue : Clue).
    births_after (state c.answer_call.new.machine.kernel) c.answer_call.new.machine.roots clue.caller
    c.args.explainer.now.births.items) c.clue_of-clue.ensures

pub returns-clause-same : goal.returns-clause-same
returns-clause-same g c =
    same_end c.args.machine.now c.answer_call.new.machine _ _ c.args.call c.in_ok-answer_call.ensures.ok _ refl _
    (c.len-before.ensures ∙ ap length c.trace.ensures) _ c.requires _ c.in_ok-explain_answered.ensures.ends
