-- Proves the goals of `answer_and_explain` of src/session.rt that the search leaves open.
use Rattle.histar_raw_explain.proofs.Errors.{on_err}
use Rattle.histar_raw_explain.proofs.CallsExplained.{one_explained}
use Rattle.histar_raw_explain.proofs.SessionExplained.{whole_begins}
use Rattle.histar_raw_explain.proofs.session.answer_and_explain.Goals as goal

pub returns-in_err-explain_last-clause-err : goal.returns-in_err-explain_last-clause-err
returns-in_err-explain_last-clause-err g c = on_err _ _ (whole_begins _ _ _ _ c.args.asked c.in_ok-answer_call.ensures.ok)

pub returns-clause-explained : goal.returns-clause-explained
returns-clause-explained g c =
    one_explained c.args.kernel.now c.answer_call.new.kernel c.args.asked c.in_ok-explain_last.field-0.items
    c.in_ok-answer_call.ensures.made c.in_ok-explain_last.ensures
