-- Proves the goals of `answer_calls` of src/session.rt that the search leaves open.
use Rattle.std.proofs.Common.{sym, ◌∙◌, rules}
use Rattle.std.proofs.lemmas.List.{map-id}
use Rattle.std.proofs.lemmas.Iterator.Adapters.{YieldsList-from_vec}
use Rattle.std.proofs.lemmas.Iterator.Consumers.{YieldsList-so_far, YieldsList-turn}
use Rattle.histar_raw_session.proofs.CallsAnswered.{answers_more, begins_more, parts_at}
use Rattle.histar_raw_explain.proofs.Errors.{on_err}
use Rattle.histar_raw_explain.proofs.CallsExplained.{explains_more}
use Rattle.histar_raw_explain.proofs.SessionExplained.{whole_begins}
use Rattle.histar_raw_explain.proofs.session.answer_calls.Goals as goal

pub calls-preserved : goal.calls-preserved
calls-preserved g c = record {
  answered = answers_more _ _ _ _ _ _ c.calls.yielded c.in-Some.asked c.calls.invariant.answered c.in_ok-lines.ensures.answered;
  explained =
      rw (c.in_ok-extend_from_slice.ensures.items, c.as_slice.ensures.value)
      (explains_more _ _ _ c.calls.yielded c.in-Some.asked _ _ c.calls.invariant.explained
      c.in_ok-lines.ensures.explained);
  count = search rules;
}

pub returns-in_err-lines-clause-err : goal.returns-in_err-lines-clause-err
returns-in_err-lines-clause-err g c =
    let all = YieldsList-from_vec c.args.calls.items c.into_iter-asked-iterator.ensures.into_iter_gives.0 (search rules) in
    let so_far = YieldsList-so_far all c.calls.yielded c.calls.asked-iterator c.calls.yielded_by in
    let turn =
    YieldsList-turn all c.calls.yielded c.calls.asked-iterator c.calls.yielded_by c.next.result c.next.new.self
    c.in-Some.asked c.in-Some.is c.next.ensures.steps in
    let parts = parts_at c.args.calls.items c.calls.yielded c.in-Some.asked (sym (map-id c.calls.yielded) ∙ so_far) turn in
    on_err _ _ (begins_more _ _ _ _ _ _ c.args.calls.items c.calls.yielded _ c.in-Some.asked parts c.calls.invariant.answered
    c.in_err-lines.ensures.err)

pub returns-in_err-extend_from_slice-clause-err : goal.returns-in_err-extend_from_slice-clause-err
returns-in_err-extend_from_slice-clause-err g c =
    let all = YieldsList-from_vec c.args.calls.items c.into_iter-asked-iterator.ensures.into_iter_gives.0 (search rules) in
    let so_far = YieldsList-so_far all c.calls.yielded c.calls.asked-iterator c.calls.yielded_by in
    let turn =
    YieldsList-turn all c.calls.yielded c.calls.asked-iterator c.calls.yielded_by c.next.result c.next.new.self
    c.in-Some.asked c.in-Some.is c.next.ensures.steps in
    let parts = parts_at c.args.calls.items c.calls.yielded c.in-Some.asked (sym (map-id c.calls.yielded) ∙ so_far) turn in
    on_err _ _ (begins_more _ _ _ _ _ _ c.args.calls.items c.calls.yielded _ c.in-Some.asked parts c.calls.invariant.answered
    (whole_begins _ _ _ _ c.in-Some.asked c.in_ok-lines.ensures.answered))
