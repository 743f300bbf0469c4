-- Proves the goals of `answer_calls` of src/session.rt that the search leaves open.
use Rattle.std.proofs.Common.{refl, sym, ◌∙◌, rules}
use Rattle.std.proofs.lemmas.List.{map-id}
use Rattle.std.proofs.lemmas.Iterator.Adapters.{YieldsList-from_vec}
use Rattle.std.proofs.lemmas.Iterator.Consumers.{YieldsList-so_far, YieldsList-turn}
use Rattle.histar_shell.proofs.AnswerLemmas.{parts_at}
use Rattle.histar_raw_explain.proofs.Errors.{on_err}
use Rattle.histar_why.proofs.Turns.{calls_begin, logs_more, logs_none}
use Rattle.histar_why.proofs.session.answer_calls.Goals as goal

pub calls-init : goal.calls-init
calls-init g c = record { logged = rw (c.requires.text, c.requires.births) (logs_none _ _); count = refl }

pub calls-preserved : goal.calls-preserved
calls-preserved g c = record {
  logged = logs_more _ _ _ _ _ _ c.calls.yielded c.in-Some.call _ _ c.calls.invariant.logged c.in_ok-answer_and_log.ensures.ok;
  count = search rules;
}

pub returns-in_err-answer_and_log-clause-err : goal.returns-in_err-answer_and_log-clause-err
returns-in_err-answer_and_log-clause-err g c =
    let gives = c.into_iter-call-iterator.ensures.into_iter_gives in
    let all = YieldsList-from_vec c.args.calls.items gives.0 (search rules) in
    let so_far = YieldsList-so_far all c.calls.yielded c.calls.call-iterator c.calls.yielded_by in
    let turn =
    YieldsList-turn all c.calls.yielded c.calls.call-iterator c.calls.yielded_by c.next.result c.next.new.self
    c.in-Some.call c.in-Some.is c.next.ensures.steps in
    let parts = parts_at c.args.calls.items c.calls.yielded c.in-Some.call (sym (map-id c.calls.yielded) ∙ so_far) turn in
    on_err _ _ (calls_begin _ _ _ _ _ _ c.args.calls.items c.calls.yielded _ c.in-Some.call parts c.calls.invariant.logged.answered
    c.in_err-answer_and_log.ensures.err)
