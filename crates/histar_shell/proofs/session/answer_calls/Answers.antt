-- Proves the goals of `answer_calls` of src/session.rt that the search leaves open.
use Rattle.std.proofs.Common.{sym, ◌∙◌, rules}
use Rattle.std.proofs.lemmas.List.{map-id}
use Rattle.std.proofs.lemmas.Result.{err_from_is_err_and}
use Rattle.std.proofs.lemmas.Iterator.Adapters.{YieldsList-from_vec}
use Rattle.std.proofs.lemmas.Iterator.Consumers.{YieldsList-so_far, YieldsList-turn}
use Rattle.histar_io.proofs.Residuals.{passed_on}
use Rattle.histar_shell.proofs.AnswerLemmas.{answers_more, begins_more, parts_at}
use Rattle.histar_shell.proofs.WantingMemory.{still_at_first, still_shows, wants_passed}
use Rattle.histar_shell.proofs.session.answer_calls.Goals as goal

pub calls-init : goal.calls-init
calls-init g c = record { answered = search rules; shows = still_at_first _; count = search rules }

pub calls-preserved : goal.calls-preserved
calls-preserved g c = record {
  answered = answers_more _ _ _ _ _ _ c.calls.yielded c.in-Some.call c.calls.invariant.answered c.in_ok-answer_by.ensures.ok;
  shows = still_shows _ _ _ c.calls.invariant.shows c.in_ok-answer_by.ensures.shows;
  count = search rules;
}

pub returns-in_err-answer_by-clause-memory : goal.returns-in_err-answer_by-clause-memory
returns-in_err-answer_by-clause-memory g c =
    wants_passed g.H.Heap.Refused _ _ _ _ (passed_on _ _ c.from_residual.ensures.1) c.calls.invariant.shows c.in_err-answer_by.ensures.memory

pub returns-in_err-answer_by-clause-err : goal.returns-in_err-answer_by-clause-err
returns-in_err-answer_by-clause-err g c =
    let p = err_from_is_err_and c.from_residual.result c.from_residual.ensures.1 in
    let gives = c.into_iter-call-iterator.ensures.into_iter_gives in
    let all = YieldsList-from_vec c.args.calls.items gives.0 (search rules) in
    let so_far = YieldsList-so_far all c.calls.yielded c.calls.call-iterator c.calls.yielded_by in
    let turn =
    YieldsList-turn all c.calls.yielded c.calls.call-iterator c.calls.yielded_by c.next.result c.next.new.self
    c.in-Some.call c.in-Some.is c.next.ensures.steps in
    let parts = parts_at c.args.calls.items c.calls.yielded c.in-Some.call (sym (map-id c.calls.yielded) ∙ so_far) turn in
    rw p.1 (begins_more _ _ _ _ _ _ c.args.calls.items c.calls.yielded _ c.in-Some.call parts c.calls.invariant.answered
    c.in_err-answer_by.ensures.err)
