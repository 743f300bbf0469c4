-- Proves the goals of `Run::check_claims` of src/running.rt that the search leaves open.
use Rattle.std.proofs.Common.{ap, sym, ◌∙◌, refl, rules}
use Rattle.std.proofs.lemmas.List.{map-id}
use Rattle.std.proofs.lemmas.Result.{err_from_is_err_and}
use Rattle.std.proofs.lemmas.Iterator.Adapters.{YieldsList-from_vec}
use Rattle.std.proofs.lemmas.Iterator.Consumers.{YieldsList-so_far, YieldsList-turn}
use Rattle.histar_io.proofs.WritingLemmas.{sent_none}
use Rattle.std.specs.Global.{Vec}
use Rattle.histar_test.specs.declared.watching.Watch.{Watch}
use Rattle.histar_test.specs.Watching.{watch_check}
use Rattle.histar_test.proofs.RunLemmas.{parts_at}
use Rattle.histar_test.proofs.TestLemmas.{counted_front, counted_more, none_counted}
use Rattle.histar_test.proofs.running.Run.check_claims.Goals as goal

pub claims-init : goal.claims-init
claims-init g c = record { counted = none_counted c.args.file.now c.args.self.now.tally (g.W.Sink.written c.args.writer.now); count = refl }

pub claims-preserved : goal.claims-preserved
claims-preserved g c = record {
  counted = counted_more c.claims.invariant.counted c.in-Some.watch c.in_ok-check.check _ _ c.in_ok-check.ensures
      c.in_ok-count_check.ensures.written c.in_ok-count_check.ensures.ok.tally;
  count = search rules;
}

pub returns-in_err-check-clause-err : goal.returns-in_err-check-clause-err
returns-in_err-check-clause-err g c =
    let p = err_from_is_err_and c.from_residual.result c.from_residual.ensures.1 in
    let watches = c.replace-watches.result.items in
    let all = YieldsList-from_vec watches c.into_iter-watch-iterator.ensures.into_iter_gives.0 (search rules) in
    let so_far = YieldsList-so_far all c.claims.yielded c.claims.watch-iterator c.claims.yielded_by in
    let turn = YieldsList-turn all c.claims.yielded c.claims.watch-iterator c.claims.yielded_by c.next.result c.next.new.self c.in-Some.watch
    c.in-Some.is c.next.ensures.steps in
    let parts = parts_at watches c.claims.yielded c.in-Some.watch (sym (map-id c.claims.yielded) ∙ so_far) turn in
    let whole = ap (λ (v : Vec Watch). v.items) (sym c.replace-watches.ensures.value) ∙ parts in
    rw p.1
    (counted_front c.claims.invariant.counted c.in-Some.watch c.args.self.now.watched.watches.items _ (watch_check c.in-Some.watch) _ whole
    refl (_, sent_none _ _))

pub returns-in_err-count_check-clause-err : goal.returns-in_err-count_check-clause-err
returns-in_err-count_check-clause-err g c =
    let p = err_from_is_err_and c.from_residual-in_err-count_check.result c.from_residual-in_err-count_check.ensures.1 in
    let watches = c.replace-watches.result.items in
    let all = YieldsList-from_vec watches c.into_iter-watch-iterator.ensures.into_iter_gives.0 (search rules) in
    let so_far = YieldsList-so_far all c.claims.yielded c.claims.watch-iterator c.claims.yielded_by in
    let turn = YieldsList-turn all c.claims.yielded c.claims.watch-iterator c.claims.yielded_by c.next.result c.next.new.self c.in-Some.watch
    c.in-Some.is c.next.ensures.steps in
    let parts = parts_at watches c.claims.yielded c.in-Some.watch (sym (map-id c.claims.yielded) ∙ so_far) turn in
    let whole = ap (λ (v : Vec Watch). v.items) (sym c.replace-watches.ensures.value) ∙ parts in
    rw p.1 (counted_front c.claims.invariant.counted c.in-Some.watch c.args.self.now.watched.watches.items _ c.in_ok-check.check _ whole
    c.in_ok-check.ensures c.in_err-count_check.ensures.err)
