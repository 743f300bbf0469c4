-- Proves the goals of `Run::take_steps` of src/running.rt that the search leaves open.
use Rattle.std.specs.Prelude.{OnErr, OnOk}
use Rattle.std.proofs.Common.{◌≡◌, List, None, sym, subst, ◌∙◌, refl, rules}
use Rattle.std.proofs.lemmas.List.{map-id}
use Rattle.std.proofs.lemmas.Result.{err_from_is_err_and}
use Rattle.std.proofs.lemmas.Iterator.Adapters.{YieldsList-from_vec}
use Rattle.std.proofs.lemmas.Iterator.Consumers.{YieldsList-end, YieldsList-so_far, YieldsList-turn}
use Rattle.histar_test.specs.declared.steps.Step.{Step}
use Rattle.histar_test.specs.Running.{BeginsSteps, TakesSteps}
use Rattle.histar_test.proofs.RunLemmas.{after_err, at_end, at_front, at_last, at_more, at_start, both_ok, parts_at, watched_now}
use Rattle.histar_test.proofs.running.Run.take_steps.Goals as goal

pub steps-init : goal.steps-init
steps-init g c = record { come = at_start c.args.file.now c.args.self.now (g.W.Sink.written c.args.writer.now); count = refl }

pub take_step-requires : goal.take_step-requires
take_step-requires g c = watched_now c.steps.invariant.come c.requires

pub steps-preserved : goal.steps-preserved
steps-preserved g c = record {
  come = at_more _ c.steps.invariant.come c.in_ok-take_step.ensures.ok c.in_ok-take_step.ensures.written;
  count = search rules;
}

pub returns-in_err-take_step-clause-err : goal.returns-in_err-take_step-clause-err
returns-in_err-take_step-clause-err g c =
    let p = err_from_is_err_and c.from_residual.result c.from_residual.ensures.1 in
    let all = YieldsList-from_vec c.args.steps.items c.into_iter-step-iterator.ensures.into_iter_gives.0 (search rules) in
    let so_far = YieldsList-so_far all c.steps.yielded c.steps.step-iterator c.steps.yielded_by in
    let turn = YieldsList-turn all c.steps.yielded c.steps.step-iterator c.steps.yielded_by c.next.result c.next.new.self c.in-Some.step c.in-Some.is
    c.next.ensures.steps in
    let parts = parts_at c.args.steps.items c.steps.yielded c.in-Some.step (sym (map-id c.steps.yielded) ∙ so_far) turn in
    rw p.1 (at_front c.in-Some.step c.args.steps.items _ _ parts c.steps.invariant.come c.in_err-take_step.ensures.err)

pub returns-clause-ok : goal.returns-clause-ok
returns-clause-ok g c =
    let none : c.next.result ≡ None = search rules in
    let steps = c.args.steps.items in
    let yields = YieldsList-from_vec steps c.into_iter-step-iterator.ensures.into_iter_gives.0 (search rules) in
    let end = YieldsList-end yields c.steps.yielded c.steps.step-iterator c.steps.yielded_by c.next.result c.next.new.self none
    c.next.ensures.steps in
    let all = sym (map-id c.steps.yielded) ∙ end.0 in
    subst (λ (steps : List Step). OnOk c.close.result (TakesSteps c.args.file.now c.args.self.now c.close.new.self steps
    (g.W.Sink.written c.args.writer.now) (g.W.Sink.written c.close.new.writer))) all
    (both_ok c.close.result (at_end _ c.steps.invariant.come) c.close.ensures.ok c.close.ensures.written)

pub returns-clause-err : goal.returns-clause-err
returns-clause-err g c =
    let none : c.next.result ≡ None = search rules in
    let steps = c.args.steps.items in
    let yields = YieldsList-from_vec steps c.into_iter-step-iterator.ensures.into_iter_gives.0 (search rules) in
    let end = YieldsList-end yields c.steps.yielded c.steps.step-iterator c.steps.yielded_by c.next.result c.next.new.self none
    c.next.ensures.steps in
    let all = sym (map-id c.steps.yielded) ∙ end.0 in
    subst (λ (steps : List Step). OnErr c.close.result (BeginsSteps c.args.file.now c.args.self.now steps
    (g.W.Sink.written c.args.writer.now) (g.W.Sink.written c.close.new.writer))) all
    (after_err c.close.result (at_last _ c.steps.invariant.come) c.close.ensures.err)
