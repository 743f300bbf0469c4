-- Proves the goals of `split_steps` of src/watching.rt that the search leaves open.
use Rattle.std.proofs.Common.{◌≡◌, List, None, sym, subst, ◌∙◌, rules}
use Rattle.std.proofs.lemmas.List.{map-id}
use Rattle.std.proofs.lemmas.Iterator.Adapters.{YieldsList-from_vec}
use Rattle.std.proofs.lemmas.Iterator.Consumers.{YieldsList-end}
use Rattle.histar_test.specs.declared.steps.Step.{Step}
use Rattle.histar_test.specs.Running.{AreSplit}
use Rattle.histar_test.proofs.TestLemmas.{none_split, split_more}
use Rattle.histar_test.proofs.watching.split_steps.Goals as goal

pub steps-init : goal.steps-init
steps-init c = record { split = search (rules, none_split) }

pub steps-preserved : goal.steps-preserved
steps-preserved c = record { split = split_more c.in-Some.step _ _ c.steps.invariant.split c.in_ok-split_step.ensures }

pub returns : goal.returns
returns c =
    let none : c.next.result ≡ None = search rules in
    let steps = c.args.steps.items in
    let yields = YieldsList-from_vec steps c.into_iter-step-iterator.ensures.into_iter_gives.0 (search rules) in
    let end = YieldsList-end yields c.steps.yielded c.steps.step-iterator c.steps.yielded_by c.next.result c.next.new.self none
    c.next.ensures.steps in
    subst (λ (s : List Step). AreSplit s c.steps.taken.items c.steps.watches.items) (sym (map-id c.steps.yielded) ∙ end.0) c.steps.invariant.split
