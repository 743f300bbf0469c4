-- Proves the goals of `InternStore::answer` of src/intern_store.rt that the search leaves open.
use Rattle.std.proofs.Common.{◌≡◌, Some, sym, arith}
use mathlib.Core.Bool.{false≢true}
use Rattle.std.specs.List.{slice_get}
use Rattle.std.proofs.lemmas.Bool.Decides.{nat_tests}
use Rattle.histar_label.specs.Store.{label_at}
use Rattle.histar_label.specs.declared.comparisons.Question.TheVariants.{Floor}
use Rattle.histar_label.proofs.Interned.{is_below_own_join}
use Rattle.std.specs.Prelude.{IfSome}
use Rattle.std.proofs.lemmas.List.Elements.{All-contains}
use Rattle.histar_label.specs.InternStore.{IsRight}
use Rattle.histar_label.proofs.intern_store.InternStore.answer.Goals as goal

pub returns-then-ne-clause-answer : goal.returns-then-ne-clause-answer
returns-then-ne-clause-answer c =
    let same : c.args.comparison.own ≡ c.args.comparison.first = grind (arith, nat_tests, c.eq.ensures, c.if-eq.ensures) in
    let other : c.args.comparison.question ≡ Floor → ⊥ = λ is. false≢true (sym (rw is at c.if-ne.ensures)) in
    sym (rw same (is_below_own_join (label_at (slice_get c.args.self.now) c.args.comparison.first)
    (label_at (slice_get c.args.self.now) c.args.comparison.second) c.args.comparison.question other))

pub returns-in-Some-clause-answer : goal.returns-in-Some-clause-answer
returns-in-Some-clause-answer c =
    let there = rw c.deref.ensures.value at c.in-Some.ensures in
    let right =
    All-contains (λ o. IfSome o (λ e. IsRight c.self.inside.labels.keys e.0 e.1)) c.self.inside.at_hand.items
    (Some (c.args.comparison, c.in-Some.answer)) c.self.invariant.right_at_hand there in
    rw (← c.self.view_is) right.right
