-- The answers that are remembered after a look-up or a put.
use Rattle.std.proofs.Common.{◌≡◌, Bool, true, List, Contains, ◌⊎◌, inl, inr, Option, Some, None, Result, Ok, Err, OnOk, OnErr, IfSome, ◌&&◌, rules}
use Rattle.std.proofs.Common.{sym, subst, arith}
use Rattle.std.specs.Prelude.{◌==◌}
use denote.Enum.Bare.{sameb, same_true}
use Rattle.std.proofs.lemmas.Bool.Decides.{nat_tests}
use Rattle.std.specs.Map.{lookup}
use Rattle.lru.specs.LruCache.{LruCache, lru_cache, put_entries}
use Rattle.lru.proofs.CallerLemmas.{Contains-put_entries, Contains-lookup}
use Rattle.histar_label.specs.contracts.comparisons.Question.{the_type}
use Rattle.histar_label.specs.declared.comparisons.Comparison.{Comparison}
use Rattle.histar_level.proofs.Equality.{both_true}

-- the test of two comparisons that `derive` makes
abbrev pub is_same_comparison : Comparison → Comparison → Bool
is_same_comparison c d =
    sameb the_type c.question d.question && ((c.own == d.own) && ((c.first == d.first) && (c.second == d.second)))

-- comparisons that pass the test are equal
pub same_comparison : (c d : Comparison) → is_same_comparison c d ≡ true → d ≡ c
same_comparison c d h =
    let one = both_true (sameb the_type c.question d.question) _ h in
    let two = both_true (c.own == d.own) _ one.1 in
    let three = both_true (c.first == d.first) (c.second == d.second) two.1 in
    let question : c.question ≡ d.question = same_true the_type (search rules) c.question d.question one.0 in
    let own : c.own ≡ d.own = grind (arith, nat_tests) in
    let first : c.first ≡ d.first = grind (arith, nat_tests) in
    let second : c.second ≡ d.second = grind (arith, nat_tests) in
    sym (λ i. record { question = question i; own = own i; first = first i; second = second i })

-- an answer that is remembered after a put was remembered before, or is the one that was put
answer_put : (c : LruCache Comparison Bool) (q : Comparison) (b : Bool) (e : Comparison × Bool)
    → Contains (put_entries is_same_comparison c q b) e → Contains c.entries e ⊎ (e ≡ (q, b))
answer_put c q b e there = elim (Contains-put_entries is_same_comparison c q b e there) [
  | inl was ↦ inl was
  | inr put ↦ elim put.1 [
    | inl key ↦ inr (λ i. (key i, put.0 i))
    | inr old ↦ inr (λ i. (same_comparison q e.0 old.2 i, put.0 i))
  ]
]

-- so it is whether or not the put found memory
pub put_or_not : {X Y : Type 0} (r : Result X Y) (old new : LruCache Comparison Bool) (q : Comparison) (b : Bool)
    → OnOk r (new ≡ lru_cache (put_entries is_same_comparison old q b) old.cap) → OnErr r (new ≡ old)
    → (e : Comparison × Bool) → Contains new.entries e → Contains old.entries e ⊎ (e ≡ (q, b))
put_or_not (Ok x) old new q b ok err e there = answer_put old q b e (subst (λ (c : LruCache Comparison Bool). Contains c.entries e) ok there)
put_or_not (Err y) old new q b ok err e there = inl (subst (λ (c : LruCache Comparison Bool). Contains c.entries e) err there)

-- the answer that a look-up finds is the remembered one of its comparison
found_answer : (es : List (Comparison × Bool)) (q : Comparison) (b : Bool) → lookup (is_same_comparison q) es ≡ Some b → Contains es (q, b)
found_answer es q b found =
    let there = Contains-lookup (is_same_comparison q) es b found in
    subst (λ r. Contains es (r, b)) (same_comparison q there.0 there.2) there.1

-- so it is where the look-up finds one
pub found_if : (es : List (Comparison × Bool)) (q : Comparison) (o : Option Bool) → o ≡ lookup (is_same_comparison q) es
    → IfSome o (λ b. Contains es (q, b))
found_if es q None is = tt
found_if es q (Some b) is = found_answer es q b (sym is)
