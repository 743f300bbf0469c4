-- Labels of the two kinds, at each number, and the tests on them.
use Rattle.std.proofs.Common.{◌≡◌, ◌≢◌, ℕ, ◌≤◌, ◌==◌, Bool, true, false, ◌&&◌, ◌||◌, List, [], ◌∷◌, arith, refl, sym, ap, ◌∙◌}
use Rattle.std.specs.List.{list_all}
use Rattle.std.proofs.lemmas.Bool.Decides.{nat_tests}
use Rattle.std.proofs.lemmas.Bool.{and_from, or_left, or_right}
use mathlib.Core.Bool.{true≢false}
use Rattle.histar_level.specs.declared.level.Level.{Level}
use Rattle.histar_level.specs.declared.level.Level.TheVariants.{Star, L0, L1, L2, L3}
use Rattle.histar_level.specs.Level.{rank, raised}
use Rattle.histar_level.specs.Levels.{Levels}
use Rattle.histar_level.proofs.Functions.{same_levels}
use Rattle.histar_label.specs.Levels.{constant, with_level, is_below, is_below_raised, is_made, has_star}
use Rattle.histar_label.proofs.Orders.{is_below-law, is_below_raised-law}
use Rattle.histar_label.proofs.Made.{is_made-constant, is_made-with_level}
use Rattle.histar_label.proofs.Stars.{has_star-none}
use Rattle.histar_layout.specs.Labelling.{with_levels, each_at, guarded_by, owner_label, cleared_at}
use Rattle.histar_layout.proofs.LabellingLemmas.{with_levels-append}
use Rattle.histar_layout.proofs.LabelLevels.{guarded_level, owning_level, cleared_level, at_guarded, at_owning, at_cleared}
use Rattle.histar_refinement.specs.Categories.{IsMade}
use Rattle.histar_layout.proofs.Members.{is_in, same_truth, first_of, second_of, all_from, each_of, AreApart}

-- the test of observing at one number, by whether it is in each of the four lists
seen_at : (s w o t : Bool) → (s ≡ true → (o || t) ≡ true) → rank (guarded_level s w) ≤ raised (owning_level o t)
seen_at s true true true h = omega arith
seen_at s true true false h = omega arith
seen_at s true false true h = omega arith
seen_at s true false false h = omega arith
seen_at true false true true h = omega arith
seen_at true false true false h = omega arith
seen_at true false false true h = omega arith
seen_at true false false false h = absurd (true≢false (sym (h refl)))
seen_at false false true true h = omega arith
seen_at false false true false h = omega arith
seen_at false false false true h = omega arith
seen_at false false false false h = omega arith

seen_only : (s w o t : Bool) → s ≡ true → w ≡ false → rank (guarded_level s w) ≤ raised (owning_level o t) → (o || t) ≡ true
seen_only true false true t s w h = refl
seen_only true false false true s w h = refl
seen_only true false false false s w h = absurd (omega (arith, h))
seen_only true true o t s w h = absurd (true≢false w)
seen_only false w o t s e h = absurd (true≢false (sym s))

under_at : (s w o t : Bool) → (t ≡ true → s ≡ true) → (t ≡ true → w ≡ false) → (w ≡ true → o ≡ true)
    → rank (owning_level o t) ≤ rank (guarded_level s w)
under_at true false o true h a k = omega arith
under_at true true o true h a k = absurd (true≢false (a refl))
under_at false w o true h a k = absurd (true≢false (sym (h refl)))
under_at s true true false h a k = omega arith
under_at s true false false h a k = absurd (true≢false (sym (k refl)))
under_at true false true false h a k = omega arith
under_at true false false false h a k = omega arith
under_at false false true false h a k = omega arith
under_at false false false false h a k = omega arith

under_secret : (s w o t : Bool) → t ≡ true → rank (owning_level o t) ≤ rank (guarded_level s w) → s ≡ true
under_secret true w o t e h = refl
under_secret false true o true e h = absurd (omega (arith, h))
under_secret false false o true e h = absurd (omega (arith, h))
under_secret false w o false e h = absurd (true≢false (sym e))

under_written : (s w o t : Bool) → w ≡ true → rank (owning_level o t) ≤ rank (guarded_level s w) → o ≡ true
under_written s true true t e h = refl
under_written s true false true e h = absurd (omega (arith, h))
under_written s true false false e h = absurd (omega (arith, h))
under_written s false o t e h = absurd (true≢false (sym e))

top_at : (s w c : Bool) → (s ≡ true → c ≡ true) → rank (guarded_level s w) ≤ rank (cleared_level c)
top_at s true true h = omega arith
top_at s true false h = omega arith
top_at true false true h = omega arith
top_at true false false h = absurd (true≢false (sym (h refl)))
top_at false false true h = omega arith
top_at false false false h = omega arith

-- a thread's label under another's, and under a clearance
passed_at : (o t p u : Bool) → (t ≡ true → u ≡ true) → (p ≡ true → o ≡ true) → rank (owning_level o t) ≤ rank (owning_level p u)
passed_at o true p true h k = omega arith
passed_at o true p false h k = absurd (true≢false (sym (h refl)))
passed_at true false p true h k = omega arith
passed_at false false p true h k = omega arith
passed_at true false true false h k = omega arith
passed_at true false false false h k = omega arith
passed_at false false true false h k = absurd (true≢false (sym (k refl)))
passed_at false false false false h k = omega arith

capped_at : (o t c : Bool) → (t ≡ true → c ≡ true) → rank (owning_level o t) ≤ rank (cleared_level c)
capped_at o true true h = omega arith
capped_at o true false h = absurd (true≢false (sym (h refl)))
capped_at true false true h = omega arith
capped_at true false false h = omega arith
capped_at false false true h = omega arith
capped_at false false false h = omega arith

capped_only : (o t c : Bool) → t ≡ true → rank (owning_level o t) ≤ rank (cleared_level c) → c ≡ true
capped_only o true true e h = refl
capped_only o true false e h = absurd (omega (arith, h))
capped_only o false c e h = absurd (true≢false (sym e))

lower_at : (c d : Bool) → (c ≡ true → d ≡ true) → rank (cleared_level c) ≤ rank (cleared_level d)
lower_at true true h = omega arith
lower_at true false h = absurd (true≢false (sym (h refl)))
lower_at false true h = omega arith
lower_at false false h = omega arith

-- A thread observes what is guarded where it owns each secret category or has it at 3 itself.
pub observes_guarded : (S W O T : List ℕ) → AreApart S W
    → is_below_raised (guarded_by S W) (owner_label O T) ≡ list_all (λ q. is_in O q || is_in T q) S
observes_guarded S W O T apart = same_truth (is_below_raised (guarded_by S W) (owner_label O T)) (list_all (λ q. is_in O q || is_in T q) S)
    (λ below. all_from (λ q. is_in O q || is_in T q) S (λ q e. seen_only (is_in S q) (is_in W q) (is_in O q) (is_in T q) e (apart q e)
    (rw (sym (at_guarded S W q), sym (at_owning O T q)) ((is_below_raised-law (guarded_by S W) (owner_label O T)).0 below q))))
    (λ all. (is_below_raised-law (guarded_by S W) (owner_label O T)).1 (λ q.
    rw (at_guarded S W q, at_owning O T q)
    (seen_at (is_in S q) (is_in W q) (is_in O q) (is_in T q) (λ e. each_of (λ c. is_in O c || is_in T c) S all q e))))

-- A thread's label is below that of what is guarded where each category that it has at 3 is secret there, and it owns each
-- written one.
pub below_guarded : (S W O T : List ℕ) → AreApart T W → is_below (owner_label O T) (guarded_by S W) ≡ (list_all (is_in S) T && list_all (is_in O) W)
below_guarded S W O T apart = same_truth (is_below (owner_label O T) (guarded_by S W)) (list_all (is_in S) T && list_all (is_in O) W)
    (λ below. and_from _ _
    (all_from (is_in S) T (λ q e. under_secret (is_in S q) (is_in W q) (is_in O q) (is_in T q) e (at_each below q)))
    (all_from (is_in O) W (λ q e. under_written (is_in S q) (is_in W q) (is_in O q) (is_in T q) e (at_each below q))))
    (λ both. (is_below-law (owner_label O T) (guarded_by S W)).1 (λ q.
    rw (at_guarded S W q, at_owning O T q) (under_at (is_in S q) (is_in W q) (is_in O q) (is_in T q)
    (each_of (is_in S) T (first_of (list_all (is_in S) T) (list_all (is_in O) W) both) q) (apart q)
    (each_of (is_in O) W (second_of (list_all (is_in S) T) (list_all (is_in O) W) both) q))))
  where
    at_each : is_below (owner_label O T) (guarded_by S W) ≡ true → (q : ℕ)
        → rank (owning_level (is_in O q) (is_in T q)) ≤ rank (guarded_level (is_in S q) (is_in W q))
    at_each below q = rw (sym (at_guarded S W q), sym (at_owning O T q)) ((is_below-law (owner_label O T) (guarded_by S W)).0 below q)

-- what is guarded is below a clearance that has each of its secret categories
pub guarded_cleared : (S W C : List ℕ) → list_all (is_in C) S ≡ true → is_below (guarded_by S W) (cleared_at C) ≡ true
guarded_cleared S W C all = (is_below-law (guarded_by S W) (cleared_at C)).1 (λ q.
    rw (at_guarded S W q, at_cleared C q) (top_at (is_in S q) (is_in W q) (is_in C q) (each_of (is_in C) S all q)))

-- a clearance that is above what is secret and not written must have each secret category
top_only : (s w c : Bool) → s ≡ true → w ≡ false → rank (guarded_level s w) ≤ rank (cleared_level c) → c ≡ true
top_only true false true s w h = refl
top_only true false false s w h = absurd (omega (arith, h))
top_only true true c s w h = absurd (true≢false w)
top_only false w c s e h = absurd (true≢false (sym s))

pub cleared_exactly : (S W C : List ℕ) → AreApart S W → is_below (guarded_by S W) (cleared_at C) ≡ list_all (is_in C) S
cleared_exactly S W C apart = same_truth (is_below (guarded_by S W) (cleared_at C)) (list_all (is_in C) S)
    (λ below. all_from (is_in C) S (λ q e.
    top_only (is_in S q) (is_in W q) (is_in C q) e (apart q e) (rw (sym (at_guarded S W q), sym (at_cleared C q))
    ((is_below-law (guarded_by S W) (cleared_at C)).0 below q))))
    (guarded_cleared S W C)

-- a label with rights is below one that has no less at 3 and owns no more
pub below_owning : (O T P U : List ℕ) → list_all (is_in U) T ≡ true → list_all (is_in O) P ≡ true
    → is_below (owner_label O T) (owner_label P U) ≡ true
below_owning O T P U tainted owned = (is_below-law (owner_label O T) (owner_label P U)).1 (λ q.
    rw (at_owning O T q, at_owning P U q) (passed_at (is_in O q) (is_in T q) (is_in P q) (is_in U q) (each_of (is_in U) T tainted q)
    (each_of (is_in O) P owned q)))

-- a label of rights is below a clearance exactly where the clearance has all that it has at 3
pub owning_cleared : (O T C : List ℕ) → is_below (owner_label O T) (cleared_at C) ≡ list_all (is_in C) T
owning_cleared O T C = same_truth (is_below (owner_label O T) (cleared_at C)) (list_all (is_in C) T)
    (λ below. all_from (is_in C) T (λ q e. capped_only (is_in O q) (is_in T q) (is_in C q) e
    (rw (sym (at_owning O T q), sym (at_cleared C q)) ((is_below-law (owner_label O T) (cleared_at C)).0 below q))))
    (λ all. (is_below-law (owner_label O T) (cleared_at C)).1 (λ q. rw (at_owning O T q, at_cleared C q)
    (capped_at (is_in O q) (is_in T q) (is_in C q) (each_of (is_in C) T all q))))

-- a clearance is below one that has no less
pub cleared_below : (C D : List ℕ) → list_all (is_in D) C ≡ true → is_below (cleared_at C) (cleared_at D) ≡ true
cleared_below C D all =
    (is_below-law (cleared_at C) (cleared_at D)).1
    (λ q. rw (at_cleared C q, at_cleared D q) (lower_at (is_in C q) (is_in D q) (each_of (is_in D) C all q)))

-- what is guarded owns nothing
no_star : (s w : Bool) → guarded_level s w ≢ Star
no_star s true e = let k : rank L0 ≡ 0 = ap rank e in omega (arith, k)
no_star true false e = let k : rank L3 ≡ 0 = ap rank e in omega (arith, k)
no_star false false e = let k : rank L1 ≡ 0 = ap rank e in omega (arith, k)

pub guarded_owns_nothing : (S W : List ℕ) → has_star (guarded_by S W) ≡ false
guarded_owns_nothing S W = has_star-none (guarded_by S W) (λ q e. no_star (is_in S q) (is_in W q) (sym (at_guarded S W q) ∙ e))

-- a label whose exceptions were made names only what was made
made_at : (next : ℕ) (L : Levels) (cs : List ℕ) (l : Level) → is_made next L ≡ true
    → ((q : ℕ) → is_in cs q ≡ true → IsMade next q) → is_made next (with_levels L (each_at l cs)) ≡ true
made_at next L [] l made each = made
made_at next L (c ∷ cs) l made each =
    let here : IsMade next c = each c (or_left (c == c) (is_in cs c) (grind (arith, nat_tests))) in
    made_at next (with_level L c l) cs l (is_made-with_level next L c l here.0 here.1 made) (λ q e. each q (or_right (q == c) (is_in cs q) e))

pub guarded_made : (next : ℕ) (S W : List ℕ) → ((q : ℕ) → is_in S q ≡ true → IsMade next q)
    → ((q : ℕ) → is_in W q ≡ true → IsMade next q) → is_made next (guarded_by S W) ≡ true
guarded_made next S W secret written =
    ap (is_made next) (with_levels-append (constant L1) (each_at L3 S) (each_at L0 W))
    ∙ made_at next _ W L0 (made_at next (constant L1) S L3 (is_made-constant next L1) secret) written

pub owning_made : (next : ℕ) (O T : List ℕ) → ((q : ℕ) → is_in O q ≡ true → IsMade next q)
    → ((q : ℕ) → is_in T q ≡ true → IsMade next q) → is_made next (owner_label O T) ≡ true
owning_made next O T owned tainted =
    ap (is_made next) (with_levels-append (constant L1) (each_at Star O) (each_at L3 T))
    ∙ made_at next _ T L3 (made_at next (constant L1) O Star (is_made-constant next L1) owned) tainted

pub cleared_made : (next : ℕ) (C : List ℕ) → ((q : ℕ) → is_in C q ≡ true → IsMade next q) → is_made next (cleared_at C) ≡ true
cleared_made next C each = made_at next (constant L2) C L3 (is_made-constant next L2) each

-- labels with the same numbers in other orders are one
pub same_guarded : (S W S' W' : List ℕ) → ((q : ℕ) → is_in S q ≡ is_in S' q) → ((q : ℕ) → is_in W q ≡ is_in W' q) → guarded_by S W ≡ guarded_by S' W'
same_guarded S W S' W' secret written =
    same_levels (guarded_by S W) (guarded_by S' W')
    (λ q. at_guarded S W q ∙ (λ i. guarded_level (secret q i) (written q i)) ∙ sym (at_guarded S' W' q))

pub same_owning : (O T O' T' : List ℕ) → ((q : ℕ) → is_in O q ≡ is_in O' q) → ((q : ℕ) → is_in T q ≡ is_in T' q) → owner_label O T ≡ owner_label O' T'
same_owning O T O' T' owned tainted =
    same_levels (owner_label O T) (owner_label O' T')
    (λ q. at_owning O T q ∙ (λ i. owning_level (owned q i) (tainted q i)) ∙ sym (at_owning O' T' q))

pub same_cleared : (C D : List ℕ) → ((q : ℕ) → is_in C q ≡ is_in D q) → cleared_at C ≡ cleared_at D
same_cleared C D each = same_levels (cleared_at C) (cleared_at D) (λ q. at_cleared C q ∙ ap cleared_level (each q) ∙ sym (at_cleared D q))
