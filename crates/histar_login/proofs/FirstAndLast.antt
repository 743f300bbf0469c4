-- The table of the empty kernel, and what is left once the boot thread unlinked itself.
use Rattle.std.proofs.Common.{◌≡◌, ℕ, zero, suc, ◌+◌, ◌<◌, ◌==◌, Bool, true, false, not, ◌&&◌, ◌||◌, List, [], ◌∷◌, ◌++◌, None, Some, if◌then◌else◌}
use Rattle.std.proofs.Common.{refl, sym, ap, ◌∙◌, arith}
use Rattle.std.proofs.lemmas.Bool.{eqb-true, or_from}
use Rattle.std.proofs.lemmas.Bool.Decides.{nat_tests}
use Rattle.std.specs.FinSet as set
use Rattle.std.specs.List.{list_any, range_with_len}
use Rattle.std.specs.Ordering.{nat_cmp, eq_by_cmp}
use Rattle.std.specs.Cmp.{nat_cmp_total, unsigned_tied}
use Rattle.histar_level.specs.Levels.{Levels}
use Rattle.histar_object.specs.declared.objects.Kind.{Kind}
use Rattle.histar_object.specs.declared.objects.Kind.TheVariants.{Segment, Container, Thread, Gate}
use Rattle.histar_object.specs.declared.objects.Object.{Object}
use Rattle.histar_object.specs.Objects.{Numbers, unlinking, links_in, kind_links, kind_is_thread}
use Rattle.histar_object.specs.State.{State, Found, empty_state, boot_thread}
use Rattle.histar_container.specs.Tree.{Reached, here, there}
use Rattle.histar_container.specs.ObjectsModel.{CutsOff}
use Rattle.histar_programs.specs.Start.{object_at, state_with}
use Rattle.histar_login.specs.Booting.{table_of, nothing_yet}

-- 3 and more is not 2
above_two : (k : ℕ) → (suc (suc (suc k)) == 2) ≡ false
above_two k = grind (arith, nat_tests)

-- 3 and more is not 1
above_one : (k : ℕ) → (suc (suc (suc k)) == 1) ≡ false
above_one k = grind (arith, nat_tests)

-- where two tests fail there is nothing
neither : (a b : Bool) (x y : Found) → a ≡ false → b ≡ false → (if a then x else if b then y else None) ≡ None
neither true b x y e f = cc
neither false true x y e f = cc
neither false false x y e f = refl

-- what the empty kernel has at each number
empty_at : (q : ℕ) → empty_state.objects q ≡ object_at (table_of boot_thread nothing_yet) q
empty_at zero = refl
empty_at (suc zero) = refl
empty_at (suc (suc zero)) = refl
empty_at (suc (suc (suc k))) = neither (suc (suc (suc k)) == 2) (suc (suc (suc k)) == 1) _ _ (above_two k) (above_one k)

-- the empty kernel is the table of the root container and the boot thread
pub empty_is : empty_state ≡ state_with (table_of boot_thread nothing_yet) 2
empty_is = λ i. record { objects = λ q. empty_at q i; next_object = 3; next_category = 2 }

-- what is removed again was there before or is not there
put_and_taken : (b x : Bool) → (b ≡ true → x ≡ false) → (not b && (b || x)) ≡ x
put_and_taken true x h = sym (h refl)
put_and_taken false x h = refl

-- a number that was put into a set and removed again
pub removed_again : (numbers : Numbers) (n : ℕ) → set.contains numbers n ≡ false → set.remove (set.insert numbers n) n ≡ numbers
removed_again numbers n none =
    set.same_set nat_cmp_total set.nat_cmp-IsAntisymmetric (set.remove (set.insert numbers n) n) numbers (λ q.
    set.contains-remove nat_cmp_total (set.insert numbers n) n q
    ∙ ap (λ (b : Bool). not (eq_by_cmp nat_cmp q n) && b) (set.contains-insert nat_cmp_total numbers n q)
    ∙ put_and_taken (eq_by_cmp nat_cmp q n) (set.contains numbers q)
    (λ e. ap (set.contains numbers) (eqb-true q n (sym (unsigned_tied q n) ∙ e)) ∙ none))

-- 2 is no number above it
differs : (a : ℕ) → 2 < a → eq_by_cmp nat_cmp 2 a ≡ false
differs a lt = unsigned_tied 2 a ∙ grind (arith, nat_tests)

-- 2 is not in a range of greater numbers and one more
not_in_row : (a n k : ℕ) → 2 < a → 2 < k → list_any (eq_by_cmp nat_cmp 2) (range_with_len a n ++ k ∷ []) ≡ false
not_in_row a zero k lt last = or_from (eq_by_cmp nat_cmp 2 k) false (differs k last) refl
not_in_row a (suc n) k lt last = or_from (eq_by_cmp nat_cmp 2 a) _ (differs a lt) (not_in_row (a + 1) n k (omega arith) last)

-- the set of a range of greater numbers and one more doesn't contain 2
pub two_not_in_row : (a n k : ℕ) → 2 < a → 2 < k → set.contains (set.from_list {R = nat_cmp} (range_with_len a n ++ k ∷ [])) 2 ≡ false
two_not_in_row a n k lt last = set.contains-from_list nat_cmp_total (range_with_len a n ++ k ∷ []) 2 ∙ not_in_row a n k lt last

-- a thread links nothing
thread_links : (k : Kind Levels) → kind_is_thread k ≡ true → kind_links k ≡ set.empty
thread_links (Segment bytes) e = cc
thread_links (Container links) e = cc
thread_links (Thread clearance) e = refl
thread_links (Gate clearance entry) e = cc

-- no test both holds and fails
false_true : (b : Bool) → b ≡ false → b ≡ true → ⊥
false_true true e f = cc
false_true false e f = cc

module _ (root boot : Object Levels) (objects : List Found) (c : ℕ) (is_thread : kind_is_thread boot.kind ≡ true) where
  -- the root container, a thread, and the objects after them
  rooted : List Found
  rooted = Some root ∷ Some boot ∷ objects

  -- from a thread nothing else is reached
  reached_itself : (q : ℕ) → Reached (object_at rooted) 2 q → q ≡ 2
  unfolding rooted
  reached_itself q here = refl
  reached_itself q (there p r reached linked) =
      let empty : set.contains (links_in (object_at rooted p)) q ≡ false =
      ap (λ (n : ℕ). set.contains (links_in (object_at rooted n)) q) (reached_itself p reached)
      ∙ ap (λ (links : Numbers). set.contains links q) (thread_links boot.kind is_thread)
      ∙ set.contains-empty nat_cmp q in
      absurd (false_true _ empty linked)

  -- the thread was unlinked, and with it the link to it
  pub thread_gone : (new : State) → CutsOff (state_with (Some root ∷ Some boot ∷ objects) c) 1 2 new
      → new ≡ state_with (Some (unlinking 2 root) ∷ None ∷ objects) c
  unfolding rooted
  thread_gone new cut = λ i. record { objects = λ q. at q i; next_object = cut.next_object i; next_category = cut.next_category i }
    where
      at : (q : ℕ) → new.objects q ≡ object_at (Some (unlinking 2 root) ∷ None ∷ objects) q
      at zero = cut.is_cut.stays 0 (λ r. omega (arith, reached_itself 0 r)) (λ e. omega (arith, e))
      at (suc zero) = cut.is_cut.unlinked
      at (suc (suc zero)) = cut.is_cut.gone 2 here
      at (suc (suc (suc k))) = cut.is_cut.stays (suc (suc (suc k))) (λ r. omega (arith, reached_itself (suc (suc (suc k))) r)) (λ e. omega (arith, e))
