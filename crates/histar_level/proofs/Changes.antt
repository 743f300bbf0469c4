-- What a label lists after one category gets a new level.
use Rattle.std.specs.Prelude.{◌≡◌, ◌≢◌, ℕ, Bool, true, false, cond, if◌then◌else◌, ◌==◌, Option, Some, None, unwrap_or, refl}
use Rattle.std.proofs.Common.{sym, ap, ◌∙◌, arith}
use Rattle.std.specs.Ordering.{nat_cmp, eq_by_cmp}
use Rattle.std.specs.Cmp.{nat_cmp_total}
use Rattle.std.specs.FinMap.{FinMap, get, insert, remove, get-insert, get-remove}
use Rattle.std.proofs.lemmas.Bool.Decides.{nat_tests}
use Rattle.histar_level.specs.declared.level.Level.{Level}
use Rattle.histar_level.specs.Level.{rank}
use Rattle.histar_level.specs.Levels.{relisted}
use Rattle.histar_level.proofs.Ranks.{same_level}

-- numbers tie in their order exactly where they are equal
pub eq_by_nat_cmp : (q c : ℕ) → eq_by_cmp nat_cmp q c ≡ (q == c)
eq_by_nat_cmp q c = grind (arith, nat_tests)

-- levels at different places differ
some_apart : (l d : Level) → rank l == rank d ≡ false → l ≢ d
some_apart l d tested same = let ranks : rank l ≡ rank d = ap rank same in grind (arith, nat_tests)

-- depending on the two tests of `relisted`: the level that is then found at a category is not the default
picked_differs : (a b : Bool) (o : Option Level) (l d : Level) → (b ≡ false → l ≢ d) → o ≢ Some d
    → (if a then (if b then None else Some l) else o) ≢ Some d
picked_differs true true o l d apart other same = cc
picked_differs true false o l d apart other same = apart refl cc
picked_differs false b o l d apart other same = other same

-- depending on the two tests of `relisted`: the level is new where the first test passes, and otherwise the old one
pub picked_level : (a b : Bool) (o : Option Level) (l d : Level) → (b ≡ true → l ≡ d)
    → unwrap_or (if a then (if b then None else Some l) else o) d ≡ (if a then l else unwrap_or o d)
picked_level true true o l d tied = sym (tied refl)
picked_level true false o l d tied = refl
picked_level false b o l d tied = refl

-- levels whose places the test finds equal are equal
pub tied_ranks : (l d : Level) → rank l == rank d ≡ true → l ≡ d
tied_ranks l d tested = same_level l d (grind (arith, nat_tests))

-- where no value is found, no level is
pub none_is_not_some : (o : Option Level) (l : Level) → o ≡ None → o ≢ Some l
none_is_not_some o l none some = cc

-- the levels that `relisted` lists at each category
pub get-relisted : (d : Level) (m : FinMap nat_cmp Level) (c : ℕ) (l : Level) (q : ℕ)
    → get (relisted d m c l) q ≡ (if q == c then (if rank l == rank d then None else Some l) else get m q)
unfolding relisted
get-relisted d m c l q =
    elim (rank l == rank d)
    as (λ b. get (if b then remove m c else insert m c l) q ≡ (if q == c then (if b then None else Some l) else get m q)) [
      | true ↦ get-remove nat_cmp_total m c q ∙ ap (λ b. cond b None (get m q)) (eq_by_nat_cmp q c)
      | false ↦ get-insert nat_cmp_total m c l q ∙ ap (λ b. cond b (Some l) (get m q)) (eq_by_nat_cmp q c)
    ]

-- the levels that `relisted` lists are not the default
pub relisted_differs : (d : Level) (m : FinMap nat_cmp Level) → ((c : ℕ) → get m c ≢ Some d)
    → (c : ℕ) (l : Level) (q : ℕ) → get (relisted d m c l) q ≢ Some d
relisted_differs d m differ c l q same =
    picked_differs (q == c) (rank l == rank d) (get m q) l d (some_apart l d) (differ q) (sym (get-relisted d m c l q) ∙ same)
