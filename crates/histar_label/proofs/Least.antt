-- The floor of two labels is the least that owns what either owns and is at least both elsewhere.
use Rattle.std.proofs.Common.{◌≡◌, ◌≢◌, ℕ, ◌≤◌, max, ◌⊎◌, inl, inr, refl, ap, ◌∙◌, arith}
use Rattle.std.proofs.lemmas.Bool.Decides.{nat_tests}
use Rattle.histar_level.specs.declared.level.Level.{Level}
use Rattle.histar_level.specs.declared.level.Level.TheVariants.{Star, L0, L1, L2, L3}
use Rattle.histar_level.specs.Level.{rank, raised, lowered}
use Rattle.histar_level.specs.Levels.{Levels, level_of}
use Rattle.histar_level.proofs.Ranks.{same_level, rank-at_most, raised-at_most}
use Rattle.histar_label.specs.Floors.{floor_of}
use Rattle.histar_label.specs.Laws.{IsFloor}
use Rattle.histar_label.proofs.Floors.{grades-floor_of}
use Rattle.histar_label.proofs.Orders.{is_below-law}

-- a level is star or not
star_or_not : (l : Level) → (l ≡ Star) ⊎ (l ≢ Star)
star_or_not Star = inl refl
star_or_not L0 = inr (λ is. cc)
star_or_not L1 = inr (λ is. cc)
star_or_not L2 = inr (λ is. cc)
star_or_not L3 = inr (λ is. cc)

-- other levels than star are read as they are
raised-other : (l : Level) → l ≢ Star → raised l ≡ rank l
raised-other Star other = absurd (other refl)
raised-other L0 other = refl
raised-other L1 other = refl
raised-other L2 other = refl
raised-other L3 other = refl

-- J is star again
lowered-top : (n : ℕ) → n ≡ 5 → lowered n ≡ 0
lowered-top n is = grind (arith, nat_tests)

-- a place that is not J's stays
lowered-below : (n : ℕ) → n ≤ 4 → lowered n ≡ n
lowered-below n le = grind (arith, nat_tests)

module _ (l m f : Level) (is : rank f ≡ lowered (max (raised l) (raised m))) where
  -- the floor is star where the first level is
  owns_first : l ≡ Star → f ≡ Star
  owns_first star =
      let top : raised l ≡ 5 = ap raised star in
      same_level f Star (is ∙ lowered-top (max (raised l) (raised m)) (omega (arith, raised-at_most m)))

  -- the floor is star where the second level is
  owns_second : m ≡ Star → f ≡ Star
  owns_second star =
      let top : raised m ≡ 5 = ap raised star in
      same_level f Star (is ∙ lowered-top (max (raised l) (raised m)) (omega (arith, raised-at_most l)))

  -- where neither is star the floor is the greater
  greater : l ≢ Star → m ≢ Star → rank f ≡ max (rank l) (rank m)
  greater first second =
      let a = raised-other l first in
      let b = raised-other m second in
      is ∙ lowered-below (max (raised l) (raised m)) (omega (arith, a, b, rank-at_most l, rank-at_most m)) ∙ omega (arith, a, b)

  -- where the floor is star it is below all levels
  star_below : (n : Level) → f ≡ Star → rank f ≤ rank n
  star_below n star = let low : rank f ≡ 0 = ap rank star in omega arith

  -- a level that is at least both, where neither is star, is at least the floor
  floor_below : (n : Level) → (l ≢ Star → m ≢ Star → (rank l ≤ rank n) × (rank m ≤ rank n)) → rank f ≤ rank n
  floor_below n bounds =
      elim (star_or_not l) [
        | inl star ↦ star_below n (owns_first star)
        | inr first ↦ elim (star_or_not m) [
          | inl star ↦ star_below n (owns_second star)
          | inr second ↦ let both = bounds first second in omega (arith, greater first second, both.0, both.1)
        ]
      ]

  -- where star is read as J the floor is the greater
  raised_greater : raised f ≡ max (raised l) (raised m)
  raised_greater =
      elim (star_or_not l) [
        | inl star ↦
            let top : raised l ≡ 5 = ap raised star in
            let own : raised f ≡ 5 = ap raised (owns_first star) in
            omega (arith, raised-at_most m)
        | inr first ↦ elim (star_or_not m) [
          | inl star ↦
              let top : raised m ≡ 5 = ap raised star in
              let own : raised f ≡ 5 = ap raised (owns_second star) in
              omega (arith, raised-at_most l)
          | inr second ↦
              omega (arith, raised-other l first, raised-other m second, raised-other f (other first second), greater first second)
        ]
      ]
    where
      other : l ≢ Star → m ≢ Star → f ≢ Star
      other first second star =
          let low : rank f ≡ 0 = ap rank star in
          first (same_level l Star (omega (arith, greater first second)))

-- the floor of two labels is the least label of its kind, in both orders
pub floor_least : (L M : Levels) → IsFloor L M (floor_of L M)
floor_least L M =
    let F = floor_of L M in
    let at = grades-floor_of L M in
    let raised_at : (c : ℕ) → raised (level_of F c) ≡ max (raised (level_of L c)) (raised (level_of M c)) =
    λ c. raised_greater (level_of L c) (level_of M c) (level_of F c) (at c) in
    record {
      itself = record {
        owns = λ c star. elim star [
          | inl first ↦ owns_first (level_of L c) (level_of M c) (level_of F c) (at c) first
          | inr second ↦ owns_second (level_of L c) (level_of M c) (level_of F c) (at c) second
        ];
        bounds =
            λ c first second. let is = greater (level_of L c) (level_of M c) (level_of F c) (at c) first second in
            (omega (arith, is), omega (arith, is));
      };
      least = λ N has. (is_below-law F N).1 (λ c. floor_below (level_of L c) (level_of M c) (level_of F c) (at c) (level_of N c) (has.bounds c));
      raised_above_first = λ c. omega (arith, raised_at c);
      raised_above_second = λ c. omega (arith, raised_at c);
      raised_least = λ N first second c. omega (arith, raised_at c, first c, second c);
    }
