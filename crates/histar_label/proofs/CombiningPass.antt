-- One pass over the exceptions of two labels meets each category that one of them lists, and lists those of their combination.
use Rattle.std.proofs.Common.{◌≡◌, ◌≢◌, ℕ, ◌+◌, ◌<◌, ◌≤◌, [], ◌∷◌, ◌++◌, length, Option, None, Some, unwrap_or, min, eqb, true, false, refl, sym, ap}
use Rattle.std.proofs.Common.{◌∙◌, subst, arith}
use Rattle.std.specs.List.{insert}
use Rattle.std.proofs.lemmas.Bool.Decides.{nat_tests}
use Rattle.std.proofs.lemmas.List.Elements.{All-nil}
use Rattle.std.proofs.lemmas.List.Edits.{insert_end, get_or-insert_below, get_or-insert_at, length-insert}
use Rattle.histar_level.specs.declared.level.Level.{Level}
use Rattle.histar_level.specs.declared.level.Level.TheVariants.{Star}
use Rattle.histar_label.specs.declared.levels.Combination.{Combination}
use Rattle.histar_label.specs.Level.{combine}
use Rattle.histar_level.specs.Levels.{Levels, default_of, exceptions_of}
use Rattle.histar_level.proofs.Exceptions.{level_of-exceptions}
use Rattle.histar_level.proofs.Functions.{same_levels}
use Rattle.histar_label.specs.Levels.{from_exceptions}
use Rattle.histar_label.proofs.Readers.{level_of-from_exceptions}
use Rattle.histar_label.specs.Exceptions.{Exceptions, category_at, IsRising, IsCanonical, HasGap}
use Rattle.histar_label.specs.Floors.{combined_of, combined_level}
use Rattle.histar_label.specs.Front.{lower, level_at, after}
use Rattle.histar_label.proofs.Finds.{FindsAfter}
use Rattle.histar_label.proofs.Places.{find_in_gap, finds_none, finds_insert}
use Rattle.histar_label.proofs.Edits.{canonical_insert}
use Rattle.histar_label.proofs.Floors.{level_of-combined_of}
use Rattle.histar_label.proofs.Fronts.{IsUnder, looked, level_at_front, level_after, level_gone, rising_after, lower_none, front_under}

-- in a list that rises the rest comes after the first
rest_over : (e : ℕ × Level) (es : Exceptions) → IsRising (e ∷ es) → IsUnder (e.0 + 1) es
rest_over e [] rising = tt
rest_over e (f ∷ fs) rising = let rises = rising 0 1 (omega arith) (omega arith) in omega (arith, rises)

-- the exceptions left after a category come after it
over_after : (es : Exceptions) (c : ℕ) → IsRising es → IsUnder c es → IsUnder (c + 1) (after es c)
over_after [] c rising under = tt
over_after (e ∷ es) c rising under = elim (eqb e.0 c) as (λ b. eqb e.0 c ≡ b → IsUnder (c + 1) (after (e ∷ es) c)) [
  | true ↦ λ same. let is : e.0 ≡ c = grind (arith, nat_tests, same) in rw same (subst (λ d. IsUnder (d + 1) es) is (rest_over e es rising))
  | false ↦ λ other. rw other (grind (arith, nat_tests, other))
] refl

-- the lower category of two lists is not below a bound of both
lower_over : (A B : Exceptions) (k c : ℕ) → IsUnder k A → IsUnder k B → lower A B ≡ Some c → k ≤ c
lower_over [] [] k c a b low = cc
lower_over [] (f ∷ fs) k c a b low = let is : f.0 ≡ c = cc in omega arith
lower_over (e ∷ es) [] k c a b low = let is : e.0 ≡ c = cc in omega arith
lower_over (e ∷ es) (f ∷ fs) k c a b low = let is : min e.0 f.0 ≡ c = cc in omega arith

-- after the lower category of two lists, the next one is greater
lower_rises : (A B : Exceptions) (c d : ℕ) → IsRising A → IsRising B → lower A B ≡ Some c → lower (after A c) (after B c) ≡ Some d → c < d
lower_rises A B c d a b low next =
    let under = front_under A B c low in
    omega (arith, lower_over (after A c) (after B c) (c + 1) d (over_after A c a under.0) (over_after B c b under.1) next)

-- no category of the list is above this one
abbrev pub IsAtMost : ℕ → Exceptions → Type 0
IsAtMost c es = (j : ℕ) → j < length es → category_at es j ≤ c

-- a greater category would go at the end
gap_at_end : (es : Exceptions) (c d : ℕ) → IsAtMost c es → c < d → HasGap es d (length es)
gap_at_end es c d most less = record {
  in_range = omega arith;
  smaller_before = λ j lt. omega (arith, most j lt);
  greater_after = λ j le lt. absurd (omega arith);
}

module _ (es : Exceptions) (c : ℕ) (gap : HasGap es c (length es)) where
  -- a category that would go at the end is not below the others
  gap_at_most : IsAtMost c es
  gap_at_most j lt = omega (arith, gap.smaller_before j lt)

  module _ (l : Level) where
    -- the list with its exception at the end is canonical
    canonical_push : (d : Level) → IsCanonical d es → l ≢ d → IsCanonical d (es ++ (c, l) ∷ [])
    canonical_push d canonical apart = subst (IsCanonical d) (insert_end es (c, l)) (canonical_insert d es canonical c (length es) l gap apart)

    -- the exception is then found
    finds_push : FindsAfter es (es ++ (c, l) ∷ []) c (Some l)
    finds_push = subst (λ new. FindsAfter es new c (Some l)) (insert_end es (c, l)) (finds_insert es c (length es) gap l)

    -- its category is then the greatest
    push_at_most : IsAtMost c (es ++ (c, l) ∷ [])
    push_at_most = subst (IsAtMost c) (insert_end es (c, l)) (λ j lt.
        let new = insert es (length es) (c, l) in
        let longer = length-insert es (length es) (c, l) (omega arith) in
        let below : j < length es → category_at new j ≡ category_at es j =
        λ lt. ap (λ (e : ℕ × Level). e.0) (get_or-insert_below es (length es) (c, l) (0, Star) j lt (omega arith)) in
        let here : category_at new (length es) ≡ c = ap (λ (e : ℕ × Level). e.0) (get_or-insert_at es (length es) (c, l) (0, Star) (omega arith)) in
        grind (arith, below, here, gap_at_most j, λ (is : j ≡ length es). ap (category_at new) is))

-- the combined level at a category that two lists give, with the labels' defaults
abbrev pub left_level : Combination → Levels → Levels → Exceptions → Exceptions → ℕ → Level
left_level by F S A B q = combine by (looked (default_of F) A q) (looked (default_of S) B q)

-- the exceptions P, with those left in two other lists, give a category the combined level of two labels
abbrev pub GivesCombined : Combination → Levels → Levels → Exceptions → Exceptions → Exceptions → ℕ → Type 0
GivesCombined by F S P A B q = looked (left_level by F S A B q) P q ≡ combined_level by F S q

-- The exceptions P to the default d are those of two combined labels at the categories so far, and these lists are left.
pub record IsCombined (by : Combination) (F S : Levels) (d : Level) (P A B : Exceptions) : Type 0 where
  pub default_is : d ≡ combine by (default_of F) (default_of S)
  pub canonical : IsCanonical d P
  pub first_rises : IsRising A
  pub second_rises : IsRising B
  pub gap : (c : ℕ) → lower A B ≡ Some c → HasGap P c (length P)
  pub whole : (q : ℕ) → GivesCombined by F S P A B q

module _ (by : Combination) (F S : Levels) (d : Level) where
  -- before the pass everything is left
  pub combined_at_first : (A B : Exceptions) → d ≡ combine by (default_of F) (default_of S) → IsRising A → IsRising B
      → A ≡ exceptions_of F → B ≡ exceptions_of S → IsCombined by F S d [] A B
  combined_at_first A B default_is a b f s = record {
    default_is = default_is;
    canonical = record { rising = λ i j lt in_range. absurd (omega arith); differ = All-nil (λ (e : ℕ × Level). e.1 ≢ d) };
    first_rises = a;
    second_rises = b;
    gap = λ c low. record { in_range = omega arith; smaller_before = λ j lt. absurd (omega arith); greater_after = λ j le lt. absurd (omega arith) };
    whole = λ q. rw (f, s, level_of-exceptions F q, level_of-exceptions S q) refl;
  }

  module _ (P A B : Exceptions) (so_far : IsCombined by F S d P A B) where
    -- where no exception is left, P are the exceptions of the combined label
    pub combined_at_last : lower A B ≡ None → from_exceptions d P ≡ combined_of by F S
    combined_at_last none = same_levels _ _ (λ q.
        let empty = lower_none A B none in
        let whole : GivesCombined by F S P [] [] q = rw (empty.0, empty.1) at (so_far.whole q) in
        level_of-from_exceptions d P q ∙ ap (λ l. looked l P q) so_far.default_is ∙ whole ∙ sym (level_of-combined_of by F S q))

    module _ (c : ℕ) (low : lower A B ≡ Some c) where
      -- the combined level at the front
      abbrev front : Level
      front = combine by (level_at A c (default_of F)) (level_at B c (default_of S))

      -- the level at the front is the combined one
      front_is : front ≡ combined_level by F S c
      front_is =
          let under = front_under A B c low in
          let none = find_in_gap P c (length P) (so_far.gap c low) in
          rw (
            sym (level_at_front (default_of F) A so_far.first_rises c under.0),
            sym
                (level_at_front (default_of S) B so_far.second_rises c under.1),
          ) (rw none at (so_far.whole c))

      -- the pass goes on where the new exceptions have the front's level at the category, and stay as they were elsewhere
      step : (new : Exceptions) (found : Option Level) → IsCanonical d new → IsAtMost c new → FindsAfter P new c found
          → unwrap_or found d ≡ front → IsCombined by F S d new (after A c) (after B c)
      step new found canonical most finds is = record {
        default_is = so_far.default_is;
        canonical = canonical;
        first_rises = rising_after A c so_far.first_rises;
        second_rises = rising_after B c so_far.second_rises;
        gap = λ e next. gap_at_end new c e most (lower_rises A B c e so_far.first_rises so_far.second_rises low next);
        whole = λ q. elim (eqb q c) as (λ b. eqb q c ≡ b → GivesCombined by F S new (after A c) (after B c) q) [
          | true ↦ λ same. let at : c ≡ q = grind (arith, nat_tests, same) in subst (GivesCombined by F S new (after A c) (after B c)) at here
          | false ↦ λ other. there q other
        ] refl;
      }
        where
          -- the new exceptions and the lists that are left give the category its level
          here : GivesCombined by F S new (after A c) (after B c) c
          here =
              let under = front_under A B c low in
              let tested : eqb c c ≡ true = grind (arith, nat_tests) in
              let at_c = rw tested at (finds c) in
              rw (
                at_c,
                level_gone (default_of F) A so_far.first_rises c under.0,
                level_gone (default_of S) B
                    so_far.second_rises c under.1,
                sym so_far.default_is,
              ) (is ∙ front_is)

          -- and give each other category its level
          there : (q : ℕ) → eqb q c ≡ false → GivesCombined by F S new (after A c) (after B c) q
          there q other =
              let apart : c ≢ q = grind (arith, nat_tests, other) in
              let at_q = rw other at (finds q) in
              rw (at_q, level_after (default_of F) A c q apart, level_after (default_of S) B c q apart) (so_far.whole q)

      -- the pass goes on with the front's exception at the end
      pub combined_push : (l : Level) → l ≡ front → l ≢ d → IsCombined by F S d (P ++ (c, l) ∷ []) (after A c) (after B c)
      combined_push l is apart =
          let gap = so_far.gap c low in
          step _ (Some l) (canonical_push P c gap l d so_far.canonical apart) (push_at_most P c gap l) (finds_push P c gap l) is

      -- where the front has the default, no exception is needed
      pub combined_pass : (l : Level) → l ≡ front → l ≡ d → IsCombined by F S d P (after A c) (after B c)
      combined_pass l is same =
          let gap = so_far.gap c low in
          step P None so_far.canonical (gap_at_most P c gap) (finds_none P c (length P) gap) (sym same ∙ is)
