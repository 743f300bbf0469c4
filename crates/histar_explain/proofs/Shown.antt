-- A reason shows exactly the categories at which its comparison fails.
use Rattle.std.proofs.Common.{◌≡◌, ◌≢◌, ℕ, List, [], ◌∷◌, All, ◌⊎◌, inl, inr, Bool, true, false, ◌||◌, ◌&&◌, not, is_some, eqb, eq-eqb, if◌then◌else◌}
use Rattle.std.proofs.Common.{Some, None, refl, sym, ap, ◌∙◌, arith}
use Rattle.std.proofs.lemmas.Bool.Decides.{nat_tests}
use Rattle.std.proofs.lemmas.List.Elements.{All-head, All-tail}
use mathlib.Core.Bool.{false≢true}
use Rattle.histar_level.specs.declared.level.Level.{Level}
use Rattle.histar_level.specs.Level.{rank}
use Rattle.histar_level.specs.Levels.{level_of, default_of}
use Rattle.histar_level.proofs.Ranks.{same_level}
use Rattle.histar_explain.specs.declared.reasons.Difference.{Difference}
use Rattle.histar_explain.specs.declared.reasons.Reason.{Reason}
use Rattle.histar_explain.specs.Comparisons.{Comparison, exceeds, fails_at, IsListed, is_named, IsDifference, Explains, is_shown}
use Rattle.std.specs.List.{AllZip}
use Rattle.std.specs.Prelude.{Result, Ok, Err, IfOk}
use Rattle.std.specs.Global.{Vec}
use Rattle.histar_explain.specs.Tests.{Test, IsReasonOf}
use Rattle.histar_explain.specs.Laws.{ShowsExactly, some_shown, some_fails_at}

-- a named category has the outcome of the differences
named_outcome : (t : Comparison) (fails : Bool) (differences : List Difference) → All (IsDifference t fails) differences
    → (c : ℕ) → is_named differences c ≡ true → fails_at t c ≡ fails
named_outcome t fails [] right c named = absurd (false≢true named)
named_outcome t fails (r ∷ differences) right c named =
    elim (eqb r.category c) as (λ b. eqb r.category c ≡ b → (b || is_named differences c) ≡ true → fails_at t c ≡ fails) [
      | true ↦
          λ same named. let is : r.category
          ≡ c = grind (arith, nat_tests, same) in ap (fails_at t) (sym is)
          ∙ (All-head (IsDifference t fails) r differences right).outcome
      | false ↦ λ other named. named_outcome t fails differences (All-tail (IsDifference t fails) r differences right) c named
    ] refl named

-- two levels are equal or not
same_or_not : (l m : Level) → (l ≡ m) ⊎ (l ≢ m)
same_or_not l m = elim (eqb (rank l) (rank m)) as (λ b. eqb (rank l) (rank m) ≡ b → (l ≡ m) ⊎ (l ≢ m)) [
  | true ↦ λ same. inl (same_level l m (grind (arith, nat_tests, same)))
  | false ↦ λ other. inr (λ same. false≢true (sym other ∙ eq-eqb (rank l) (rank m) (ap rank same)))
] refl

-- a category is listed, or both labels have their defaults there
listed_or_default : (t : Comparison) (c : ℕ) → IsListed t c ⊎ ((level_of t.lower c ≡ default_of t.lower) × (level_of t.upper c ≡ default_of t.upper))
listed_or_default t c = elim (same_or_not (level_of t.lower c) (default_of t.lower)) [
  | inr differs ↦ inl (inl differs)
  | inl same ↦ elim (same_or_not (level_of t.upper c) (default_of t.upper)) [
    | inr differs ↦ inl (inr differs)
    | inl other ↦ inr (same, other)
  ]
]

-- a list of differences of one outcome names no category of the other
not_both : (t : Comparison) (differences : List Difference) (fails : Bool) → All (IsDifference t fails) differences
    → (c : ℕ) → (fails_at t c ≡ fails → ⊥) → is_named differences c ≡ false
not_both t differences fails right c unlike = elim (is_named differences c) as (λ b. is_named differences c ≡ b → b ≡ false) [
  | true ↦ λ named. absurd (unlike (named_outcome t fails differences right c named))
  | false ↦ λ _. refl
] refl

some_if : {T : Type 0} (b : Bool) (x : T) → is_some (if b then Some x else None) ≡ b
some_if true x = refl
some_if false x = refl

-- whether the comparison fails for the defaults
fails_elsewhere : Comparison → Bool
fails_elsewhere t = exceeds t.owner_passes (default_of t.lower) (default_of t.upper)

module _ (t : Comparison) (r : Reason) (e : Explains t r) (c : ℕ) where
  elsewhere_is : is_some r.elsewhere ≡ exceeds t.owner_passes (default_of t.lower) (default_of t.upper)
  elsewhere_is =
      ap is_some e.elsewhere
      ∙ some_if (exceeds t.owner_passes (default_of t.lower) (default_of t.upper))
      (default_of t.lower, default_of t.upper)

  -- where it fails, the category is named, or is not spared
  shown_failing : fails_at t c ≡ true → is_shown r c ≡ true
  shown_failing fails = elim (listed_or_default t c) [
    | inl listed ↦ ap (λ b. b || (is_some r.elsewhere && not (is_named r.spared.items c))) (e.named.whole c listed fails)
    | inr defaults ↦
        let here : is_some r.elsewhere ≡ true = elsewhere_is ∙ (λ i. exceeds t.owner_passes (sym defaults.0 i) (sym defaults.1 i)) ∙ fails in
        let unspared = not_both t r.spared.items false e.spared.right c (λ passes. false≢true (sym passes ∙ fails)) in
        (λ i. is_named r.named.items c || (here i && not (unspared i))) ∙ or_true (is_named r.named.items c)
  ]
    where
      or_true : (b : Bool) → (b || true) ≡ true
      or_true true = refl
      or_true false = refl

  -- where it passes, the category is not shown
  shown_passing : fails_at t c ≡ false → is_shown r c ≡ false
  shown_passing passes =
      let unnamed = not_both t r.named.items true e.named.right c (λ fails. false≢true (sym passes ∙ fails)) in
      ap (λ b. b || (is_some r.elsewhere && not (is_named r.spared.items c))) unnamed ∙ elim (listed_or_default t c) [
        | inl listed ↦ ap (λ b. is_some r.elsewhere && not b) (e.spared.whole c listed passes) ∙ and_false (is_some r.elsewhere)
        | inr defaults ↦
            ap (λ b. b && not (is_named r.spared.items c))
            (elsewhere_is ∙ (λ i. exceeds t.owner_passes (sym defaults.0 i) (sym defaults.1 i)) ∙ passes)
      ]
    where
      and_false : (b : Bool) → (b && false) ≡ false
      and_false true = refl
      and_false false = refl

pub shows_exactly : ShowsExactly
shows_exactly t r e c = elim (fails_at t c) as (λ b. fails_at t c ≡ b → is_shown r c ≡ b) [
  | true ↦ shown_failing t r e c
  | false ↦ shown_passing t r e c
] refl

-- the reasons of some tests show exactly the categories at which one of them fails
pub all_shown : (some : List Test) (reasons : List Reason) → AllZip IsReasonOf some reasons → (c : ℕ) → some_shown reasons c ≡ some_fails_at some c
all_shown [] [] zipped c = refl
all_shown [] (r ∷ reasons) zipped c = absurd zipped
all_shown (t ∷ some) [] zipped c = absurd zipped
all_shown (t ∷ some) (r ∷ reasons) zipped c = λ i. shows_exactly t.comparison r zipped.0.explained c i || all_shown some reasons zipped.1 c i

pub shown_if_ok : {E : Type 0} (result : Result (Vec Reason) E) (some : List Test)
    → IfOk result (λ (reasons : Vec Reason). AllZip IsReasonOf some reasons.items)
    → IfOk result (λ (reasons : Vec Reason). (c : ℕ) → some_shown reasons.items c ≡ some_fails_at some c)
shown_if_ok (Ok reasons) some zipped = all_shown some reasons.items zipped
shown_if_ok (Err e) some zipped = zipped
