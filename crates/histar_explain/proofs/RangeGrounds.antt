-- Where a label is out of its range, a test of the range fails at some category, or the label names one that was never made.
use Rattle.std.proofs.Common.{◌≡◌, ℕ, List, [], ◌∷◌, max, All, ◌⊎◌, inl, inr, Bool, true, false, ◌&&◌, ◌||◌, Option, None, Some, unwrap_or, is_some}
use Rattle.std.proofs.Common.{if◌then◌else◌, refl, sym, ap, ◌∙◌, arith}
use Rattle.std.specs.Prelude.{not, nat_le}
use Rattle.std.specs.List.{list_all}
use Rattle.std.specs.Ordering.{nat_cmp}
use Rattle.std.specs.FinMap.{find}
use Rattle.std.proofs.lemmas.Bool.Decides.{nat_tests}
use Rattle.std.proofs.lemmas.List.Elements.{All-head, All-tail}
use mathlib.Core.Bool.{false≢true}
use Rattle.histar_level.specs.declared.level.Level.{Level}
use Rattle.histar_level.specs.declared.level.Level.TheVariants.{Star, L0, L1, L2, L3}
use Rattle.histar_level.specs.Level.{rank, raised}
use Rattle.histar_level.specs.Levels.{Levels, level_of, default_of, beyond, exceptions_of}
use Rattle.histar_level.proofs.Ranks.{rank-at_most}
use Rattle.histar_level.proofs.Exceptions.{level_of-exceptions}
use Rattle.histar_label.specs.Levels.{constant, is_within, is_below, is_below_join, is_below_join_raised, is_made, has_star}
use Rattle.histar_label.proofs.Readers.{level_of-constant}
use Rattle.histar_label.specs.Floors.{join_of, floor_of}
use Rattle.histar_label.proofs.Combined.{level_of-refilled}
use Rattle.histar_label.proofs.Floors.{grades-join_of}
use Rattle.histar_label.proofs.Listed.{ListsExceptions-exceptions_of}
use Rattle.histar_label.proofs.Stars.{has_star-law}
use Rattle.histar_object.specs.Objects.{is_thread, is_gate, label_there, clearance_there}
use Rattle.histar_object.specs.State.{State, Found, between}
use Rattle.histar_object.specs.State as states
use Rattle.histar_rules.specs.Rights.{both, may_clear, lies_between, in_gate}
use Rattle.histar_rules.specs.Rights as rights
use Rattle.histar_explain.specs.declared.reasons.Party.{Party}
use Rattle.histar_explain.specs.declared.reasons.Party.TheVariants as parties
use Rattle.histar_explain.specs.Comparisons.{exceeds}
use Rattle.histar_explain.specs.Tests.{Test, below, in_range, in_span, owning_nothing, behind_gate, clearing, high, owning_high}
use Rattle.histar_explain.specs.Laws.{some_fails_at}
use Rattle.histar_explain.specs.Unmade.{lists, was_made}
use Rattle.histar_explain.proofs.LeftExceptions.{Differs, each_differs}
use Rattle.histar_explain.proofs.UnmadePasses.{other_listed}
use Rattle.histar_explain.proofs.FailingTests.{one_of_both, or_second, label_of_found, clearance_of_found, kind_cleared, within_fails}
use Rattle.histar_explain.proofs.FailingTests.{above_somewhere}

-- some test fails at some category
unfoldable pub Fails : List Test → Type 0
Fails some = (c : ℕ) × (some_fails_at some c ≡ true)

-- a first label that is not below a second makes the first of some tests fail
pub fails_here : (lower_is : Party) (L : Levels) (upper_is : Party) (M : Levels) (rest : List Test)
    → is_below L M ≡ false → Fails (below lower_is L upper_is M ∷ rest)
unfolding Fails
fails_here lower_is L upper_is M rest refused =
    let at = above_somewhere L M refused in
    (at.0, ap (λ b. b || some_fails_at rest at.0) at.1)

-- so does the only test, where it fails at some category
fails_alone : (lower_is : Party) (L : Levels) (upper_is : Party) (M : Levels)
    → (c : ℕ) × (exceeds false (level_of L c) (level_of M c) ≡ true) → Fails (below lower_is L upper_is M ∷ [])
unfolding Fails
fails_alone lower_is L upper_is M at = (at.0, ap (λ b. b || false) at.1)

-- a test that fails among the later ones fails among all
pub fails_later : (test : Test) (rest : List Test) → Fails rest → Fails (test ∷ rest)
unfolding Fails
fails_later test rest at = (at.0, or_second _ _ at.1)

-- a level that exceeds those of two labels exceeds that of their join
join_exceeds : (l f s : Level) (L M : Levels) (c : ℕ) → l ≡ l → rank f ≡ rank (level_of L c)
    → nat_le (rank l) (max (rank f) (rank s)) ≡ false → rank s ≡ rank (level_of M c)
    → exceeds false l (level_of (join_of L M) c) ≡ true
join_exceeds l f s L M c _ first h second =
    let joins = grades-join_of L M c in
    grind (arith, nat_tests, joins, first, second, h)

above_join : (L F S : Levels) → is_below_join L F S ≡ false → (c : ℕ) × (exceeds false (level_of L c) (level_of (join_of F S) c) ≡ true)
unfolding is_within
above_join L F S h =
    let at =
    within_fails (λ c. nat_le (rank (level_of L c)) (max (rank (level_of F c)) (rank (level_of S c))))
    (max (beyond L) (max (beyond F) (beyond S))) (exceptions_of L) (exceptions_of F) (exceptions_of S) h in
    (at.0, join_exceeds (level_of L at.0) (level_of F at.0) (level_of S at.0) F S at.0 refl refl at.1 refl)

-- star counts as 3 in the raised label
by_found : (o : Option Level) (l d : Level) → l ≡ unwrap_or o d → (if is_some o then high l else high d) ≡ high l
by_found None l d is = ap high (sym is)
by_found (Some m) l d is = refl

pub level_of-owning_high : (L : Levels) (c : ℕ) → level_of (owning_high L) c ≡ high (level_of L c)
unfolding owning_high
level_of-owning_high L c =
    level_of-refilled (λ q. high (level_of L q)) (exceptions_of L) (constant (high (default_of L))) c
    ∙ ap (λ l. if is_some (find nat_cmp c (exceptions_of L)) then high (level_of L c) else l) (level_of-constant (high (default_of L)) c)
    ∙ by_found (find nat_cmp c (exceptions_of L)) (level_of L c) (default_of L) (level_of-exceptions L c)

-- a level that is above another one with star raised is above it with star as 3
raised_or_high : (l f s : Level) → nat_le (rank l) (max (rank f) (raised s)) ≡ false → nat_le (rank l) (max (rank f) (rank (high s))) ≡ false
raised_or_high l f Star h = let bound = rank-at_most l in grind (arith, nat_tests, h, bound)
raised_or_high l f L0 h = h
raised_or_high l f L1 h = h
raised_or_high l f L2 h = h
raised_or_high l f L3 h = h

above_join_raised : (L F S : Levels) → is_below_join_raised L F S ≡ false
    → (c : ℕ) × (exceeds false (level_of L c) (level_of (join_of F (owning_high S)) c) ≡ true)
unfolding is_within
above_join_raised L F S h =
    let at =
    within_fails (λ c. nat_le (rank (level_of L c)) (max (rank (level_of F c)) (raised (level_of S c))))
    (max (beyond L) (max (beyond F) (beyond S))) (exceptions_of L) (exceptions_of F) (exceptions_of S) h in (
      at.0,
      join_exceeds (level_of L at.0) (level_of F at.0) (high (level_of S at.0)) F (owning_high S) at.0 refl refl
          (raised_or_high (level_of L at.0) (level_of F at.0) (level_of S at.0) at.1)
          (ap rank (sym (level_of-owning_high S at.0))),
    )

-- a label and a clearance that are there
pub record Owns (found : Found) : Type 0 where
  pub label : Levels
  pub clearance : Levels
  pub label_is : label_there found ≡ Some label
  pub clearance_is : clearance_there found ≡ Some clearance

pub owns_thread : (found : Found) → is_thread found ≡ true → Owns found
owns_thread None h = absurd (false≢true h)
owns_thread (Some o) h = let has = kind_cleared o.kind (inl h) in record { label = o.label; clearance = has.0; label_is = refl; clearance_is = has.1 }

pub owns_gate : (found : Found) → is_gate found ≡ true → Owns found
owns_gate None h = absurd (false≢true h)
owns_gate (Some o) h = let has = kind_cleared o.kind (inr h) in record { label = o.label; clearance = has.0; label_is = refl; clearance_is = has.1 }

module _ (found : Found) (owns : Owns found) where
  own_is : owns.label ≡ label_of_found found
  own_is = sym (ap (λ (o : Option Levels). unwrap_or o (constant L1)) owns.label_is)

  clearance_is : owns.clearance ≡ clearance_of_found found
  clearance_is = sym (ap (λ (o : Option Levels). unwrap_or o (constant L1)) owns.clearance_is)

  -- a test of both is a test of the label and the clearance that are compared
  pub holds_is : (test : Levels → Levels → Bool) → rights.holds_of found test ≡ test (label_of_found found) (clearance_of_found found)
  holds_is test = (λ i. both (owns.label_is i) (owns.clearance_is i) test) ∙ (λ i. test (own_is i) (clearance_is i))

  pub range_is : (label : Levels) → states.in_range found label ≡ (is_below (label_of_found found) label && is_below label (clearance_of_found found))
  range_is label = (λ i. between (owns.label_is i) (owns.clearance_is i) label) ∙ (λ i. is_below (own_is i) label && is_below label (clearance_is i))

-- a label outside a range makes a test fail
pub range_fails : (own label own_clearance : Levels) → (is_below own label && is_below label own_clearance) ≡ false
    → Fails (in_range own label own_clearance)
range_fails own label own_clearance h = elim (one_of_both (is_below own label) _ h) [
  | inl first ↦ fails_here parties.Thread own parties.LabelAsked label _ first
  | inr second ↦ fails_later _ _ (fails_here parties.LabelAsked label parties.ThreadClearance own_clearance [] second)
]

-- of three labels, one not below the next makes a test fail
three_fail : (a : Party) (K : Levels) (b : Party) (L : Levels) (d : Party) (M : Levels) (rest : List Test)
    → ((is_below K L ≡ false) ⊎ ((is_below L M ≡ false) ⊎ Fails rest)) → Fails (below a K b L ∷ below b L d M ∷ rest)
three_fail a K b L d M rest (inl first) = fails_here a K b L _ first
three_fail a K b L d M rest (inr (inl second)) = fails_later _ _ (fails_here b L d M rest second)
three_fail a K b L d M rest (inr (inr third)) = fails_later _ _ (fails_later _ _ third)

-- of three tests one fails
one_of_three : (a b c : Bool) → (a && b && c) ≡ false → (a ≡ false) ⊎ ((b ≡ false) ⊎ (c ≡ false))
one_of_three true true c h = inr (inr h)
one_of_three true false c h = inr (inl refl)
one_of_three false b c h = inl refl

-- a label and a clearance outside a range make a test fail
pub span_fails : (own label clearance own_clearance : Levels)
    → (is_below own label && is_below label clearance && is_below clearance own_clearance) ≡ false
    → Fails (in_span own label clearance own_clearance)
span_fails own label clearance own_clearance h = three_fail parties.Thread own parties.LabelAsked label parties.ClearanceAsked clearance _
    (elim (one_of_three (is_below own label) (is_below label clearance) (is_below clearance own_clearance) h) [
      | inl first ↦ inl first
      | inr later ↦ elim later [
        | inl second ↦ inr (inl second)
        | inr third ↦ inr (inr (fails_here parties.ClearanceAsked clearance parties.ThreadClearance own_clearance [] third))
      ]
    ])

-- so do a label and a clearance outside the range behind a gate
pub opening_fails : (own gate_label label clearance own_clearance gate_clearance : Levels)
    → lies_between own gate_label label clearance own_clearance gate_clearance ≡ false
    → Fails (behind_gate own gate_label label clearance own_clearance gate_clearance)
opening_fails own gate_label label clearance own_clearance gate_clearance h =
    three_fail parties.Floor (floor_of own gate_label) parties.LabelAsked label parties.ClearanceAsked clearance _
    (elim (one_of_three (is_below (floor_of own gate_label) label) (is_below label clearance)
    (is_below_join clearance own_clearance gate_clearance) h) [
      | inl first ↦ inl first
      | inr later ↦ elim later [
        | inl second ↦ inr (inl second)
        | inr third ↦
            inr (inr (fails_alone parties.ClearanceAsked clearance parties.Clearances
            (join_of own_clearance gate_clearance)
            (above_join clearance own_clearance gate_clearance third)))
      ]
    ])

-- and a clearance outside a range
pub clearing_fails : (own clearance own_clearance : Levels)
    → (is_below own clearance && is_below_join_raised clearance own_clearance own) ≡ false
    → Fails (clearing own clearance own_clearance)
clearing_fails own clearance own_clearance h = elim (one_of_both (is_below own clearance) _ h) [
  | inl first ↦ fails_here parties.Thread own parties.ClearanceAsked clearance _ first
  | inr second ↦
      fails_later _ _ (fails_alone parties.ClearanceAsked clearance parties.ThreadClearanceAndLabel
      (join_of own_clearance (owning_high own)) (above_join_raised clearance own_clearance own second))
]

-- a test whose negation fails holds
not_false : (b : Bool) → not b ≡ false → b ≡ true
not_false true h = refl
not_false false h = absurd cc

pub star_fails : (party : Party) (label : Levels) (rest : List Test) → not (has_star label) ≡ false → Fails (owning_nothing party label ∷ rest)
unfolding Fails
star_fails party label rest h =
    let at = (has_star-law label).0 (not_false (has_star label) h) in
    (at.0, ap (λ b. b || some_fails_at rest at.0) (λ i. exceeds false (level_of-constant L0 at.0 i) (at.1 i)))

-- a list that fails a test has a category that fails it
failing_exception : (L : Levels) (test : ℕ → Bool) (es : List (ℕ × Level)) → All (Differs L) es
    → list_all (λ e. test e.0) es ≡ false → (c : ℕ) × ((lists L c ≡ true) × (test c ≡ false))
failing_exception L test [] differ h = absurd (false≢true (sym h))
failing_exception L test (e ∷ es) differ h = elim (one_of_both (test e.0) (list_all (λ e. test e.0) es) h) [
  | inl here ↦ (e.0, (other_listed L e.0 (All-head (Differs L) e es differ), here))
  | inr later ↦ failing_exception L test es (All-tail (Differs L) e es differ) later
]

-- a label that names a category that was never made lists one
pub unmade_listed : (next : ℕ) (L : Levels) → is_made next L ≡ false → (c : ℕ) × ((lists L c ≡ true) × (was_made next c ≡ false))
unfolding is_made
unmade_listed next L h = failing_exception L (was_made next) (exceptions_of L) (each_differs L (exceptions_of L) (ListsExceptions-exceptions_of L)) h
