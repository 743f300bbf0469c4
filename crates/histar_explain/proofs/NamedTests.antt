-- Where the labels of a denial list categories that are named or new alone, and its tests pass at the new ones, its explanation is named.
use Rattle.std.proofs.Common.{◌≡◌, ◌≢◌, ℕ, ◌⊎◌, inl, inr, Bool, true, false, ◌||◌, ◌&&◌, not, List, [], ◌∷◌, All}
use Rattle.std.proofs.Common.{None, Some}
use Rattle.std.proofs.Common.{refl, sym, ap, ◌∙◌, arith, eqb, if◌then◌else◌}
use Rattle.std.specs.List.{AllByRecursion, AllZip, list_any}
use Rattle.std.proofs.lemmas.Bool.Decides.{nat_tests}
use Rattle.std.proofs.lemmas.List.Elements.{All-head, All-tail}
use Rattle.std.proofs.lemmas.Bool.{or_cases}
use mathlib.Core.Bool.{true≢false}
use Rattle.histar_level.specs.declared.level.Level.{Level}
use Rattle.histar_level.specs.declared.level.Level.TheVariants.{L1, L2}
use Rattle.histar_level.specs.Level.{rank}
use Rattle.histar_level.specs.Levels.{Levels, level_of, default_of}
use Rattle.histar_label.specs.Levels.{constant}
use Rattle.histar_label.proofs.Readers.{default_of-constant, level_of-constant}
use Rattle.histar_explain.specs.declared.reasons.Difference.{Difference}
use Rattle.histar_explain.specs.declared.reasons.Reason.{Reason}
use Rattle.histar_explain.specs.declared.reasons.Party.{Party}
use Rattle.histar_explain.specs.Comparisons.{exceeds, fails_at, failing_defaults, IsListed, IsDifference}
use Rattle.histar_explain.specs.Tests.{Test, below, observing, IsReasonOf}
use Rattle.histar_explain.specs.Unmade.{AreUnmade, is_among, lists, was_made}

-- a label has its default but at such categories
abbrev pub ListsOnly : (ℕ → Type 0) → Levels → Type 0
ListsOnly Holds L = (c : ℕ) → (level_of L c ≢ default_of L) → Holds c

-- a constant lists nothing
pub constant_lists : (Holds : ℕ → Type 0) (l : Level) → ListsOnly Holds (constant l)
constant_lists Holds l c differs = absurd (differs (level_of-constant l c ∙ sym (default_of-constant l)))

-- a reason lists such categories alone, and its comparison doesn't fail at all others
abbrev pub IsReasonOn : (ℕ → Type 0) → Reason → Type 0
IsReasonOn Named r = AllByRecursion (λ (d : Difference). Named d.category) r.named.items × (r.elsewhere ≡ None)

module _ (Named New : ℕ → Type 0) (next : ℕ) where
  -- the category was made, and it is named or new
  abbrev pub IsNamedOrNew : ℕ → Type 0
  IsNamedOrNew c = (was_made next c ≡ true) × (Named c ⊎ New c)

  -- a label lists such categories alone, and is 1 elsewhere; a clearance may be 2 there
  abbrev pub IsNamedLabel : Levels → Type 0
  IsNamedLabel L = ListsOnly IsNamedOrNew L × (default_of L ≡ L1)

  abbrev pub IsNamedClearance : Levels → Type 0
  IsNamedClearance L = ListsOnly IsNamedOrNew L × ((default_of L ≡ L1) ⊎ (default_of L ≡ L2))

  -- the labels of a test list such categories alone, and it passes at the new ones and for the defaults
  pub record IsNamedTest (test : Test) : Type 0 where
    pub listed : (c : ℕ) → IsListed test.comparison c → IsNamedOrNew c
    pub passes : (c : ℕ) → New c → fails_at test.comparison c ≡ false
    pub defaults : failing_defaults test.comparison ≡ None

  -- ---- reasons

  -- a category at which a test fails is named
  named_by : (test : Test) (fine : IsNamedTest test) (d : Difference) → IsDifference test.comparison true d → Named d.category
  named_by test fine d is = elim (fine.listed d.category is.listed).1 [
    | inl named ↦ named
    | inr new ↦ absurd (true≢false (sym is.outcome ∙ fine.passes d.category new))
  ]

  -- and so are all that a reason of it lists
  all_named : (test : Test) (fine : IsNamedTest test) (ds : List Difference) → All (IsDifference test.comparison true) ds
      → AllByRecursion (λ (d : Difference). Named d.category) ds
  all_named test fine [] right = tt
  all_named test fine (d ∷ ds) right = (
    named_by test fine d (All-head (IsDifference test.comparison true) d ds right),
    all_named test fine ds (All-tail (IsDifference test.comparison true) d ds right),
  )

  -- the reasons of such tests are named
  pub reasons_named : (tests : List Test) (reasons : List Reason) → AllZip IsReasonOf tests reasons → AllByRecursion IsNamedTest tests
      → AllByRecursion (IsReasonOn Named) reasons
  reasons_named [] [] zip fine = tt
  reasons_named [] (r ∷ reasons) zip fine = absurd zip
  reasons_named (test ∷ tests) [] zip fine = absurd zip
  reasons_named (test ∷ tests) (r ∷ reasons) zip fine = (
    (
      all_named test fine.0 r.named.items zip.0.explained.named.right,
      zip.0.explained.elsewhere ∙ fine.0.defaults,
    ),
    reasons_named tests reasons zip.1 fine.1,
  )

  -- ---- categories that were never made

  -- the first of a list is among it
  among_itself : (c : ℕ) (cs : List ℕ) → is_among (c ∷ cs) c ≡ true
  among_itself c cs = let same : eqb c c ≡ true = grind (arith, nat_tests) in ap (λ b. b || is_among cs c) same

  -- what such a label lists was made
  made_if_listed : (L : Levels) → ListsOnly IsNamedOrNew L → (c : ℕ) → lists L c ≡ true → was_made next c ≡ true
  made_if_listed L fine c listed = (fine c (λ same. grind (arith, nat_tests, listed, ap rank same))).0

  -- what implies another test doesn't hold without it
  both_false : (a b : Bool) → (a ≡ true → b ≡ true) → (a && not b) ≡ false
  both_false true b so = ap not (so refl)
  both_false false b so = refl

  -- one of some labels lists a category
  abbrev is_listed : List Levels → ℕ → Bool
  is_listed labels c = list_any (λ L. lists L c) labels

  -- all categories of such labels were made
  pub none_unmade : (labels : List Levels) → AllByRecursion (ListsOnly IsNamedOrNew) labels → (cs : List ℕ) → AreUnmade next labels cs
      → cs ≡ []
  none_unmade labels fine [] unmade = refl
  none_unmade labels fine (c ∷ cs) unmade =
      absurd (true≢false (sym (among_itself c cs) ∙ unmade.exact c ∙ both_false _ (was_made next c) (made labels fine)))
    where
      made : (labels : List Levels) → AllByRecursion (ListsOnly IsNamedOrNew) labels → is_listed labels c ≡ true → was_made next c ≡ true
      made [] fine listed = absurd (true≢false (sym listed))
      made (L ∷ labels) fine listed = elim (or_cases (lists L c) (is_listed labels c) listed) [
        | inl here ↦ made_if_listed L fine.0 c here
        | inr later ↦ made labels fine.1 later
      ]

  -- ---- tests

  -- a first label has to be below a second: it is at new categories and by default
  pub named_below : (lower_is upper_is : Party) (lower upper : Levels) → ListsOnly IsNamedOrNew lower → ListsOnly IsNamedOrNew upper
      → ((c : ℕ) → New c → exceeds false (level_of lower c) (level_of upper c) ≡ false)
      → exceeds false (default_of lower) (default_of upper) ≡ false
      → IsNamedTest (below lower_is lower upper_is upper)
  named_below lower_is upper_is lower upper low up new defaults = record {
    listed = λ c listed. elim listed [ inl here ↦ low c here | inr here ↦ up c here ];
    passes = new;
    defaults = ap (λ b. if b then Some (default_of lower, default_of upper) else None) defaults;
  }

  -- a thread may observe an object: it owns the new categories
  pub named_observing : (own label : Levels) → ListsOnly IsNamedOrNew own → ListsOnly IsNamedOrNew label
      → ((c : ℕ) → New c → exceeds true (level_of label c) (level_of own c) ≡ false)
      → exceeds true (default_of label) (default_of own) ≡ false
      → IsNamedTest (observing own label)
  named_observing own label low up new defaults = record {
    listed = λ c listed. elim listed [ inl here ↦ up c here | inr here ↦ low c here ];
    passes = new;
    defaults = ap (λ b. if b then Some (default_of label, default_of own) else None) defaults;
  }
