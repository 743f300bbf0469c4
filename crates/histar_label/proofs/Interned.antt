-- A store that interns labels has one Id for each, and right answers stay right when a label is added.
use Rattle.std.proofs.Common.{◌≡◌, ℕ, zero, suc, ◌+◌, ◌<◌, Bool, true, false, List, [], ◌∷◌, ◌++◌, length, Some, unwrap_or, if◌then◌else◌, ◌||◌, refl}
use Rattle.std.proofs.Common.{sym, ap, ◌∙◌, arith, length-append}
use mathlib.Core.Bool.{false≢true}
use Rattle.std.specs.List.{slice_get, list_any, IsDistinct, AllByRecursion}
use Rattle.std.proofs.lemmas.Option.{slice_get-get_or}
use Rattle.indexmap.specs.IndexSet.{insert_key}
use Rattle.histar_level.specs.declared.level.Level.TheVariants.{L1}
use Rattle.histar_label.specs.declared.comparisons.Comparison.{Comparison}
use Rattle.histar_level.specs.Levels.{Levels}
use Rattle.histar_label.specs.Levels.{constant, is_within}
use Rattle.histar_label.specs.Store.{label_at, Keeps, HasOneId}
use Rattle.histar_label.specs.declared.comparisons.Question.{Question}
use Rattle.histar_label.specs.declared.comparisons.Question.TheVariants.{Plain, Raised, Floor}
use Rattle.histar_label.specs.InternStore.{IsRight, test_of}
use Rattle.histar_label.proofs.Tests.{is_within-law}

-- a label stays at its place when one is added after it
slice_get-push : (ks : List Levels) (L M : Levels) (i : ℕ) → slice_get ks i ≡ Some M → slice_get (ks ++ L ∷ []) i ≡ Some M
slice_get-push [] L M i is = cc
slice_get-push (k ∷ ks) L M zero is = is
slice_get-push (k ∷ ks) L M (suc i) is = slice_get-push ks L M i is

module _ (eq : Levels → Levels → Bool) (ks : List Levels) (L : Levels) where
  -- each label stays at its place
  pub Keeps-insert_key : Keeps (slice_get ks) (slice_get (insert_key eq ks L))
  Keeps-insert_key i M is = elim (list_any (eq L) ks) as (λ b. slice_get (if b then ks else ks ++ L ∷ []) i ≡ Some M) [
    | true ↦ is
    | false ↦ slice_get-push ks L M i is
  ]

  -- no label is lost
  longer : length ks < length (insert_key eq ks L) + 1
  longer = elim (list_any (eq L) ks) as (λ b. length ks < length (if b then ks else ks ++ L ∷ []) + 1) [
    | true ↦ omega arith
    | false ↦ omega (arith, length-append ks (L ∷ []))
  ]

  -- an Id that stood for a label still stands for it
  same_label_at : (i : ℕ) → i < length ks → label_at (slice_get (insert_key eq ks L)) i ≡ label_at (slice_get ks) i
  same_label_at i lt =
      let was = slice_get-get_or ks i (constant L1) lt in
      ap (λ o. unwrap_or o (constant L1)) (Keeps-insert_key i _ was ∙ sym was)

  -- so a right answer stays right
  pub IsRight-insert_key : (c : Comparison) (answer : Bool) → IsRight ks c answer → IsRight (insert_key eq ks L) c answer
  IsRight-insert_key c answer right = record {
    own = omega (arith, right.own, longer);
    first = omega (arith, right.first, longer);
    second = omega (arith, right.second, longer);
    right =
        right.right
        ∙ sym (λ i.
        is_within (same_label_at c.own right.own i) (same_label_at c.first right.first i)
        (same_label_at c.second right.second i) (test_of c.question));
  }

module _ (eq : Levels → Levels → Bool) (own : (L : Levels) → eq L L ≡ true) where
  -- a label is not in a list of other labels
  not_among : (ks : List Levels) (L : Levels) (i : ℕ) → AllByRecursion (λ M. eq L M ≡ false) ks → slice_get ks i ≡ Some L → ⊥
  not_among [] L i apart is = cc
  not_among (k ∷ ks) L zero apart is =
      let same : k ≡ L = ap (λ o. unwrap_or o L) is in
      absurd (false≢true (sym apart.0 ∙ ap (eq L) same ∙ own L))
  not_among (k ∷ ks) L (suc i) apart is = not_among ks L i apart.1 is

  -- the first of a list of different labels is at no later place
  only_first : (k : Levels) (ks : List Levels) → AllByRecursion (λ M. eq k M ≡ false) ks → (L : Levels) (i : ℕ)
      → Some k ≡ Some L → slice_get ks i ≡ Some L → ⊥
  only_first k ks apart L i first later = not_among ks k i apart (later ∙ sym first)

  -- where no two labels are equal, none has two Ids
  pub HasOneId-distinct : (ks : List Levels) → IsDistinct eq ks → HasOneId (slice_get ks)
  unfolding IsDistinct
  HasOneId-distinct [] distinct i j L at_i at_j = cc
  HasOneId-distinct (k ∷ ks) distinct zero zero L at_i at_j = refl
  HasOneId-distinct (k ∷ ks) distinct zero (suc j) L at_i at_j = absurd (only_first k ks distinct.0 L j at_i at_j)
  HasOneId-distinct (k ∷ ks) distinct (suc i) zero L at_i at_j = absurd (only_first k ks distinct.0 L i at_j at_i)
  HasOneId-distinct (k ∷ ks) distinct (suc i) (suc j) L at_i at_j = ap suc (HasOneId-distinct ks distinct.1 i j L at_i at_j)

  -- a label that has an Id is found
  pub found_by_id : (ks : List Levels) (L : Levels) (i : ℕ) → slice_get ks i ≡ Some L → list_any (eq L) ks ≡ true
  found_by_id [] L i is = cc
  found_by_id (k ∷ ks) L zero is =
      let same : k ≡ L = ap (λ o. unwrap_or o L) is in
      ap (λ b. b || list_any (eq L) ks) (ap (eq L) same ∙ own L)
  found_by_id (k ∷ ks) L (suc i) is = elim (eq L k) as (λ b. (b || list_any (eq L) ks) ≡ true) [
    | true ↦ refl
    | false ↦ found_by_id ks L i is
  ]

-- a label is below its join with any label, however the star of that one is read
pub is_below_own_join : (L S : Levels) (q : Question) → (q ≡ Floor → ⊥) → is_within L L S (test_of q) ≡ true
is_below_own_join L S Plain other = (is_within-law L L S (test_of Plain)).1 (λ c. omega arith)
is_below_own_join L S Raised other = (is_within-law L L S (test_of Raised)).1 (λ c. omega arith)
is_below_own_join L S Floor other = absurd (other refl)
