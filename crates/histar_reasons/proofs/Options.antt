-- Options as answers of tests: chains, choices and the first element that fails.
use Rattle.std.specs.Prelude.{◌≡◌, Bool, true, false, not, ◌&&◌, cond, List, [], ◌∷◌, Option, None, Some, option_map, refl}
use Rattle.std.proofs.Common.{sym, ap, ◌∙◌, subst}
use Rattle.std.proofs.lemmas.Bool.{and_from}
use Rattle.std.specs.List.{list_all}
use Rattle.histar_base.specs.Refusals.{◌orelse◌, unless}
use Rattle.histar_reasons.specs.Causes.{first_not}
use Rattle.histar_reasons.specs.Laws.{IsFirstNot}

-- there is no value
abbrev pub none : {A : Type 0} → Option A → Bool
none None = true
none (Some x) = false

module _ {A : Type 0} where
  -- a test refuses nothing exactly if it passes
  pub none_unless : (b : Bool) (x : A) → none (unless b x) ≡ b
  none_unless true x = refl
  none_unless false x = refl

  -- a chain refuses nothing exactly if no part does
  pub none_orelse : (a b : Option A) → none (a orelse b) ≡ (none a && none b)
  none_orelse None b = refl
  none_orelse (Some x) b = refl

  -- no element fails exactly if all pass
  pub none_first : (test : A → Bool) (xs : List A) → none (first_not test xs) ≡ list_all test xs
  none_first test [] = refl
  none_first test (x ∷ xs) = by (test x) (none_first test xs)
    where
      by : (b : Bool) → none (first_not test xs) ≡ list_all test xs → none (cond (not b) (Some x) (first_not test xs)) ≡ (b && list_all test xs)
      by true rest = rest
      by false rest = refl

  -- the element that is found is the first that fails
  pub first_is : (test : A → Bool) (xs : List A) (x : A) → first_not test xs ≡ Some x → IsFirstNot test xs x
  first_is test [] x h = absurd (cc)
  first_is test (y ∷ xs) x h = by (first_is test xs x) (test y) refl h
    where
      by : (first_not test xs ≡ Some x → IsFirstNot test xs x)
          → (b : Bool) → test y ≡ b → cond (not b) (Some y) (first_not test xs) ≡ Some x → IsFirstNot test (y ∷ xs) x
      by inner true passes i =
          let rest = inner i in
          record {
            before = y ∷ rest.before;
            after = rest.after;
            list = ap (λ ys. y ∷ ys) rest.list;
            passed = and_from (test y) (list_all test rest.before) passes rest.passed;
            fails = rest.fails;
          }
      by inner false fails i =
          let same : y ≡ x = cc in
          record { before = []; after = xs; list = ap (λ z. z ∷ xs) same; passed = refl; fails = subst (λ z. test z ≡ false) same fails }

module _ {A B : Type 0} where
  -- a mapped option has a value exactly if the option has
  pub none_map : (g : A → B) (o : Option A) → none (option_map g o) ≡ none o
  none_map g None = refl
  none_map g (Some x) = refl

  -- a mapped option is a test's refusal, if each value is mapped to it
  pub map_unless : (g : A → B) (e : B) (o : Option A) (b : Bool) → ((x : A) → g x ≡ e) → none o ≡ b → option_map g o ≡ unless b e
  map_unless g e None b same h = ap (λ c. unless c e) h
  map_unless g e (Some x) b same h = ap Some (same x) ∙ ap (λ c. unless c e) h

  -- a chain is mapped part by part, and its later part counts only if the first refuses nothing
  pub chain : (g : A → B) (x y : Option A) (u v : Option B) → option_map g x ≡ u → (u ≡ None → option_map g y ≡ v)
      → option_map g (x orelse y) ≡ (u orelse v)
  chain g None y u v h k = k (sym h) ∙ ap (λ w. w orelse v) h
  chain g (Some r) y u v h k = ap (λ w. w orelse v) h

  -- what is so of each mapped value is so of the one that is there
  pub from_map : (P : B → Type 0) (g : A → B) (o : Option A) (r : B) → ((x : A) → o ≡ Some x → P (g x)) → option_map g o ≡ Some r → P r
  from_map P g None r k h = absurd (cc)
  from_map P g (Some x) r k h = let same : g x ≡ r = cc in subst P same (k x refl)

module _ {A : Type 0} where
  -- a test's refusal, mapped
  pub mapped_unless : {B : Type 0} (g : A → B) (b : Bool) (x : A) → option_map g (unless b x) ≡ unless b (g x)
  mapped_unless g true x = refl
  mapped_unless g false x = refl

  -- what is so where a test fails is so of its refusal
  pub from_unless : (P : A → Type 0) (b : Bool) (x r : A) → (b ≡ false → P x) → unless b x ≡ Some r → P r
  from_unless P true x r k h = absurd (cc)
  from_unless P false x r k h = let same : x ≡ r = cc in subst P same (k refl)

  -- what is so of the first part's value, and of the later part's where the first has none, is so of the chain's
  pub from_orelse : (P : A → Type 0) (a b : Option A) (r : A) → (a ≡ Some r → P r) → (a ≡ None → b ≡ Some r → P r) → (a orelse b) ≡ Some r → P r
  from_orelse P None b r k l h = l refl h
  from_orelse P (Some x) b r k l h = k h

  -- a test that has a refusal has failed
  pub failed : (b : Bool) (x r : A) → unless b x ≡ Some r → b ≡ false
  failed true x r h = absurd (cc)
  failed false x r h = refl
