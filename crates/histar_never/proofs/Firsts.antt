-- The first answer of a list.
use Rattle.std.specs.Prelude.{◌≡◌, ℕ, zero, suc, ◌<◌, Bool, true, false, T, List, [], ◌∷◌, ◌++◌, filter, length, map}
use Rattle.std.specs.Prelude.{Option, None, Some}
use Rattle.std.specs.Prelude.{cond, option_and_then, if◌then◌else◌, refl}
use Rattle.std.specs.List.{Contains, cons_option, filter_map, slice_index_or}
use Rattle.std.specs.Option.{option_or}
use Rattle.std.specs.declared.cmp.Ordering.{Ordering}
use Rattle.std.specs.Ordering.{eq_by_cmp, is_eq}
use Rattle.std.specs.Cmp.{IsTotalOrder, tied_itself}
use Rattle.std.specs.FinMap.{IsAntisymmetric, find, is_sorted}
use Rattle.std.proofs.Common.{ap, arith, subst, sym, ◌∙◌}
use Rattle.std.proofs.lemmas.Bool.{true≢false}
use Rattle.std.proofs.lemmas.Option.{none-some, same_Some}
use Rattle.histar_flat.proofs.Finding.{equal, find_first, find_later}
use Rattle.histar_diff.proofs.Joins.{behind, missed, rest_of}
use Rattle.histar_never.specs.Breaches.{first_of}

-- an answer, or else none
pub or_none : {B : Type 0} (o : Option B) → option_or o None ≡ o
or_none None = refl
or_none (Some b) = refl

-- neither of two answers is there
pub none_both : {B : Type 0} (x y : Option B) → option_or x y ≡ None → (x ≡ None) × (y ≡ None)
none_both None y e = (refl, e)
none_both (Some b) y e = absurd (none-some b (sym e))

module _ {A B : Type 0} (answer : A → Option B) where
  -- of two lists, that of the first one comes first
  pub first_append : (xs ys : List A) → first_of answer (xs ++ ys) ≡ option_or (first_of answer xs) (first_of answer ys)
  first_append [] ys = refl
  first_append (x ∷ xs) ys = by (answer x) (first_append xs ys)
    where
      by : (o : Option B) → first_of answer (xs ++ ys) ≡ option_or (first_of answer xs) (first_of answer ys)
          → option_or o (first_of answer (xs ++ ys)) ≡ option_or (option_or o (first_of answer xs)) (first_of answer ys)
      by None e = e
      by (Some b) e = refl

  -- of mapped items
  pub first_map : {C : Type 0} (h : C → A) (xs : List C) → first_of answer (map h xs) ≡ first_of (λ x. answer (h x)) xs
  first_map h [] = refl
  first_map h (x ∷ xs) = ap (option_or (answer (h x))) (first_map h xs)

  -- of the items that pass a test
  pub first_filter : (test : A → Bool) (xs : List A)
      → first_of answer (filter test xs) ≡ first_of (λ x. if test x then answer x else None) xs
  first_filter test [] = refl
  first_filter test (x ∷ xs) = by (test x) (first_filter test xs)
    where
      by : (t : Bool) → first_of answer (filter test xs) ≡ first_of (λ y. if test y then answer y else None) xs
          → first_of answer (cond t (x ∷ filter test xs) (filter test xs))
          ≡ option_or (if t then answer x else None) (first_of (λ y. if test y then answer y else None) xs)
      by true e = ap (option_or (answer x)) e
      by false e = e

  -- of the items that a function gives
  pub first_filter_map : {C : Type 0} (g : C → Option A) (xs : List C)
      → first_of answer (filter_map g xs) ≡ first_of (λ x. option_and_then answer (g x)) xs
  first_filter_map g [] = refl
  first_filter_map g (x ∷ xs) = by (g x) (first_filter_map g xs)
    where
      by : (o : Option A) → first_of answer (filter_map g xs) ≡ first_of (λ y. option_and_then answer (g y)) xs
          → first_of answer (cons_option o (filter_map g xs))
          ≡ option_or (option_and_then answer o) (first_of (λ y. option_and_then answer (g y)) xs)
      by None e = e
      by (Some a) e = ap (option_or (answer a)) e

  -- the first one is that of an item
  pub record IsOfItem (xs : List A) (b : B) : Type 0 where
    pub item : A
    pub contained : Contains xs item
    pub is : answer item ≡ Some b

  pub first_is : (xs : List A) (b : B) → first_of answer xs ≡ Some b → IsOfItem xs b
  first_is [] b e = absurd (none-some b e)
  first_is (x ∷ xs) b e = by (answer x) refl e (first_is xs b)
    where
      by : (o : Option B) → answer x ≡ o → option_or o (first_of answer xs) ≡ Some b → (first_of answer xs ≡ Some b → IsOfItem xs b)
          → IsOfItem (x ∷ xs) b
      by None is e later =
          let l = later e in
          let k = l.contained.0 in
          let within = l.contained.1 in
          record { item = l.item; contained = (suc k, omega (arith, within), l.contained.2); is = l.is }
      by (Some c) is e later = record { item = x; contained = (0, omega arith, refl); is = is ∙ e }

  -- no item has an answer, if there is no first one
  pub none_at : (xs : List A) → first_of answer xs ≡ None → (k : ℕ) (d : A) → k < length xs → answer (slice_index_or xs k d) ≡ None
  none_at [] e k d within = absurd (omega arith)
  none_at (x ∷ xs) e zero d within = (none_both (answer x) (first_of answer xs) e).0
  none_at (x ∷ xs) e (suc k) d within = none_at xs (none_both (answer x) (first_of answer xs) e).1 k d (omega arith)

  pub none_of : (xs : List A) → first_of answer xs ≡ None → (x : A) → Contains xs x → answer x ≡ None
  none_of xs e x among = ap answer (sym among.2) ∙ none_at xs e among.0 x among.1

  -- there is no first one, if no item has an answer
  pub of_none : (xs : List A) → ((x : A) → Contains xs x → answer x ≡ None) → first_of answer xs ≡ None
  of_none [] each = refl
  of_none (x ∷ xs) each =
      let rest = of_none xs (λ y among. let within = among.1 in each y (suc among.0, omega (arith, within), among.2)) in
      λ i. option_or (each x (0, omega arith, refl) i) (rest i)

-- ---- items with keys that rise

module _ {K X B : Type 0} (R : K → K → Ordering) (total : IsTotalOrder R) (exact : IsAntisymmetric R) (answer : K × X → Option B) where
  -- the item that is found has no answer, if there is no first one
  pub found_none : (es : List (K × X)) → first_of answer es ≡ None → (k : K) (x : X) → find R k es ≡ Some x → answer (k, x) ≡ None
  found_none [] e k x is = absurd (none-some x is)
  found_none (d ∷ es) e k x is =
      let parts = none_both (answer d) (first_of answer es) e in
      by (eq_by_cmp R k d.0) refl is parts.0 (found_none es parts.1 k x)
    where
      by : (t : Bool) → eq_by_cmp R k d.0 ≡ t → cond t (Some d.1) (find R k es) ≡ Some x → answer d ≡ None
          → (find R k es ≡ Some x → answer (k, x) ≡ None) → answer (k, x) ≡ None
      by true tied is none later =
          subst (λ c. answer c ≡ None) (λ i. (sym (exact k d.0 (equal (R k d.0) tied)) i, same_Some d.1 x is i)) none
      by false tied is none later = later is

  -- there is no first one, if no item that is found has an answer
  pub none_found : (es : List (K × X)) → T (is_sorted R es) → ((k : K) (x : X) → find R k es ≡ Some x → answer (k, x) ≡ None)
      → first_of answer es ≡ None
  none_found [] sorted each = refl
  none_found (d ∷ es) sorted each =
      let rest = none_found es (rest_of R total exact d es sorted)
      (λ k x is. each k x (find_later total exact d.0 d.1 es k x (behind R total exact d es sorted) is)) in
      λ i. option_or (each d.0 d.1 (find_first total exact d.0 d.1 es) i) (rest i)

-- a test of keys finds this one alone
pub record TestsFor {K : Type 0} (test : K → Bool) (key : K) : Type 0 where
  pub found : test key ≡ true
  pub alone : (k : K) → test k ≡ true → key ≡ k

module _ {K X B : Type 0} (R : K → K → Ordering) (total : IsTotalOrder R) (exact : IsAntisymmetric R) (answer : K × X → Option B) where
  -- the first answer of the items of one key is that of the item that is found
  pub first_at : (test : K → Bool) (key : K) → TestsFor test key → (es : List (K × X)) → T (is_sorted R es)
      → first_of (λ e. if test e.0 then answer e else None) es ≡ option_and_then (λ x. answer (key, x)) (find R key es)
  first_at test key tests [] sorted = refl
  first_at test key tests (d ∷ es) sorted =
      by (eq_by_cmp R key d.0) refl (test d.0) refl (first_at test key tests es (rest_of R total exact d es sorted))
    where
      later : Option B
      later = first_of (λ e. if test e.0 then answer e else None) es

      by : (t : Bool) → eq_by_cmp R key d.0 ≡ t → (s : Bool) → test d.0 ≡ s
          → later ≡ option_and_then (λ x. answer (key, x)) (find R key es)
          → option_or (if s then answer d else None) later ≡ option_and_then (λ x. answer (key, x)) (cond t (Some d.1) (find R key es))
      by true tied true is rest =
          let gone = ap (option_and_then (λ x. answer (key, x))) (missed R total exact key d.0 es tied (behind R total exact d es sorted)) in
          ap (option_or (answer d)) (rest ∙ gone) ∙ or_none (answer d)
          ∙ ap (λ k. answer (k, d.1)) (sym (exact key d.0 (equal (R key d.0) tied)))
      by true tied false is rest =
          absurd (true≢false (sym tests.found ∙ ap test (exact key d.0 (equal (R key d.0) tied)) ∙ is))
      by false tied true is rest =
          absurd (true≢false (sym (tied_to (tests.alone d.0 is)) ∙ tied))
        where
          tied_to : key ≡ d.0 → eq_by_cmp R key d.0 ≡ true
          tied_to e = ap (λ k. eq_by_cmp R key k) (sym e) ∙ (λ i. is_eq (tied_itself total key i))
      by false tied false is rest = rest
