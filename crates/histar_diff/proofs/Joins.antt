-- Two sorted lists joined are sorted, and a key is found in the join as in both lists.
use Rattle.std.specs.Prelude.{◌≡◌, Bool, true, false, cond, T, List, [], ◌∷◌, Option, None, Some, refl}
use Rattle.std.proofs.Common.{ap, sym, ◌∙◌, subst}
use Rattle.std.specs.declared.cmp.Ordering.{Ordering}
use Rattle.std.specs.declared.cmp.Ordering.TheVariants.{Less, Equal, Greater}
use Rattle.std.specs.Ordering.{eq_by_cmp, is_lt, ordering_reverse}
use Rattle.std.specs.Cmp.{IsTotalOrder}
use Rattle.std.specs.FinMap.Entries.{below_all, by_order}
use Rattle.std.specs.FinMap.{IsAntisymmetric, find, is_sorted}
use Rattle.histar_flat.proofs.Finding.{both, equal, find_below, first, less, second}
use Rattle.histar_diff.specs.Joining.{Joined, OnlyOld, OnlyNew, InBoth, joined, joined_from}

-- what is found in a joined list, given what is found in each list
abbrev pub found : {A B : Type 0} → Option A → Option B → Option (Joined A B)
found None None = None
found None (Some b) = Some (OnlyNew b)
found (Some a) None = Some (OnlyOld a)
found (Some a) (Some b) = Some (InBoth a b)

module _ {K : Type 0} (R : K → K → Ordering) (total : IsTotalOrder R) (exact : IsAntisymmetric R) where
  -- the key is less than each of these
  abbrev IsBelow : {X : Type 0} → K → List (K × X) → Type 0
  IsBelow z es = T (below_all R z es)

  -- an order of less passes the test for less
  is_less : (z k : K) → R z k ≡ Less → T (is_lt (R z k))
  is_less z k e = subst (λ o. T (is_lt o)) (sym e) tt

  -- a key less than a lesser key is less than all that is above
  below_less : {X : Type 0} (z k : K) (es : List (K × X)) → R z k ≡ Less → IsBelow k es → IsBelow z es
  below_less z k [] e h = tt
  below_less z k (d ∷ es) e h =
      both (is_lt (R z d.0)) _ (is_less z d.0 (total.trans z k d.0 e (less (R k d.0) (first (is_lt (R k d.0)) (below_all R k es) h))))
      (below_less z k es e (second (is_lt (R k d.0)) (below_all R k es) h))

  -- the key in front of a sorted list is less than all others
  pub behind : {X : Type 0} (e : K × X) (es : List (K × X)) → T (is_sorted R (e ∷ es)) → IsBelow e.0 es
  behind e es s = first (below_all R e.0 es) (is_sorted R es) s

  pub rest_of : {X : Type 0} (e : K × X) (es : List (K × X)) → T (is_sorted R (e ∷ es)) → T (is_sorted R es)
  rest_of e es s = second (below_all R e.0 es) (is_sorted R es) s

  turned : (x y : K) → R x y ≡ Greater → R y x ≡ Less
  turned x y e = total.antisymm y x ∙ ap ordering_reverse e

  -- a key is not found if one that ties with it is less than all
  pub missed : {X : Type 0} (q k : K) (es : List (K × X)) → eq_by_cmp R q k ≡ true → IsBelow k es → find R q es ≡ None
  missed q k es t h = find_below total exact q es (subst (λ z. IsBelow z es) (sym (exact q k (equal (R q k) t))) h)

  module _ (A B : Type 0) where
    below_new : (z : K) (ys : List (K × B)) → IsBelow z ys → IsBelow z (joined R {A = A} [] ys)
    below_new z [] h = tt
    below_new z (y ∷ ys) h = both (is_lt (R z y.0)) _ (first (is_lt (R z y.0)) (below_all R z ys) h)
        (below_new z ys (second (is_lt (R z y.0)) (below_all R z ys) h))

    below_from : (z : K) (x : K × A) (xs : List (K × A)) → T (is_lt (R z x.0)) → ((ys : List (K × B)) → IsBelow z ys → IsBelow z (joined R xs ys))
        → (ys : List (K × B)) → IsBelow z ys → IsBelow z (joined_from R x.0 x.1 (joined R xs) ys)
    below_from z x xs low rest [] k = both (is_lt (R z x.0)) _ low (rest [] tt)
    below_from z x xs low rest (y ∷ ys) k = by (R x.0 y.0) (below_from z x xs low rest ys (second (is_lt (R z y.0)) (below_all R z ys) k))
      where
        by : (o : Ordering) → IsBelow z (joined_from R x.0 x.1 (joined R xs) ys)
            → IsBelow z (by_order o ((x.0, OnlyOld x.1) ∷ joined R xs (y ∷ ys)) ((x.0, InBoth x.1 y.1) ∷ joined R xs ys)
            ((y.0, OnlyNew y.1) ∷ joined_from R x.0 x.1 (joined R xs) ys))
        by Less later = both (is_lt (R z x.0)) _ low (rest (y ∷ ys) k)
        by Equal later = both (is_lt (R z x.0)) _ low (rest ys (second (is_lt (R z y.0)) (below_all R z ys) k))
        by Greater later = both (is_lt (R z y.0)) _ (first (is_lt (R z y.0)) (below_all R z ys) k) later

    -- a key less than all of both lists is less than all of the join
    below_joined : (z : K) (xs : List (K × A)) (ys : List (K × B)) → IsBelow z xs → IsBelow z ys → IsBelow z (joined R xs ys)
    below_joined z [] ys h k = below_new z ys k
    below_joined z (x ∷ xs) ys h k =
        below_from z x xs (first (is_lt (R z x.0)) (below_all R z xs) h)
        (λ ys k. below_joined z xs ys (second (is_lt (R z x.0)) (below_all R z xs) h) k) ys k

    sorted_new : (ys : List (K × B)) → T (is_sorted R ys) → T (is_sorted R (joined R {A = A} [] ys))
    sorted_new [] s = tt
    sorted_new (y ∷ ys) s = both (below_all R y.0 (joined R {A = A} [] ys)) _ (below_new y.0 ys (behind y ys s)) (sorted_new ys (rest_of y ys s))

    sorted_from : (x : K × A) (xs : List (K × A)) → T (is_sorted R (x ∷ xs))
        → ((ys : List (K × B)) → T (is_sorted R ys) → T (is_sorted R (joined R xs ys)))
        → (ys : List (K × B)) → T (is_sorted R ys) → T (is_sorted R (joined_from R x.0 x.1 (joined R xs) ys))
    sorted_from x xs s rest [] t = both (below_all R x.0 (joined R {B = B} xs [])) _ (below_joined x.0 xs [] (behind x xs s) tt) (rest [] tt)
    sorted_from x xs s rest (y ∷ ys) t = by (R x.0 y.0) refl (sorted_from x xs s rest ys (rest_of y ys t))
      where
        by : (o : Ordering) → R x.0 y.0 ≡ o → T (is_sorted R (joined_from R x.0 x.1 (joined R xs) ys))
            → T (is_sorted R (by_order o ((x.0, OnlyOld x.1) ∷ joined R xs (y ∷ ys)) ((x.0, InBoth x.1 y.1) ∷ joined R xs ys)
            ((y.0, OnlyNew y.1) ∷ joined_from R x.0 x.1 (joined R xs) ys)))
        by Less e later =
            both (below_all R x.0 (joined R xs (y ∷ ys))) _
            (below_joined x.0 xs (y ∷ ys) (behind x xs s)
            (both (is_lt (R x.0 y.0)) _ (is_less x.0 y.0 e) (below_less x.0 y.0 ys e (behind y ys t)))) (rest (y ∷ ys) t)
        by Equal e later =
            both (below_all R x.0 (joined R xs ys)) _
            (below_joined x.0 xs ys (behind x xs s) (subst (λ k. IsBelow k ys) (sym (exact x.0 y.0 e)) (behind y ys t)))
            (rest ys (rest_of y ys t))
        by Greater e later =
            let back = turned x.0 y.0 e in
            both (below_all R y.0 (joined_from R x.0 x.1 (joined R xs) ys)) _
            (below_joined y.0 (x ∷ xs) ys (both (is_lt (R y.0 x.0)) _ (is_less y.0 x.0 back) (below_less y.0 x.0 xs back (behind x xs s)))
            (behind y ys t)) later

    -- two sorted lists joined are sorted
    pub sorted_joined : (xs : List (K × A)) (ys : List (K × B)) → T (is_sorted R xs) → T (is_sorted R ys) → T (is_sorted R (joined R xs ys))
    sorted_joined [] ys s t = sorted_new ys t
    sorted_joined (x ∷ xs) ys s t = sorted_from x xs s (λ ys t. sorted_joined xs ys (rest_of x xs s) t) ys t

    find_new : (q : K) (ys : List (K × B)) → find R q (joined R {A = A} [] ys) ≡ found None (find R q ys)
    find_new q [] = refl
    find_new q (y ∷ ys) = by (eq_by_cmp R q y.0) (find_new q ys)
      where
        by : (t : Bool) → find R q (joined R {A = A} [] ys) ≡ found None (find R q ys)
            → cond t (Some (OnlyNew y.1)) (find R q (joined R {A = A} [] ys)) ≡ found None (cond t (Some y.1) (find R q ys))
        by true later = refl
        by false later = later

    module _ (q : K) (x : K × A) (xs : List (K × A)) (s : T (is_sorted R (x ∷ xs))) where
      -- a key is found in the join as in both lists
      abbrev FoundIn : List (K × B) → Type 0
      FoundIn ys = find R q (joined R xs ys) ≡ found (find R q xs) (find R q ys)

      found_first : (t : Bool) → eq_by_cmp R q x.0 ≡ t → (zs : List (K × B)) → IsBelow x.0 zs → FoundIn zs
          → cond t (Some (OnlyOld x.1)) (find R q (joined R xs zs)) ≡ found (cond t (Some x.1) (find R q xs)) (find R q zs)
      found_first true e zs h rest = ap (found (Some x.1)) (sym (missed q x.0 zs e h))
      found_first false e zs h rest = rest

      found_both : (t : Bool) (v : B) (ys : List (K × B)) → FoundIn ys
          → cond t (Some (InBoth x.1 v)) (find R q (joined R xs ys)) ≡ found (cond t (Some x.1) (find R q xs)) (cond t (Some v) (find R q ys))
      found_both true v ys rest = refl
      found_both false v ys rest = rest

      found_last : (t : Bool) (y : K × B) (ys : List (K × B)) → eq_by_cmp R q y.0 ≡ t → IsBelow y.0 (x ∷ xs)
          → find R q (joined_from R x.0 x.1 (joined R xs) ys) ≡ found (find R q (x ∷ xs)) (find R q ys)
          → cond t (Some (OnlyNew y.1)) (find R q (joined_from R x.0 x.1 (joined R xs) ys))
          ≡ found (find R q (x ∷ xs)) (cond t (Some y.1) (find R q ys))
      found_last true y ys e h later = ap (λ o. found o (Some y.1)) (sym (missed q y.0 (x ∷ xs) e h))
      found_last false y ys e h later = later

      find_from : ((ys : List (K × B)) → T (is_sorted R ys) → FoundIn ys) → (ys : List (K × B)) → T (is_sorted R ys)
          → find R q (joined_from R x.0 x.1 (joined R xs) ys) ≡ found (find R q (x ∷ xs)) (find R q ys)
      find_from rest [] t = found_first (eq_by_cmp R q x.0) refl [] tt (rest [] tt)
      find_from rest (y ∷ ys) t = by (R x.0 y.0) refl (find_from rest ys (rest_of y ys t))
        where
          by : (o : Ordering) → R x.0 y.0 ≡ o → find R q (joined_from R x.0 x.1 (joined R xs) ys) ≡ found (find R q (x ∷ xs)) (find R q ys)
              → find R q (by_order o ((x.0, OnlyOld x.1) ∷ joined R xs (y ∷ ys)) ((x.0, InBoth x.1 y.1) ∷ joined R xs ys)
              ((y.0, OnlyNew y.1) ∷ joined_from R x.0 x.1 (joined R xs) ys))
              ≡ found (find R q (x ∷ xs)) (find R q (y ∷ ys))
          by Less e later =
              found_first (eq_by_cmp R q x.0) refl (y ∷ ys)
              (both (is_lt (R x.0 y.0)) _ (is_less x.0 y.0 e) (below_less x.0 y.0 ys e (behind y ys t))) (rest (y ∷ ys) t)
          by Equal e later =
              found_both (eq_by_cmp R q x.0) y.1 ys (rest ys (rest_of y ys t))
              ∙ ap (λ k. found (find R q (x ∷ xs)) (cond (eq_by_cmp R q k) (Some y.1) (find R q ys))) (exact x.0 y.0 e)
          by Greater e later =
              let back = turned x.0 y.0 e in
              found_last (eq_by_cmp R q y.0) y ys refl
              (both (is_lt (R y.0 x.0)) _ (is_less y.0 x.0 back) (below_less y.0 x.0 xs back (behind x xs s))) later

    -- a key is found in two sorted lists joined as in each
    pub find_joined : (q : K) (xs : List (K × A)) (ys : List (K × B)) → T (is_sorted R xs) → T (is_sorted R ys) → find R q (joined R xs ys)
        ≡ found (find R q xs) (find R q ys)
    find_joined q [] ys s t = find_new q ys
    find_joined q (x ∷ xs) ys s t = find_from q x xs s (λ ys t. find_joined q xs ys (rest_of x xs s) t) ys t
