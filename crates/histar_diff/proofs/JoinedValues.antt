-- Entries with other values, and the values that are joined at each key.
use Rattle.std.specs.Prelude.{◌≡◌, Bool, true, false, cond, is_some, ◌||◌, T, List, [], ◌∷◌, ◌++◌, map}
use Rattle.std.specs.Prelude.{Option, None, Some, option_map, refl}
use Rattle.std.specs.List.{AllByRecursion, flat_map, list_any}
use Rattle.std.proofs.Common.{ap, sym, ◌∙◌}
use Rattle.std.proofs.lemmas.Option.{none-some, same_Some}
use Rattle.std.specs.declared.cmp.Ordering.{Ordering}
use Rattle.std.specs.declared.cmp.Ordering.TheVariants.{Less, Equal, Greater}
use Rattle.std.specs.Ordering.{eq_by_cmp, is_lt}
use Rattle.std.specs.Cmp.{IsTotalOrder}
use Rattle.std.specs.FinMap.Entries.{below_all, by_order}
use Rattle.std.specs.FinMap.{IsAntisymmetric, find, is_sorted}
use Rattle.histar_flat.proofs.Finding.{both, equal, find_first, find_later, first, second}
use Rattle.histar_diff.specs.Joining.{Joined, OnlyOld, OnlyNew, InBoth, joined, joined_from, new_of, old_of}
use Rattle.histar_diff.proofs.Joins.{behind, find_joined, found, rest_of, sorted_joined}

-- ---- other values

-- the entries with other values
abbrev pub values : {K A C : Type 0} → (K → A → C) → List (K × A) → List (K × C)
values G es = map (λ e. (e.0, G e.0 e.1)) es

-- the keys of entries
abbrev pub keys_of : {K A : Type 0} → List (K × A) → List K
keys_of es = map (λ e. e.0) es

module _ {K A C : Type 0} (R : K → K → Ordering) (G : K → A → C) where
  below_values : (z : K) (es : List (K × A)) → T (below_all R z es) → T (below_all R z (values G es))
  below_values z [] h = tt
  below_values z (e ∷ es) h =
      both (is_lt (R z e.0)) _ (first (is_lt (R z e.0)) (below_all R z es) h)
      (below_values z es (second (is_lt (R z e.0)) (below_all R z es) h))

  -- entries with other values rise as they did
  pub values_rise : (es : List (K × A)) → T (is_sorted R es) → T (is_sorted R (values G es))
  values_rise [] h = tt
  values_rise (e ∷ es) h =
      both (below_all R e.0 (values G es)) _ (below_values e.0 es (first (below_all R e.0 es) (is_sorted R es) h))
      (values_rise es (second (below_all R e.0 es) (is_sorted R es) h))

  -- a key is found with its other value
  pub find_values : IsAntisymmetric R → (q : K) (es : List (K × A)) → find R q (values G es) ≡ option_map (G q) (find R q es)
  find_values exact q [] = refl
  find_values exact q (e ∷ es) = by (eq_by_cmp R q e.0) refl (find_values exact q es)
    where
      by : (t : Bool) → eq_by_cmp R q e.0 ≡ t → find R q (values G es) ≡ option_map (G q) (find R q es)
          → cond t (Some (G e.0 e.1)) (find R q (values G es)) ≡ option_map (G q) (cond t (Some e.1) (find R q es))
      by true t later = ap (λ k. Some (G k e.1)) (sym (exact q e.0 (equal (R q e.0) t)))
      by false t later = later

-- a key is found exactly if an entry has it
pub found_among : {K A : Type 0} (R : K → K → Ordering) (q : K) (es : List (K × A))
    → is_some (find R q es) ≡ list_any (eq_by_cmp R q) (keys_of es)
found_among R q [] = refl
found_among R q (e ∷ es) = by (eq_by_cmp R q e.0) (found_among R q es)
  where
    by : (t : Bool) → is_some (find R q es) ≡ list_any (eq_by_cmp R q) (keys_of es)
        → is_some (cond t (Some e.1) (find R q es)) ≡ (t || list_any (eq_by_cmp R q) (keys_of es))
    by true later = refl
    by false later = later

-- ---- joined keys

module _ {K A B C D : Type 0} (R : K → K → Ordering) (G : K → A → C) (H : K → B → D) where
  keys_new : (ys : List (K × B)) → keys_of (joined R {A = C} [] (values H ys)) ≡ keys_of (joined R {A = A} [] ys)
  keys_new [] = refl
  keys_new (y ∷ ys) = ap (λ ks. y.0 ∷ ks) (keys_new ys)

  keys_from : (x : K × A) (xs : List (K × A))
      → ((ys : List (K × B)) → keys_of (joined R (values G xs) (values H ys)) ≡ keys_of (joined R xs ys))
      → (ys : List (K × B))
      → keys_of (joined_from R x.0 (G x.0 x.1) (joined R (values G xs)) (values H ys)) ≡ keys_of (joined_from R x.0 x.1 (joined R xs) ys)
  keys_from x xs rest [] = ap (λ ks. x.0 ∷ ks) (rest [])
  keys_from x xs rest (y ∷ ys) = by (R x.0 y.0) (keys_from x xs rest ys)
    where
      by : (o : Ordering)
          → keys_of (joined_from R x.0 (G x.0 x.1) (joined R (values G xs)) (values H ys)) ≡ keys_of (joined_from R x.0 x.1 (joined R xs) ys)
          → keys_of (by_order o ((x.0, OnlyOld (G x.0 x.1)) ∷ joined R (values G xs) (values H (y ∷ ys)))
          ((x.0, InBoth (G x.0 x.1) (H y.0 y.1)) ∷ joined R (values G xs) (values H ys))
          ((y.0, OnlyNew (H y.0 y.1)) ∷ joined_from R x.0 (G x.0 x.1) (joined R (values G xs)) (values H ys)))
          ≡ keys_of (by_order o ((x.0, OnlyOld x.1) ∷ joined R xs (y ∷ ys)) ((x.0, InBoth x.1 y.1) ∷ joined R xs ys)
          ((y.0, OnlyNew y.1) ∷ joined_from R x.0 x.1 (joined R xs) ys))
      by Less later = ap (λ ks. x.0 ∷ ks) (rest (y ∷ ys))
      by Equal later = ap (λ ks. x.0 ∷ ks) (rest ys)
      by Greater later = ap (λ ks. y.0 ∷ ks) later

  -- lists with other values have the same keys when they are joined
  pub same_keys : (xs : List (K × A)) (ys : List (K × B)) → keys_of (joined R (values G xs) (values H ys)) ≡ keys_of (joined R xs ys)
  same_keys [] ys = keys_new ys
  same_keys (x ∷ xs) ys = keys_from x xs (same_keys xs) ys

-- ---- joined values

-- what is listed entry by entry is listed key by key, if each entry lists what its key does
pub along_keys : {K X Y : Type 0} (F : K × X → List Y) (H : K → List Y) (es : List (K × X)) → AllByRecursion (λ e. F e ≡ H e.0) es
    → flat_map F es ≡ flat_map H (keys_of es)
along_keys F H [] h = refl
along_keys F H (e ∷ es) h = λ i. h.0 i ++ along_keys F H es h.1 i

-- what holds of each element implies this of each
pub each_weaker : {X : Type 0} (P Q : X → Type 0) → ((x : X) → P x → Q x) → (xs : List X) → AllByRecursion P xs → AllByRecursion Q xs
each_weaker P Q h [] all = tt
each_weaker P Q h (x ∷ xs) all = (h x all.0, each_weaker P Q h xs all.1)

module _ {K : Type 0} (R : K → K → Ordering) (total : IsTotalOrder R) (exact : IsAntisymmetric R) where
  -- each entry of a sorted list is found by its key in a list in which all is found that is found in the first one
  each_found : {X : Type 0} (all es : List (K × X)) → T (is_sorted R es)
      → ((k : K) (x : X) → find R k es ≡ Some x → find R k all ≡ Some x)
      → AllByRecursion (λ (e : K × X). find R e.0 all ≡ Some e.1) es
  each_found all [] s lead = tt
  each_found all (e ∷ es) s lead = (
    lead e.0 e.1 (find_first total exact e.0 e.1 es),
    each_found all es (rest_of R total exact e es s)
        (λ k x is. lead k x (find_later total exact e.0 e.1 es k x (behind R total exact e es s) is)),
  )

  values_found : {A B : Type 0} (j : Joined A B) (a : Option A) (b : Option B) → Some j ≡ found a b → (old_of j ≡ a) × (new_of j ≡ b)
  values_found j None None e = absurd (none-some j (sym e))
  values_found j None (Some b) e = let is = same_Some j (OnlyNew b) e in (ap old_of is, ap new_of is)
  values_found j (Some a) None e = let is = same_Some j (OnlyOld a) e in (ap old_of is, ap new_of is)
  values_found j (Some a) (Some b) e = let is = same_Some j (InBoth a b) e in (ap old_of is, ap new_of is)

  -- the values of each joined entry are those that are found in both lists
  pub each_joined : {A B : Type 0} (xs : List (K × A)) (ys : List (K × B)) → T (is_sorted R xs) → T (is_sorted R ys)
      → AllByRecursion (λ (e : K × Joined A B). (old_of e.1 ≡ find R e.0 xs) × (new_of e.1 ≡ find R e.0 ys)) (joined R xs ys)
  each_joined {A = A} {B = B} xs ys s t =
      each_weaker (λ (e : K × Joined A B). find R e.0 (joined R xs ys) ≡ Some e.1)
      (λ (e : K × Joined A B). (old_of e.1 ≡ find R e.0 xs) × (new_of e.1 ≡ find R e.0 ys))
      (λ e is. values_found e.1 (find R e.0 xs) (find R e.0 ys) (sym is ∙ find_joined R total exact A B e.0 xs ys s t))
      (joined R xs ys)
      (each_found (joined R xs ys) (joined R xs ys) (sorted_joined R total exact A B xs ys s t) (λ k x is. is))
