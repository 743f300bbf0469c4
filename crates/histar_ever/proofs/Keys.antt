-- Keys that rise, and the keys of sets of states.
use Rattle.std.specs.Prelude.{◌≡◌, ◌||◌, Bool, T, is_some, List, [], ◌∷◌, ◌++◌, map, Option, None, Some, refl}
use Rattle.std.proofs.Common.{ap, sym, ◌∙◌, subst}
use Rattle.std.specs.List.{AllByRecursion, flat_map, list_any}
use Rattle.std.specs.List.Sorted.{IsStrictlySortedBy}
use Rattle.std.proofs.lemmas.Map.Keys.{sorted_head, sorted_tail}
use Rattle.std.specs.declared.cmp.Ordering.{Ordering}
use Rattle.std.specs.declared.cmp.Ordering.TheVariants.{Less}
use Rattle.std.specs.Ordering.{eq_by_cmp, is_lt}
use Rattle.std.specs.Cmp.{IsTotalOrder, eq_by_cmp_equiv}
use Rattle.std.specs.FinMap as fin
use Rattle.std.specs.FinMap.{IsAntisymmetric, find, is_sorted}
use Rattle.std.specs.FinMap.Entries.{below_all, is_some-find}
use Rattle.histar_flat.specs.FlatState.{Flat}
use Rattle.histar_flat.proofs.Finding.{both, first, less, second}
use Rattle.histar_ever.specs.Ever.{rising}
use Rattle.histar_ever.proofs.Letters.{any_in_both, any_in_more}

module _ {K : Type 0} (R : K → K → Ordering) where
  -- ---- lists of keys

  below_of : {X : Type 0} (k : K) (es : List (K × X)) → T (below_all R k es)
      → AllByRecursion (λ y. R k y ≡ Less) (map (λ (e : K × X). e.0) es)
  below_of k [] h = tt
  below_of k (e ∷ es) h = (
    less (R k e.0) (first (is_lt (R k e.0)) (below_all R k es) h),
    below_of k es (second (is_lt (R k e.0)) (below_all R k es) h),
  )

  -- the keys of entries that rise
  pub keys_rise : {X : Type 0} (es : List (K × X)) → T (is_sorted R es) → IsStrictlySortedBy R (map (λ (e : K × X). e.0) es)
  unfolding IsStrictlySortedBy
  keys_rise [] s = tt
  keys_rise (e ∷ es) s = (
    below_of e.0 es (first (below_all R e.0 es) (is_sorted R es) s),
    keys_rise es (second (below_all R e.0 es) (is_sorted R es) s),
  )

  -- a key as an entry
  abbrev entry : K → K × Unit {0}
  entry k = (k, tt)

  -- keys rise in their order
  pub rising_rise : (ks : List K) → IsStrictlySortedBy R (rising R ks)
  rising_rise ks = keys_rise (fin.entries (fin.from_entries {R = R} (map entry ks))) (fin.entries_sorted (fin.from_entries {R = R} (map entry ks)))

  below_entries : (k : K) (ks : List K) → AllByRecursion (λ y. R k y ≡ Less) ks → T (below_all R k (map entry ks))
  below_entries k [] h = tt
  below_entries k (x ∷ ks) h = both (is_lt (R k x)) (below_all R k (map entry ks)) (subst (λ o. T (is_lt o)) (sym h.0) tt) (below_entries k ks h.1)

  entries_rise : (ks : List K) → IsStrictlySortedBy R ks → T (is_sorted R (map entry ks))
  entries_rise [] s = tt
  entries_rise (k ∷ ks) s = both (below_all R k (map entry ks)) (is_sorted R (map entry ks)) (below_entries k ks (sorted_head R k ks s))
      (entries_rise ks (sorted_tail R k ks s))

  keys_back : (ks : List K) → map (λ (e : K × Unit {0}). e.0) (map entry ks) ≡ ks
  keys_back [] = refl
  keys_back (k ∷ ks) = ap (λ (l : List K). k ∷ l) (keys_back ks)

  module _ (total : IsTotalOrder R) where
    -- a key is found among entries where it is among keys
    found_entry : (q : K) (ks : List K) → is_some (find R q (map entry ks)) ≡ list_any (eq_by_cmp R q) ks
    found_entry q ks = is_some-find R q (map entry ks) ∙ ap (list_any (eq_by_cmp R q)) (keys_back ks)

    -- a key is among keys in their order where it is among them
    pub among_rising : (ks : List K) (q : K) → list_any (eq_by_cmp R q) (rising R ks) ≡ list_any (eq_by_cmp R q) ks
    among_rising ks q =
        sym (fin.contains_key-keys (fin.from_entries {R = R} (map entry ks)) q)
        ∙ ap is_some (fin.get-from_entries total (map entry ks) q) ∙ found_entry q ks

    same_units : (a b : Option (Unit {0})) → is_some a ≡ is_some b → a ≡ b
    same_units None None e = refl
    same_units None (Some u) e = absurd cc
    same_units (Some u) None e = absurd cc
    same_units (Some u) (Some v) e = refl

    -- keys that rise are the same keys in their order
    pub keys_are_rising : IsAntisymmetric R → (ks js : List K) → IsStrictlySortedBy R ks
        → ((q : K) → list_any (eq_by_cmp R q) ks ≡ list_any (eq_by_cmp R q) js) → ks ≡ rising R js
    keys_are_rising exact ks js rise same =
        let es = map entry ks in
        let sorted = entries_rise ks rise in
        sym (ap (map (λ (e : K × Unit {0}). e.0)) (fin.entries-from_sorted R es sorted) ∙ keys_back ks)
        ∙ ap fin.keys (fin.same_map total exact (fin.from_sorted {R = R} es) (fin.from_entries {R = R} (map entry js))
        (λ q. same_units _ _ (ap is_some (fin.get-from_sorted R es q sorted) ∙ found_entry q ks ∙ same q
        ∙ sym (ap is_some (fin.get-from_entries total (map entry js) q) ∙ found_entry q js))))

    -- a key is among these, whichever comes first in a comparison
    pub either_way : (q : K) (ks : List K) → list_any (λ k. eq_by_cmp R k q) ks ≡ list_any (eq_by_cmp R q) ks
    either_way q ks = ap (λ (t : K → Bool). list_any t ks) (λ i k. (eq_by_cmp_equiv total).symm k q i)

  -- ---- the keys of several states

  module _ (keys : Flat → List K) (q : K) where
    -- a key is among those of one of the states
    pub in_ever : (fs : List Flat) → list_any (eq_by_cmp R q) (flat_map keys fs) ≡ list_any (λ f. list_any (eq_by_cmp R q) (keys f)) fs
    in_ever [] = refl
    in_ever (f ∷ fs) = any_in_both (eq_by_cmp R q) (keys f) (flat_map keys fs) ∙ ap (λ b. list_any (eq_by_cmp R q) (keys f) || b) (in_ever fs)

    -- the same with one more state
    pub in_ever_more : (fs : List Flat) (f : Flat) → list_any (eq_by_cmp R q) (flat_map keys (fs ++ f ∷ []))
        ≡ (list_any (eq_by_cmp R q) (flat_map keys fs) || list_any (eq_by_cmp R q) (keys f))
    in_ever_more fs f = in_ever (fs ++ f ∷ []) ∙ any_in_more (λ f. list_any (eq_by_cmp R q) (keys f)) fs f
        ∙ ap (λ b. b || list_any (eq_by_cmp R q) (keys f)) (sym (in_ever fs))
