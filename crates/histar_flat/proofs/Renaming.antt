-- What is at each path once an entry has another name.
use Rattle.std.specs.Prelude.{◌≡◌, ◌≢◌, Bool, true, false, ◌||◌, ◌&&◌, not, cond, List, [], ◌∷◌, map, Option, Some, None, refl}
use Rattle.std.specs.List.{list_all}
use Rattle.std.proofs.Common.{ap, ◌⊎◌, inl, inr, sym, ◌∙◌, subst}
use Rattle.std.proofs.lemmas.Bool.{true≢false, and_parts, or_parts, not-true, cases_Bool}
use Rattle.std.specs.Ordering.{eq_by_cmp}
use Rattle.std.specs.FinMap.{find}
use Rattle.std.specs.FinMap.Entries.{where_key}
use Rattle.histar_flat.specs.Words.{Name, Path}
use Rattle.histar_base.specs.Paths.{path_cmp, same, same_path}
use Rattle.histar_flat.specs.PathOrder.{under_path}
use Rattle.histar_flat.specs.Files.{Files, get, keep, from_list}
use Rattle.histar_flat.specs.FlatState.{Node, moved}
use Rattle.histar_flat.proofs.FileLemmas.{same_path_found, get-insert, get-keep, ties, same_lists}
use Rattle.histar_flat.proofs.Under.{under_itself, under_child, above_is_not_under, apart, same_as_itself}

-- the map of a list has what the list has
pub get-from_list : (es : List (Path × Node)) (q : Path) → get (from_list es) q ≡ find path_cmp q es
get-from_list [] q = refl
get-from_list (e ∷ es) q =
    get-insert (from_list es) e.0 e.1 q ∙ ap (λ b. cond b (Some e.1) (get (from_list es) q)) (sym (ties q e.0))
    ∙ ap (cond (eq_by_cmp path_cmp q e.0) (Some e.1)) (get-from_list es q)

-- different entries of one directory have nothing below both
disjoint : (n k : Name) (d x : Path) → n ≢ k → under_path (n ∷ d) x ≡ true → under_path (k ∷ d) x ≡ false
disjoint n k d [] ne u = refl
disjoint n k d (y ∷ x) ne u = elim (same_path_found (n ∷ d) (y ∷ x)) [
  | inl t ↦
      let tails : d ≡ x = cc in
      let heads : n ≡ y = cc in
      ap (λ b. b || under_path (k ∷ d) x) (apart same same_path_found (k ∷ d) (y ∷ x) (λ e. let h : k ≡ y = cc in ne (heads ∙ sym h)))
      ∙ subst (λ z. under_path (k ∷ d) z ≡ false) tails (above_is_not_under same same_path_found d k)
  | inr t ↦
      let v : under_path (n ∷ d) x ≡ true = sym (ap (λ b. b || under_path (n ∷ d) x) t.0) ∙ u in
      ap (λ b. b || under_path (k ∷ d) x) (apart same same_path_found (k ∷ d) (y ∷ x) (λ e. let tails : d
      ≡ x = cc in true≢false
      (sym v ∙ ap (under_path (n ∷ d)) (sym tails) ∙ above_is_not_under same same_path_found d n)))
      ∙ disjoint n k d x ne v
]

-- a path that isn't below `old` leads where it led
pub stays : (old new r : Path) → under_path old r ≡ false → moved old new r ≡ r
stays old new [] u = refl
stays old new (x ∷ e) u =
    let parts = or_parts (same_path old (x ∷ e)) (under_path old e) u in
    ap (λ b. cond b new (x ∷ moved old new e)) parts.0 ∙ ap (λ (z : Path). x ∷ z) (stays old new e parts.1)

module _ (n k : Name) (d : Path) (ne : n ≢ k) where
  abbrev there : Path → Path
  there = moved (n ∷ d) (k ∷ d)

  -- a path below `old` leads below `new`
  goes : (r : Path) → under_path (n ∷ d) r ≡ true → under_path (k ∷ d) (there r) ≡ true
  goes [] u = absurd (true≢false (sym u))
  goes (x ∷ e) u = elim (same_path_found (n ∷ d) (x ∷ e)) [
    | inl t ↦ ap (λ b. under_path (k ∷ d) (cond b (k ∷ d) (x ∷ there e))) t.0 ∙ under_itself same same_path_found (k ∷ d)
    | inr t ↦
        let v : under_path (n ∷ d) e ≡ true = sym (ap (λ b. b || under_path (n ∷ d) e) t.0) ∙ u in
        ap (λ b. under_path (k ∷ d) (cond b (k ∷ d) (x ∷ there e))) t.0 ∙ under_child same same_path_found (k ∷ d) (there e) x (goes e v)
  ]

  -- a path below `old` comes back by the opposite rename
  back : (r : Path) → under_path (n ∷ d) r ≡ true → moved (k ∷ d) (n ∷ d) (there r) ≡ r
  back [] u = absurd (true≢false (sym u))
  back (x ∷ e) u = elim (same_path_found (n ∷ d) (x ∷ e)) [
    | inl t ↦ ap (λ b. moved (k ∷ d) (n ∷ d) (cond b (k ∷ d) (x ∷ there e))) t.0
        ∙ ap (λ b. cond b (n ∷ d) (k ∷ moved (k ∷ d) (n ∷ d) d)) (same_as_itself same same_path_found (k ∷ d)) ∙ t.1
    | inr t ↦
        let v : under_path (n ∷ d) e ≡ true = sym (ap (λ b. b || under_path (n ∷ d) e) t.0) ∙ u in
        ap (λ b. moved (k ∷ d) (n ∷ d) (cond b (k ∷ d) (x ∷ there e))) t.0
        ∙ ap (λ b. cond b (n ∷ d) (x ∷ moved (k ∷ d) (n ∷ d) (there e)))
        (apart same same_path_found (k ∷ d) (x ∷ there e) (λ q. let tails : d
        ≡ there e = cc in true≢false (sym (goes e v) ∙ ap (under_path (k ∷ d)) (sym tails)
        ∙ above_is_not_under same same_path_found d k)))
        ∙ ap (λ (z : Path). x ∷ z) (back e v)
  ]

  -- no path leads below `old`
  pub leaves : (r : Path) → under_path (n ∷ d) (there r) ≡ false
  leaves r = elim (cases_Bool (under_path (n ∷ d) r)) [
    | inl u ↦ disjoint k n d (there r) (λ e. ne (sym e)) (goes r u)
    | inr u ↦ ap (under_path (n ∷ d)) (stays (n ∷ d) (k ∷ d) r u) ∙ u
  ]

  pub returns_from : (r : Path) → under_path (k ∷ d) r ≡ false → moved (k ∷ d) (n ∷ d) (there r) ≡ r
  returns_from r v = elim (cases_Bool (under_path (n ∷ d) r)) [
    | inl u ↦ back r u
    | inr u ↦ ap (moved (k ∷ d) (n ∷ d)) (stays (n ∷ d) (k ∷ d) r u) ∙ stays (k ∷ d) (n ∷ d) r v
  ]

module _ (n k : Name) (d : Path) (ne : n ≢ k) where
  abbrev to : Path → Path
  to = moved (n ∷ d) (k ∷ d)

  -- the path that leads to q, if there is one
  abbrev from : Path → Path
  from = moved (k ∷ d) (n ∷ d)

  ends_at : (q r : Path) → under_path (k ∷ d) r ≡ false → under_path (n ∷ d) q ≡ false → same_path q (to r) ≡ same_path (from q) r
  ends_at q r free out = elim (same_path_found q (to r)) [
    | inl t ↦ t.0 ∙ sym (ap (λ x. same_path x r) (ap from t.1 ∙ returns_from n k d ne r free) ∙ same_as_itself same same_path_found r)
    | inr t ↦ t.0 ∙ sym (apart same same_path_found (from q) r (λ e. t.1 (by (cases_Bool (under_path (k ∷ d) q)) e)))
  ]
    where
      by : (under_path (k ∷ d) q ≡ true) ⊎ (under_path (k ∷ d) q ≡ false) → from q ≡ r → q ≡ to r
      by (inl u) e = sym (back k n d (λ i. ne (sym i)) q u) ∙ ap to e
      by (inr u) e = let same_q = stays (k ∷ d) (n ∷ d) q u in sym (stays (n ∷ d) (k ∷ d) q out) ∙ ap to (sym same_q ∙ e)

  abbrev renamed_list : List (Path × Node) → List (Path × Node)
  renamed_list = map (λ e. (to e.0, e.1))

  find_renamed : (es : List (Path × Node)) → list_all (λ e. not (under_path (k ∷ d) e.0)) es ≡ true → (q : Path)
      → find path_cmp q (renamed_list es) ≡ cond (under_path (n ∷ d) q) None (find path_cmp (from q) es)
  find_renamed [] free q = elim (under_path (n ∷ d) q) as (λ b. ◌≡◌ {A = Option Node} None (cond b None None)) [ true ↦ refl | false ↦ refl ]
  find_renamed (e ∷ es) free q = step (find_renamed es parts.1 q) (cases_Bool (under_path (n ∷ d) q))
    where
      parts : (not (under_path (k ∷ d) e.0) ≡ true) × (list_all (λ x. not (under_path (k ∷ d) x.0)) es ≡ true)
      parts = and_parts (not (under_path (k ∷ d) e.0)) (list_all (λ x. not (under_path (k ∷ d) x.0)) es) free

      step : find path_cmp q (renamed_list es) ≡ cond (under_path (n ∷ d) q) None (find path_cmp (from q) es)
          → (under_path (n ∷ d) q ≡ true) ⊎ (under_path (n ∷ d) q ≡ false) →
          cond (eq_by_cmp path_cmp q (to e.0)) (Some e.1) (find path_cmp q (renamed_list es))
          ≡ cond (under_path (n ∷ d) q) None
          (cond (eq_by_cmp path_cmp (from q) e.0) (Some e.1) (find path_cmp (from q) es))
      step rest (inl u) =
          ap (λ b. cond b (Some e.1) (find path_cmp q (renamed_list es))) (ties q (to e.0)
          ∙ apart same same_path_found q (to e.0)
          (λ i. true≢false (sym u ∙ ap (under_path (n ∷ d)) i ∙ leaves n k d ne e.0)))
          ∙ rest ∙ ap (λ b. cond b None (find path_cmp (from q) es)) u
          ∙ sym (ap (λ b. cond b None (cond (eq_by_cmp path_cmp (from q) e.0) (Some e.1) (find path_cmp (from q) es))) u)
      step rest (inr u) =
          ap (λ b. cond b (Some e.1) (find path_cmp q (renamed_list es)))
          (ties q (to e.0) ∙ ends_at q e.0 (not-true (under_path (k ∷ d) e.0) parts.0) u ∙ sym (ties (from q) e.0))
          ∙ ap (cond (eq_by_cmp path_cmp (from q) e.0) (Some e.1)) (rest ∙ ap (λ b. cond b None (find path_cmp (from q) es)) u)
          ∙ sym (ap (λ b. cond b None (cond (eq_by_cmp path_cmp (from q) e.0) (Some e.1) (find path_cmp (from q) es))) u)

  -- the renamed tree
  abbrev renamed : Files Node → Files Node
  renamed m = from_list (renamed_list m.entries)

  none_below : (m : Files Node) → ((q : Path) → under_path (k ∷ d) q ≡ true → get m q ≡ None)
      → list_all (λ e. not (under_path (k ∷ d) e.0)) m.entries ≡ true
  none_below m h = ap (list_all (λ e. not (under_path (k ∷ d) e.0))) (same_lists m (keep m (λ t. not (under_path (k ∷ d) t))) by) ∙ kept m.entries
    where
      by : (q : Path) → get m q ≡ get (keep m (λ t. not (under_path (k ∷ d) t))) q
      by q = elim (cases_Bool (under_path (k ∷ d) q)) [
        | inl u ↦ h q u ∙ sym (get-keep m (λ t. not (under_path (k ∷ d) t)) q ∙ ap (λ b. cond (not b) (get m q) None) u)
        | inr u ↦ sym (get-keep m (λ t. not (under_path (k ∷ d) t)) q ∙ ap (λ b. cond (not b) (get m q) None) u)
      ]

      one : (b : Bool) (e : Path × Node) (xs : List (Path × Node)) → not (under_path (k ∷ d) e.0) ≡ b
          → list_all (λ e. not (under_path (k ∷ d) e.0)) xs ≡ true
          → list_all (λ e. not (under_path (k ∷ d) e.0)) (cond b (e ∷ xs) xs) ≡ true
      one true e xs i r = ap (λ b. b && list_all (λ e. not (under_path (k ∷ d) e.0)) xs) i ∙ r
      one false e xs i r = r

      kept : (es : List (Path × Node)) → list_all (λ e. not (under_path (k ∷ d) e.0)) (where_key path_cmp (λ t. not (under_path (k ∷ d) t)) es) ≡ true
      kept [] = refl
      kept (e ∷ es) = one (not (under_path (k ∷ d) e.0)) e (where_key path_cmp (λ t. not (under_path (k ∷ d) t)) es) refl (kept es)

  pub get_renamed : (m : Files Node) → ((q : Path) → under_path (k ∷ d) q ≡ true → get m q ≡ None) → (q : Path)
      → get (renamed m) q ≡ cond (under_path (n ∷ d) q) None (get m (from q))
  get_renamed m h q = get-from_list (renamed_list m.entries) q ∙ find_renamed m.entries (none_below m h) q
