-- A walk from `/` on through a tree meets all its nodes, by rising paths.
use Rattle.std.specs.Prelude.{◌≡◌, ◌≢◌, ℕ, zero, suc, ◌+◌, ◌<◌, Bool, true, false, ◌||◌, cond, T, List, [], ◌∷◌, ◌++◌, length, Option, Some, None}
use Rattle.std.specs.Prelude.{is_some, refl}
use Rattle.std.specs.List.{flat_map}
use Rattle.std.proofs.Common.{◌⊎◌, arith, ap, inl, inr, sym, ◌∙◌, subst}
use Rattle.std.proofs.lemmas.Bool.{true≢false, cases_Bool}
use Rattle.std.proofs.lemmas.Option.{none-some}
use Rattle.std.specs.declared.cmp.Ordering.{Ordering}
use Rattle.std.specs.declared.cmp.Ordering.TheVariants.{Less, Equal, Greater}
use Rattle.std.specs.Ordering.{nat_cmp, is_lt, is_eq, eq_by_cmp, ordering_then}
use Rattle.std.specs.Cmp.{IsTotalOrder, tied_itself}
use Rattle.std.specs.Cmp.Lexicographic.{slice_cmp, nat_list_cmp_total}
use Rattle.std.specs.FinMap.{IsAntisymmetric, find, is_sorted, nat_cmp-IsAntisymmetric, slice_cmp-IsAntisymmetric}
use Rattle.std.specs.FinMap.Entries.{below_all, same_entries}
use Rattle.histar_flat.specs.Words.{Name, Path}
use Rattle.histar_base.specs.Paths.{same, path_cmp, reverse_onto, from_root}
use Rattle.histar_base.proofs.PathLaws.{path_cmp_total, path_cmp_exact}
use Rattle.histar_flat.specs.PathOrder.{under_path}
use Rattle.histar_flat.specs.Files.{get}
use Rattle.histar_flat.specs.FlatState.{Flat, Node, IsTree, is_some_and, is_dir, is_dir_at}
use Rattle.histar_flat.proofs.FileLemmas.{same_name_found, same_path_found}
use Rattle.histar_flat.proofs.Finding.{first, second, both, less, equal, find_first, find_behind, find_below, find_later, ends_decide, names_decide}
use Rattle.histar_flat.proofs.Trees.{nothing_below}
use Rattle.histar_flat.proofs.Under.{under_itself, under_child, under_inner, above_is_not_under}
use Rattle.histar_readout.specs.FlatTree.{nodes_in, walked, AreShallow, WalksMeetAll}

-- ---- entries whose keys rise

module _ {K X : Type 0} (R : K → K → Ordering) where
  -- a key that is not in one list is found in both lists as in the other
  find_second : (q : K) (xs ys : List (K × X)) → find R q xs ≡ None → find R q (xs ++ ys) ≡ find R q ys
  find_second q [] ys none = refl
  find_second q (e ∷ xs) ys none = by (eq_by_cmp R q e.0) none (find_second q xs ys)
    where
      by : (b : Bool) → cond b (Some e.1) (find R q xs) ≡ None
          → (find R q xs ≡ None → find R q (xs ++ ys) ≡ find R q ys)
          → cond b (Some e.1) (find R q (xs ++ ys)) ≡ find R q ys
      by true is rest = absurd (none-some e.1 (sym is))
      by false is rest = rest is

  -- a key that is not in the second list is found in both as in the first
  find_front : (q : K) (xs ys : List (K × X)) → find R q ys ≡ None → find R q (xs ++ ys) ≡ find R q xs
  find_front q [] ys none = none
  find_front q (e ∷ xs) ys none = ap (λ o. cond (eq_by_cmp R q e.0) (Some e.1) o) (find_front q xs ys none)

  -- a key below two lists is below both together
  below_both : (k : K) (xs ys : List (K × X)) → T (below_all R k xs) → T (below_all R k ys) → T (below_all R k (xs ++ ys))
  below_both k [] ys g h = h
  below_both k (e ∷ xs) ys g h = both (is_lt (R k e.0)) _ (first (is_lt (R k e.0)) _ g) (below_both k xs ys (second (is_lt (R k e.0)) _ g) h)

module _ {K X : Type 0} {R : K → K → Ordering} (total : IsTotalOrder R) (exact : IsAntisymmetric R) where
  -- a key that is found in a list is above a key below all of it
  found_above : (k q : K) (x : X) (es : List (K × X)) → T (below_all R k es) → find R q es ≡ Some x → R k q ≡ Less
  found_above k q x [] h is = absurd (none-some x is)
  found_above k q x (e ∷ es) h is = by (eq_by_cmp R q e.0) refl is (found_above k q x es (second (is_lt (R k e.0)) _ h))
    where
      by : (b : Bool) → eq_by_cmp R q e.0 ≡ b → cond b (Some e.1) (find R q es) ≡ Some x → (find R q es ≡ Some x → R k q ≡ Less) → R k q ≡ Less
      by true t is rest = ap (R k) (exact q e.0 (equal (R q e.0) t)) ∙ less (R k e.0) (first (is_lt (R k e.0)) _ h)
      by false t is rest = rest is

  -- a key below each key that is found in a list is below all of it
  below_found : (k : K) (es : List (K × X)) → T (is_sorted R es) → ((q : K) (x : X) → find R q es ≡ Some x → R k q ≡ Less) → T (below_all R k es)
  below_found k [] s h = tt
  below_found k (e ∷ es) s h =
      both (is_lt (R k e.0)) _ (subst (λ o. T (is_lt o)) (sym (h e.0 e.1 (find_first total exact e.0 e.1 es))) tt)
      (below_found k es (second (below_all R e.0 es) _ s)
      (λ q x is. h q x (find_later total exact e.0 e.1 es q x (first (below_all R e.0 es) _ s) is)))

  -- two lists rise together where each rises, and each key of the first is below all of the second
  sorted_both : (xs ys : List (K × X)) → T (is_sorted R xs) → T (is_sorted R ys)
      → ((q : K) (x : X) → find R q xs ≡ Some x → T (below_all R q ys)) → T (is_sorted R (xs ++ ys))
  sorted_both [] ys g h low = h
  sorted_both (e ∷ xs) ys g h low =
      both (below_all R e.0 (xs ++ ys)) _ (below_both R e.0 xs ys (first (below_all R e.0 xs) _ g) (low e.0 e.1 (find_first total exact e.0 e.1 xs)))
      (sorted_both xs ys (second (below_all R e.0 xs) _ g) h
      (λ q x is. low q x (find_later total exact e.0 e.1 xs q x (first (below_all R e.0 xs) _ g) is)))

-- ---- paths below a path

-- names are ordered by their bytes
abbrev by_bytes : Name → Name → Ordering
by_bytes = slice_cmp nat_cmp

-- two names tie only where they are equal
antisymmetric : IsAntisymmetric by_bytes
antisymmetric = slice_cmp-IsAntisymmetric nat_cmp-IsAntisymmetric

-- a path under another ends with it
ending : (p r : Path) → under_path p r ≡ true → (s : Path) × (r ≡ s ++ p)
ending p [] h = elim (same_path_found p []) [
  | inl e ↦ ([], sym e.1)
  | inr e ↦ absurd (true≢false (sym h ∙ e.0))
]
ending p (n ∷ d) h = elim (same_path_found p (n ∷ d)) [
  | inl e ↦ ([], sym e.1)
  | inr e ↦ let rest = ending p d (under_inner same same_path_found p d n e.0 h) in (n ∷ rest.0, ap (λ (l : Path). n ∷ l) rest.1)
]

-- more names on a path under another are under it
under_more : (p q s : Path) → under_path p q ≡ true → under_path p (s ++ q) ≡ true
under_more p q [] h = h
under_more p q (n ∷ s) h = under_child same same_path_found p (s ++ q) n (under_more p q s h)

-- a path under an entry of a directory is under the directory
under_outer : (n : Name) (q r : Path) → under_path (n ∷ q) r ≡ true → under_path q r ≡ true
under_outer n q r h =
    let end = ending (n ∷ q) r h in
    ap (under_path q) end.1 ∙ under_more q (n ∷ q) end.0 (under_child same same_path_found q q n (under_itself same same_path_found q))

-- so a path that is not under the directory is under none of its entries
not_inner : (n : Name) (q r : Path) → under_path q r ≡ false → under_path (n ∷ q) r ≡ false
not_inner n q r h = elim (cases_Bool (under_path (n ∷ q) r)) [
  | inl e ↦ absurd (true≢false (sym (under_outer n q r e) ∙ h))
  | inr e ↦ e
]

-- each path is under `/`
under_root : (r : Path) → under_path [] r ≡ true
under_root [] = refl
under_root (n ∷ d) = under_root d

-- the place of a path seen from another: it is the other, or under an entry of it, or not under it
data Place (q r : Path) : Type 0 where
  Here : q ≡ r → Place q r
  Inner : (n : Name) → under_path (n ∷ q) r ≡ true → Place q r
  Elsewhere : under_path q r ≡ false → Place q r

-- each path has one of the three places
place : (q r : Path) → Place q r
place q [] = elim (same_path_found q []) [ inl e ↦ Here e.1 | inr e ↦ Elsewhere e.0 ]
place q (n ∷ d) = elim (same_path_found q (n ∷ d)) [
  | inl e ↦ Here e.1
  | inr e ↦ elim (place q d) [
    | Here h ↦ Inner n (ap (λ (l : Path). under_path (n ∷ q) (n ∷ l)) (sym h) ∙ under_itself same same_path_found (n ∷ q))
    | Inner m h ↦ Inner m (under_child same same_path_found (m ∷ q) d n h)
    | Elsewhere h ↦ Elsewhere (λ i. e.0 i || h i)
  ]
]

-- a list after another is reversed onto it
turned : {A : Type 0} (ys s p : List A) → reverse_onto ys (s ++ p) ≡ reverse_onto (reverse_onto ys s) p
turned ys [] p = refl
turned ys (x ∷ s) p = turned (x ∷ ys) s p

-- paths under two entries of a directory are ordered first by the entries' names
entries_decide : (q s t : Path) (n m : Name)
    → path_cmp (s ++ (n ∷ q)) (t ++ (m ∷ q))
    ≡ ordering_then (by_bytes n m) (slice_cmp by_bytes (from_root s) (from_root t))
entries_decide q s t n m =
    (λ i. slice_cmp by_bytes (turned [] s (n ∷ q) i) (turned [] t (m ∷ q) i))
    ∙ ends_decide by_bytes nat_list_cmp_total q (n ∷ from_root s) (m ∷ from_root t)

-- a path under an entry comes before a path under a later one
entries_apart : (q r u : Path) (n m : Name) → by_bytes n m ≡ Less → under_path (n ∷ q) r ≡ true → under_path (m ∷ q) u ≡ true → path_cmp r u ≡ Less
entries_apart q r u n m low g h =
    let a = ending (n ∷ q) r g in
    let b = ending (m ∷ q) u h in
    (λ i. path_cmp (a.1 i) (b.1 i)) ∙ entries_decide q a.0 b.0 n m
    ∙ ap (λ o. ordering_then o (slice_cmp by_bytes (from_root a.0) (from_root b.0))) low

-- where two comparisons together tie, the first ties
first_ties : (o p : Ordering) → ordering_then o p ≡ Equal → o ≡ Equal
first_ties Less p e = e
first_ties Equal p e = refl
first_ties Greater p e = e

-- a path is under one entry of a directory at most
one_entry : (q r : Path) (n m : Name) → under_path (n ∷ q) r ≡ true → under_path (m ∷ q) r ≡ true → n ≡ m
one_entry q r n m g h =
    let a = ending (n ∷ q) r g in
    let b = ending (m ∷ q) r h in
    let tie = sym (entries_decide q a.0 b.0 n m) ∙ (λ i. path_cmp (sym a.1 i) (sym b.1 i)) ∙ tied_itself path_cmp_total r in
    antisymmetric n m (first_ties (by_bytes n m) _ tie)

-- so it is under no other one
not_other : (q r : Path) (n m : Name) → under_path (n ∷ q) r ≡ true → n ≢ m → under_path (m ∷ q) r ≡ false
not_other q r n m g other = elim (cases_Bool (under_path (m ∷ q) r)) [
  | inl h ↦ absurd (other (one_entry q r n m g h))
  | inr h ↦ h
]

-- a directory comes before a path under its entries
directory_first : (q r : Path) (n : Name) → under_path (n ∷ q) r ≡ true → path_cmp q r ≡ Less
directory_first q r n h =
    let end = ending (n ∷ q) r h in
    ap (path_cmp q) end.1 ∙ ap (slice_cmp by_bytes (from_root q)) (turned [] end.0 (n ∷ q))
    ∙ ends_decide by_bytes nat_list_cmp_total q [] (n ∷ from_root end.0)

-- ---- the entries of a directory

module _ (d : Path) where
  -- the entries of a directory where one more path is tested
  one_node : (q : Path) (there : Node) (es : List (Path × Node))
      → ((n : Name) × (q ≡ n ∷ d) × (nodes_in d ((q, there) ∷ es) ≡ (n, there) ∷ nodes_in d es))
      ⊎ (((n : Name) → n ∷ d ≢ q) × (nodes_in d ((q, there) ∷ es) ≡ nodes_in d es))
  one_node [] there es = inr ((λ n e. cc), refl)
  one_node (m ∷ above) there es = elim (same_path_found d above) [
    | inl t ↦ inl (m, ap (λ (l : Path). m ∷ l) (sym t.1), simp t.0)
    | inr t ↦ inr ((λ n e. let tails : d ≡ above = cc in t.1 tails), simp t.0)
  ]

  -- a name is found among the entries like its path among the paths
  find_nodes : (n : Name) (es : List (Path × Node)) → find by_bytes n (nodes_in d es) ≡ find path_cmp (n ∷ d) es
  find_nodes n [] = refl
  find_nodes n (e ∷ es) = elim (one_node e.0 e.1 es) [
    | inl h ↦ ap (find by_bytes n) h.2
        ∙ (λ i. cond (is_eq (sym (names_decide d n h.0) i)) (Some e.1) (find_nodes n es i))
        ∙ ap (λ (q : Path). find path_cmp (n ∷ d) ((q, e.1) ∷ es)) (sym h.1)
    | inr h ↦ ap (find by_bytes n) h.1 ∙ find_nodes n es ∙ sym (find_behind path_cmp_total path_cmp_exact (n ∷ d) e.0 e.1 es (h.0 n))
  ]

  -- the names of the entries rise
  sorted_nodes : (es : List (Path × Node)) → T (is_sorted path_cmp es) → T (is_sorted by_bytes (nodes_in d es))
  sorted_nodes [] s = tt
  sorted_nodes (e ∷ es) s = elim (one_node e.0 e.1 es) [
    | inl h ↦
        let rest = sorted_nodes es (second (below_all path_cmp e.0 es) _ s) in
        let low : T (below_all path_cmp (h.0 ∷ d) es) =
        subst (λ (q : Path). T (below_all path_cmp q es)) h.1 (first (below_all path_cmp e.0 es) _ s) in
        subst (λ (l : List (Name × Node)). T (is_sorted by_bytes l)) (sym h.2)
        (both (below_all by_bytes h.0 (nodes_in d es)) _
        (below_found nat_list_cmp_total antisymmetric h.0 (nodes_in d es) rest
        (λ m x is. sym (names_decide d h.0 m) ∙ found_above path_cmp_total path_cmp_exact (h.0 ∷ d) (m ∷ d) x es low (sym (find_nodes m es) ∙ is)))
        rest)
    | inr h ↦ subst (λ (l : List (Name × Node)). T (is_sorted by_bytes l)) (sym h.1) (sorted_nodes es (second (below_all path_cmp e.0 es) _ s))
  ]

-- ---- the walk

-- the list has the nodes under a path, by rising paths
record Meets (f : Flat) (q : Path) (l : List (Path × Node)) : Type 0 where
  sorted : T (is_sorted path_cmp l)
  found : (r : Path) → find path_cmp r l ≡ cond (under_path q r) (get f.files r) None

-- the list has the nodes under the entries of a path, by rising paths
record MeetsInner (f : Flat) (q : Path) (l : List (Path × Node)) : Type 0 where
  sorted : T (is_sorted path_cmp l)
  found : (n : Name) (r : Path) → under_path (n ∷ q) r ≡ true → find path_cmp r l ≡ get f.files r
  no_more : (r : Path) → ((n : Name) → under_path (n ∷ q) r ≡ false) → find path_cmp r l ≡ None

module _ (f : Flat) where
  -- a path that such a list has is under the path
  found_under : (q : Path) (l : List (Path × Node)) → Meets f q l → (r : Path) (x : Node) → find path_cmp r l ≡ Some x → under_path q r ≡ true
  found_under q l m r x is = by (under_path q r) (sym (m.found r) ∙ is)
    where
      by : (b : Bool) → cond b (get f.files r) None ≡ Some x → b ≡ true
      by true e = refl
      by false e = absurd (none-some x e)

  -- the node at a path, and then those under its entries, are those under the path
  with_first : (q : Path) (node : Node) (l : List (Path × Node)) → get f.files q ≡ Some node → MeetsInner f q l → Meets f q ((q, node) ∷ l)
  with_first q node l is inner = record {
    sorted = both (below_all path_cmp q l) _ (below_found path_cmp_total path_cmp_exact q l inner.sorted (λ r x here. elim (place q r) [
      | Here h ↦
          absurd (none-some x (sym (inner.no_more r
          (λ n. ap (under_path (n ∷ q)) (sym h) ∙ above_is_not_under same same_path_found q n)) ∙ here))
      | Inner n h ↦ directory_first q r n h
      | Elsewhere h ↦ absurd (none-some x (sym (inner.no_more r (λ n. not_inner n q r h)) ∙ here))
    ])) inner.sorted;
    found = λ r. elim (place q r) [
      | Here h ↦ subst (λ (u : Path). find path_cmp u ((q, node) ∷ l) ≡ cond (under_path q u) (get f.files u) None) h
          (find_first path_cmp_total path_cmp_exact q node l ∙ sym (ap (λ b. cond b (get f.files q) None) (under_itself same same_path_found q) ∙ is))
      | Inner n h ↦
          find_behind path_cmp_total path_cmp_exact r q node l
          (λ e. true≢false (sym h ∙ ap (under_path (n ∷ q)) e ∙ above_is_not_under same same_path_found q n))
          ∙ inner.found n r h ∙ sym (ap (λ b. cond b (get f.files r) None) (under_outer n q r h))
      | Elsewhere h ↦
          find_behind path_cmp_total path_cmp_exact r q node l
          (λ e. true≢false (sym (ap (under_path q) e ∙ under_itself same same_path_found q) ∙ h))
          ∙ inner.no_more r (λ n. not_inner n q r h) ∙ sym (ap (λ b. cond b (get f.files r) None) h)
    ];
  }

module _ (f : Flat) (q : Path) (walk : Name × Node → List (Path × Node)) where
  -- the walk of each of these entries meets the nodes under it
  abbrev Each : List (Name × Node) → Type 0
  Each cs = (n : Name) (x : Node) → find by_bytes n cs ≡ Some x → Meets f (n ∷ q) (walk (n, x))

  -- so does that of the first
  each_first : (c : Name × Node) (cs : List (Name × Node)) → Each (c ∷ cs) → Meets f (c.0 ∷ q) (walk c)
  each_first c cs each = each c.0 c.1 (find_first nat_list_cmp_total antisymmetric c.0 c.1 cs)

  -- and those of the others
  each_later : (c : Name × Node) (cs : List (Name × Node)) → T (below_all by_bytes c.0 cs) → Each (c ∷ cs) → Each cs
  each_later c cs low each n x is = each n x (find_later nat_list_cmp_total antisymmetric c.0 c.1 cs n x low is)

  -- a path under an entry is below the walks of later entries
  below_walks : (n : Name) (r : Path) → under_path (n ∷ q) r ≡ true → (cs : List (Name × Node))
      → T (is_sorted by_bytes cs) → T (below_all by_bytes n cs) → Each cs → T (below_all path_cmp r (flat_map walk cs))
  below_walks n r h [] s low each = tt
  below_walks n r h (c ∷ cs) s low each =
      let m = each_first c cs each in
      let apart = less (by_bytes n c.0) (first (is_lt (by_bytes n c.0)) _ low) in
      below_both path_cmp r (walk c) (flat_map walk cs)
      (below_found path_cmp_total path_cmp_exact r (walk c) m.sorted
      (λ u x is. entries_apart q r u n c.0 apart h (found_under f (c.0 ∷ q) (walk c) m u x is)))
      (below_walks n r h cs (second (below_all by_bytes c.0 cs) _ s) (second (is_lt (by_bytes n c.0)) _ low)
      (each_later c cs (first (below_all by_bytes c.0 cs) _ s) each))

  -- the walks of rising entries rise
  sorted_walks : (cs : List (Name × Node)) → T (is_sorted by_bytes cs) → Each cs → T (is_sorted path_cmp (flat_map walk cs))
  sorted_walks [] s each = tt
  sorted_walks (c ∷ cs) s each =
      let m = each_first c cs each in
      let low = first (below_all by_bytes c.0 cs) _ s in
      let rise = second (below_all by_bytes c.0 cs) _ s in
      let later = each_later c cs low each in
      sorted_both path_cmp_total path_cmp_exact (walk c) (flat_map walk cs) m.sorted (sorted_walks cs rise later)
      (λ r x is. below_walks c.0 r (found_under f (c.0 ∷ q) (walk c) m r x is) cs rise low later)

  -- a path that is not under an entry is not found in its walk
  missed : (n : Name) (r : Path) (l : List (Path × Node)) → Meets f (n ∷ q) l → under_path (n ∷ q) r ≡ false → find path_cmp r l ≡ None
  missed n r l m h = m.found r ∙ ap (λ b. cond b (get f.files r) None) h

  -- the walks find the nodes under the entries
  walks_found : (n : Name) (r : Path) → under_path (n ∷ q) r ≡ true → (cs : List (Name × Node)) → T (is_sorted by_bytes cs) → Each cs
      → find path_cmp r (flat_map walk cs) ≡ cond (is_some (find by_bytes n cs)) (get f.files r) None
  walks_found n r h [] s each = refl
  walks_found n r h (c ∷ cs) s each =
      let m = each_first c cs each in
      let low = first (below_all by_bytes c.0 cs) _ s in
      let rest = walks_found n r h cs (second (below_all by_bytes c.0 cs) _ s) (each_later c cs low each) in
      elim (same_name_found n c.0) [
        | inl e ↦
            let under : under_path (c.0 ∷ q) r ≡ true = ap (λ (k : Name). under_path (k ∷ q) r) (sym e.1) ∙ h in
            let none : find by_bytes n cs ≡ None =
            ap (λ (k : Name). find by_bytes k cs) e.1 ∙ find_below nat_list_cmp_total antisymmetric c.0 cs low in
            let one : find by_bytes n (c ∷ cs) ≡ Some c.1 =
            ap (λ (k : Name). find by_bytes k (c ∷ cs)) e.1 ∙ find_first nat_list_cmp_total antisymmetric c.0 c.1 cs in
            find_front path_cmp r (walk c) (flat_map walk cs) (rest ∙ ap (λ (o : Option Node). cond (is_some o) (get f.files r) None) none)
            ∙ m.found r ∙ ap (λ b. cond b (get f.files r) None) under ∙ sym (ap (λ (o : Option Node). cond (is_some o) (get f.files r) None) one)
        | inr e ↦ find_second path_cmp r (walk c) (flat_map walk cs) (missed c.0 r (walk c) m (not_other q r n c.0 h e.1))
            ∙ rest
            ∙ sym (ap (λ (o : Option Node). cond (is_some o) (get f.files r) None)
            (find_behind nat_list_cmp_total antisymmetric n c.0 c.1 cs e.1))
      ]

  -- and they find no others
  walks_miss : (r : Path) → ((n : Name) → under_path (n ∷ q) r ≡ false) → (cs : List (Name × Node))
      → T (is_sorted by_bytes cs) → Each cs → find path_cmp r (flat_map walk cs) ≡ None
  walks_miss r out [] s each = refl
  walks_miss r out (c ∷ cs) s each =
      find_second path_cmp r (walk c) (flat_map walk cs) (missed c.0 r (walk c) (each_first c cs each) (out c.0))
      ∙ walks_miss r out cs (second (below_all by_bytes c.0 cs) _ s) (each_later c cs (first (below_all by_bytes c.0 cs) _ s) each)

module _ (f : Flat) (tree : IsTree f) where
  -- where nothing is at an entry, nothing is under it
  agrees_or_not : (n : Name) (q r : Path) → under_path (n ∷ q) r ≡ true → cond (is_some (get f.files (n ∷ q))) (get f.files r) None ≡ get f.files r
  agrees_or_not n q r h = by (get f.files (n ∷ q)) refl
    where
      by : (o : Option Node) → get f.files (n ∷ q) ≡ o → cond (is_some o) (get f.files r) None ≡ get f.files r
      by None e = sym (nothing_below f tree (n ∷ q) e r h)
      by (Some x) e = refl

  -- nothing is under an entry of a file
  nothing_in : (q : Path) → is_dir_at f q ≡ false → (n : Name) (r : Path) → under_path (n ∷ q) r ≡ true → get f.files r ≡ None
  nothing_in q file n r h = nothing_below f tree (n ∷ q) (by (get f.files (n ∷ q)) refl) r h
    where
      by : (o : Option Node) → get f.files (n ∷ q) ≡ o → o ≡ None
      by None e = refl
      by (Some x) e = absurd (true≢false (sym (tree.below n q (ap (λ (o : Option Node). is_some_and o (λ n. true)) e)) ∙ file))

  -- the walks of the entries meet the nodes under them; a file has none
  entries_walked : (q : Path) (node : Node) (walk : Name × Node → List (Path × Node)) → get f.files q ≡ Some node
      → Each f q walk (nodes_in q f.files.entries)
      → (b : Bool) → is_dir node ≡ b → MeetsInner f q (cond b (flat_map walk (nodes_in q f.files.entries)) [])
  entries_walked q node walk is each true dir =
      let rise = sorted_nodes q f.files.entries f.files.sorted in
      record {
        sorted = sorted_walks f q walk (nodes_in q f.files.entries) rise each;
        found = λ n r h. walks_found f q walk n r h (nodes_in q f.files.entries) rise each
            ∙ ap (λ (o : Option Node). cond (is_some o) (get f.files r) None) (find_nodes q n f.files.entries) ∙ agrees_or_not n q r h;
        no_more = λ r out. walks_miss f q walk r out (nodes_in q f.files.entries) rise each;
      }
  entries_walked q node walk is each false file =
      let at : is_dir_at f q ≡ false = ap (λ (o : Option Node). is_some_and o is_dir) is ∙ file in
      record { sorted = tt; found = λ n r h. sym (nothing_in q at n r h); no_more = λ r out. refl }

  -- a walk through enough levels meets the nodes under a path
  walk_meets : (most : ℕ) → AreShallow most f → (levels : ℕ) (q : Path) (node : Node) → get f.files q ≡ Some node
      → most < length q + levels → Meets f q (walked levels f.files.entries q node)
  walk_meets most shallow zero q node is deep =
      let short = shallow q (ap (λ (o : Option Node). is_some_and o (λ n. true)) is) in
      absurd (omega arith)
  walk_meets most shallow (suc levels) q node is deep =
      with_first f q node _ is
      (entries_walked q node (λ (c : Name × Node). walked levels f.files.entries (c.0 ∷ q) c.1) is
      (λ n x there. walk_meets most shallow levels (n ∷ q) x (sym (find_nodes q n f.files.entries) ∙ there) (omega arith))
      (is_dir node) refl)

-- A walk from `/` on through a tree meets all its nodes.
pub walks_meet_all : WalksMeetAll
walks_meet_all f tree most shallow slash is =
    let m = walk_meets f tree most shallow (suc most) [] slash is (omega arith) in
    same_entries path_cmp path_cmp_total path_cmp_exact (walked (suc most) f.files.entries [] slash) f.files.entries m.sorted f.files.sorted
    (λ r. m.found r ∙ ap (λ b. cond b (get f.files r) None) (under_root r))
