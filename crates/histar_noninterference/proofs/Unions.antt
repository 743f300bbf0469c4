-- The union of two lists of entries by rising paths, as a merge makes it, has the entries of the map of both lists.
use Rattle.std.specs.Prelude.{Bool, List, None, Option, Some, T, [], cond, false, map, refl, true, ◌++◌, ◌∷◌, ◌≡◌}
use Rattle.std.proofs.Common.{ap, subst, sym, ◌∙◌}
use Rattle.std.proofs.lemmas.Bool.{and_from, and_parts}
use Rattle.std.specs.Cmp.{tied_itself}
use Rattle.std.specs.FinMap.{find, is_sorted}
use Rattle.std.specs.FinMap.Entries.{below_all, by_order, same_entries}
use Rattle.std.specs.Ordering.{eq_by_cmp, is_eq, is_lt, ordering_reverse}
use Rattle.std.specs.declared.cmp.Ordering.{Ordering}
use Rattle.std.specs.declared.cmp.Ordering.TheVariants.{Equal, Greater, Less}
use Rattle.histar_base.specs.Refusals.{◌orelse◌}
use Rattle.histar_flat.specs.Files.{Files, from_list}
use Rattle.histar_flat.specs.FlatState.{Node}
use Rattle.histar_base.specs.Paths.{path_cmp}
use Rattle.histar_base.proofs.PathLaws.{path_cmp_exact, path_cmp_total}
use Rattle.histar_flat.specs.Words.{Path}
use Rattle.histar_flat.proofs.FileLemmas.{ties}
use Rattle.histar_flat.proofs.Renaming.{get-from_list}
use Rattle.histar_flat.proofs.Finding.{is_less}
use Rattle.histar_noninterference.proofs.TestLemmas.{is_same_path}

-- nodes with their paths, by rising paths
abbrev pub Nodes : Type 0
Nodes = List (Path × Node)

-- the paths of the entries
abbrev pub paths_of : Nodes → List Path
paths_of es = map (λ e. e.0) es

-- the union of a list that begins with a, and of another one; `rest` makes the union of the rest of the first list and another list
abbrev pub union_from : Path × Node → (Nodes → Nodes) → Nodes → Nodes
union_from a rest [] = a ∷ rest []
union_from a rest (b ∷ bs) = by_order (path_cmp a.0 b.0) (a ∷ rest (b ∷ bs)) (a ∷ rest bs) (b ∷ union_from a rest bs)

-- the union of two lists; if a path is in both, the entry of the first is taken
abbrev pub union : Nodes → Nodes → Nodes
union [] bs = bs
union (a ∷ as') bs = union_from a (union as') bs

-- each path of the list is above this one
abbrev pub IsBelow : Path → Nodes → Type 0
IsBelow q es = below_all path_cmp q es ≡ true

-- the paths of the list rise
abbrev pub Rises : Nodes → Type 0
Rises es = is_sorted path_cmp es ≡ true

pub holds : (b : Bool) → T b → b ≡ true
holds true h = refl
holds false h = absurd h

-- a path that is less than one below a whole list is below that list too
pub below_less : (q r : Path) (es : Nodes) → path_cmp q r ≡ Less → IsBelow r es → IsBelow q es
below_less q r [] less h = refl
below_less q r (e ∷ es) less h =
    let parts = and_parts (is_lt (path_cmp r e.0)) (below_all path_cmp r es) h in
    and_from (is_lt (path_cmp q e.0)) (below_all path_cmp q es)
    (ap is_lt (path_cmp_total.trans q r e.0 less (is_less (path_cmp r e.0) parts.0))) (below_less q r es less parts.1)

-- if one path is less than another, the other is greater
pub turned_less : (q r : Path) → path_cmp q r ≡ Less → path_cmp r q ≡ Greater
turned_less q r less = path_cmp_total.antisymm r q ∙ ap ordering_reverse less

pub turned_greater : (q r : Path) → path_cmp q r ≡ Greater → path_cmp r q ≡ Less
turned_greater q r greater = path_cmp_total.antisymm r q ∙ ap ordering_reverse greater

-- the first entry is found at its path
pub find_here : (e : Path × Node) (es : Nodes) → find path_cmp e.0 (e ∷ es) ≡ Some e.1
find_here e es = ap (λ r. cond (is_eq r) (Some e.1) (find path_cmp e.0 es)) (tied_itself path_cmp_total e.0)

-- what is at a greater path is found in the rest
pub find_past : (e : Path × Node) (es : Nodes) (q : Path) → path_cmp e.0 q ≡ Less → find path_cmp q (e ∷ es) ≡ find path_cmp q es
find_past e es q less = ap (λ r. cond (is_eq r) (Some e.1) (find path_cmp q es)) (turned_less e.0 q less)

-- nothing is found below all paths
pub find_below : (q : Path) (es : Nodes) → IsBelow q es → find path_cmp q es ≡ None
find_below q [] h = refl
find_below q (e ∷ es) h =
    let parts = and_parts (is_lt (path_cmp q e.0)) (below_all path_cmp q es) h in
    ap (λ r. cond (is_eq r) (Some e.1) (find path_cmp q es)) (is_less (path_cmp q e.0) parts.0) ∙ find_below q es parts.1

-- a path below all of both lists is below the union
below_from : (q : Path) (a : Path × Node) (rest : Nodes → Nodes) → is_lt (path_cmp q a.0) ≡ true
    → ((cs : Nodes) → IsBelow q cs → IsBelow q (rest cs)) → (bs : Nodes) → IsBelow q bs → IsBelow q (union_from a rest bs)
below_from q a rest here each [] h = and_from (is_lt (path_cmp q a.0)) (below_all path_cmp q (rest [])) here (each [] refl)
below_from q a rest here each (b ∷ bs) h = by (path_cmp a.0 b.0) (below_from q a rest here each bs parts.1)
  where
    parts : (is_lt (path_cmp q b.0) ≡ true) × (below_all path_cmp q bs ≡ true)
    parts = and_parts (is_lt (path_cmp q b.0)) (below_all path_cmp q bs) h

    by : (r : Ordering) → IsBelow q (union_from a rest bs)
        → IsBelow q (by_order r (a ∷ rest (b ∷ bs)) (a ∷ rest bs) (b ∷ union_from a rest bs))
    by Less later = and_from (is_lt (path_cmp q a.0)) (below_all path_cmp q (rest (b ∷ bs))) here (each (b ∷ bs) h)
    by Equal later = and_from (is_lt (path_cmp q a.0)) (below_all path_cmp q (rest bs)) here (each bs parts.1)
    by Greater later = and_from (is_lt (path_cmp q b.0)) (below_all path_cmp q (union_from a rest bs)) parts.0 later

pub below_union : (q : Path) (as' bs : Nodes) → IsBelow q as' → IsBelow q bs → IsBelow q (union as' bs)
below_union q [] bs ha hb = hb
below_union q (a ∷ as') bs ha hb =
    let parts = and_parts (is_lt (path_cmp q a.0)) (below_all path_cmp q as') ha in
    below_from q a (union as') parts.0 (λ cs hc. below_union q as' cs parts.1 hc) bs hb

-- if the first path of a list is less than that of another, it is below all of the other; if it is equal, it is below the rest
pub below_other : (q : Path) (b : Path × Node) (bs : Nodes) → path_cmp q b.0 ≡ Less → IsBelow b.0 bs → IsBelow q (b ∷ bs)
below_other q b bs less h = and_from (is_lt (path_cmp q b.0)) (below_all path_cmp q bs) (ap is_lt less) (below_less q b.0 bs less h)

pub below_tied : (q r : Path) (bs : Nodes) → path_cmp q r ≡ Equal → IsBelow r bs → IsBelow q bs
below_tied q r bs tied h = subst (λ x. IsBelow x bs) (sym (path_cmp_exact q r tied)) h

-- the paths of the union rise
union_from_rises : (a : Path × Node) (as' : Nodes) → IsBelow a.0 as' → ((cs : Nodes) → Rises cs → Rises (union as' cs)) → (bs : Nodes)
    → Rises bs → Rises (union_from a (union as') bs)
union_from_rises a as' ha each [] h =
    and_from (below_all path_cmp a.0 (union as' [])) (is_sorted path_cmp (union as' [])) (below_union a.0 as' [] ha refl) (each [] refl)
union_from_rises a as' ha each (b ∷ bs) h = by (path_cmp a.0 b.0) refl (union_from_rises a as' ha each bs parts.1)
  where
    parts : (below_all path_cmp b.0 bs ≡ true) × (is_sorted path_cmp bs ≡ true)
    parts = and_parts (below_all path_cmp b.0 bs) (is_sorted path_cmp bs) h

    by : (r : Ordering) → path_cmp a.0 b.0 ≡ r → Rises (union_from a (union as') bs)
        → Rises (by_order r (a ∷ union as' (b ∷ bs)) (a ∷ union as' bs) (b ∷ union_from a (union as') bs))
    by Less e later =
        and_from (below_all path_cmp a.0 (union as' (b ∷ bs))) (is_sorted path_cmp (union as' (b ∷ bs)))
        (below_union a.0 as' (b ∷ bs) ha (below_other a.0 b bs e parts.0)) (each (b ∷ bs) h)
    by Equal e later =
        and_from (below_all path_cmp a.0 (union as' bs)) (is_sorted path_cmp (union as' bs))
        (below_union a.0 as' bs ha (below_tied a.0 b.0 bs e parts.0)) (each bs parts.1)
    by Greater e later = and_from (below_all path_cmp b.0 (union_from a (union as') bs)) (is_sorted path_cmp (union_from a (union as') bs))
        (below_union b.0 (a ∷ as') bs (below_other b.0 a as' (turned_greater a.0 b.0 e) ha) parts.0) later

union_rises : (as' bs : Nodes) → Rises as' → Rises bs → Rises (union as' bs)
union_rises [] bs ha hb = hb
union_rises (a ∷ as') bs ha hb =
    let parts = and_parts (below_all path_cmp a.0 as') (is_sorted path_cmp as') ha in
    union_from_rises a as' parts.0 (λ cs hc. union_rises as' cs parts.1 hc) bs hb

-- a path is found in the first of two lists, or else in the second
in_both : (q : Path) (a : Path × Node) (es : Nodes) (x y : Option Node) → find path_cmp q es ≡ (x orelse y)
    → find path_cmp q (a ∷ es) ≡ (cond (eq_by_cmp path_cmp q a.0) (Some a.1) x orelse y)
in_both q a es x y h = by (eq_by_cmp path_cmp q a.0)
  where
    by : (b : Bool) → cond b (Some a.1) (find path_cmp q es) ≡ (cond b (Some a.1) x orelse y)
    by true = refl
    by false = h

find_union_from : (q : Path) (a : Path × Node) (as' : Nodes) → IsBelow a.0 as'
    → ((cs : Nodes) → find path_cmp q (union as' cs) ≡ (find path_cmp q as' orelse find path_cmp q cs))
    → (bs : Nodes) → find path_cmp q (union_from a (union as') bs) ≡ (find path_cmp q (a ∷ as') orelse find path_cmp q bs)
find_union_from q a as' ha each [] = in_both q a (union as' []) (find path_cmp q as') None (each [])
find_union_from q a as' ha each (b ∷ bs) = by (path_cmp a.0 b.0) refl (find_union_from q a as' ha each bs)
  where
    tied : path_cmp a.0 b.0 ≡ Equal → (t : Bool) → eq_by_cmp path_cmp q a.0 ≡ t
        → cond t (Some a.1) (find path_cmp q (union as' bs)) ≡ (cond t (Some a.1) (find path_cmp q as') orelse find path_cmp q (b ∷ bs))
    tied e true t = refl
    tied e false t =
        each bs
        ∙ ap (λ (o : Option Node). find path_cmp q as' orelse o)
        (sym (ap (λ c. cond c (Some b.1) (find path_cmp q bs)) (ap (eq_by_cmp path_cmp q) (sym (path_cmp_exact a.0 b.0 e)) ∙ t)))

    AlsoFound : Type 0
    AlsoFound = find path_cmp q (union_from a (union as') bs) ≡ (find path_cmp q (a ∷ as') orelse find path_cmp q bs)

    later : path_cmp a.0 b.0 ≡ Greater → AlsoFound → (t : Bool) → eq_by_cmp path_cmp q b.0 ≡ t
        → cond t (Some b.1) (find path_cmp q (union_from a (union as') bs)) ≡
        (find path_cmp q (a ∷ as') orelse cond t (Some b.1) (find path_cmp q bs))
    later e found true t =
        sym (ap (λ (o : Option Node). o orelse Some b.1)
        (find_below q (a ∷ as') (subst (λ x. IsBelow x (a ∷ as')) (sym (is_same_path q b.0 (sym (ties q b.0) ∙ t)))
        (below_other b.0 a as' (turned_greater a.0 b.0 e) ha))))
    later e found false t = found

    by : (r : Ordering) → path_cmp a.0 b.0 ≡ r → AlsoFound
        → find path_cmp q (by_order r (a ∷ union as' (b ∷ bs)) (a ∷ union as' bs) (b ∷ union_from a (union as') bs)) ≡
        (find path_cmp q (a ∷ as') orelse find path_cmp q (b ∷ bs))
    by Less e found = in_both q a (union as' (b ∷ bs)) (find path_cmp q as') (find path_cmp q (b ∷ bs)) (each (b ∷ bs))
    by Equal e found = tied e (eq_by_cmp path_cmp q a.0) refl
    by Greater e found = later e found (eq_by_cmp path_cmp q b.0) refl

find_union : (q : Path) (as' bs : Nodes) → Rises as' → find path_cmp q (union as' bs) ≡ (find path_cmp q as' orelse find path_cmp q bs)
find_union q [] bs ha = refl
find_union q (a ∷ as') bs ha =
    let parts = and_parts (below_all path_cmp a.0 as') (is_sorted path_cmp as') ha in
    find_union_from q a as' parts.0 (λ cs. find_union q as' cs parts.1) bs

find_append : (q : Path) (as' bs : Nodes) → find path_cmp q (as' ++ bs) ≡ (find path_cmp q as' orelse find path_cmp q bs)
find_append q [] bs = refl
find_append q (a ∷ as') bs = in_both q a (as' ++ bs) (find path_cmp q as') (find path_cmp q bs) (find_append q as' bs)

-- The map of both lists has the entries of their union.
pub entries_of_both : (f g : Files Node) → (from_list (f.entries ++ g.entries)).entries ≡ union f.entries g.entries
entries_of_both f g =
    same_entries path_cmp path_cmp_total path_cmp_exact (from_list (f.entries ++ g.entries)).entries (union f.entries g.entries)
    (from_list (f.entries ++ g.entries)).sorted
    (subst T (sym (union_rises f.entries g.entries (holds (is_sorted path_cmp f.entries) f.sorted)
    (holds (is_sorted path_cmp g.entries) g.sorted))) tt)
    (λ q. get-from_list (f.entries ++ g.entries) q ∙ find_append q f.entries g.entries ∙ sym
    (find_union q f.entries g.entries (holds (is_sorted path_cmp f.entries) f.sorted)))
