-- Directories as finite maps: the entries in their order, and what one more or one less changes.
use Rattle.std.proofs.Common.{◌≡◌, ℕ, ◌+◌, ◌-◌, ◌<◌, ◌≤◌, Bool, true, false, cond, List, [], ◌∷◌, ◌++◌, length, Some, refl, sym, ap, subst, ◌∙◌}
use Rattle.std.proofs.Common.{arith, Option, None}
use Rattle.std.specs.Prelude.{T, is_some}
use Rattle.std.specs.List.{AllByRecursion}
use Rattle.std.specs.Ordering.{nat_cmp, is_lt, ordering_reverse, eq_by_cmp}
use Rattle.std.specs.declared.cmp.Ordering.{Ordering}
use Rattle.std.specs.declared.cmp.Ordering.TheVariants.{Less, Equal, Greater}
use Rattle.std.specs.Cmp.Lexicographic.{slice_cmp, nat_list_cmp_total}
use Rattle.std.specs.FinMap.{IsAntisymmetric, empty, get, insert, len, contains_key, entries, from_entries, from_sorted, find, is_sorted}
use Rattle.std.specs.FinMap.{get-from_entries, get-from_sorted, get-entries, get-remove, remove, len-entries, len-insert, len-remove, len-empty}
use Rattle.std.specs.FinMap.{entries-from_sorted, entries-insert, same_map, nat_cmp-IsAntisymmetric, slice_cmp-IsAntisymmetric, entries_sorted}
use Rattle.std.specs.FinMap.Entries.{below_all, by_order, put}
use Rattle.std.proofs.lemmas.List.{nil_from_length}
use Rattle.histar_flat.specs.Words.{Name}
use Rattle.histar_flat.proofs.Finding.{first, second, less, equal, find_first, find_later}
use Rattle.histar_layout.specs.declared.entry.Target.{Target}
use Rattle.histar_layout.specs.Directory.{Entries, IsEntry, IsListable}

-- the order of names
abbrev pub by_bytes : Name → Name → Ordering
by_bytes = slice_cmp nat_cmp

-- only equal names tie
pub antisymmetric : IsAntisymmetric by_bytes
antisymmetric = slice_cmp-IsAntisymmetric nat_cmp-IsAntisymmetric

-- ---- entries in order

-- entries in order are those of the directory made of them
pub sorted_made : (es : List (Name × Target)) → T (is_sorted by_bytes es) → entries (from_entries {R = by_bytes} es) ≡ es
sorted_made es h =
    let same : from_entries {R = by_bytes} es ≡ from_sorted es =
    same_map nat_list_cmp_total antisymmetric _ _
    (λ q. get-from_entries nat_list_cmp_total es q ∙ sym (get-from_sorted by_bytes es q h)) in
    ap entries same ∙ entries-from_sorted by_bytes es h

-- and there are as many
pub len_sorted : (es : List (Name × Target)) → T (is_sorted by_bytes es) → len (from_entries {R = by_bytes} es) ≡ length es
len_sorted es h = len-entries (from_entries es) ∙ ap length (sorted_made es h)

-- ---- directories that fit a segment

-- the empty directory has no entries
pub entries-empty : entries (empty {X = Target} {R = by_bytes}) ≡ []
entries-empty = nil_from_length _ (sym (len-entries empty) ∙ len-empty by_bytes Target)

-- the empty directory fits a segment
pub listable_empty : IsListable empty
listable_empty = record { each = subst (AllByRecursion IsEntry) (sym entries-empty) tt; few = omega (arith, len-empty by_bytes Target) }

-- a property of each entry holds after one more
all_put : (k : Name) (v : Target) (es : List (Name × Target)) → AllByRecursion IsEntry es → IsEntry (k, v)
    → AllByRecursion IsEntry (put by_bytes k v es)
all_put k v [] h p = (p, tt)
all_put k v (e ∷ es) h p =
    elim (by_bytes k e.0) as
    (λ o. AllByRecursion IsEntry (by_order o ((k, v) ∷ e ∷ es) ((e.0, v) ∷ es) (e ∷ put by_bytes k v es))) [
      | Less ↦ (p, h)
      | Equal ↦ ((h.0.0, p.1), h.1)
      | Greater ↦ (h.0, all_put k v es h.1 p)
    ]

-- one more than fewer than 64 is at most 64
one_more_at_most : (b : Bool) (n : ℕ) → n < 64 → cond b n (n + 1) ≤ 64
one_more_at_most true n h = omega arith
one_more_at_most false n h = omega arith

-- with room left, the directory with one more entry fits a segment
pub listable_insert : (dir : Entries) (k : Name) (v : Target) → IsListable dir → len dir < 64 → IsEntry (k, v) → IsListable (insert dir k v)
listable_insert dir k v h room p = record {
  each = subst (AllByRecursion IsEntry) (sym (entries-insert nat_list_cmp_total dir k v)) (all_put k v (entries dir) h.each p);
  few = subst (λ (n : ℕ). n ≤ 64) (sym (len-insert nat_list_cmp_total dir k v)) (one_more_at_most (contains_key dir k) (len dir) room);
}

-- ---- one entry less

-- where all are entries, a name and the target that is found for it are one
found_entry : (es : List (Name × Target)) (q : Name) (v : Target) → AllByRecursion IsEntry es → find by_bytes q es ≡ Some v → IsEntry (q, v)
found_entry [] q v h e = absurd cc
found_entry (x ∷ es) q v h e =
    elim (eq_by_cmp by_bytes q x.0) as (λ b. eq_by_cmp by_bytes q x.0 ≡ b → cond b (Some x.1) (find by_bytes q es) ≡ Some v → IsEntry (q, v)) [
      | true ↦ λ t f.
          let name : x.0 ≡ q = sym (antisymmetric q x.0 (equal (by_bytes q x.0) t)) in
          let target : x.1 ≡ v = cc in
          subst IsEntry (λ i. (name i, target i)) h.0
      | false ↦ λ t f. found_entry es q v h.1 f
    ] refl e

-- the target at a name of a directory that fits a segment makes an entry
pub entry_found : (dir : Entries) (q : Name) (v : Target) → IsListable dir → get dir q ≡ Some v → IsEntry (q, v)
entry_found dir q v h at = found_entry (entries dir) q v h.each (sym (get-entries dir q) ∙ at)

-- a directory that fits a segment, without an entry that it has, has room for one
pub room_without : (dir : Entries) (q : Name) (v : Target) → IsListable dir → get dir q ≡ Some v → len (remove dir q) < 64
room_without dir q v h at =
    let fewer = len-remove nat_list_cmp_total dir q ∙ ap (λ b. cond b (len dir - 1) (len dir)) (ap is_some at) in
    omega (arith, fewer, h.few)

-- where each name and the target found for it are an entry, all are entries
each_from_find : (es : List (Name × Target)) → T (is_sorted by_bytes es)
    → ((q : Name) (v : Target) → find by_bytes q es ≡ Some v → IsEntry (q, v)) → AllByRecursion IsEntry es
each_from_find [] h p = tt
each_from_find (e ∷ es) h p = (
  p e.0 e.1 (find_first nat_list_cmp_total antisymmetric e.0 e.1 es),
  each_from_find es (second (below_all by_bytes e.0 es) _ h)
      (λ q v f.
      p q v (find_later nat_list_cmp_total antisymmetric e.0 e.1 es q v (first _ (is_sorted by_bytes es) h) f)),
)

-- a value that is not cleared was there
kept : (b : Bool) (o : Option Target) (v : Target) → cond b None o ≡ Some v → o ≡ Some v
kept true o v e = absurd cc
kept false o v e = e

-- one less than at most 64 is at most 64
one_less_at_most : (b : Bool) (n : ℕ) → n ≤ 64 → cond b (n - 1) n ≤ 64
one_less_at_most true n h = omega arith
one_less_at_most false n h = h

-- the directory with one entry less fits a segment
pub listable_remove : (dir : Entries) (k : Name) → IsListable dir → IsListable (remove dir k)
listable_remove dir k h = record {
  each = each_from_find (entries (remove dir k)) (entries_sorted (remove dir k)) (λ q v f.
      entry_found dir q v h (kept (eq_by_cmp by_bytes q k) (get dir q) v
      (sym (get-remove nat_list_cmp_total dir k q) ∙ get-entries (remove dir k) q ∙ f)));
  few = subst (λ (n : ℕ). n ≤ 64) (sym (len-remove nat_list_cmp_total dir k)) (one_less_at_most (contains_key dir k) (len dir) h.few);
}

-- ---- one more entry after the last one

-- a name below all entries is below the last
below_last : (b : Name) (before : List (Name × Target)) (x : Name × Target) → T (below_all by_bytes b (before ++ x ∷ [])) → by_bytes b x.0 ≡ Less
below_last b [] x h = less _ (first _ _ h)
below_last b (e ∷ before) x h = below_last b before x (second (is_lt (by_bytes b e.0)) _ h)

-- a name greater than the first entry comes after it
pub put_behind : (e : Name × Target) (es : List (Name × Target)) (k : Name) (v : Target) → by_bytes e.0 k ≡ Less
    → put by_bytes k v (e ∷ es) ≡ e ∷ put by_bytes k v es
put_behind e es k v h =
    ap (λ o. by_order o ((k, v) ∷ e ∷ es) ((e.0, v) ∷ es) (e ∷ put by_bytes k v es))
    (nat_list_cmp_total.antisymm k e.0 ∙ ap ordering_reverse h)

-- an entry with a greater name than the last one comes at the end
pub put_last : (before : List (Name × Target)) (x : Name × Target) (k : Name) (v : Target)
    → T (is_sorted by_bytes (before ++ x ∷ [])) → by_bytes x.0 k ≡ Less
    → put by_bytes k v (before ++ x ∷ []) ≡ (before ++ x ∷ []) ++ (k, v) ∷ []
put_last [] x k v h lt = put_behind x [] k v lt
put_last (e ∷ before) x k v h lt =
    put_behind e (before ++ x ∷ []) k v (nat_list_cmp_total.trans e.0 x.0 k
    (below_last e.0 before x (first _ (is_sorted by_bytes (before ++ x ∷ [])) h)) lt)
    ∙ ap (λ (es : List (Name × Target)). e ∷ es) (put_last before x k v (second (below_all by_bytes e.0 (before ++ x ∷ [])) _ h) lt)

-- in entries by rising names, the one after the last has a greater name
pub last_below : (before : List (Name × Target)) (x e : Name × Target) (es : List (Name × Target))
    → T (is_sorted by_bytes ((before ++ x ∷ []) ++ e ∷ es)) → by_bytes x.0 e.0 ≡ Less
last_below [] x e es h = less _ (first (is_lt (by_bytes x.0 e.0)) _ (first _ (is_sorted by_bytes (e ∷ es)) h))
last_below (b ∷ before) x e es h = last_below before x e es (second (below_all by_bytes b.0 ((before ++ x ∷ []) ++ e ∷ es)) _ h)
