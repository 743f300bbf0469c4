-- Finding where the entry of a name lies: what is left after the entries before it.
use Rattle.std.proofs.Common.{◌≡◌, ℕ, ◌-◌, ◌<◌, Bool, true, false, cond, not, List, [], ◌∷◌, ◌++◌, length, take, drop, Some, None, refl, sym, ap}
use Rattle.std.proofs.Common.{subst, ◌∙◌, append_assoc, append-nil, length-append, arith}
use Rattle.std.specs.Prelude.{T}
use Rattle.std.specs.List.{flat_map, AllByRecursion}
use Rattle.std.specs.Ordering.{is_eq, is_lt, eq_by_cmp, ordering_reverse}
use Rattle.std.specs.declared.cmp.Ordering.{Ordering}
use Rattle.std.specs.declared.cmp.Ordering.TheVariants.{Less, Equal, Greater}
use Rattle.std.specs.Cmp.{eq_by_cmp_equiv}
use Rattle.std.specs.Cmp.Lexicographic.{nat_list_cmp_total}
use Rattle.std.specs.FinMap as map
use Rattle.std.specs.FinMap.Entries.{below_all, by_order, put, where_key, is_sorted, same_entries, find-where_key, is_sorted-where_key}
use Rattle.std.proofs.lemmas.List.{take_at, drop_at}
use Rattle.std.proofs.lemmas.List.Concat.{flat_map-append}
use Rattle.std.proofs.lemmas.Option.{same_Some}
use Rattle.histar_flat.specs.Words.{Name}
use Rattle.histar_flat.proofs.Finding.{both, first, second, less}
use Rattle.histar_layout.specs.declared.entry.Target.{Target}
use Rattle.histar_layout.specs.Directory.{Entries, target_bytes, entry_bytes, IsEntry, IsDirectory}
use Rattle.histar_layout.specs.Found.{slot_at}
use Rattle.histar_layout.specs.Span.{IsSpan}
use Rattle.histar_layout.proofs.DirectoryLemmas.{Entry}
use Rattle.histar_layout.proofs.LookingUp.{none_at_end, slot_again}
use Rattle.histar_layout.proofs.MapLemmas.{by_bytes, antisymmetric, put_behind, listable_insert, listable_remove}

-- the bytes of entries, one after another
abbrev text : List Entry → List ℕ
text = flat_map entry_bytes

-- ---- entries without those of a name

-- the entries of all other names
abbrev others : Name → List Entry → List Entry
others name = where_key by_bytes (λ x. not (eq_by_cmp by_bytes name x))

-- a choice by a test is the reversed choice by its opposite
turned : {A : Type 0} (b : Bool) (x y : A) → cond b x y ≡ cond (not b) y x
turned true x y = refl
turned false x y = refl

-- without a name a directory has the entries of all other names
removed : (dir : Entries) (name : Name) → map.entries (map.remove dir name) ≡ others name (map.entries dir)
removed dir name =
    same_entries by_bytes nat_list_cmp_total antisymmetric (map.entries (map.remove dir name))
    (others name (map.entries dir)) (map.entries_sorted (map.remove dir name))
    (is_sorted-where_key by_bytes (λ x. not (eq_by_cmp by_bytes name x)) (map.entries dir) (map.entries_sorted dir))
    (λ q.
    sym (map.get-entries (map.remove dir name) q) ∙ map.get-remove nat_list_cmp_total dir name q
    ∙ turned (eq_by_cmp by_bytes q name) None (map.get dir q)
    ∙ (λ i. cond (not ((eq_by_cmp_equiv nat_list_cmp_total).symm q name i)) (map.get-entries dir q i) None)
    ∙ sym (find-where_key by_bytes (λ x. not (eq_by_cmp by_bytes name x)) q
    (λ x ties. ap (λ y. not (eq_by_cmp by_bytes name y)) (sym (antisymmetric q x ties))) (map.entries dir)))

-- compared the other way round, the order is turned
reversed : (a b : Name) (o : Ordering) → by_bytes a b ≡ o → by_bytes b a ≡ ordering_reverse o
reversed a b o is = nat_list_cmp_total.antisymm b a ∙ ap ordering_reverse is

-- an entry of a lesser name is one of the others
kept_first : (name : Name) (e : Entry) (es : List Entry) → by_bytes e.0 name ≡ Less → others name (e ∷ es) ≡ e ∷ others name es
kept_first name e es is = ap (λ (o : Ordering). cond (not (is_eq o)) (e ∷ others name es) (others name es)) (reversed e.0 name Less is)

-- where all names are greater, all are others
all_kept : (name : Name) (es : List Entry) → T (below_all by_bytes name es) → others name es ≡ es
all_kept name [] below = refl
all_kept name (e ∷ es) below =
    ap (λ (o : Ordering). cond (not (is_eq o)) (e ∷ others name es) (others name es)) (less _ (first _ _ below))
    ∙ ap (λ (rest : List Entry). e ∷ rest) (all_kept name es (second (is_lt (by_bytes name e.0)) _ below))

-- a name below another one is below all names that this is below
below_more : (name other : Name) (es : List Entry) → by_bytes name other ≡ Less → T (below_all by_bytes other es) → T (below_all by_bytes name es)
below_more name other [] is below = tt
below_more name other (e ∷ es) is below =
    both _ _ (subst (λ o. T (is_lt o)) (sym (nat_list_cmp_total.trans name other e.0 is (less _ (first _ _ below)))) tt)
    (below_more name other es is (second (is_lt (by_bytes other e.0)) _ below))

-- the entry of the name is none of the others
first_left_out : (name : Name) (e : Entry) (es : List Entry) → by_bytes e.0 name ≡ Equal → T (below_all by_bytes e.0 es) → others name (e ∷ es) ≡ es
first_left_out name e es is below =
    ap (λ (o : Ordering). cond (not (is_eq o)) (e ∷ others name es) (others name es)) (reversed e.0 name Equal is)
    ∙ all_kept name es (subst (λ n. T (below_all by_bytes n es)) (antisymmetric e.0 name is) below)

-- the rest of entries by rising names rises too
rises_behind : (before after : List Entry) → T (is_sorted by_bytes (before ++ after)) → T (is_sorted by_bytes after)
rises_behind [] after rises = rises
rises_behind (e ∷ before) after rises = rises_behind before after (second (below_all by_bytes e.0 (before ++ after)) _ rises)

-- ---- entries that were passed

-- The entries of lesser names were passed, and the rest spells the others.
pub record IsPassed (bytes rest : List ℕ) (name : Name) (dir : Entries) : Type 0 where
  before : List Entry
  after : List Entry
  parts : map.entries dir ≡ before ++ after
  front : bytes ≡ text before ++ rest
  spelled : rest ≡ text after
  each : AllByRecursion IsEntry after
  puts : (target : Target) → put by_bytes name target (map.entries dir) ≡ before ++ put by_bytes name target after
  leaves : others name (map.entries dir) ≡ before ++ others name after

-- at the start no entry was passed
pub none_passed : (bytes : List ℕ) (name : Name) (dir : Entries) → IsDirectory bytes dir → IsPassed bytes bytes name dir
none_passed bytes name dir is = record {
  before = [];
  after = map.entries dir;
  parts = refl;
  front = refl;
  spelled = is.spelled;
  each = is.listable.each;
  puts = λ target. refl;
  leaves = refl;
}

-- the bytes before the rest are the front
front_is : (bytes front rest : List ℕ) → bytes ≡ front ++ rest → take (length bytes - length rest) bytes ≡ front
front_is bytes front rest is =
    (λ i. take (length bytes - length rest) (is i))
    ∙ take_at front rest (length bytes - length rest) (omega (arith, ap length is, length-append front rest))

rest_is : (bytes front rest : List ℕ) → bytes ≡ front ++ rest → drop (length bytes - length rest) bytes ≡ rest
rest_is bytes front rest is =
    (λ i. drop (length bytes - length rest) (is i))
    ∙ drop_at front rest (length bytes - length rest) (omega (arith, ap length is, length-append front rest))

module _ (bytes rest : List ℕ) (name : Name) (dir : Entries) (h : IsPassed bytes rest name dir) where
  -- these bytes are the span of the name, if they lie between the entries before it and those after it
  span : (between behind : List ℕ) (after : List Entry) → rest ≡ between ++ behind → behind ≡ text after
      → ((target : Target) → put by_bytes name target h.after ≡ (name, target) ∷ after) → others name h.after ≡ after
      → IsSpan bytes dir name (length bytes - length rest) (length bytes - length behind)
  span between behind after parted spelled made left = record {
    before = h.before;
    after = after;
    rises = omega (arith, ap length parted, length-append between behind);
    within = omega arith;
    front = front_is bytes (text h.before) rest h.front;
    rest =
        rest_is bytes (text h.before ++ between) behind (h.front ∙ ap (λ (r : List ℕ). text h.before ++ r) parted
        ∙ sym (append_assoc (text h.before) between behind)) ∙ spelled;
    made = λ target. map.entries-insert nat_list_cmp_total dir name target ∙ h.puts target ∙ ap (λ (es : List Entry). h.before ++ es) (made target);
    taken = removed dir name ∙ h.leaves ∙ ap (λ (es : List Entry). h.before ++ es) left;
  }

  -- where no entry is left, the span is at the end
  pub span_at_end : slot_at rest ≡ None → IsSpan bytes dir name (length bytes - length rest) (length bytes - length rest)
  span_at_end none = go h.after h.spelled refl
    where
      go : (after : List Entry) → rest ≡ text after → h.after ≡ after
          → IsSpan bytes dir name (length bytes - length rest) (length bytes - length rest)
      go [] spelled is = span [] rest [] refl spelled (λ target. ap (put by_bytes name target) is) (ap (others name) is)
      go (e ∷ more) spelled is = absurd (let seen = sym none ∙ ap slot_at spelled ∙ slot_again e (text more) in cc)

  module _ (x : (List ℕ × List ℕ) × List ℕ) (slot : slot_at rest ≡ Some x) where
    -- the rest begins with an entry, and goes on with these
    record HasFirst : Type 0 where
      e : Entry
      more : List Entry
      is : h.after ≡ e ∷ more
      name_is : x.0.0 ≡ e.0
      behind_is : x.1 ≡ text more
      parted : rest ≡ entry_bytes e ++ x.1

    first_one : HasFirst
    first_one = go h.after h.spelled refl
      where
        go : (after : List Entry) → rest ≡ text after → h.after ≡ after → HasFirst
        go [] spelled is = absurd (let seen = sym slot ∙ ap slot_at spelled ∙ none_at_end in cc)
        go (e ∷ more) spelled is =
            let same : x ≡ ((e.0, target_bytes e.1), text more) =
            same_Some x ((e.0, target_bytes e.1), text more)
            (sym slot ∙ ap slot_at spelled ∙ slot_again e (text more)) in
            let behind_is : x.1 ≡ text more = ap (λ (y : (List ℕ × List ℕ) × List ℕ). y.1) same in
            record {
              e = e;
              more = more;
              is = is;
              name_is = ap (λ (y : (List ℕ × List ℕ) × List ℕ). y.0.0) same;
              behind_is = behind_is;
              parted = spelled ∙ ap (λ (r : List ℕ). entry_bytes e ++ r) (sym behind_is);
            }

    abbrev f : HasFirst
    f = first_one

    -- the first name compares as its bytes do
    compared : (o : Ordering) → by_bytes x.0.0 name ≡ o → by_bytes f.e.0 name ≡ o
    compared o is = ap (λ (n : Name). by_bytes n name) (sym f.name_is) ∙ is

    -- all entries after it have greater names
    below_behind : T (below_all by_bytes f.e.0 f.more)
    below_behind =
        first (below_all by_bytes f.e.0 f.more) _
        (rises_behind h.before (f.e ∷ f.more) (subst (λ (es : List Entry). T (is_sorted by_bytes es))
        (h.parts ∙ ap (λ (es : List Entry). h.before ++ es) f.is) (map.entries_sorted dir)))

    -- an entry of a lesser name is passed
    pub one_passed : by_bytes x.0.0 name ≡ Less → IsPassed bytes x.1 name dir
    one_passed lesser =
        let is = compared Less lesser in
        record {
          before = h.before ++ f.e ∷ [];
          after = f.more;
          parts = h.parts ∙ ap (λ (es : List Entry). h.before ++ es) f.is ∙ sym (append_assoc h.before (f.e ∷ []) f.more);
          front =
              h.front ∙ ap (λ (r : List ℕ). text h.before ++ r) f.parted ∙ sym (append_assoc (text h.before) (entry_bytes f.e) x.1)
              ∙ ap (λ (t : List ℕ). t ++ x.1) (ap (λ (t : List ℕ). text h.before ++ t) (sym (append-nil (entry_bytes f.e)))
              ∙ sym (flat_map-append entry_bytes h.before (f.e ∷ [])));
          spelled = f.behind_is;
          each = (subst (AllByRecursion IsEntry) f.is h.each).1;
          puts = λ target.
              h.puts target ∙ ap (λ (es : List Entry). h.before ++ put by_bytes name target es) f.is
              ∙ ap (λ (es : List Entry). h.before ++ es) (put_behind f.e f.more name target is)
              ∙ sym (append_assoc h.before (f.e ∷ []) (put by_bytes name target f.more));
          leaves =
              h.leaves ∙ ap (λ (es : List Entry). h.before ++ others name es) f.is
              ∙ ap (λ (es : List Entry). h.before ++ es) (kept_first name f.e f.more is)
              ∙ sym (append_assoc h.before (f.e ∷ []) (others name f.more));
        }

    -- the entry of the name is at the front
    pub span_at_name : by_bytes x.0.0 name ≡ Equal → IsSpan bytes dir name (length bytes - length rest) (length bytes - length x.1)
    span_at_name tied =
        let is = compared Equal tied in
        let same : f.e.0 ≡ name = antisymmetric f.e.0 name is in
        span (entry_bytes f.e) x.1 f.more f.parted f.behind_is
        (λ target.
        ap (put by_bytes name target) f.is
        ∙ ap (λ (o : Ordering). by_order o ((name, target) ∷ f.e ∷ f.more) ((f.e.0, target) ∷ f.more)
        (f.e ∷ put by_bytes name target f.more)) (reversed f.e.0 name Equal is)
        ∙ ap (λ (n : Name). (n, target) ∷ f.more) same)
        (ap (others name) f.is ∙ first_left_out name f.e f.more is below_behind)

    -- where the name at the front is greater, the span is empty and before it
    pub span_before : by_bytes x.0.0 name ≡ Greater → IsSpan bytes dir name (length bytes - length rest) (length bytes - length rest)
    span_before greater =
        let is : by_bytes name f.e.0 ≡ Less = reversed f.e.0 name Greater (compared Greater greater) in
        span [] rest (f.e ∷ f.more) refl (h.spelled ∙ ap text f.is)
        (λ target.
        ap (put by_bytes name target) f.is
        ∙ ap (λ (o : Ordering). by_order o ((name, target) ∷ f.e ∷ f.more) ((f.e.0, target) ∷ f.more) (f.e ∷ put by_bytes name target f.more)) is)
        (ap (others name) f.is
        ∙ all_kept name (f.e ∷ f.more)
        (both _ _ (subst (λ o. T (is_lt o)) (sym is) tt) (below_more name f.e.0 f.more is below_behind)))

-- ---- entries that are inserted and removed

-- bytes with an entry inserted in the span of its name are the directory with it
pub entry_made : (bytes new : List ℕ) (dir : Entries) (name : Name) (target : Target) (start end : ℕ)
    → IsDirectory bytes dir → IsSpan bytes dir name start end → map.len dir < 64 → IsEntry (name, target)
    → new ≡ (take start bytes ++ entry_bytes (name, target)) ++ drop end bytes → IsDirectory new (map.insert dir name target)
entry_made bytes new dir name target start end is h room entry grown = record {
  listable = listable_insert dir name target is.listable room entry;
  spelled =
      grown ∙ (λ i. (h.front i ++ entry_bytes (name, target)) ++ h.rest i) ∙ append_assoc (text h.before) (entry_bytes (name, target)) (text h.after)
      ∙ sym (flat_map-append entry_bytes h.before ((name, target) ∷ h.after)) ∙ ap text (sym (h.made target));
}

-- bytes without the span of a name are the directory without it
pub entry_taken : (bytes new : List ℕ) (dir : Entries) (name : Name) (start end : ℕ) → IsDirectory bytes dir
    → IsSpan bytes dir name start end → new ≡ take start bytes ++ drop end bytes → IsDirectory new (map.remove dir name)
entry_taken bytes new dir name start end is h left = record {
  listable = listable_remove dir name is.listable;
  spelled = left ∙ (λ i. h.front i ++ h.rest i) ∙ sym (flat_map-append entry_bytes h.before h.after) ∙ ap text (sym h.taken);
}
