-- Looking up a name: what one entry at the front leaves to be searched, and what is found in a directory.
use Rattle.std.proofs.Common.{◌≡◌, ℕ, zero, suc, ◌+◌, ◌-◌, ◌<◌, ◌≤◌, Bool, true, false, refl, cond, leb, List, [], ◌∷◌, ◌++◌, length, take, drop}
use Rattle.std.proofs.Common.{IsTrue, Some, None, sym, ap, subst, ◌∙◌, append_assoc, append-nil, inl, inr, get_or, arith}
use Rattle.std.specs.Prelude.{slice_get, slice_range}
use Rattle.std.specs.List.{flat_map, AllByRecursion}
use Rattle.std.specs.Cmp.Lexicographic.{bytes_decides, texts_ties}
use Rattle.std.specs.FinMap as map
use Rattle.std.proofs.lemmas.List.{length-drop, length-take, get_or-take, get_or-drop, ext_get_or, drop-drop, drop_more, drop_all}
use Rattle.std.proofs.lemmas.Bool.{cases_lt, false_from_ne_true, leb-true, le-leb, lt-leb}
use Rattle.std.proofs.lemmas.Option.{cond_some, same_Some, slice_get_within, get_or_from_slice_get}
use Rattle.histar_flat.specs.Words.{Name, is_name}
use Rattle.histar_base.specs.Paths.{same}
use Rattle.histar_flat.proofs.Options.{bind_some}
use Rattle.histar_layout.specs.declared.entry.Target.{Target}
use Rattle.histar_layout.specs.declared.entry.Target.TheVariants.{File, Directory}
use Rattle.histar_layout.specs.Directory.{Entries, target_bytes, entry_bytes, IsTarget, IsEntry, IsDirectory}
use Rattle.histar_layout.specs.Reading.{◌>>=◌, front_at, target_at}
use Rattle.histar_layout.specs.Found.{entry_between, slot_at, target_from, found_among, found_in}
use Rattle.histar_layout.proofs.EntryLemmas.{bind_at, front_again, target_again}
use Rattle.histar_layout.proofs.MapLemmas.{by_bytes}
use Rattle.histar_layout.proofs.DirectoryLemmas.{Entry}

-- searching the whole is searching the rest, and the rest has no more bytes than entries that may still be passed
pub record IsLeft (bytes rest : List ℕ) (name : Name) : Type 0 where
  pub most : ℕ
  pub enough : length rest ≤ most
  pub same_found : found_in bytes name ≡ found_among most rest name

-- at the start the whole is left
pub all_left : (bytes : List ℕ) (name : Name) → IsLeft bytes bytes name
unfolding found_in
all_left bytes name = record { most = length bytes; enough = omega arith; same_found = refl }

-- no bytes begin with no entry
pub none_at_end : slot_at [] ≡ None
unfolding slot_at
none_at_end = refl

-- where no entry is at the front, the name is not found
nowhere : (most : ℕ) (rest : List ℕ) (name : Name) → slot_at rest ≡ None → found_among most rest name ≡ None
unfolding found_among
nowhere zero rest name none = refl
nowhere (suc most) rest name none = ap (λ o. o >>= λ slot. cond (same name slot.0.0) (target_from slot.0.1) (found_among most slot.1 name)) none

pub leads_nowhere : (bytes rest : List ℕ) (name : Name) → IsLeft bytes rest name → slot_at rest ≡ None → found_in bytes name ≡ None
leads_nowhere bytes rest name left none = left.same_found ∙ nowhere left.most rest name none

-- ---- one entry at the front

-- splitting off a front leaves no more bytes
front_shorter : (n : ℕ) (bytes : List ℕ) (x : List ℕ × List ℕ) → front_at n bytes ≡ Some x → length x.1 ≤ length bytes
unfolding front_at
front_shorter n bytes x e =
    let g = cond_some (leb n (length bytes)) (take n bytes, drop n bytes) x e in
    omega (arith, ap (λ (y : List ℕ × List ℕ). length y.1) g.1, length-drop n bytes)

-- after an entry there are fewer bytes
pub slot_shorter : (rest : List ℕ) (x : (List ℕ × List ℕ) × List ℕ) → slot_at rest ≡ Some x → length x.1 < length rest
unfolding slot_at
slot_shorter [] x e = absurd cc
slot_shorter (len ∷ bytes) x e =
    let a = bind_some (front_at len bytes) (λ text. front_at 17 text.1 >>= λ revealed. Some ((text.0, revealed.0), revealed.1)) x e in
    let b = bind_some (front_at 17 a.0.1) (λ revealed. Some ((a.0.0, revealed.0), revealed.1)) x a.2 in
    let same_rest : b.0.1 ≡ x.1 = ap (λ (y : (List ℕ × List ℕ) × List ℕ). y.1) (same_Some ((a.0.0, b.0.0), b.0.1) x b.2) in
    omega (arith, ap length same_rest, front_shorter len bytes a.0 a.1, front_shorter 17 a.0.1 b.0 b.1)

-- a front of n bytes and the rest are all bytes
front_room : (n : ℕ) (bytes : List ℕ) (x : List ℕ × List ℕ) → front_at n bytes ≡ Some x
    → (length x.0 ≡ n) × (length x.0 + length x.1 ≡ length bytes)
unfolding front_at
front_room n bytes x e =
    let g = cond_some (leb n (length bytes)) (take n bytes, drop n bytes) x e in
    let long = leb-true n (length bytes) g.0 in
    let front = ap (λ (y : List ℕ × List ℕ). length y.0) g.1 in
    let rest = ap (λ (y : List ℕ × List ℕ). length y.1) g.1 in (
      omega (arith, long, front, length-take n bytes),
      omega (arith, long, front, rest, length-take n bytes, length-drop n bytes),
    )

-- an entry has its name, and 18 bytes more
slot_room : (rest : List ℕ) (x : (List ℕ × List ℕ) × List ℕ) → slot_at rest ≡ Some x → length x.0.0 + 18 ≤ length rest
unfolding slot_at
slot_room [] x e = absurd cc
slot_room (len ∷ bytes) x e =
    let a = bind_some (front_at len bytes) (λ text. front_at 17 text.1 >>= λ revealed. Some ((text.0, revealed.0), revealed.1)) x e in
    let b = bind_some (front_at 17 a.0.1) (λ revealed. Some ((a.0.0, revealed.0), revealed.1)) x a.2 in
    let same_text : a.0.0 ≡ x.0.0 = ap (λ (y : (List ℕ × List ℕ) × List ℕ). y.0.0) (same_Some ((a.0.0, b.0.0), b.0.1) x b.2) in
    let name = front_room len bytes a.0 a.1 in
    let target = front_room 17 a.0.1 b.0 b.1 in
    omega (arith, ap length same_text, name.1, target.0, target.1)

-- the first n bytes are there, where there are that many
front_there : (n : ℕ) (bytes : List ℕ) → n ≤ length bytes → front_at n bytes ≡ Some (take n bytes, drop n bytes)
unfolding front_at
front_there n bytes long = rw (le-leb n (length bytes) long) refl

-- and are not there, where there are fewer
front_short : (n : ℕ) (bytes : List ℕ) → length bytes < n → front_at n bytes ≡ None
unfolding front_at
front_short n bytes short = rw (lt-leb n (length bytes) short) refl

module _ (bytes : List ℕ) (start len : ℕ) (read : slice_get bytes start ≡ Some len) where
  -- reading an entry goes on after its length
  begun : slot_at (drop start bytes)
      ≡ (front_at len (drop (start + 1) bytes) >>= λ text. front_at 17 text.1 >>= λ revealed. Some
      ((text.0, revealed.0), revealed.1))
  unfolding slot_at
  begun =
      ap slot_at (drop_more bytes start 0 (slice_get_within bytes start len read)
      ∙ ap (λ b. b ∷ drop (start + 1) bytes) (get_or_from_slice_get bytes start len 0 read))

  -- an entry with all its bytes lies between its two ends
  pub entry_there : start + len + 18 ≤ length bytes → slot_at (drop start bytes) ≡ Some (entry_between bytes start (start + len + 18))
  entry_there fits =
      let rest = drop (start + 1) bytes in
      let left : length rest ≡ length bytes - (start + 1) = length-drop (start + 1) bytes in
      let behind : length (drop len rest) ≡ length rest - len = length-drop len rest in
      begun
      ∙ bind_at (front_at len rest) (λ text. front_at 17 text.1 >>= λ revealed. Some ((text.0, revealed.0), revealed.1))
      (take len rest, drop len rest) (front_there len rest (omega arith))
      ∙ bind_at (front_at 17 (drop len rest)) (λ revealed. Some ((take len rest, revealed.0), revealed.1))
      (take 17 (drop len rest), drop 17 (drop len rest)) (front_there 17 (drop len rest) (omega arith))
      ∙ (λ i. Some ((take (name_is i) rest, take (target_is i) (target i)), after i))
    where
      name_is : len ≡ start + len + 18 - 17 - (start + 1)
      name_is = omega arith

      target_is : 17 ≡ start + len + 18 - (start + len + 18 - 17)
      target_is = omega arith

      target : drop len (drop (start + 1) bytes) ≡ drop (start + len + 18 - 17) bytes
      target = drop-drop len (start + 1) bytes ∙ ap (λ n. drop n bytes) (omega arith)

      after : drop 17 (drop len (drop (start + 1) bytes)) ≡ drop (start + len + 18) bytes
      after = ap (drop 17) target ∙ drop-drop 17 (start + len + 18 - 17) bytes ∙ ap (λ n. drop n bytes) (omega arith)

  -- an entry that breaks off is no entry
  pub entry_broken : length bytes < start + len + 18 → slot_at (drop start bytes) ≡ None
  entry_broken short = begun ∙ elim (cases_lt (length (drop (start + 1) bytes)) len) [
    | inl less ↦
        ap (λ o. o >>= λ text. front_at 17 text.1 >>= λ revealed. Some ((text.0, revealed.0), revealed.1))
        (front_short len (drop (start + 1) bytes) less)
    | inr long ↦
        let rest = drop (start + 1) bytes in
        bind_at (front_at len rest) (λ text. front_at 17 text.1 >>= λ revealed. Some ((text.0, revealed.0), revealed.1))
        (take len rest, drop len rest) (front_there len rest long)
        ∙ ap (λ o. o >>= λ revealed. Some ((take len rest, revealed.0), revealed.1))
        (front_short 17 (drop len rest) (omega (arith, length-drop len rest, length-drop (start + 1) bytes)))
  ]

module _ (rest : List ℕ) (name : Name) (x : (List ℕ × List ℕ) × List ℕ) (is : slot_at rest ≡ Some x) where
  -- searching passes over one entry
  over_one : (most : ℕ) (b : Bool) → same name x.0.0 ≡ b → found_among (suc most) rest name ≡ cond b (target_from x.0.1) (found_among most x.1 name)
  unfolding found_among
  over_one most b test =
      bind_at (slot_at rest) (λ slot. cond (same name slot.0.0) (target_from slot.0.1) (found_among most slot.1 name)) x is
      ∙ ap (λ (c : Bool). cond c (target_from x.0.1) (found_among most x.1 name)) test

  -- so it does where at most this many entries are there
  over_first : (most : ℕ) → length rest ≤ most → (b : Bool) → same name x.0.0 ≡ b
      → (fewer : ℕ) × (most ≡ suc fewer)
      × (found_among most rest name ≡ cond b (target_from x.0.1) (found_among fewer x.1 name))
  over_first zero enough b test = absurd (omega (arith, slot_shorter rest x is))
  over_first (suc most) enough b test = (most, refl, over_one most b test)

  module _ (bytes : List ℕ) (left : IsLeft bytes rest name) where
    -- where the entry has the name, its target is found
    pub found_here : same name x.0.0 ≡ true → found_in bytes name ≡ target_from x.0.1
    found_here test =
        let first = over_first left.most left.enough true test in
        left.same_found ∙ first.2

    -- otherwise the rest after it is left
    pub left_behind : same name x.0.0 ≡ false → IsLeft bytes x.1 name
    left_behind test =
        let first = over_first left.most left.enough false test in
        record { most = first.0; enough = omega (arith, left.enough, first.1, slot_shorter rest x is); same_found = left.same_found ∙ first.2 }

-- ---- the name of an entry, in place

-- a part of bytes has as many
part_len : (bytes : List ℕ) (start len : ℕ) → start + len ≤ length bytes → length (slice_range bytes start (start + len)) ≡ len
part_len bytes start len fits = omega (arith, length-take (start + len - start) (drop start bytes), length-drop start bytes)

-- and at each place the byte that lies there
part_at : (bytes : List ℕ) (start len k : ℕ) → k < len → get_or (slice_range bytes start (start + len)) k 0 ≡ get_or bytes (start + k) 0
part_at bytes start len k below = get_or-take (start + len - start) (drop start bytes) k 0 (omega (arith, below)) ∙ get_or-drop start bytes k 0

-- a part of another length is not the name
other_length : (name bytes : List ℕ) (start len : ℕ) → (length name ≡ len → ⊥) → start + len ≤ length bytes
    → same name (slice_range bytes start (start + len)) ≡ false
other_length name bytes start len differ fits =
    false_from_ne_true (same name (slice_range bytes start (start + len))) (λ e.
    differ (ap length ((bytes_decides name (slice_range bytes start (start + len))).0 e) ∙ part_len bytes start len fits))

-- nor is one that has another byte at some place
pub other_bytes : (name bytes : List ℕ) (start k : ℕ) → k < length name → (get_or name k 0 ≡ get_or bytes (start + k) 0 → ⊥)
    → same name (slice_range bytes start (start + length name)) ≡ false
other_bytes name bytes start k below differ =
    false_from_ne_true (same name (slice_range bytes start (start + length name))) (λ e.
    differ (ap (λ (xs : List ℕ). get_or xs k 0) ((bytes_decides name (slice_range bytes start (start + length name))).0 e)
    ∙ part_at bytes start (length name) k below))

-- and one that has the same byte at each place is the name
pub same_bytes : (name bytes : List ℕ) (start : ℕ) → start + length name ≤ length bytes
    → ((k : ℕ) → k < length name → get_or name k 0 ≡ get_or bytes (start + k) 0)
    → same name (slice_range bytes start (start + length name)) ≡ true
same_bytes name bytes start fits each =
    (bytes_decides name (slice_range bytes start (start + length name))).1
    (ext_get_or 0 name (slice_range bytes start (start + length name)) (sym (part_len bytes start (length name) fits))
    (λ k below. each k below ∙ sym (part_at bytes start (length name) k below)))

-- in fewer bytes than an entry of a name has, the name is not found
too_short : (most : ℕ) (rest : List ℕ) (name : Name) → length rest < length name + 18 → found_among most rest name ≡ None
unfolding found_among
too_short zero rest name short = refl
too_short (suc most) rest name short = elim (slot_at rest) as (λ o. slot_at rest ≡ o → found_among (suc most) rest name ≡ None) [
  | None ↦ λ is. nowhere (suc most) rest name is
  | Some x ↦ λ is.
      let other : same name x.0.0 ≡ false =
      false_from_ne_true (same name x.0.0) (λ e. absurd (omega (arith, slot_room rest x is, ap length ((bytes_decides name x.0.0).0 e)))) in
      over_one rest name x is most false other ∙ too_short most x.1 name (omega (arith, slot_shorter rest x is))
] refl

-- so it is where fewer bytes are left
pub out_of_reach : (bytes : List ℕ) (start : ℕ) (name : Name) → IsLeft bytes (drop start bytes) name
    → length bytes < start + (length name + 18) → found_in bytes name ≡ None
out_of_reach bytes start name left short =
    left.same_found ∙ too_short left.most (drop start bytes) name (omega (arith, length-drop start bytes))

-- a name has bytes
pub has_bytes : (name : List ℕ) → IsTrue (is_name name) → 0 < length name
unfolding is_name
has_bytes [] named = absurd cc
has_bytes (b ∷ bs) named = omega arith

module _ (bytes : List ℕ) (name : Name) (start len : ℕ) (read : slice_get bytes start ≡ Some len)
    (left : IsLeft bytes (drop start bytes) name) where
  -- the name of the entry lies between its length and its target
  name_between : same name (slice_range bytes (start + 1) (start + len + 18 - 17)) ≡ same name (slice_range bytes (start + 1) (start + 1 + len))
  name_between =
      let to : start + len + 18 - 17 ≡ start + 1 + len = omega arith in
      λ i. same name (slice_range bytes (start + 1) (to i))

  -- where the entry breaks off, the name is not found
  none_there : length bytes < start + len + 18 → found_in bytes name ≡ None
  none_there short = leads_nowhere bytes (drop start bytes) name left (entry_broken bytes start len read short)

  -- where an entry that is all there has the name, its target is found
  pub found_there : start + len + 18 ≤ length bytes → same name (slice_range bytes (start + 1) (start + 1 + len)) ≡ true
      → found_in bytes name ≡ target_from (slice_range bytes (start + len + 18 - 17) (start + len + 18))
  found_there fits test =
      found_here (drop start bytes) name (entry_between bytes start (start + len + 18)) (entry_there bytes start len read fits) bytes left
      (name_between ∙ test)

  -- where it has another name, what lies behind it is left
  pub left_over : start + len + 18 ≤ length bytes → same name (slice_range bytes (start + 1) (start + 1 + len)) ≡ false
      → IsLeft bytes (drop (start + len + 18) bytes) name
  left_over fits test =
      left_behind (drop start bytes) name (entry_between bytes start (start + len + 18)) (entry_there bytes start len read fits) bytes left
      (name_between ∙ test)

  -- where its name has another length, this is left too, which is nothing if the entry breaks off
  pub stepped_over : (length name ≡ len → ⊥) → IsLeft bytes (drop (start + len + 18) bytes) name
  stepped_over differ = elim (cases_lt (length bytes) (start + len + 18)) [
    | inl short ↦
        let none : drop (start + len + 18) bytes ≡ [] = drop_all (start + len + 18) bytes (omega arith) in
        subst (λ (rest : List ℕ). IsLeft bytes rest name) (sym none) (record {
          most = 0;
          enough = omega arith;
          same_found = none_there short ∙ sym (nowhere 0 [] name none_at_end);
        })
    | inr fits ↦ left_over fits (other_length name bytes (start + 1) len differ (omega arith))
  ]

-- ---- the bytes of a directory

-- a target has 17 bytes
pub target_len : (t : Target) → length (target_bytes t) ≡ 17
target_len (File file) = refl
target_len (Directory container listing) = refl

-- the bytes of a target spell it
revealed_again : (t : Target) → IsTarget t → target_from (target_bytes t) ≡ Some t
unfolding target_from
revealed_again t is =
    bind_at (target_at (target_bytes t)) (λ (x : Target × List ℕ). Some x.0) (t, [])
    (ap target_at (sym (append-nil (target_bytes t))) ∙ target_again t [] is)

-- the parts of an entry that was written are found again
pub slot_again : (e : Entry) (rest : List ℕ) → slot_at (entry_bytes e ++ rest) ≡ Some ((e.0, target_bytes e.1), rest)
unfolding slot_at
slot_again e rest =
    bind_at (front_at (length e.0) ((e.0 ++ target_bytes e.1) ++ rest))
    (λ text. front_at 17 text.1 >>= λ revealed. Some ((text.0, revealed.0), revealed.1))
    (e.0, target_bytes e.1 ++ rest)
    (ap (front_at (length e.0)) (append_assoc e.0 (target_bytes e.1) rest) ∙ front_again (length e.0) e.0 (target_bytes e.1 ++ rest) refl)
    ∙ bind_at (front_at 17 (target_bytes e.1 ++ rest)) (λ revealed. Some ((e.0, revealed.0), revealed.1))
    (target_bytes e.1, rest) (front_again 17 (target_bytes e.1) rest (target_len e.1))

-- in the bytes of entries the first one of the name is found
found_of_entries : (most : ℕ) (es : List Entry) (name : Name) → AllByRecursion IsEntry es
    → length (flat_map entry_bytes es) ≤ most
    → found_among most (flat_map entry_bytes es) name ≡ map.find by_bytes name es
found_of_entries most [] name each enough = nowhere most [] name none_at_end
found_of_entries most (e ∷ es) name each enough =
    let slot = slot_again e (flat_map entry_bytes es) in
    let first =
    over_first (flat_map entry_bytes (e ∷ es)) name ((e.0, target_bytes e.1), flat_map entry_bytes es) slot most
    enough (same name e.0) refl in
    let shorter = slot_shorter (flat_map entry_bytes (e ∷ es)) ((e.0, target_bytes e.1), flat_map entry_bytes es) slot in
    let later = found_of_entries first.0 es name each.1 (omega (arith, enough, first.1, shorter)) in
    first.2
    ∙ (λ i. cond (texts_ties name e.0 i) (revealed_again e.1 each.0.1 i) (later i))

-- in the bytes of a directory the target of the entry of a name is found
pub found_in_directory : (bytes : List ℕ) (dir : Entries) (name : Name) → IsDirectory bytes dir → found_in bytes name ≡ map.get dir name
unfolding found_in
found_in_directory bytes dir name is =
    ap (λ (b : List ℕ). found_among (length b) b name) is.spelled
    ∙ found_of_entries (length (flat_map entry_bytes (map.entries dir))) (map.entries dir) name is.listable.each (omega arith)
    ∙ sym (map.get-entries dir name)
