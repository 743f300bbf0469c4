-- What a beginning of the entries of a directory determines about the rest.
use Rattle.std.proofs.Common.{◌≡◌, ℕ, ◌<◌, Bool, true, false, List, [], ◌∷◌, ◌++◌, length, Option, Some, None, refl, sym, ap, subst, ◌∙◌}
use Rattle.std.proofs.Common.{append_assoc, append-nil, length-append, arith}
use Rattle.std.specs.Prelude.{T, MatchOption}
use Rattle.std.specs.List.{flat_map, AllByRecursion}
use Rattle.std.specs.Ordering.{is_lt}
use Rattle.std.specs.Cmp.Lexicographic.{nat_list_cmp_total}
use Rattle.std.specs.FinMap as map
use Rattle.std.specs.FinMap.Entries.{put, is_sorted}
use Rattle.std.proofs.lemmas.Bool.{false≢true}
use Rattle.std.proofs.lemmas.List.{flat_map_more}
use Rattle.std.proofs.lemmas.Option.{same_Some}
use Rattle.histar_flat.specs.Words.{Name}
use Rattle.histar_flat.proofs.Finding.{is_less}
use Rattle.histar_layout.specs.declared.entry.Target.{Target}
use Rattle.histar_layout.specs.declared.entry.Target.TheVariants.{File, Directory}
use Rattle.histar_layout.specs.Directory.{Entries, entry_bytes, IsTarget, LeadsSomewhere, IsEntry, IsListable, spelling, IsDirectory}
use Rattle.histar_layout.specs.Reading.{entry_at}
use Rattle.histar_layout.proofs.EntryLemmas.{IsBytes, entry_takes, entry_again}
use Rattle.histar_layout.proofs.MapLemmas.{by_bytes, entries-empty, listable_empty, listable_insert, put_last, last_below}

-- a name comes after the last one, if there is one
abbrev pub comes_after : Option Name → Name → Bool
comes_after None name = true
comes_after (Some last) name = is_lt (by_bytes last name)

-- an entry with its name and target
abbrev pub Entry : Type 0
Entry = Name × Target

-- the bytes of entries, one after another
abbrev text : List Entry → List ℕ
text = flat_map entry_bytes

-- the entries es are the first ones of those that the bytes spell, and the rest of the bytes spells the others
record IsContinued (es fs : List Entry) (rest : List ℕ) : Type 0 where
  more : List Entry
  parts : fs ≡ es ++ more
  spelled : rest ≡ text more
  each : AllByRecursion IsEntry more

-- bytes that begin with two entries begin with one
same_head : (x y : Entry) (es fs : List Entry) (rest : List ℕ) → IsEntry x → IsEntry y
    → text (x ∷ es) ++ rest ≡ text (y ∷ fs) → (x ≡ y) × (text es ++ rest ≡ text fs)
same_head x y es fs rest a b e =
    let read : Some (x, text es ++ rest) ≡ Some (y, text fs) =
    sym (entry_again x (text es ++ rest) a) ∙ ap entry_at (sym (append_assoc (entry_bytes x) (text es) rest) ∙ e) ∙ entry_again y (text fs) b in
    let same = same_Some (x, text es ++ rest) (y, text fs) read in
    (ap (λ (p : Entry × List ℕ). p.0) same, ap (λ (p : Entry × List ℕ). p.1) same)

-- entries that the bytes begin with are the first ones of a directory
continued : (es fs : List Entry) (rest : List ℕ) → AllByRecursion IsEntry es → AllByRecursion IsEntry fs
    → text es ++ rest ≡ text fs → IsContinued es fs rest
continued [] fs rest a b e = record { more = fs; parts = refl; spelled = e; each = b }
continued (x ∷ es) [] rest a b e = absurd cc
continued (x ∷ es) (y ∷ fs) rest a b e =
    let h = same_head x y es fs rest a.0 b.0 e in
    let k = continued es fs rest a.1 b.1 h.1 in
    record { more = k.more; parts = (λ i. sym h.0 i ∷ k.parts i); spelled = k.spelled; each = k.each }

-- no bytes spell no entries
no_more : (more : List Entry) → [] ≡ text more → more ≡ []
no_more [] e = refl
no_more (x ∷ more) e = absurd cc

-- bytes are one directory at most
pub same_directory : (bytes : List ℕ) (a b : Entries) → IsDirectory bytes a → IsDirectory bytes b → a ≡ b
same_directory bytes a b p q =
    let k = continued (map.entries a) (map.entries b) [] p.listable.each q.listable.each (append-nil (spelling a) ∙ sym p.spelled ∙ q.spelled) in
    let same : map.entries b ≡ map.entries a =
    k.parts ∙ ap (λ (es : List Entry). map.entries a ++ es) (no_more k.more k.spelled) ∙ append-nil (map.entries a) in
    map.same_entries_map a b (sym same)

-- the directory that reading finds in bytes is the directory that they are
pub found_directory : (bytes : List ℕ) (found : Option Entries) (dir : Entries)
    → MatchOption found ((other : Entries) → IsDirectory bytes other → ⊥) (IsDirectory bytes) → IsDirectory bytes dir
    → found ≡ Some dir
found_directory bytes None dir none h = absurd (none dir h)
found_directory bytes (Some other) dir is h = ap Some (same_directory bytes other dir is h)

-- the last of the entries has this name, or there are none
abbrev pub IsLast : Option Name → List Entry → Type 0
IsLast None es = es ≡ []
IsLast (Some name) es = (before : List Entry) × (target : Target) × (es ≡ before ++ (name, target) ∷ [])

-- the bytes begin with the entries of a directory, the last of which has this name, and go on with the rest
pub record IsReadUpTo (bytes rest : List ℕ) (last : Option Name) (dir : Entries) : Type 0 where
  pub listable : IsListable dir
  pub spelled : bytes ≡ spelling dir ++ rest
  pub last_is : IsLast last (map.entries dir)
  pub rest_fits : IsBytes rest

-- at the start nothing is read
pub starts : (bytes : List ℕ) → IsBytes bytes → IsReadUpTo bytes bytes None map.empty
starts bytes fits = record {
  listable = listable_empty;
  spelled = ap (λ (es : List Entry). text es ++ bytes) (sym entries-empty);
  last_is = entries-empty;
  rest_fits = fits;
}

-- an entry after the last one is added at the end
pub entry_added : (last : Option Name) (dir : Entries) (name : Name) (target : Target) → IsLast last (map.entries dir)
    → comes_after last name ≡ true → map.entries (map.insert dir name target) ≡ map.entries dir ++ (name, target) ∷ []
entry_added None dir name target h after =
    map.entries-insert nat_list_cmp_total dir name target ∙ ap (put by_bytes name target) h
    ∙ ap (λ (es : List Entry). es ++ (name, target) ∷ []) (sym h)
entry_added (Some last) dir name target h after =
    map.entries-insert nat_list_cmp_total dir name target ∙ ap (put by_bytes name target) h.2
    ∙ put_last h.0 (last, h.1) name target (subst (λ (es : List Entry). T (is_sorted by_bytes es)) h.2 (map.entries_sorted dir)) (is_less _ after)
    ∙ ap (λ (es : List Entry). es ++ (name, target) ∷ []) (sym h.2)

-- one more entry is read
pub goes_on : (bytes rest after : List ℕ) (last : Option Name) (dir : Entries) (name : Name) (target : Target)
    → IsReadUpTo bytes rest last dir → entry_at rest ≡ Some ((name, target), after)
    → map.len dir < 64 → comes_after last name ≡ true → IsReadUpTo bytes after (Some name) (map.insert dir name target)
goes_on bytes rest after last dir name target h read room rises =
    let e = entry_takes rest ((name, target), after) h.rest_fits read in
    let added = entry_added last dir name target h.last_is rises in
    let grown : text (map.entries dir) ++ entry_bytes (name, target) ≡ text (map.entries (map.insert dir name target)) =
    flat_map_more entry_bytes [] (map.entries dir) (name, target) ∙ ap text (sym added) in
    record {
      listable = listable_insert dir name target h.listable room e.entry;
      spelled =
          h.spelled ∙ ap (λ (t : List ℕ). spelling dir ++ t) e.parts
          ∙ sym (append_assoc (spelling dir) (entry_bytes (name, target)) after)
          ∙ ap (λ (t : List ℕ). t ++ after) grown;
      last_is = (map.entries dir, target, added);
      rest_fits = e.rest_fits;
    }

-- after an entry the rest is shorter
pub shorter : (rest after : List ℕ) (name : Name) (target : Target) → IsBytes rest
    → entry_at rest ≡ Some ((name, target), after) → length after < length rest
shorter rest after name target fits read =
    let e = entry_takes rest ((name, target), after) fits read in
    omega (arith, ap length e.parts, length-append (entry_bytes (name, target)) after)

-- a target that names objects leads somewhere
pub target_leads : (t : Target) → IsTarget t → LeadsSomewhere t
target_leads (File file) h = h.0
target_leads (Directory container listing) h = (h.0.0, h.1.0)

-- a directory that is not full has room
pub room_left : (dir : Entries) (full : Bool) → IsListable dir → (map.len dir ≡ 64 → full ≡ true) → full ≡ false → map.len dir < 64
room_left dir full h at_most is_false =
    let not_most : map.len dir ≡ 64 → ⊥ = λ e. false≢true (sym is_false ∙ at_most e) in
    omega (arith, h.few)

-- where bytes are left, the directory goes on with the entry that the rest begins with
record HasNext (rest : List ℕ) (dir whole : Entries) : Type 0 where
  next : Entry
  more : List Entry
  parts : map.entries whole ≡ map.entries dir ++ next ∷ more
  read : entry_at rest ≡ Some (next, text more)

-- where bytes are left, more entries are left
next_of : (rest : List ℕ) (dir whole : Entries) → IsContinued (map.entries dir) (map.entries whole) rest → 0 < length rest → HasNext rest dir whole
next_of rest dir whole k there = go k.more k.parts k.spelled k.each
  where
    go : (more : List Entry) → map.entries whole ≡ map.entries dir ++ more → rest ≡ text more → AllByRecursion IsEntry more → HasNext rest dir whole
    go [] p s a = absurd (omega (arith, ap length s))
    go (e ∷ more) p s a = record { next = e; more = more; parts = p; read = ap entry_at s ∙ entry_again e (text more) a.0 }

-- a directory goes on where the bytes do
further : (bytes rest : List ℕ) (last : Option Name) (dir whole : Entries) → IsReadUpTo bytes rest last dir
    → 0 < length rest → IsDirectory bytes whole → HasNext rest dir whole
further bytes rest last dir whole h there w =
    next_of rest dir whole (continued (map.entries dir) (map.entries whole) rest h.listable.each w.listable.each (sym h.spelled ∙ w.spelled)) there

-- a rest that begins with no entry is in no directory
pub no_entry : (bytes rest : List ℕ) (last : Option Name) (dir : Entries) → IsReadUpTo bytes rest last dir
    → 0 < length rest → entry_at rest ≡ None → (whole : Entries) → IsDirectory bytes whole → ⊥
no_entry bytes rest last dir h there none whole w =
    let k = further bytes rest last dir whole h there w in
    let read = k.read in
    cc

-- no directory has more than 64 entries
pub no_room : (bytes rest : List ℕ) (last : Option Name) (dir : Entries) → IsReadUpTo bytes rest last dir
    → 0 < length rest → map.len dir ≡ 64 → (whole : Entries) → IsDirectory bytes whole → ⊥
no_room bytes rest last dir h there full whole w =
    let k = further bytes rest last dir whole h there w in
    omega (arith, w.listable.few, map.len-entries whole, map.len-entries dir, ap length k.parts, length-append (map.entries dir) (k.next ∷ k.more))

-- after the last entry of a directory's beginning names rise
rises : (last : Option Name) (es : List Entry) (e : Entry) (more : List Entry) → IsLast last es
    → T (is_sorted by_bytes (es ++ e ∷ more)) → comes_after last e.0 ≡ true
rises None es e more h s = refl
rises (Some last) es e more h s =
    ap is_lt
    (last_below h.0 (last, h.1) e more (subst (λ (fs : List Entry). T (is_sorted by_bytes (fs ++ e ∷ more))) h.2 s))

-- no directory has an entry whose name doesn't come after the last one
pub no_order : (bytes rest after : List ℕ) (last : Option Name) (dir : Entries) (name : Name) (target : Target)
    → IsReadUpTo bytes rest last dir → 0 < length rest → entry_at rest ≡ Some ((name, target), after)
    → comes_after last name ≡ false → (whole : Entries) → IsDirectory bytes whole → ⊥
no_order bytes rest after last dir name target h there read falls whole w =
    let k = further bytes rest last dir whole h there w in
    let same : (k.next, text k.more) ≡ ((name, target), after) = same_Some (k.next, text k.more) ((name, target), after) (sym k.read ∙ read) in
    let is_name : k.next.0 ≡ name = ap (λ (p : Entry × List ℕ). p.0.0) same in
    let up : comes_after last k.next.0 ≡ true =
    rises last (map.entries dir) k.next k.more h.last_is
    (subst (λ (es : List Entry). T (is_sorted by_bytes es)) k.parts (map.entries_sorted whole)) in
    false≢true (sym falls ∙ ap (comes_after last) (sym is_name) ∙ up)
