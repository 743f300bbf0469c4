-- Two states that differ only in the bytes of files whose way has all classes of a given way: what a process that doesn't read all of
-- that way is answered in them, and what the calls of any process leave.
use Rattle.std.specs.Prelude.{◌≡◌, ◌≢◌, ℕ, Bool, true, false, not, ◌&&◌, ◌||◌, cond, List, [], ◌∷◌, ◌++◌, length, nat_le, Option, Some, None}
use Rattle.std.specs.Prelude.{option_map, refl}
use Rattle.std.proofs.Common.{ap, sym, ◌∙◌, subst, inl, inr}
use Rattle.std.proofs.lemmas.Bool.{true≢false, and_parts, or_cases, or_parts, cases_Bool}
use Rattle.std.proofs.Math.Bool.{or-true}
use Rattle.histar_base.specs.Refusals.{◌orelse◌, unless}
use Rattle.histar_flat.specs.declared.calls.UnixCall.{UnixCall}
use Rattle.histar_flat.specs.declared.calls.UnixCall.TheVariants.{Write, Append, Wrap}
use Rattle.histar_flat.specs.declared.replies.Errno.{Errno}
use Rattle.histar_flat.specs.declared.replies.Errno.TheVariants.{EACCES, EFBIG, ENOENT, ENOTDIR}
use Rattle.histar_flat.specs.Words.{Name, Path, ProcName}
use Rattle.histar_base.specs.Paths.{same, same_path}
use Rattle.histar_flat.specs.PathOrder.{parent, under_path}
use Rattle.histar_flat.specs.Accounts.{Accounts}
use Rattle.histar_flat.specs.Files.{Files, get, insert}
use Rattle.histar_flat.specs.Classes.{Class, Process, class_made, may_read}
use Rattle.histar_flat.specs.Classes.Class.{Scratch}
use Rattle.histar_flat.specs.FlatState.{Content, Flat, IsTree, Node, bytes_at, bytes_of, class_of, into, is_dir, is_dir_at, is_file_at, is_some_and}
use Rattle.histar_flat.specs.FlatState.{is_there}
use Rattle.histar_flat.specs.FlatState.{moved, reads, walk}
use Rattle.histar_flat.specs.FlatState.{with_bytes, with_renamed, without_below}
use Rattle.histar_flat.specs.FlatState.Content.{Dir, File}
use Rattle.histar_flat.specs.Effects.{Effect, apply}
use Rattle.histar_flat.specs.Effects.Effect.{Nothing, Makes, Stores, Removes, Renames, Wraps}
use Rattle.histar_flat.specs.CallRules.{path_of, rule}
use Rattle.histar_flat.specs.FlatCalls.{changed, class_or_open, flat_after, flat_by, flat_or, if_running, inner_chain, life_reply}
use Rattle.histar_flat.specs.FlatCalls.{refused, reply_by, reply_to, running}
use Rattle.histar_flat.specs.Needs.{most_bytes}
use Rattle.histar_flat.specs.RuleLaws.{Warrant}
use Rattle.histar_flat.proofs.Alike.{ShowAlike, file_reached_alike}
use Rattle.histar_flat.proofs.Changes.{another_name, or_stays}
use Rattle.histar_flat.proofs.Entries.{shown, same_entries_shown}
use Rattle.histar_flat.proofs.FileLemmas.{Found, get-insert, get-keep, get_new, get_other, same_path_found}
use Rattle.histar_flat.proofs.LooksAlike.{LooksAlike, found_alike, reply_alike, test_alike}
use Rattle.histar_flat.proofs.Refusals.{three_pass}
use Rattle.histar_flat.proofs.Renaming.{get_renamed, stays}
use Rattle.histar_flat.proofs.Trees.{nothing_below, tree_after}
use Rattle.histar_flat.proofs.Under.{above_is_not_under, under_itself}
use Rattle.histar_flat.proofs.Warrants.{warranted}
use Rattle.histar_noninterference.proofs.Wrapping.{born_if, born_in}
use Rattle.histar_secrecy.specs.Ways.{covers, has_class, reads_all, same_class, way_in, way_to}
use Rattle.histar_secrecy.proofs.Blind.{is_blind, unmet_shown, walk_alike, writes_alike}
use Rattle.histar_secrecy.proofs.Readers.{is_same_class, same_class_itself}

-- ---- what is veiled

-- the bytes at a path are veiled: the way to it has all classes of this way
abbrev pub hides : List Class → Files Node → Path → Bool
hides way files r = covers (way_in files r) way

-- two states that differ only in veiled bytes
pub record IsVeiled (way : List Class) (s t : Flat) : Type 0 where
  pub shown : ShowAlike s t
  pub bytes : (r : Path) → hides way s.files r ≡ false → bytes_at s r ≡ bytes_at t r
  pub processes : s.processes ≡ t.processes

-- a process that reads all classes of a list reads one of them
reads_one : (accounts : Accounts) (p : Process) (way : List Class) (class : Class) → reads_all accounts way p ≡ true → has_class way class ≡ true
    → may_read accounts p class ≡ true
reads_one accounts p [] class h e = absurd (true≢false (sym e))
reads_one accounts p (c ∷ way) class h e =
    let parts = and_parts (may_read accounts p c) (reads_all accounts way p) h in
    elim (or_cases (same_class class c) (has_class way class) e) [
      | inl t ↦ ap (may_read accounts p) (is_same_class class c t) ∙ parts.0
      | inr t ↦ reads_one accounts p way class parts.1 t
    ]

reads_covered : (accounts : Accounts) (p : Process) (other way : List Class) → reads_all accounts other p ≡ true → covers other way ≡ true
    → reads_all accounts way p ≡ true
reads_covered accounts p other [] h e = refl
reads_covered accounts p other (c ∷ way) h e =
    let parts = and_parts (has_class other c) (covers other way) e in
    λ i. reads_one accounts p other c h parts.0 i && reads_covered accounts p other way h parts.1 i

-- a way has its own classes
covers_longer : (c : Class) (other way : List Class) → covers other way ≡ true → covers (c ∷ other) way ≡ true
covers_longer c other [] h = refl
covers_longer c other (k ∷ way) h =
    let parts = and_parts (has_class other k) (covers other way) h in
    λ i. (ap (λ b. same_class k c || b) parts.0 ∙ or-true (same_class k c)) i && covers_longer c other way parts.1 i

pub covers_itself : (way : List Class) → covers way way ≡ true
covers_itself [] = refl
covers_itself (c ∷ way) = λ i. (ap (λ b. b || has_class way c) (same_class_itself c)) i && covers_longer c way way (covers_itself way) i

-- ---- the way of a walk

-- a process that gets into a directory reads all of the way to it
pub into_reads : (accounts : Accounts) (s : Flat) (p : Process) (d : Path) → into accounts s p d ≡ None → reads_all accounts (way_to s d) p ≡ true
into_reads accounts s p [] h = by (get s.files []) h
  where
    by : (o : Option Node) → unless (is_some_and o (λ n. may_read accounts p n.class)) EACCES ≡ None
        → (may_read accounts p (class_of o) && true) ≡ true
    by None h = absurd (cc)
    by (Some n) h = passed (may_read accounts p n.class) h
      where
        passed : (b : Bool) → unless b EACCES ≡ None → (b && true) ≡ true
        passed true h = refl
        passed false h = absurd (cc)
into_reads accounts s p (n ∷ d) h =
    let tests = three_pass (into accounts s p d) (is_there s (n ∷ d)) (is_dir_at s (n ∷ d)) (reads accounts s p (n ∷ d)) ENOENT ENOTDIR EACCES h in
    λ i. class_read accounts p (get s.files (n ∷ d)) tests.3 i && into_reads accounts s p d tests.0 i
  where
    class_read : (accounts : Accounts) (p : Process) (o : Option Node) → is_some_and o (λ n. may_read accounts p n.class) ≡ true
        → may_read accounts p (class_of o) ≡ true
    class_read accounts p None h = absurd (true≢false (sym h))
    class_read accounts p (Some n) h = h

-- a process that walks to a path and reads what is there reads all of the way to it
pub walk_reads : (accounts : Accounts) (s : Flat) (p : Process) (q : Path) → walk accounts s p q ≡ None → reads accounts s p q ≡ true
    → reads_all accounts (way_to s q) p ≡ true
walk_reads accounts s p [] w r = by (get s.files []) r
  where
    by : (o : Option Node) → is_some_and o (λ n. may_read accounts p n.class) ≡ true → (may_read accounts p (class_of o) && true) ≡ true
    by None h = absurd (true≢false (sym h))
    by (Some n) h = ap (λ b. b && true) h
walk_reads accounts s p (n ∷ d) w r = λ i. by (get s.files (n ∷ d)) r i && into_reads accounts s p d w i
  where
    by : (o : Option Node) → is_some_and o (λ n. may_read accounts p n.class) ≡ true → may_read accounts p (class_of o) ≡ true
    by None h = absurd (true≢false (sym h))
    by (Some n) h = h

-- ways are the same where the classes are
same_ways : (m n : Files Node) → ((r : Path) → class_of (get m r) ≡ class_of (get n r)) → (q : Path) → way_in m q ≡ way_in n q
same_ways m n h [] = λ i. h [] i ∷ []
same_ways m n h (k ∷ d) = λ i. h (k ∷ d) i ∷ same_ways m n h d i

-- the way to a path that does not lie below q is the same, where all such paths have the same classes
ways_outside : (m n : Files Node) (q : Path) → ((r : Path) → under_path q r ≡ false → get m r ≡ get n r) → (r : Path) → under_path q r ≡ false
    → way_in m r ≡ way_in n r
ways_outside m n q h [] u = λ i. class_of (h [] u i) ∷ []
ways_outside m n q h (k ∷ d) u =
    let out = or_parts (same_path q (k ∷ d)) (under_path q d) u in
    λ i. class_of (h (k ∷ d) u i) ∷ ways_outside m n q h d out.1 i

-- ---- what is shown alike

-- the classes are those that are shown
class_shown : (a b : Option Node) → option_map shown a ≡ option_map shown b → class_of a ≡ class_of b
class_shown None None h = refl
class_shown None (Some n) h = absurd (cc)
class_shown (Some m) None h = absurd (cc)
class_shown (Some m) (Some n) h = let e : shown m ≡ shown n = cc in ap (λ x. x.0) e

none_shown : (a b : Option Node) → option_map shown a ≡ option_map shown b → a ≡ None → b ≡ None
none_shown a None h e = refl
none_shown a (Some n) h e = let no : option_map shown None ≡ option_map shown (Some n) = sym (ap (option_map shown) e) ∙ h in absurd (cc)

-- choices by the same test are shown alike
chosen_shown : (b : Bool) (x y u v : Option Node) → option_map shown x ≡ option_map shown u → option_map shown y ≡ option_map shown v
    → option_map shown (cond b x y) ≡ option_map shown (cond b u v)
chosen_shown true x y u v d e = d
chosen_shown false x y u v d e = e

-- states that are shown alike are trees alike
pub tree_alike : (s t : Flat) → ShowAlike s t → IsTree s → IsTree t
tree_alike s t alike tree = record {
  root = sym (dir []) ∙ tree.root;
  below = λ n d there. sym (dir d) ∙ tree.below n d (test_alike (λ c. true) (get s.files (n ∷ d)) (get t.files (n ∷ d)) (alike (n ∷ d)) ∙ there);
}
  where
    dir : (r : Path) → is_dir_at s r ≡ is_dir_at t r
    dir r = test_alike (λ c. c.1) (get s.files r) (get t.files r) (alike r)

-- ---- being veiled

-- whether bytes are veiled is shown alike
hidden_alike : (way : List Class) (s t : Flat) → ShowAlike s t → (r : Path) → hides way s.files r ≡ hides way t.files r
hidden_alike way s t alike r =
    ap (λ other. covers other way) (same_ways s.files t.files (λ q. class_shown (get s.files q) (get t.files q) (alike q)) r)

pub turned_veiled : {way : List Class} {s t : Flat} → IsVeiled way s t → IsVeiled way t s
turned_veiled {way} {s} {t} v = record {
  shown = λ r. sym (v.shown r);
  bytes = λ r h. sym (v.bytes r (hidden_alike way s t v.shown r ∙ h));
  processes = sym v.processes;
}

pub joined_veiled : {way : List Class} {s t u : Flat} → IsVeiled way s t → IsVeiled way t u → IsVeiled way s u
joined_veiled {way} {s} {t} v w = record {
  shown = λ r. v.shown r ∙ w.shown r;
  bytes = λ r h. v.bytes r h ∙ w.bytes r (sym (hidden_alike way s t v.shown r) ∙ h);
  processes = v.processes ∙ w.processes;
}

-- a file is shown the same with other bytes
file_shown : (o : Option Node) → is_some_and o (λ n. not (is_dir n)) ≡ true → (bytes : List ℕ)
    → option_map shown o ≡ Some (shown (record { class = class_of o; content = File bytes }))
file_shown None file bytes = absurd (true≢false (sym file))
file_shown (Some n) file bytes = λ i. Some (n.class, by n.content file i)
  where
    by : (content : Content) → not (is_dir (record { class = n.class; content = content })) ≡ true
        → is_dir (record { class = n.class; content = content }) ≡ false
    by Dir h = absurd (true≢false (sym h))
    by (File old) h = refl

-- other bytes in a file that is veiled are veiled
stored_hidden : (way : List Class) (x : Flat) (q : Path) → hides way x.files q ≡ true → is_file_at x q ≡ true → (bytes : List ℕ)
    → IsVeiled way x (with_bytes x q bytes)
stored_hidden way x q hidden file bytes = record {
  shown = λ r. elim (same_path_found r q) [
    | inl e ↦
        ap (λ k. option_map shown (get x.files k)) e.1 ∙ file_shown (get x.files q) file bytes
        ∙ sym (ap (option_map shown) (ap (get (insert x.files q new)) e.1 ∙ get_new x.files q new))
    | inr e ↦ sym (ap (option_map shown) (get_other x.files q new r e.1))
  ];
  bytes = λ r h. elim (same_path_found r q) [
    | inl e ↦ absurd (true≢false (sym hidden ∙ ap (hides way x.files) (sym e.1) ∙ h))
    | inr e ↦ sym (ap bytes_of (get_other x.files q new r e.1))
  ];
  processes = refl;
}
  where
    new : Node
    new = record { class = class_of (get x.files q); content = File bytes }

-- to a veiled file any bytes may be appended
append_hidden : (accounts : Accounts) (way : List Class) (x : Flat) (me : ProcName) (p : Process) (q : Path) (bytes : List ℕ)
    → hides way x.files q ≡ true → IsVeiled way x (flat_by accounts x me (Some p) (Append q bytes))
append_hidden accounts way x me p q bytes h =
    or_stays (IsVeiled way x) x (changed accounts x me p (Append q bytes)) (refused accounts x me p (Append q bytes))
    (record { shown = λ r. refl; bytes = λ r h. refl; processes = refl })
    (λ passes. stored_hidden way x q h ((warranted accounts x me p (Append q bytes) passes).2) (bytes_at x q ++ bytes))

module _ (accounts : Accounts) (way : List Class) (s t : Flat) (tree : IsTree s) (veiled : IsVeiled way s t) where
  -- nothing is below nothing, in both states
  gone : (q r : Path) → get s.files q ≡ None → under_path q r ≡ true → (get s.files r ≡ None) × (get t.files r ≡ None)
  gone q r free u =
      let here = nothing_below s tree q free r u in (here, none_shown (get s.files r) (get t.files r) (veiled.shown r) here)

  -- ---- a node that is put at a path

  module _ (q : Path) (x y : Node) (same_shown : shown x ≡ shown y) where
    put_shown : (r : Path) → option_map shown (get (insert s.files q x) r) ≡ option_map shown (get (insert t.files q y) r)
    put_shown r =
        ap (option_map shown) (get-insert s.files q x r)
        ∙ chosen_shown (same_path r q) (Some x) (get s.files r) (Some y) (get t.files r) (ap Some same_shown) (veiled.shown r)
        ∙ sym (ap (option_map shown) (get-insert t.files q y r))

    -- elsewhere bytes that were not veiled are the same
    put_elsewhere : (r : Path) → r ≢ q → hides way s.files r ≡ false → bytes_of (get (insert s.files q x) r) ≡ bytes_of (get (insert t.files q y) r)
    put_elsewhere r other h = ap bytes_of (out s.files x) ∙ veiled.bytes r h ∙ sym (ap bytes_of (out t.files y))
      where
        out : (m : Files Node) (z : Node) → get (insert m q z) r ≡ get m r
        out m z = get-insert m q z r ∙ ap (λ b. cond b (Some z) (get m r)) (apart (same_path_found r q))
          where
            apart : Found (same_path r q) r q → same_path r q ≡ false
            apart (inl e) = absurd (other e.1)
            apart (inr e) = e.0

    put_here : (m : Files Node) (z : Node) (r : Path) → r ≡ q → get (insert m q z) r ≡ Some z
    put_here m z r e = ap (get (insert m q z)) e ∙ get_new m q z

  -- the same new node, where there was nothing
  made_bytes : (q : Path) (x : Node) → get s.files q ≡ None → (r : Path) → hides way (insert s.files q x) r ≡ false
      → bytes_of (get (insert s.files q x) r) ≡ bytes_of (get (insert t.files q x) r)
  made_bytes q x free r h = elim (same_path_found r q) [
    | inl e ↦ ap bytes_of (put_here q x x refl s.files x r e.1 ∙ sym (put_here q x x refl t.files x r e.1))
    | inr e ↦ elim (cases_Bool (under_path q r)) [
      | inl u ↦ put_elsewhere' e.1 (gone q r free u)
      | inr u ↦ put_elsewhere q x x refl r e.1 (ap (λ other. covers other way) (ways_outside s.files (insert s.files q x) q outside r u) ∙ h)
    ]
  ]
    where
      outside : (k : Path) → under_path q k ≡ false → get s.files k ≡ get (insert s.files q x) k
      outside k u = sym (get_other s.files q x k
          (λ e. true≢false (sym (under_itself same same_path_found q) ∙ ap (under_path q) (sym e) ∙ u)))

      put_elsewhere' : r ≢ q → (get s.files r ≡ None) × (get t.files r ≡ None)
          → bytes_of (get (insert s.files q x) r) ≡ bytes_of (get (insert t.files q x) r)
      put_elsewhere' other none =
          ap bytes_of (get_other s.files q x r other ∙ none.0
          ∙ sym (get_other t.files q x r other ∙ none.1))

  pub made_veiled : (q : Path) (x : Node) → get s.files q ≡ None
      → IsVeiled way (record s { files = insert s.files q x }) (record t { files = insert t.files q x })
  made_veiled q x free = record { shown = put_shown q x x refl; bytes = made_bytes q x free; processes = veiled.processes }

  -- the same bytes, in a file that is there
  module _ (q : Path) (b c : List ℕ) (e : b ≡ c) where
    abbrev new_s : Node
    new_s = record { class = class_of (get s.files q); content = File b }

    abbrev new_t : Node
    new_t = record { class = class_of (get t.files q); content = File c }

    same_new : new_s ≡ new_t
    same_new = λ i. record { class = class_shown (get s.files q) (get t.files q) (veiled.shown q) i; content = File (e i) }

    class_stays : (r : Path) → class_of (get s.files r) ≡ class_of (get (insert s.files q new_s) r)
    class_stays r = elim (same_path_found r q) [
      | inl f ↦ ap (λ k. class_of (get s.files k)) f.1 ∙ sym (ap class_of (ap (get (insert s.files q new_s)) f.1 ∙ get_new s.files q new_s))
      | inr f ↦ ap class_of (sym (get_other s.files q new_s r f.1))
    ]

    pub written_veiled : IsVeiled way (with_bytes s q b) (with_bytes t q c)
    written_veiled = record {
      shown = put_shown q new_s new_t (ap shown same_new);
      bytes = λ r h. elim (same_path_found r q) [
        | inl f ↦
            ap bytes_of (put_here q new_s new_t (ap shown same_new) s.files new_s r f.1) ∙ e
            ∙ sym (ap bytes_of (put_here q new_s new_t (ap shown same_new) t.files new_t r f.1))
        | inr f ↦ put_elsewhere q new_s new_t (ap shown same_new) r f.1
            (ap (λ other. covers other way) (same_ways s.files (insert s.files q new_s) class_stays r) ∙ h)
      ];
      processes = veiled.processes;
    }

  -- ---- what is removed, with all below it

  pub cut_veiled : (q : Path) → IsVeiled way (without_below s q) (without_below t q)
  cut_veiled q = record {
    shown = λ r.
        ap (option_map shown) (left s r)
        ∙ chosen_shown (not (under_path q r)) (get s.files r) None (get t.files r) None (veiled.shown r) refl
        ∙ sym (ap (option_map shown) (left t r));
    bytes = λ r h. elim (cases_Bool (under_path q r)) [
      | inl u ↦ ap bytes_of (left s r ∙ ap (λ b. cond (not b) (get s.files r) None) u)
          ∙ sym (ap bytes_of (left t r ∙ ap (λ b. cond (not b) (get t.files r) None) u))
      | inr u ↦
          ap bytes_of (stays_there s r u)
          ∙ veiled.bytes r (ap (λ other. covers other way) (ways_outside s.files (without_below s q).files q (λ k v. sym (stays_there s k v)) r u)
          ∙ h)
          ∙ sym (ap bytes_of (stays_there t r u))
    ];
    processes = veiled.processes;
  }
    where
      left : (f : Flat) (r : Path) → get (without_below f q).files r ≡ cond (not (under_path q r)) (get f.files r) None
      left f r = get-keep f.files (λ k. not (under_path q k)) r

      stays_there : (f : Flat) (r : Path) → under_path q r ≡ false → get (without_below f q).files r ≡ get f.files r
      stays_there f r u = left f r ∙ ap (λ b. cond (not b) (get f.files r) None) u

  -- ---- a rename

  module _ (n k : Name) (d : Path) (other : n ≢ k) (free : get s.files (k ∷ d) ≡ None) where
    abbrev from : Path → Path
    from = moved (k ∷ d) (n ∷ d)

    comes : (f : Flat) → IsTree f → get f.files (k ∷ d) ≡ None → (r : Path)
        → get (with_renamed f (n ∷ d) (k ∷ d)).files r ≡ cond (under_path (n ∷ d) r) None (get f.files (from r))
    comes f is_tree none r = get_renamed n k d other f.files (nothing_below f is_tree (k ∷ d) none) r

    free_there : get t.files (k ∷ d) ≡ None
    free_there = none_shown (get s.files (k ∷ d)) (get t.files (k ∷ d)) (veiled.shown (k ∷ d)) free

    comes_s : (r : Path) → under_path (n ∷ d) r ≡ false → get (with_renamed s (n ∷ d) (k ∷ d)).files r ≡ get s.files (from r)
    comes_s r u = comes s tree free r ∙ ap (λ b. cond b None (get s.files (from r))) u

    comes_at : (m : Name) (e : Path) → under_path (n ∷ d) (m ∷ e) ≡ false → Found (same_path (k ∷ d) (m ∷ e)) (k ∷ d) (m ∷ e)
        → way_in (with_renamed s (n ∷ d) (k ∷ d)).files e ≡ way_in s.files (from e)
        → way_in (with_renamed s (n ∷ d) (k ∷ d)).files (m ∷ e) ≡ way_in s.files (from (m ∷ e))
    comes_at m e u (inl f) rest =
        let tails : d ≡ e = cc in
        let there : from (m ∷ e) ≡ n ∷ d = ap (λ b. cond b (n ∷ d) (m ∷ from e)) f.0 in
        (λ i. class_of ((comes_s (m ∷ e) u ∙ ap (get s.files) there) i)
        ∷ (rest ∙ ap (way_in s.files) (ap from (sym tails) ∙ stays (k ∷ d) (n ∷ d) d (above_is_not_under same same_path_found d k))) i)
        ∙ sym (ap (way_in s.files) there)
    comes_at m e u (inr f) rest =
        let there : from (m ∷ e) ≡ m ∷ from e = ap (λ b. cond b (n ∷ d) (m ∷ from e)) f.0 in
        (λ i. class_of ((comes_s (m ∷ e) u ∙ ap (get s.files) there) i) ∷ rest i)
        ∙ sym (ap (way_in s.files) there)

    -- the way to a path after the rename is the way to where it came from
    way_comes : (r : Path) → under_path (n ∷ d) r ≡ false → way_in (with_renamed s (n ∷ d) (k ∷ d)).files r ≡ way_in s.files (from r)
    way_comes [] u = λ i. class_of (comes_s [] u i) ∷ []
    way_comes (m ∷ e) u = comes_at m e u (same_path_found (k ∷ d) (m ∷ e))
        (way_comes e (or_parts (same_path (n ∷ d) (m ∷ e)) (under_path (n ∷ d) e) u).1)

    pub renamed_veiled : IsVeiled way (with_renamed s (n ∷ d) (k ∷ d)) (with_renamed t (n ∷ d) (k ∷ d))
    renamed_veiled = record {
      shown = λ r.
          ap (option_map shown) (comes s tree free r)
          ∙ chosen_shown (under_path (n ∷ d) r) None (get s.files (from r)) None (get t.files (from r)) refl (veiled.shown (from r))
          ∙ sym (ap (option_map shown) (comes t tree_t free_there r));
      bytes = λ r h. elim (cases_Bool (under_path (n ∷ d) r)) [
        | inl u ↦
            ap bytes_of (comes s tree free r ∙ ap (λ b. cond b None (get s.files (from r))) u)
            ∙ sym (ap bytes_of (comes t tree_t free_there r ∙ ap (λ b. cond b None (get t.files (from r))) u))
        | inr u ↦
            ap bytes_of (comes_s r u) ∙ veiled.bytes (from r) (ap (λ w. covers w way) (sym (way_comes r u)) ∙ h)
            ∙ sym (ap bytes_of (comes t tree_t free_there r ∙ ap (λ b. cond b None (get t.files (from r))) u))
      ];
      processes = veiled.processes;
    }
      where
        tree_t : IsTree t
        tree_t = tree_alike s t veiled.shown tree

  -- ---- a call of any process

  -- the bytes of a file that is not veiled are the same, and so is whether it is veiled
  same_hidden : (r : Path) → hides way s.files r ≡ hides way t.files r
  same_hidden = hidden_alike way s t veiled.shown

  module _ (me : ProcName) (p : Process) where
    -- the effect stores the same bytes in both states, or none
    abbrev StoresAlike : Path → Effect → Type 0
    StoresAlike q (Stores new) = new (bytes_at s q) ≡ new (bytes_at t q)
    StoresAlike q _ = Unit {0}

    -- an effect leaves the states alike
    applied_veiled : (q : Path) (effect : Effect) → Warrant accounts s me p q effect → StoresAlike q effect
        → IsVeiled way (apply accounts s me p q effect) (apply accounts t me p q effect)
    applied_veiled q Nothing may e = veiled
    applied_veiled q (Makes content mode) may e = made_veiled q
        (record { class = class_or_open (class_made accounts p mode); content = content }) may.2
    applied_veiled q (Stores new) may e = written_veiled q (new (bytes_at s q)) (new (bytes_at t q)) e
    applied_veiled q Removes may e = cut_veiled q
    applied_veiled [] (Renames name) may e = absurd (true≢false (sym may.0))
    applied_veiled (n ∷ d) (Renames name) may e = renamed_veiled n name d (another_name s n name d may.1 may.2) may.2
    applied_veiled q Wraps may e =
        let made = made_veiled q (record { class = Scratch p.user (inner_chain me p); content = Dir }) may.2 in record {
          shown = made.shown;
          bytes = made.bytes;
          processes = λ i. (apply accounts (record s { processes = veiled.processes i }) me p q Wraps).processes;
        }
    applied_veiled q effect may e = record {
      shown = veiled.shown;
      bytes = veiled.bytes;
      processes = λ i. (apply accounts (record s { processes = veiled.processes i }) me p q effect).processes;
    }

    -- a call that is refused alike, and stores the same
    states_veiled : (call : UnixCall) → StoresAlike (path_of call) (rule call).effect → refused accounts s me p call ≡ refused accounts t me p call
        → IsVeiled way (flat_by accounts s me (Some p) call) (flat_by accounts t me (Some p) call)
    states_veiled call e same = by (refused accounts s me p call) (refused accounts t me p call) refl same
      where
        by : (x y : Option Errno) → refused accounts s me p call ≡ x → x ≡ y
            → IsVeiled way (flat_or x s (changed accounts s me p call)) (flat_or y t (changed accounts t me p call))
        by None None h k = applied_veiled (path_of call) (rule call).effect (warranted accounts s me p call h) e
        by None (Some x) h k = absurd (cc)
        by (Some x) None h k = absurd (cc)
        by (Some x) (Some y) h k = veiled

    -- a call that tests no bytes
    blind : (call : UnixCall) → is_blind (rule call).needs ≡ true → StoresAlike (path_of call) (rule call).effect
        → IsVeiled way (flat_by accounts s me (Some p) call) (flat_by accounts t me (Some p) call)
    blind call h e =
        states_veiled call e (unmet_shown accounts s t veiled.shown p veiled.processes me (path_of call) (rule call).needs h)

    appended : (q : Path) (bytes : List ℕ)
        → IsVeiled way (flat_by accounts s me (Some p) (Append q bytes)) (flat_by accounts t me (Some p) (Append q bytes))
    appended q bytes = elim (cases_Bool (hides way s.files q)) [
      | inl h ↦
          joined_veiled (turned_veiled (append_hidden accounts way s me p q bytes h))
          (joined_veiled veiled (append_hidden accounts way t me p q bytes (sym (same_hidden q) ∙ h)))
      | inr h ↦
          let e = veiled.bytes q h in
          states_veiled (Append q bytes) (ap (λ old. old ++ bytes) e)
          (λ i. file_reached_alike accounts s t veiled.shown p q i
          orelse unless (writes_alike accounts s t veiled.shown p q i) EACCES
          orelse unless (nat_le (length (e i ++ bytes)) most_bytes) EFBIG)
    ]

    written : (q : Path) (bytes : List ℕ)
        → IsVeiled way (flat_by accounts s me (Some p) (Write q bytes)) (flat_by accounts t me (Some p) (Write q bytes))
    written q bytes = states_veiled (Write q bytes) refl (λ i. file_reached_alike accounts s t veiled.shown p q i
        orelse unless (writes_alike accounts s t veiled.shown p q i) EACCES
        orelse unless (nat_le (length bytes) most_bytes) EFBIG)

    any_veiled : (call : UnixCall) → IsVeiled way (flat_by accounts s me (Some p) call) (flat_by accounts t me (Some p) call)
    any_veiled (Append q bytes) = appended q bytes
    any_veiled (Write q bytes) = written q bytes
    any_veiled call = blind call refl tt

    -- with the job that a `wrap` starts, where its directory is made if it may be
    pub born_veiled : (q : Path) → IsVeiled way (born_in accounts me p q s) (born_in accounts me p q t)
    born_veiled q = by (refused accounts s me p (Wrap q)) (refused accounts t me p (Wrap q)) refl
        (unmet_shown accounts s t veiled.shown p veiled.processes me q (rule (Wrap q)).needs refl)
      where
        by : (x y : Option Errno) → refused accounts s me p (Wrap q) ≡ x → x ≡ y
            → IsVeiled way (born_if accounts me p q s x) (born_if accounts me p q t y)
        by None None h k = applied_veiled q Wraps (warranted accounts s me p (Wrap q) h) tt
        by None (Some x) h k = absurd (cc)
        by (Some x) None h k = absurd (cc)
        by (Some x) (Some y) h k = record {
          shown = veiled.shown;
          bytes = veiled.bytes;
          processes = λ i. (born_if accounts me p q (record s { processes = veiled.processes i }) (Some x)).processes;
        }

    -- ---- a process that doesn't read all of the way

    module _ (other : reads_all accounts way p ≡ false) where
      -- it reads no veiled bytes
      read_alike : (q : Path) → walk accounts s p q ≡ None → reads accounts s p q ≡ true → bytes_at s q ≡ bytes_at t q
      read_alike q w r = veiled.bytes q (elim (cases_Bool (hides way s.files q)) [
        | inl h ↦ absurd (true≢false (sym (reads_covered accounts p (way_in s.files q) way (walk_reads accounts s p q w r) h) ∙ other))
        | inr h ↦ h
      ])

      looks_alike : (q : Path) → LooksAlike true accounts s t p q
      looks_alike q = record {
        way = walk_alike accounts s t veiled.shown p q;
        here = λ w. veiled.shown q;
        above = λ b w. veiled.shown (parent q);
        beside = λ name b w. veiled.shown (name ∷ parent q);
        entries_above = λ b w. same_entries_shown s t (parent q) veiled.shown;
        entries = λ wide w may. same_entries_shown s t q veiled.shown;
        bytes = read_alike q;
        found = λ wide. found_alike s t p veiled.processes;
        life = λ wide name there i. life_reply (veiled.processes i name);
      }

  module _ (me : ProcName) (call : UnixCall) where
    -- One call of such a process has the same reply in both states.
    pub reply_veiled : is_some_and (running s me) (reads_all accounts way) ≡ false → reply_to accounts s me call ≡ reply_to accounts t me call
    reply_veiled other = by (running s me) other ∙ ap (λ o. reply_by accounts t me (if_running (o me)) call) veiled.processes
      where
        by : (r : Option Process) → is_some_and r (reads_all accounts way) ≡ false → reply_by accounts s me r call ≡ reply_by accounts t me r call
        by None i = refl
        by (Some p) i = reply_alike accounts s t me p call (looks_alike me p i (path_of call))

    -- Any call leaves states that differ only in veiled bytes.
    pub after_veiled : IsVeiled way (flat_after accounts s me call) (flat_after accounts t me call)
    after_veiled =
        subst (λ o. IsVeiled way (flat_after accounts s me call) (flat_by accounts t me (if_running (o me)) call))
        veiled.processes (by (running s me))
      where
        by : (r : Option Process) → IsVeiled way (flat_by accounts s me r call) (flat_by accounts t me r call)
        by None = veiled
        by (Some p) = any_veiled me p call

-- ---- other bytes

-- bytes that are written to a file change no way
pub ways_with_bytes : (f : Flat) (q : Path) (bytes : List ℕ) (r : Path) → way_in (with_bytes f q bytes).files r ≡ way_in f.files r
ways_with_bytes f q bytes r = same_ways (with_bytes f q bytes).files f.files same_class_there r
  where
    new : Node
    new = record { class = class_of (get f.files q); content = File bytes }

    same_class_there : (r : Path) → class_of (get (with_bytes f q bytes).files r) ≡ class_of (get f.files r)
    same_class_there r = elim (same_path_found r q) [
      | inl e ↦ ap class_of (ap (get (insert f.files q new)) e.1 ∙ get_new f.files q new) ∙ sym (ap (λ k. class_of (get f.files k)) e.1)
      | inr e ↦ ap class_of (get_other f.files q new r e.1)
    ]

-- ---- the states

-- two states that differ only in veiled bytes, and are trees
pub record AreVeiled (way : List Class) (s t : Flat) : Type 0 where
  pub tree : IsTree s
  pub veiled : IsVeiled way s t

-- what two states must be to one another, that readers alone can tell apart: they have the same processes, and calls keep it
pub record IsVeil (accounts : Accounts) (readers : Process → Bool) (Alike : Flat → Flat → Type 0) : Type 0 where
  pub processes : (s t : Flat) → Alike s t → s.processes ≡ t.processes
  pub after : (s t : Flat) → Alike s t → (me : ProcName) (call : UnixCall) → Alike (flat_after accounts s me call) (flat_after accounts t me call)
  pub born : (s t : Flat) → Alike s t → (me : ProcName) (p : Process) → running s me ≡ Some p → (q : Path)
      → Alike (born_in accounts me p q s) (born_in accounts me p q t)
  pub reply : (s t : Flat) → Alike s t → (me : ProcName) (call : UnixCall) → is_some_and (running s me) readers ≡ false
      → reply_to accounts s me call ≡ reply_to accounts t me call

pub way_veil : (accounts : Accounts) (way : List Class) → IsVeil accounts (reads_all accounts way) (AreVeiled way)
way_veil accounts way = record {
  processes = λ s t v. v.veiled.processes;
  after = λ s t v me call. record {
    tree = tree_after s v.tree accounts me call;
    veiled = after_veiled accounts way s t v.tree v.veiled me call;
  };
  born = λ s t v me p runs q. record { tree = tree_born s v.tree me p runs q; veiled = born_veiled accounts way s t v.tree v.veiled me p q };
  reply = λ s t v me call other. reply_veiled accounts way s t v.tree v.veiled me call other;
}
  where
    tree_born : (s : Flat) → IsTree s → (me : ProcName) (p : Process) → running s me ≡ Some p → (q : Path) → IsTree (born_in accounts me p q s)
    tree_born s tree me p runs q = by (refused accounts s me p (Wrap q)) refl
      where
        by : (e : Option Errno) → refused accounts s me p (Wrap q) ≡ e → IsTree (born_if accounts me p q s e)
        by None e =
            subst (λ x. IsTree (flat_or x s (changed accounts s me p (Wrap q)))) e
            (subst (λ o. IsTree (flat_by accounts s me o (Wrap q))) runs (tree_after s tree accounts me (Wrap q)))
        by (Some x) e = record { root = tree.root; below = tree.below }
