-- The changers are exactly the processes of which some call changes what is at the path, or the entries there.
use Rattle.std.specs.Prelude.{◌≡◌, ◌≢◌, ◌⊎◌, ℕ, Bool, true, false, not, ◌&&◌, cond, nat_le, nat_lt, is_some, codes, List, [], ◌∷◌, length, Option}
use Rattle.std.specs.Prelude.{Some, None, option_map, refl}
use Rattle.std.specs.List.{filter_map, cons_option}
use Rattle.std.specs.FinMap.{find, slice_cmp-IsAntisymmetric, nat_cmp-IsAntisymmetric, IsAntisymmetric}
use Rattle.std.specs.Ordering.{nat_cmp}
use Rattle.std.specs.Cmp.Lexicographic.{slice_cmp, nat_list_cmp_total}
use Rattle.std.specs.declared.cmp.Ordering.{Ordering}
use Rattle.std.proofs.Common.{ap, sym, ◌∙◌, subst, inl, inr}
use Rattle.std.proofs.lemmas.Bool.{true≢false, and_parts, or_cases, cases_Bool}
use Rattle.histar_base.specs.Refusals.{◌orelse◌, unless}
use Rattle.histar_base.specs.Paths.{path_cmp, same}
use Rattle.histar_base.proofs.PathLaws.{path_cmp_total, path_cmp_exact}
use Rattle.histar_flat.specs.declared.calls.Mode.TheVariants as modes
use Rattle.histar_flat.specs.declared.calls.UnixCall.{UnixCall}
use Rattle.histar_flat.specs.declared.calls.UnixCall.TheVariants.{Mkdir, Rmtree, Write}
use Rattle.histar_flat.specs.declared.replies.Errno.TheVariants.{EACCES, EEXIST, EFBIG, EISDIR, ENOENT, ENOSPC, EPERM}
use Rattle.histar_flat.specs.Words.{Name, Path, ProcName}
use Rattle.histar_flat.specs.PathOrder.{under_path}
use Rattle.histar_flat.specs.Accounts.{Accounts}
use Rattle.histar_flat.specs.Files.{get}
use Rattle.histar_flat.specs.Classes.{Class, Process, class_made, is_free, may_read}
use Rattle.histar_flat.specs.Classes.Class.{Open, Scratch}
use Rattle.histar_flat.specs.FlatState.{Entry, Flat, IsTree, Node, bytes_at, bytes_of, class_of, entries_in, entry_in, into, is_dir, is_dir_at}
use Rattle.histar_flat.specs.FlatState.{is_file_at}
use Rattle.histar_flat.specs.FlatState.{is_some_and, is_there, without_below, writes}
use Rattle.histar_flat.specs.FlatState.Content.{Dir, File}
use Rattle.histar_flat.specs.FlatCalls.{answer, changed, class_or_open, flat_after, flat_by, flat_or, most_bytes, most_entries, refused, reply_by}
use Rattle.histar_flat.specs.FlatCalls.{reply_or, reply_to, running}
use Rattle.histar_flat.proofs.FileLemmas.{get-keep, get_new, same_name_found, same_path_found}
use Rattle.histar_flat.proofs.Finding.{find_behind, find_first}
use Rattle.histar_flat.proofs.Trees.{nothing_below, paths_are_a_tree}
use Rattle.histar_flat.proofs.Under.{under_child, under_itself}
use Rattle.histar_flat.proofs.Warrants.{writes_and_reads}
use Rattle.histar_secrecy.specs.Ways.{reaches}
use Rattle.histar_secrecy.specs.Changers.{ChangersAreExact, HasChange, changes_at, is_changer, may_change}
use Rattle.histar_secrecy.proofs.Keeping.{one_line}
use Rattle.histar_secrecy.proofs.Names.{some_process}
use Rattle.histar_secrecy.proofs.Telling.{file_is_some, gets_into}

-- ---- an entry is listed exactly if it is there (as in histar_flat/proofs/ListingLaws, where this is private)

abbrev by_bytes : Name → Name → Ordering
by_bytes = slice_cmp nat_cmp

antisymmetric : IsAntisymmetric by_bytes
antisymmetric = slice_cmp-IsAntisymmetric nat_cmp-IsAntisymmetric

module _ (d : Path) where
  abbrev listed : List (Path × Node) → List Entry
  listed = filter_map (entry_in d)

  not_above : (n m : Name) (above : Path) → d ≢ above → n ∷ d ≢ m ∷ above
  not_above n m above other e = let same : d ≡ above = cc in other same

  not_named : (n m : Name) → n ≢ m → n ∷ d ≢ m ∷ d
  not_named n m other e = let same : n ≡ m = cc in other same

  not_root : (n : Name) → n ∷ d ≢ []
  not_root n e = cc

  abbrev Agrees : Name → List Entry → List (Path × Node) → Type 0
  Agrees n entries es = find by_bytes n entries ≡ option_map is_dir (find path_cmp (n ∷ d) es)

  find_one : (n m : Name) (there : Node) (es : List (Path × Node)) → Agrees n (listed es) es
      → Agrees n ((m, is_dir there) ∷ listed es) ((m ∷ d, there) ∷ es)
  find_one n m there es rest = elim (same_name_found n m) [
    | inl e ↦ subst (λ (k : Name). Agrees n ((k, is_dir there) ∷ listed es) ((k ∷ d, there) ∷ es)) e.1
        (find_first nat_list_cmp_total antisymmetric n (is_dir there) (listed es)
        ∙ sym (ap (option_map is_dir) (find_first path_cmp_total path_cmp_exact (n ∷ d) there es)))
    | inr e ↦ find_behind nat_list_cmp_total antisymmetric n m (is_dir there) (listed es) e.1
        ∙ rest ∙ sym (ap (option_map is_dir) (find_behind path_cmp_total path_cmp_exact (n ∷ d) (m ∷ d) there es (not_named n m e.1)))
  ]

  find_listed : (n : Name) (es : List (Path × Node)) → Agrees n (listed es) es
  find_listed n [] = refl
  find_listed n (e ∷ es) = step e.0 e.1 (find_listed n es)
    where
      step : (q : Path) (there : Node) → Agrees n (listed es) es → Agrees n (listed ((q, there) ∷ es)) ((q, there) ∷ es)
      step [] there rest = rest ∙ sym (ap (option_map is_dir) (find_behind path_cmp_total path_cmp_exact (n ∷ d) [] there es (not_root n)))
      step (m ∷ above) there rest = elim (same_path_found d above) [
        | inl t ↦ ap (λ b. find by_bytes n (cons_option (cond b (Some (m, is_dir there)) None) (listed es))) t.0
            ∙ subst (λ (a : Path). Agrees n ((m, is_dir there) ∷ listed es) ((m ∷ a, there) ∷ es)) t.1 (find_one n m there es rest)
        | inr t ↦ ap (λ b. find by_bytes n (cons_option (cond b (Some (m, is_dir there)) None) (listed es))) t.0
            ∙ rest ∙ sym (ap (option_map is_dir) (find_behind path_cmp_total path_cmp_exact (n ∷ d) (m ∷ above) there es (not_above n m above t.1)))
      ]

-- the entry of this name is listed exactly if it is there
pub entry_is : (f : Flat) (d : Path) (n : Name) → find by_bytes n (entries_in f d) ≡ option_map is_dir (get f.files (n ∷ d))
entry_is f d n = find_listed d n f.files.entries

-- where the entries are the same, the same are there
same_entry : (f g : Flat) (d : Path) (n : Name) → entries_in g d ≡ entries_in f d
    → option_map is_dir (get g.files (n ∷ d)) ≡ option_map is_dir (get f.files (n ∷ d))
same_entry f g d n e = sym (entry_is g d n) ∙ ap (find by_bytes n) e ∙ entry_is f d n

-- the first entry is there
pub first_is_there : (f : Flat) (d : Path) (x : Entry) (es : List Entry) → entries_in f d ≡ x ∷ es → is_there f (x.0 ∷ d) ≡ true
first_is_there f d x es e = some (get f.files (x.0 ∷ d))
    (sym (entry_is f d x.0) ∙ ap (find by_bytes x.0) e ∙ find_first nat_list_cmp_total antisymmetric x.0 x.1 es)
  where
    some : (o : Option Node) → option_map is_dir o ≡ Some x.1 → is_some_and o (λ n. true) ≡ true
    some None h = absurd (cc)
    some (Some y) h = refl

-- where there is no entry, no name is there
pub none_is_there : (f : Flat) (d : Path) (n : Name) → entries_in f d ≡ [] → is_there f (n ∷ d) ≡ false
none_is_there f d n e = none (get f.files (n ∷ d)) (sym (entry_is f d n) ∙ ap (find by_bytes n) e)
  where
    none : (o : Option Node) → option_map is_dir o ≡ None → is_some_and o (λ n. true) ≡ false
    none None h = refl
    none (Some y) h = absurd (cc)

-- what is there and is no directory is a file
pub no_directory : (o : Option Node) → is_some_and o (λ n. true) ≡ true → is_some_and o is_dir ≡ false → is_some_and o (λ n. not (is_dir n)) ≡ true
no_directory None h e = absurd (true≢false (sym h))
no_directory (Some x) h e = ap not e

-- ---- where a process may change something

-- a process that may change what is at a path may do so there, or at a directory of which an entry is on the way
changes_where : (accounts : Accounts) (f : Flat) (p : Process) (path : Path) → may_change accounts f p path ≡ true
    → (changes_at accounts f p path ≡ true) ⊎ ((n : Name) × (d : Path) × (under_path (n ∷ d) path ≡ true) × (changes_at accounts f p d ≡ true))
changes_where accounts f p [] h = inl h
changes_where accounts f p (n ∷ d) h = elim (or_cases (changes_at accounts f p (n ∷ d)) (may_change accounts f p d) h) [
  | inl t ↦ inl t
  | inr t ↦ elim (changes_where accounts f p d t) [
    | inl u ↦ inr (n, d, under_itself same same_path_found (n ∷ d), u)
    | inr u ↦ inr (u.0, u.1, under_child same same_path_found (u.0 ∷ u.1) d n u.2, u.3)
  ]
]

-- something is there or nothing
some_or_none : (o : Option Node) → ((n : Node) × (o ≡ Some n)) ⊎ (o ≡ None)
some_or_none None = inr refl
some_or_none (Some n) = inl (n, refl)

module _ (accounts : Accounts) (f : Flat) (tree : IsTree f) (me : ProcName) (p : Process) (runs : running f me ≡ Some p) where
  -- a call that is not refused
  module _ (call : UnixCall) (passes : refused accounts f me p call ≡ None) where
    pub answered : reply_to accounts f me call ≡ answer f me p call
    answered = ap (λ o. reply_by accounts f me o call) runs ∙ ap (λ e. reply_or e (answer f me p call)) passes

    done : flat_after accounts f me call ≡ changed accounts f me p call
    done = ap (λ o. flat_by accounts f me o call) runs ∙ ap (λ e. flat_or e f (changed accounts f me p call)) passes

  -- what is above something is there
  there_above : (path r : Path) → is_there f path ≡ true → under_path r path ≡ true → is_there f r ≡ true
  there_above path r there u = elim (some_or_none (get f.files r)) [
    | inl t ↦ ap (λ o. is_some_and o (λ n. true)) t.1
    | inr t ↦ absurd (true≢false (sym there ∙ ap (λ o. is_some_and o (λ n. true)) (nothing_below f tree r t path u)))
  ]

  read_class : (q : Path) → writes accounts f p q ≡ true → may_read accounts p (class_of (get f.files q)) ≡ true
  read_class q w = by (get f.files q) (writes_and_reads accounts f p q w)
    where
      by : (o : Option Node) → is_some_and o (λ n. may_read accounts p n.class) ≡ true → may_read accounts p (class_of o) ≡ true
      by None h = absurd (true≢false (sym h))
      by (Some n) h = h

  -- a process gets into a directory where it may change something, and may write it
  enters : (d : Path) → is_dir_at f d ≡ true → changes_at accounts f p d ≡ true → (into accounts f p d ≡ None) × (writes accounts f p d ≡ true)
  enters [] dir h = (gets_into accounts f tree p [] dir (λ i. read_class [] h i && true), h)
  enters (n ∷ d) dir h =
      let parts = and_parts (writes accounts f p (n ∷ d)) (reaches accounts f p d) h in
      (gets_into accounts f tree p (n ∷ d) dir (λ i. read_class (n ∷ d) parts.0 i && parts.1 i), parts.0)

  -- ---- an entry is removed

  module _ (n : Name) (d : Path) (there : is_there f (n ∷ d) ≡ true) (change : changes_at accounts f p d ≡ true) where
    pub removes : refused accounts f me p (Rmtree (n ∷ d)) ≡ None
    removes =
        let in_it = enters d (tree.below n d there) change in
        λ i. (in_it.0 i orelse unless (there i) ENOENT) orelse unless (in_it.1 i) EACCES

    abbrev cut : Flat
    cut = without_below f (n ∷ d)

    cut_away : (r : Path) → under_path (n ∷ d) r ≡ true → get cut.files r ≡ None
    cut_away r u = get-keep f.files (λ t. not (under_path (n ∷ d) t)) r ∙ ap (λ b. cond (not b) (get f.files r) None) u

    -- what is below it is gone
    by_removing : (path : Path) → is_there f path ≡ true → under_path (n ∷ d) path ≡ true → HasChange accounts f path me
    by_removing path at u = record {
      call = Rmtree (n ∷ d);
      done = answered (Rmtree (n ∷ d)) removes;
      differs = λ same_there.
          let gone = sym (ap (λ s. get s.files path) (done (Rmtree (n ∷ d)) removes) ∙ cut_away path u) ∙ same_there.0 in
          true≢false (sym at ∙ ap (λ o. is_some_and o (λ n. true)) (sym gone));
    }

    -- it is no entry any more
    by_removing_entry : HasChange accounts f d me
    by_removing_entry = record {
      call = Rmtree (n ∷ d);
      done = answered (Rmtree (n ∷ d)) removes;
      differs = λ same_there.
          let was = same_entry f (flat_after accounts f me (Rmtree (n ∷ d))) d n same_there.1 in
          let gone = ap (λ s. get s.files (n ∷ d)) (done (Rmtree (n ∷ d)) removes) ∙ cut_away (n ∷ d) (under_itself same same_path_found (n ∷ d)) in
          let none : None ≡ option_map is_dir (get f.files (n ∷ d)) = sym (ap (option_map is_dir) gone) ∙ was in
          no_node (get f.files (n ∷ d)) there none;
    }
      where
        no_node : (o : Option Node) → is_some_and o (λ n. true) ≡ true → None ≡ option_map is_dir o → ⊥
        no_node None h e = true≢false (sym h)
        no_node (Some x) h e = cc

  -- ---- an entry is made

  -- a directory is made where there is none of the name, and room for it
  pub makes : (n : Name) (d : Path) → is_dir_at f d ≡ true → changes_at accounts f p d ≡ true → is_there f (n ∷ d) ≡ false
      → nat_lt (length (entries_in f d)) most_entries ≡ true → refused accounts f me p (Mkdir (n ∷ d) modes.Open) ≡ None
  makes n d dir change absent room =
      let in_it = enters d dir change in
      λ i. (in_it.0 i orelse unless (not (absent i)) EEXIST orelse unless (room i) ENOSPC orelse unless (in_it.1 i) EACCES)
      orelse unless (can_make (is_free p) refl i) EPERM
    where
      can_make : (b : Bool) → (is_free p ≡ b) → is_some (class_made accounts p modes.Open) ≡ true
      can_make true e = ap (λ b. is_some (let o : Option Class = cond b (Some Open) (Some (Scratch p.user p.chain)) in o)) e
      can_make false e = ap (λ b. is_some (let o : Option Class = cond b (Some Open) (Some (Scratch p.user p.chain)) in o)) e

  abbrev made_name : Name
  made_name = codes "a"

  by_making : (d : Path) → is_dir_at f d ≡ true → changes_at accounts f p d ≡ true → entries_in f d ≡ [] → HasChange accounts f d me
  by_making d dir change empty = record {
    call = Mkdir (made_name ∷ d) modes.Open;
    done = answered (Mkdir (made_name ∷ d) modes.Open) passes;
    differs = λ same_there.
        let was = same_entry f (flat_after accounts f me (Mkdir (made_name ∷ d) modes.Open)) d made_name same_there.1 in
        let made = ap (λ s. get s.files (made_name ∷ d)) (done (Mkdir (made_name ∷ d) modes.Open) passes)
        ∙ get_new f.files (made_name ∷ d) (record { class = class_or_open (class_made accounts p modes.Open); content = Dir }) in
        let no : Some true ≡ None = sym (ap (option_map is_dir) made) ∙ was ∙ sym (entry_is f d made_name) ∙ ap (find by_bytes made_name) empty in
        cc;
  }
    where
      passes : refused accounts f me p (Mkdir (made_name ∷ d) modes.Open) ≡ None
      passes = makes made_name d dir change (none_is_there f d made_name empty) (ap (λ es. nat_lt (length es) most_entries) empty)

  -- ---- a file is written

  module _ (n : Name) (d : Path) (file : is_file_at f (n ∷ d) ≡ true) (change : changes_at accounts f p (n ∷ d) ≡ true) where
    pub writes_it : (bytes : List ℕ) → nat_le (length bytes) most_bytes ≡ true → refused accounts f me p (Write (n ∷ d) bytes) ≡ None
    writes_it bytes fits =
        let parts = and_parts (writes accounts f p (n ∷ d)) (reaches accounts f p d) change in
        let there = file_is_some (get f.files (n ∷ d)) file in
        let walked = gets_into accounts f tree p d (tree.below n d there) parts.1 in
        λ i. (walked i orelse unless (there i) ENOENT orelse unless (file i) EISDIR) orelse unless (parts.0 i) EACCES orelse unless (fits i) EFBIG

    by_writing_these : (bytes : List ℕ) → nat_le (length bytes) most_bytes ≡ true
        → bytes ≢ bytes_at f (n ∷ d) → HasChange accounts f (n ∷ d) me
    by_writing_these bytes fits other = record {
      call = Write (n ∷ d) bytes;
      done = answered (Write (n ∷ d) bytes) (writes_it bytes fits);
      differs = λ same_there. other
          (sym (ap bytes_of (ap (λ s. get s.files (n ∷ d)) (done (Write (n ∷ d) bytes) (writes_it bytes fits))
          ∙ get_new f.files (n ∷ d) (record { class = class_of (get f.files (n ∷ d)); content = File bytes })))
          ∙ ap bytes_of same_there.0);
    }

    by_writing : HasChange accounts f (n ∷ d) me
    by_writing = by (bytes_at f (n ∷ d)) refl
      where
        by : (old : List ℕ) → bytes_at f (n ∷ d) ≡ old → HasChange accounts f (n ∷ d) me
        by [] e = by_writing_these (48 ∷ []) refl (λ o. let no : 48 ∷ [] ≡ [] = o ∙ e in cc)
        by (b ∷ bs) e = by_writing_these [] refl (λ o. let no : [] ≡ b ∷ bs = o ∙ e in cc)

  -- ---- each changer has a call

  here : (path : Path) → is_there f path ≡ true → changes_at accounts f p path ≡ true → HasChange accounts f path me
  here path there change = elim (cases_Bool (is_dir_at f path)) [
    | inl dir ↦ by_entries path dir change (entries_in f path) refl
    | inr file ↦ by_file path there file change
  ]
    where
      by_entries : (path : Path) → is_dir_at f path ≡ true → changes_at accounts f p path ≡ true → (es : List Entry) → entries_in f path ≡ es
          → HasChange accounts f path me
      by_entries path dir change [] e = by_making path dir change e
      by_entries path dir change (x ∷ es) e = by_removing_entry x.0 path (first_is_there f path x es e) change

      by_file : (path : Path) → is_there f path ≡ true → is_dir_at f path ≡ false → changes_at accounts f p path ≡ true → HasChange accounts f path me
      by_file [] there file change = absurd (true≢false (sym tree.root ∙ file))
      by_file (n ∷ d) there file change = by_writing n d (no_directory (get f.files (n ∷ d)) there file) change

  has_change : (path : Path) → is_there f path ≡ true → may_change accounts f p path ≡ true → HasChange accounts f path me
  has_change path there h = elim (changes_where accounts f p path h) [
    | inl t ↦ here path there t
    | inr t ↦ by_removing t.0 t.1 (there_above path (t.0 ∷ t.1) there t.2) t.3 path there t.2
  ]

pub changers_are_exact : ChangersAreExact
changers_are_exact accounts f reached path there me = (yes, no)
  where
    tree : IsTree f
    tree = subst IsTree reached.1 (paths_are_a_tree accounts reached.0)

    yes : is_changer accounts f path me ≡ true → HasChange accounts f path me
    yes h =
        let p = some_process (running f me) (λ p. may_change accounts f p path) h in
        has_change accounts f tree me p.0 p.1 path there p.2

    no : HasChange accounts f path me → is_changer accounts f path me ≡ true
    no change = elim (cases_Bool (is_changer accounts f path me)) [
      | inl t ↦ t
      | inr t ↦ absurd (change.differs (one_line accounts f reached path me change.call t))
    ]
