-- What a process may not change stays as it is in its calls.
use Rattle.std.specs.Prelude.{◌≡◌, ◌≢◌, ℕ, Bool, true, false, not, ◌&&◌, ◌||◌, cond, List, [], ◌∷◌, ◌++◌, Option, Some, None, option_map, refl}
use Rattle.std.specs.List.{filter_map}
use Rattle.std.specs.FinMap.Entries.{where_key}
use Rattle.std.proofs.Common.{ap, sym, ◌∙◌, subst, inl, inr}
use Rattle.std.proofs.lemmas.Bool.{true≢false, and_parts, not-true, or_cases, cases_Bool}
use Rattle.std.proofs.Math.Bool.{or-true}
use Rattle.histar_flat.specs.declared.calls.CallLine.{CallLine}
use Rattle.histar_flat.specs.declared.calls.UnixCall.{UnixCall}
use Rattle.histar_flat.specs.declared.calls.UnixCall.TheVariants.{Create}
use Rattle.histar_flat.specs.Words.{Name, Path, ProcName}
use Rattle.histar_base.specs.Paths.{path_cmp, same, same_path}
use Rattle.histar_flat.specs.PathOrder.{under_path, under_process}
use Rattle.histar_flat.specs.Accounts.{Accounts, has}
use Rattle.histar_flat.specs.Files.{get, insert, keep}
use Rattle.histar_flat.specs.Classes.{Process, carries, class_made, is_free, knows, may_read, may_write}
use Rattle.histar_flat.specs.Classes.Class.{Scratch}
use Rattle.histar_flat.specs.FlatState.{Entry, Flat, IsTree, Node, bytes_at, class_of, entries_in, entry_in, into, is_dir, is_file_at, is_given}
use Rattle.histar_flat.specs.FlatState.{is_some_and}
use Rattle.histar_flat.specs.FlatState.{moved, walk, with_bytes, with_node, with_process, with_renamed, without_below, writes}
use Rattle.histar_flat.specs.FlatState.Content.{Dir, File}
use Rattle.histar_flat.specs.Effects.{Effect, apply}
use Rattle.histar_flat.specs.Effects.Effect.{Exits, Kills, LogsIn, Makes, Nothing, Removes, Renames, Spawns, Stores, Wraps}
use Rattle.histar_flat.specs.CallRules.{path_of, rule}
use Rattle.histar_flat.specs.FlatCalls.{changed, class_or_open, flat_after, flat_by, inner_chain, next_child, refused, running}
use Rattle.histar_flat.specs.Laws.{NamesAreGiven}
use Rattle.histar_flat.specs.Meaning.{flat_end}
use Rattle.histar_flat.specs.RuleLaws.{Met, Warrant}
use Rattle.histar_flat.proofs.Changes.{EachChange, another_name, or_stays, runs_is_there}
use Rattle.histar_flat.proofs.Entries.{same_entries_shown, shown}
use Rattle.histar_flat.proofs.FileLemmas.{get-keep, get_new, get_other, same_path_found}
use Rattle.histar_flat.proofs.GivenNames.{given_stays, longer_has, names_are_given_once, next_is_new}
use Rattle.histar_flat.proofs.Renaming.{get_renamed, stays}
use Rattle.histar_flat.proofs.Trees.{nothing_below, paths_are_a_tree, tree_after}
use Rattle.histar_flat.proofs.Under.{under_child, under_itself}
use Rattle.histar_flat.proofs.Warrants.{met, warranted}
use Rattle.histar_flat.proofs.WrappedJobs.{has_last}
use Rattle.histar_noninterference.proofs.TestLemmas.{under_all}
use Rattle.histar_secrecy.specs.Ways.{reads_all, way_in}
use Rattle.histar_secrecy.specs.Logins.{logged_in}
use Rattle.histar_secrecy.specs.Changers.{OthersChangeNothing, SameAt, changers_are_silent, changes_at, is_changer, logs_in_as_changer, may_change}
use Rattle.histar_secrecy.specs.Changers.{no_changer_logs_in}
use Rattle.histar_secrecy.specs.Noninterference.{IsReached}
use Rattle.histar_secrecy.proofs.Names.{IsQuiet, by_quiet_line, child_of, grown, login_of, runs_kept, runs_put, starter_of}
use Rattle.histar_secrecy.proofs.Readers.{reads_as}
use Rattle.histar_secrecy.proofs.Veil.{into_reads}
use Rattle.histar_secrecy.proofs.WriteRights.{HasNoMore, changes_on_the_way, no_more_by_class, no_more_changes, no_more_than_none, writes_no_more}
use Rattle.histar_secrecy.proofs.WriteRights.{writes_not}

module _ (accounts : Accounts) (f : Flat) (path : Path) where
  -- what is on the way to the path is there in this state too, and the entries of the path show the same
  pub record IsWayKept (s : Flat) : Type 0 where
    pub way : (r : Path) → under_path r path ≡ true → get s.files r ≡ get f.files r
    pub entries : (n : Name) → option_map shown (get s.files (n ∷ path)) ≡ option_map shown (get f.files (n ∷ path))

  -- a running process that is no changer by its name may not change what is at the path
  abbrev pub OthersMayNot : Flat → Type 0
  OthersMayNot s = (x : ProcName) (p : Process) → running s x ≡ Some p → is_changer accounts f path x ≡ false → may_change accounts f p path ≡ false

  -- the facts that hold in a later state
  pub record IsKept (s : Flat) : Type 0 where
    pub tree : IsTree s
    pub given : (x : ProcName) → is_given f.processes x ≡ true → is_given s.processes x ≡ true
    pub kept : IsWayKept s
    pub others : OthersMayNot s

-- ---- a call that names a path walks to it first

module _ (accounts : Accounts) (f : Flat) (me : ProcName) (p : Process) (q : Path) where
  -- before an effect on files the process has walked to the path
  abbrev IsWalked : Effect → Type 0
  IsWalked (Makes content mode) = walk accounts f p q ≡ None
  IsWalked (Stores new) = walk accounts f p q ≡ None
  IsWalked Removes = walk accounts f p q ≡ None
  IsWalked (Renames name) = walk accounts f p q ≡ None
  IsWalked Wraps = walk accounts f p q ≡ None
  IsWalked _ = Unit {0}

  walked_at : (call : UnixCall) → Met accounts f me p q (rule call).needs → IsWalked (rule call).effect
  walked_at (Create r mode) known = assumption
  walked_at _ known = assumption

-- ---- the entries of a directory are those that show the same

abbrev is_entry_of : Path → Path → Bool
is_entry_of d q = elim q [ [] ↦ false | n ∷ above ↦ same_path d above ]

only_entries : (d : Path) (es : List (Path × Node)) → filter_map (entry_in d) es ≡ filter_map (entry_in d) (where_key path_cmp (is_entry_of d) es)
only_entries d [] = refl
only_entries d (e ∷ es) = one e.0 e.1 (only_entries d es)
  where
    one : (q : Path) (n : Node) → filter_map (entry_in d) es ≡ filter_map (entry_in d) (where_key path_cmp (is_entry_of d) es)
        → filter_map (entry_in d) ((q, n) ∷ es) ≡ filter_map (entry_in d) (where_key path_cmp (is_entry_of d) ((q, n) ∷ es))
    one [] n rest = rest
    one (x ∷ above) n rest = elim (cases_Bool (same_path d above)) [
      | inl t ↦ simp t (ap (λ (l : List Entry). (x, is_dir n) ∷ l) rest)
      | inr t ↦ simp t rest
    ]

same_entries_in : (f g : Flat) (d : Path) → ((n : Name) → option_map shown (get f.files (n ∷ d)) ≡ option_map shown (get g.files (n ∷ d)))
    → entries_in f d ≡ entries_in g d
same_entries_in f g d h =
    only_entries d f.files.entries
    ∙ same_entries_shown (record f { files = keep f.files (is_entry_of d) }) (record g { files = keep g.files (is_entry_of d) }) d by
    ∙ sym (only_entries d g.files.entries)
  where
    at : (q : Path) → option_map shown (cond (is_entry_of d q) (get f.files q) None) ≡ option_map shown (cond (is_entry_of d q) (get g.files q) None)
    at [] = refl
    at (n ∷ e) = elim (same_path_found d e) [
      | inl t ↦
          ap (λ b. option_map shown (cond b (get f.files (n ∷ e)) None)) t.0
          ∙ subst (λ x. option_map shown (get f.files (n ∷ x)) ≡ option_map shown (get g.files (n ∷ x))) t.1 (h n)
          ∙ sym (ap (λ b. option_map shown (cond b (get g.files (n ∷ e)) None)) t.0)
      | inr t ↦ ap (λ b. option_map shown (cond b (get f.files (n ∷ e)) None)) t.0
          ∙ sym (ap (λ b. option_map shown (cond b (get g.files (n ∷ e)) None)) t.0)
    ]

    by : (q : Path) → option_map shown (get (keep f.files (is_entry_of d)) q) ≡ option_map shown (get (keep g.files (is_entry_of d)) q)
    by q = ap (option_map shown) (get-keep f.files (is_entry_of d) q) ∙ at q ∙ sym (ap (option_map shown) (get-keep g.files (is_entry_of d) q))

-- a directory on the way to a path lies above it
above_way : (n : Name) (d path : Path) → under_path (n ∷ d) path ≡ true → under_path d path ≡ true
above_way n d path u = under_all same same_path_found d (n ∷ d) path (under_child same same_path_found d d n (under_itself same same_path_found d)) u

module _ {accounts : Accounts} {f : Flat} {path : Path} (names : NamesAreGiven f) where
  module _ (s : Flat) (kept : IsKept accounts f path s) (me : ProcName) (p : Process) (runs : running s me ≡ Some p)
      (silent : is_changer accounts f path me ≡ false) where
    here : s.processes me ≡ Some p
    here = runs_is_there (s.processes me) p runs

    mine : may_change accounts f p path ≡ false
    mine = kept.others me p runs silent

    -- the way to a path on the way is the same as before
    way_kept : (d : Path) → under_path d path ≡ true → way_in s.files d ≡ way_in f.files d
    way_kept [] u = λ i. class_of (kept.kept.way [] u i) ∷ []
    way_kept (n ∷ d) u = λ i. class_of (kept.kept.way (n ∷ d) u i) ∷ way_kept d (above_way n d path u) i

    -- what p may change is not on the way to the path
    not_changed : (r : Path) → changes_at accounts s p r ≡ true → under_path r path ≡ false
    not_changed r w = elim (cases_Bool (under_path r path)) [
      | inl u ↦ absurd (true≢false (sym (changes_on_the_way accounts f p r path u (as_before r u ∙ w)) ∙ mine))
      | inr u ↦ u
    ]
      where
        as_before : (r : Path) → under_path r path ≡ true → changes_at accounts f p r ≡ changes_at accounts s p r
        as_before [] u = sym (ap (λ o. is_some_and o (λ n. may_write accounts p n.class)) (kept.kept.way [] u))
        as_before (n ∷ d) u = sym (λ i. is_some_and (kept.kept.way (n ∷ d) u i) (λ n. may_write accounts p n.class)
            && reads_all accounts (way_kept d (above_way n d path u) i) p)

    -- a process that gets into a directory, and may write it, may change what is there
    changes_entered : (d : Path) → into accounts s p d ≡ None → writes accounts s p d ≡ true → changes_at accounts s p d ≡ true
    changes_entered [] walked w = w
    changes_entered (n ∷ d) walked w =
        λ i. w i && (and_parts (may_read accounts p (class_of (get s.files (n ∷ d)))) (reads_all accounts (way_in s.files d) p)
        (into_reads accounts s p (n ∷ d) walked)).1 i

    -- neither the way nor the entries of the path lie below an entry of a directory that is not on the way
    module _ (d : Path) (off : under_path d path ≡ false) where
      off_way : (n : Name) (r : Path) → under_path r path ≡ true → under_path (n ∷ d) r ≡ false
      off_way n r u = elim (cases_Bool (under_path (n ∷ d) r)) [
        | inl v ↦ absurd (true≢false (sym (above_way n d path (under_all same same_path_found (n ∷ d) r path v u)) ∙ off))
        | inr v ↦ v
      ]

      off_entries : (n k : Name) → under_path (n ∷ d) (k ∷ path) ≡ false
      off_entries n k = elim (same_path_found (n ∷ d) (k ∷ path)) [
        | inl t ↦
            let tails : d ≡ path = cc in
            absurd (true≢false (sym (under_itself same same_path_found path) ∙ ap (λ x. under_path x path) (sym tails) ∙ off))
        | inr t ↦ (λ i. t.0 i || off_way n path (under_itself same same_path_found path) i)
      ]

      put_off : (n : Name) (x : Node) (r : Path) → under_path (n ∷ d) r ≡ false → get (insert s.files (n ∷ d) x) r ≡ get s.files r
      put_off n x r out =
          get_other s.files (n ∷ d) x r (λ e. true≢false (sym (under_itself same same_path_found (n ∷ d)) ∙ ap (under_path (n ∷ d)) (sym e) ∙ out))

      -- the facts hold if all that doesn't lie below such an entry stays
      still_kept : (n : Name) (t : Flat) → ((r : Path) → under_path (n ∷ d) r ≡ false → get t.files r ≡ get s.files r) → IsWayKept accounts f path t
      still_kept n t same_there = record {
        way = λ r u. same_there r (off_way n r u) ∙ kept.kept.way r u;
        entries = λ k. ap (option_map shown) (same_there (k ∷ path) (off_entries n k)) ∙ kept.kept.entries k;
      }

      made_off : (n : Name) (x : Node) → IsWayKept accounts f path (with_node s (n ∷ d) x.class x.content)
      made_off n x = still_kept n (with_node s (n ∷ d) x.class x.content) (put_off n x)

      cut_off : (n : Name) → IsWayKept accounts f path (without_below s (n ∷ d))
      cut_off n = still_kept n (without_below s (n ∷ d)) (λ r out.
          get-keep s.files (λ t. not (under_path (n ∷ d) t)) r ∙ ap (λ b. cond (not b) (get s.files r) None) out)

      renamed_off : (n k : Name) → n ≢ k → get s.files (k ∷ d) ≡ None → IsWayKept accounts f path (with_renamed s (n ∷ d) (k ∷ d))
      renamed_off n k apart free = record {
        way = λ r u. comes r (off_way n r u) (off_way k r u) ∙ kept.kept.way r u;
        entries = λ m. ap (option_map shown) (comes (m ∷ path) (off_entries n m) (off_entries k m)) ∙ kept.kept.entries m;
      }
        where
          comes : (r : Path) → under_path (n ∷ d) r ≡ false → under_path (k ∷ d) r ≡ false
              → get (with_renamed s (n ∷ d) (k ∷ d)).files r ≡ get s.files r
          comes r out out' =
              get_renamed n k d apart s.files (nothing_below s kept.tree (k ∷ d) free) r
              ∙ ap (λ b. cond b None (get s.files (moved (k ∷ d) (n ∷ d) r))) out
              ∙ ap (get s.files) (stays (k ∷ d) (n ∷ d) r out')

    -- a file that is written is neither on the way nor ceases to show as an entry
    written_off : (n : Name) (d : Path) (bytes : List ℕ) → is_file_at s (n ∷ d) ≡ true → under_path (n ∷ d) path ≡ false
        → IsWayKept accounts f path (with_bytes s (n ∷ d) bytes)
    written_off n d bytes file off = record {
      way = λ r u. get_other s.files (n ∷ d) new r (λ e. true≢false (sym u ∙ ap (λ x. under_path x path) e ∙ off)) ∙ kept.kept.way r u;
      entries = λ k. shows (k ∷ path) ∙ kept.kept.entries k;
    }
      where
        new : Node
        new = record { class = class_of (get s.files (n ∷ d)); content = File bytes }

        same_shown : (o : Option Node) → is_some_and o (λ n. not (is_dir n)) ≡ true
            → option_map shown (Some (record { class = class_of o; content = File bytes })) ≡ option_map shown o
        same_shown None h = absurd (true≢false (sym h))
        same_shown (Some x) h = ap (λ b. Some (x.class, b)) (sym (not-true (is_dir x) h))

        shows : (r : Path) → option_map shown (get (insert s.files (n ∷ d) new) r) ≡ option_map shown (get s.files r)
        shows r = elim (same_path_found r (n ∷ d)) [
          | inl t ↦
              ap (option_map shown) (ap (get (insert s.files (n ∷ d) new)) t.1 ∙ get_new s.files (n ∷ d) new)
              ∙ same_shown (get s.files (n ∷ d)) file ∙ ap (λ x. option_map shown (get s.files x)) (sym t.1)
          | inr t ↦ ap (option_map shown) (get_other s.files (n ∷ d) new r t.1)
        ]

    -- an effect on files leaves the way and the entries
    effect_off : (q : Path) (effect : Effect) → Warrant accounts s me p q effect → IsWalked accounts s me p q effect
        → IsWayKept accounts f path (apply accounts s me p q effect)
    effect_off [] (Makes content mode) may walked = absurd (true≢false (sym may.0))
    effect_off (n ∷ d) (Makes content mode) may walked =
        made_off d (not_changed d (changes_entered d walked may.3)) n
        (record { class = class_or_open (class_made accounts p mode); content = content })
    effect_off [] (Stores new) may walked = absurd (true≢false (sym may.0))
    effect_off (n ∷ d) (Stores new) may walked =
        written_off n d (new (bytes_at s (n ∷ d))) may.2
        (not_changed (n ∷ d) (λ i. may.3 i && into_reads accounts s p d walked i))
    effect_off [] Removes may walked = absurd (true≢false (sym may.0))
    effect_off (n ∷ d) Removes may walked = cut_off d (not_changed d (changes_entered d walked may.1)) n
    effect_off [] (Renames k) may walked = absurd (true≢false (sym may.0))
    effect_off (n ∷ d) (Renames k) may walked =
        renamed_off d (not_changed d (changes_entered d walked may.3)) n k (another_name s n k d may.1 may.2) may.2
    effect_off [] Wraps may walked = absurd (true≢false (sym may.0))
    effect_off (n ∷ d) Wraps may walked =
        let made = made_off d (not_changed d (changes_entered d walked may.3)) n
        (record { class = Scratch p.user (inner_chain me p); content = Dir }) in
        record { way = made.way; entries = made.entries }
    effect_off q Nothing may walked = kept.kept
    effect_off q Spawns may walked = record { way = kept.kept.way; entries = kept.kept.entries }
    effect_off q (Exits n) may walked = record { way = kept.kept.way; entries = kept.kept.entries }
    effect_off q (LogsIn name) may walked = record { way = kept.kept.way; entries = kept.kept.entries }
    effect_off q (Kills name) may walked = record { way = kept.kept.way; entries = kept.kept.entries }

    way_after : (call : UnixCall) → IsWayKept accounts f path (flat_by accounts s me (Some p) call)
    way_after call = or_stays (IsWayKept accounts f path) s (changed accounts s me p call) (refused accounts s me p call) kept.kept
        (λ passes. effect_off (path_of call) (rule call).effect (warranted accounts s me p call passes)
        (walked_at accounts s me p (path_of call) call (met accounts s me p (path_of call) (rule call).needs passes)))

    -- no class that was there carries the new job
    not_carried : (r : Path) (node : Node) → get f.files r ≡ Some node → carries (next_child me p) node.class ≡ true → ⊥
    not_carried r node at c =
        true≢false (sym (kept.given (next_child me p) (names.of_carried_jobs r node (next_child me p) at c)) ∙ next_is_new s me p here)

    put_still : (q : Process) → HasNoMore accounts f path q p → OthersMayNot accounts f path (with_process s me q)
    put_still q less x y e c = elim (runs_put s me q x y e) [
      | inl t ↦ subst (λ z. may_change accounts f z path ≡ false) t.1 (no_more_changes accounts f q p path less mine)
      | inr t ↦ kept.others x y t c
    ]

    birth_still : (q child : Process) → HasNoMore accounts f path q p → HasNoMore accounts f path child p
        → OthersMayNot accounts f path (with_process (with_process s me q) (next_child me p) child)
    birth_still q child less less_child x y e c = elim (runs_put (with_process s me q) (next_child me p) child x y e) [
      | inl t ↦ subst (λ z. may_change accounts f z path ≡ false) t.1 (no_more_changes accounts f child p path less_child mine)
      | inr t ↦ put_still q less x y t c
    ]

    same_rights : (q : Process) → q.user ≡ p.user → q.chain ≡ p.chain → ((job : ProcName) → knows q job ≡ true → knows p job ≡ true)
        → HasNoMore accounts f path q p
    same_rights q user chain more =
        no_more_by_class accounts f q p (λ r node at w. writes_no_more accounts q p node.class user chain (λ job c k. more job k) w)
        (λ r node at w. reads_as accounts q p node.class user (λ job c k. more job k) w) path

    login_still : (name : Name) → is_free p ≡ true → may_change accounts f (logged_in name) path ≡ false
        → OthersMayNot accounts f path (with_process s me (login_of p name))
    login_still name free away x y e c = elim (runs_put s me (login_of p name) x y e) [
      | inl t ↦ subst (λ z. may_change accounts f z path ≡ false) t.1 (no_more_changes accounts f (login_of p name) (logged_in name) path
          (no_more_by_class accounts f (login_of p name) (logged_in name)
          (λ r node at w. writes_no_more accounts (login_of p name) (logged_in name) node.class refl (no_jobs p.chain free) (λ job c k. none job k) w)
          (λ r node at w. reads_as accounts (login_of p name) (logged_in name) node.class refl (λ job c k. none job k) w) path) away)
      | inr t ↦ kept.others x y t c
    ]
      where
        no_jobs : (chain : List ProcName) → (let b : Bool = elim chain [ [] ↦ true | k ∷ ks ↦ false ] in b) ≡ true → chain ≡ []
        no_jobs [] h = refl
        no_jobs (k ∷ ks) h = absurd (true≢false (sym h))

        none : (job : ProcName) → (has p.chain job || false) ≡ true → (has [] job || false) ≡ true
        none job k = absurd (true≢false (sym k ∙ ap (λ jobs. has jobs job || false) (no_jobs p.chain free)))

    wrap_still : OthersMayNot accounts f path (with_process (with_process s me (starter_of me p)) (next_child me p)
        (child_of p (inner_chain me p)))
    wrap_still = birth_still (starter_of me p) (child_of p (inner_chain me p))
        (no_more_by_class accounts f (starter_of me p) p
        (λ r node at w. writes_no_more accounts (starter_of me p) p node.class refl refl (λ job c k. held r node at job c k) w)
        (λ r node at w. reads_as accounts (starter_of me p) p node.class refl (λ job c k. held r node at job c k) w) path)
        (no_more_than_none accounts f (child_of p (inner_chain me p)) p
        (λ r node at w. writes_not accounts (child_of p (inner_chain me p)) node.class (next_child me p)
        (has_last p.chain (next_child me p)) (out r node at) w) path)
      where
        out : (r : Path) (node : Node) → get f.files r ≡ Some node → carries (next_child me p) node.class ≡ false
        out r node at = elim (cases_Bool (carries (next_child me p) node.class)) [
          | inl c ↦ absurd (not_carried r node at c)
          | inr c ↦ c
        ]

        held : (r : Path) (node : Node) → get f.files r ≡ Some node → (job : ProcName) → carries job node.class ≡ true
            → (has p.chain job || has (p.held ++ next_child me p ∷ []) job) ≡ true → knows p job ≡ true
        held r node at job c k = elim (or_cases (has p.chain job) (has (p.held ++ next_child me p ∷ []) job) k) [
          | inl t ↦ ap (λ b. b || has p.held job) t
          | inr t ↦ elim (longer_has p.held (next_child me p) job t) [
            | inl i ↦ ap (λ b. has p.chain job || b) i ∙ or-true (has p.chain job)
            | inr i ↦ absurd (not_carried r node at (ap (λ j. carries j node.class) (sym i) ∙ c))
          ]
        ]

    others_changes : (call : UnixCall) → IsQuiet (λ q. may_change accounts f q path) (Unit {0}) call
        → EachChange accounts s me p call (OthersMayNot accounts f path)
    unfolding put_still birth_still login_still wrap_still
    others_changes call quiet = record {
      stays = kept.others;
      makes = λ n d x walked free w own mode made_is. kept.others;
      overwrites = λ n d bytes file w. kept.others;
      cuts = λ n d takes w. kept.others;
      renames = λ n k d takes ne free w. kept.others;
      spawns = λ is. birth_still (grown p) (child_of p p.chain)
          (same_rights (grown p) refl refl (λ job k. k))
          (same_rights (child_of p p.chain) refl refl (λ job k. elim (or_cases (has p.chain job) false k) [
            | inl t ↦ ap (λ b. b || has p.held job) t
            | inr t ↦ absurd (true≢false (sym t))
          ]));
      exits = λ n is. put_still (record p { exited = Some n }) (same_rights (record p { exited = Some n }) refl refl (λ job k. k));
      logs_in = λ name is known free. login_still name free (quiet name is tt);
      kills = λ n x y e. kept.others x y (runs_kept (under_process (n ∷ me) x) (s.processes x) y e);
      wraps = λ n d is walked free w named. wrap_still;
    }

  kept_after : (s : Flat) → IsKept accounts f path s → (me : ProcName) (call : UnixCall) → is_changer accounts f path me ≡ false
      → logs_in_as_changer accounts f path call ≡ false → IsKept accounts f path (flat_after accounts s me call)
  kept_after s kept me call silent quiet = record {
    tree = tree_after s kept.tree accounts me call;
    given = λ x h. given_stays accounts s me call x (kept.given x h);
    kept = way_by (running s me) refl;
    others = by_quiet_line {test = λ q. may_change accounts f q path} (record { quiet = λ so. quiet }) s me (OthersMayNot accounts f path) kept.others
        (λ p runs unchanging. others_changes s kept me p runs silent call unchanging);
  }
    where
      way_by : (o : Option Process) → running s me ≡ o → IsWayKept accounts f path (flat_by accounts s me o call)
      way_by None e = kept.kept
      way_by (Some p) e = way_after s kept me p e silent call

  kept_at_end : (calls : List CallLine) (s : Flat) → IsKept accounts f path s → changers_are_silent accounts f path calls ≡ true
      → no_changer_logs_in accounts f path calls ≡ true → IsKept accounts f path (flat_end accounts s calls)
  kept_at_end [] s kept silent quiet = kept
  kept_at_end (c ∷ calls) s kept silent quiet =
      let one = and_parts (not (is_changer accounts f path c.process)) (changers_are_silent accounts f path calls) silent in
      let two = and_parts (not (logs_in_as_changer accounts f path c.call)) (no_changer_logs_in accounts f path calls) quiet in
      let silent_line = not-true (is_changer accounts f path c.process) one.0 in
      let quiet_line = not-true (logs_in_as_changer accounts f path c.call) two.0 in
      kept_at_end calls (flat_after accounts s c.process c.call) (kept_after s kept c.process c.call silent_line quiet_line) one.1 two.1

  kept_itself : IsTree f → IsKept accounts f path f
  kept_itself tree = record {
    tree = tree;
    given = λ x h. h;
    kept = record { way = λ r u. refl; entries = λ n. refl };
    others = λ x p runs c. sym (ap (λ o. is_some_and o (λ q. may_change accounts f q path)) runs) ∙ c;
  }

-- What is at a path stays as it is while no changer calls anything.
pub others_change_nothing : OthersChangeNothing
others_change_nothing accounts f reached path calls silent quiet =
    let names = subst NamesAreGiven reached.1 (names_are_given_once.old accounts reached.0) in
    let end = kept_at_end names calls f (kept_itself names (subst IsTree reached.1 (paths_are_a_tree accounts reached.0))) silent quiet in
    (end.kept.way path (under_itself same same_path_found path), same_entries_in (flat_end accounts f calls) f path end.kept.entries)

-- One call of a process that is no changer leaves what is at the path.
pub one_line : (accounts : Accounts) (f : Flat) → IsReached accounts f → (path : Path) (me : ProcName) (call : UnixCall)
    → is_changer accounts f path me ≡ false → SameAt f (flat_after accounts f me call) path
one_line accounts f reached path me call silent =
    let names = subst NamesAreGiven reached.1 (names_are_given_once.old accounts reached.0) in
    let before = kept_itself names (subst IsTree reached.1 (paths_are_a_tree accounts reached.0)) in
    let after = way_by names before (running f me) refl in
    (after.way path (under_itself same same_path_found path), same_entries_in (flat_after accounts f me call) f path after.entries)
  where
    way_by : NamesAreGiven f → IsKept accounts f path f → (o : Option Process) → running f me ≡ o
        → IsWayKept accounts f path (flat_by accounts f me o call)
    way_by names before None e = before.kept
    way_by names before (Some p) e = way_after names f before me p e silent call
