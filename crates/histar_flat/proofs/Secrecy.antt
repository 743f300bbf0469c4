-- No reply to others reveals the bytes of a private file or of a group's file: for one call, and for a whole run.
use Rattle.std.specs.Prelude.{◌≡◌, ◌+◌, ℕ, Bool, true, false, not, cond, List, [], ◌∷◌, ◌++◌, map, Option, Some, None, option_map, refl}
use Rattle.std.proofs.Common.{ap, sym, ◌∙◌, subst, inl, inr}
use Rattle.std.proofs.lemmas.Bool.{true≢false, and_parts, not-true}
use Rattle.std.specs.FinMap.{find}
use Rattle.histar_flat.specs.declared.calls.CallLine.{CallLine}
use Rattle.histar_flat.specs.declared.calls.UnixCall.{UnixCall}
use Rattle.histar_flat.specs.Effects.{Effect, apply}
use Rattle.histar_flat.specs.Effects.Effect.{Nothing, Makes, Stores, Removes, Renames, Wraps}
use Rattle.histar_flat.specs.CallRules.{path_of, rule}
use Rattle.histar_flat.specs.declared.replies.Errno.{Errno}
use Rattle.histar_flat.specs.Words.{Name, Path, ProcName}
use Rattle.histar_base.specs.Paths.{path_cmp, same, same_path}
use Rattle.histar_flat.specs.PathOrder.{under_path, under_process, parent}
use Rattle.histar_flat.specs.Accounts.{Accounts, is_member}
use Rattle.histar_flat.specs.Files.{get, insert, from_list}
use Rattle.histar_flat.specs.Classes.{Class, Process, is_free, may_read, may_write}
use Rattle.histar_flat.specs.Classes.Class.{Private, Readable, Open, Scratch, Grouped}
use Rattle.histar_flat.specs.FlatState.{Flat, Node, Content, is_some_and, reads, bytes_of, bytes_at, class_of, with_bytes, with_process, with_child}
use Rattle.histar_flat.specs.FlatState.{without_below, with_renamed, moved}
use Rattle.histar_flat.specs.FlatState.Content.{Dir, File}
use Rattle.histar_flat.specs.FlatCalls.{refused, inner_chain, next_child, changed, flat_or, if_running, running, reply_by, flat_by, reply_to}
use Rattle.histar_flat.specs.FlatCalls.{flat_after}
use Rattle.histar_flat.specs.Meaning.{answered_from}
use Rattle.histar_flat.specs.Laws.{becomes, is_login_of, has_no_login_of, AreAway, PrivateBytesAreHidden, GroupBytesAreHidden, GroupBytesStayHidden}
use Rattle.histar_flat.proofs.FileLemmas.{same_name_found, same_path_found, get-insert, get-keep}
use Rattle.histar_flat.proofs.Entries.{shown, all_revealed, find_revealed, same_revealed}
use Rattle.histar_flat.proofs.Renaming.{get-from_list}
use Rattle.histar_flat.proofs.Changes.{EachChange, by_line}
use Rattle.histar_flat.specs.RuleLaws.{Warrant}
use Rattle.histar_flat.proofs.Warrants.{warranted}
use Rattle.histar_flat.proofs.LooksAlike.{LooksAlike, refused_alike, reply_alike}
use Rattle.histar_flat.proofs.Alike.{ShowAlike, looks_alike}

-- the content of a file or a directory, without the bytes if they are secret
abbrev pub veiled_content : Bool → Content → Content
veiled_content hides Dir = Dir
veiled_content hides (File bytes) = File (cond hides [] bytes)

abbrev pub veiled : (Class → Bool) → Node → Node
veiled secret n = record { class = n.class; content = veiled_content (secret n.class) n.content }

-- two states that differ only in secret bytes
pub record IsAlikeBut (secret : Class → Bool) (f g : Flat) : Type 0 where
  pub files : (r : Path) → option_map (veiled secret) (get f.files r) ≡ option_map (veiled secret) (get g.files r)
  pub processes : f.processes ≡ g.processes

-- a process that is none of these readers may neither read nor write what is secret
pub record AreKept (accounts : Accounts) (secret : Class → Bool) (readers : Process → Bool) : Type 0 where
  pub unread : (p : Process) (class : Class) → readers p ≡ false → may_read accounts p class ≡ true → not (secret class) ≡ true
  pub unwritten : (p : Process) (class : Class) → readers p ≡ false → may_write accounts p class ≡ true → not (secret class) ≡ true

module _ (accounts : Accounts) (secret : Class → Bool) (readers : Process → Bool) (kept : AreKept accounts secret readers) where
  -- the veil keeps the class and the kind
  shown_through : (n : Node) → shown (veiled secret n) ≡ shown n
  shown_through n = by n.content
    where
      by : (content : Content)
          → shown (veiled secret (record { class = n.class; content = content }))
          ≡ shown (record { class = n.class; content = content })
      by Dir = refl
      by (File bytes) = refl

  -- the veil keeps what `stat` shows
  option_shown_through : (o : Option Node) → option_map shown (option_map (veiled secret) o) ≡ option_map shown o
  option_shown_through None = refl
  option_shown_through (Some n) = ap Some (shown_through n)

  -- the veil keeps bytes that are not secret
  bytes_through : (o : Option Node) → is_some_and o (λ n. not (secret n.class)) ≡ true → bytes_of (option_map (veiled secret) o) ≡ bytes_of o
  bytes_through None h = refl
  bytes_through (Some n) h = by n.content
    where
      by : (content : Content)
          → bytes_of (Some (veiled secret (record { class = n.class; content = content })))
          ≡ bytes_of (Some (record { class = n.class; content = content }))
      by Dir = refl
      by (File bytes) = ap (λ b. cond b [] bytes) (not-true (secret n.class) h)

  -- a node that passes a test passes one that follows from it
  test_follows : (test later : Node → Bool) → ((n : Node) → test n ≡ true → later n ≡ true) → (o : Option Node)
      → is_some_and o test ≡ true → is_some_and o later ≡ true
  test_follows test later follows None h = absurd (true≢false (sym h))
  test_follows test later follows (Some n) h = follows n h

  -- the two nodes have the same class
  class_alike : (a b : Option Node) → option_map (veiled secret) a ≡ option_map (veiled secret) b → class_of a ≡ class_of b
  class_alike None None h = refl
  class_alike None (Some n) h = absurd (cc)
  class_alike (Some m) None h = absurd (cc)
  class_alike (Some m) (Some n) h = let e : veiled secret m ≡ veiled secret n = cc in ap (λ x. x.class) e

  -- choices by the same test stay alike
  chosen_alike : {X : Type 0} (revealed : X → Node) (b : Bool) (x y u v : Option X)
      → option_map revealed x ≡ option_map revealed u → option_map revealed y ≡ option_map revealed v
      → option_map revealed (cond b x y) ≡ option_map revealed (cond b u v)
  chosen_alike revealed true x y u v d e = d
  chosen_alike revealed false x y u v d e = e

  module _ (f g : Flat) (alike : IsAlikeBut secret f g) where
    shown_alike : ShowAlike f g
    shown_alike r = sym (option_shown_through (get f.files r)) ∙ ap (option_map shown) (alike.files r) ∙ option_shown_through (get g.files r)

    -- bytes that are not secret are the same
    unveiled_alike : (r : Path) → is_some_and (get f.files r) (λ n. not (secret n.class)) ≡ true → bytes_at f r ≡ bytes_at g r
    unveiled_alike r h =
        sym (bytes_through (get f.files r) h) ∙ ap bytes_of (alike.files r)
        ∙ bytes_through (get g.files r) (sym (test (get f.files r) (get g.files r) (alike.files r)) ∙ h)
      where
        test : (a b : Option Node) → option_map (veiled secret) a ≡ option_map (veiled secret) b
            → is_some_and a (λ n. not (secret n.class)) ≡ is_some_and b (λ n. not (secret n.class))
        test None None e = refl
        test None (Some n) e = absurd (cc)
        test (Some m) None e = absurd (cc)
        test (Some m) (Some n) e = let v : veiled secret m ≡ veiled secret n = cc in ap (λ x. not (secret x.class)) v

    -- states stay alike when the same node is put at a path
    put_alike : (r : Path) (x y : Node) → x ≡ y → (q : Path)
        → option_map (veiled secret) (get (insert f.files r x) q)
        ≡ option_map (veiled secret) (get (insert g.files r y) q)
    put_alike r x y e q =
        ap (option_map (veiled secret)) (get-insert f.files r x q)
        ∙ chosen_alike (veiled secret) (same_path q r) (Some x) (get f.files q) (Some y) (get g.files q)
        (ap (λ z. Some (veiled secret z)) e) (alike.files q)
        ∙ ap (option_map (veiled secret)) (sym (get-insert g.files r y q))

    cut_alike : (r q : Path)
        → option_map (veiled secret) (get (without_below f r).files q)
        ≡ option_map (veiled secret) (get (without_below g r).files q)
    cut_alike r q =
        ap (option_map (veiled secret)) (get-keep f.files (λ t. not (under_path r t)) q)
        ∙ chosen_alike (veiled secret) (not (under_path r q)) (get f.files q) None (get g.files q) None (alike.files q) refl
        ∙ ap (option_map (veiled secret)) (sym (get-keep g.files (λ t. not (under_path r t)) q))

    -- states stay alike when a rename is done in both
    renamed_alike : (old new q : Path)
        → option_map (veiled secret) (get (with_renamed f old new).files q)
        ≡ option_map (veiled secret) (get (with_renamed g old new).files q)
    renamed_alike old new q =
        revealed f.files.entries
        ∙ ap (λ (l : List (Path × Node)). find path_cmp q (map (λ e. (moved old new e.0, e.1)) l))
        (same_revealed (veiled secret) f.files g.files alike.files)
        ∙ sym (revealed g.files.entries)
      where
        both : (es : List (Path × Node))
            → all_revealed (veiled secret) (map (λ e. (moved old new e.0, e.1)) es)
            ≡ map (λ e. (moved old new e.0, e.1)) (all_revealed (veiled secret) es)
        both [] = refl
        both (e ∷ es) = ap (λ (l : List (Path × Node)). (moved old new e.0, veiled secret e.1) ∷ l) (both es)

        revealed : (es : List (Path × Node))
            → option_map (veiled secret) (get (from_list (map (λ e. (moved old new e.0, e.1)) es)) q)
            ≡ find path_cmp q (map (λ e. (moved old new e.0, e.1)) (all_revealed (veiled secret) es))
        revealed es =
            ap (option_map (veiled secret)) (get-from_list (map (λ e. (moved old new e.0, e.1)) es) q)
            ∙ sym (find_revealed (veiled secret) q (map (λ e. (moved old new e.0, e.1)) es)) ∙ ap (find path_cmp q) (both es)

    module _ (me : ProcName) (p : Process) (other : readers p ≡ false) where
      read_alike : (r : Path) → reads accounts f p r ≡ true → bytes_at f r ≡ bytes_at g r
      read_alike r h =
          unveiled_alike r (test_follows (λ n. may_read accounts p n.class) (λ n. not (secret n.class))
          (λ n. kept.unread p n.class other) (get f.files r) h)

      both_look_alike : (q : Path) → LooksAlike true accounts f g p q
      both_look_alike = looks_alike accounts f g shown_alike p alike.processes read_alike

      overwritten_alike : (r : Path) (b c : List ℕ) → b ≡ c → IsAlikeBut secret (with_bytes f r b) (with_bytes g r c)
      overwritten_alike r b c e = record {
        files =
            put_alike r (record { class = class_of (get f.files r); content = File b })
            (record { class = class_of (get g.files r); content = File c })
            (λ i. record
            { class = class_alike (get f.files r) (get g.files r) (alike.files r) i; content = File (e i) });
        processes = alike.processes;
      }

      -- an effect of another user's process leaves the states alike
      applied_alike : (q : Path) (effect : Effect) → Warrant accounts f me p q effect
          → IsAlikeBut secret (apply accounts f me p q effect) (apply accounts g me p q effect)
      applied_alike q Nothing may = alike
      applied_alike q (Makes content mode) may = record { files = put_alike q _ _ refl; processes = alike.processes }
      applied_alike q (Stores new) may =
          overwritten_alike q (new (bytes_at f q)) (new (bytes_at g q)) (ap new (read_alike q may.4))
      applied_alike q Removes may = record { files = cut_alike q; processes = alike.processes }
      applied_alike q (Renames name) may = record { files = renamed_alike q (name ∷ parent q); processes = alike.processes }
      applied_alike q Wraps may = record {
        files = put_alike q (record { class = Scratch p.user (inner_chain me p); content = Dir }) _ refl;
        processes = λ i. (apply accounts (record f { processes = alike.processes i }) me p q Wraps).processes;
      }
      applied_alike q effect may =
          record {
            files = alike.files;
            processes = λ i.
                (apply accounts (record f { processes = alike.processes i }) me p q effect).processes;
          }

      states_alike : (call : UnixCall) (d e : Option Errno) → refused accounts f me p call ≡ d → d ≡ e
          → IsAlikeBut secret (flat_or d f (changed accounts f me p call)) (flat_or e g (changed accounts g me p call))
      states_alike call None None h k = applied_alike (path_of call) (rule call).effect (warranted accounts f me p call h)
      states_alike call None (Some x) h k = absurd (cc)
      states_alike call (Some x) None h k = absurd (cc)
      states_alike call (Some x) (Some y) h k = alike

    module _ (me : ProcName) (call : UnixCall) (other : is_some_and (running f me) readers ≡ false) where
      -- One call of another user's process has the same reply in both.
      pub reply_to_alike : reply_to accounts f me call ≡ reply_to accounts g me call
      reply_to_alike = by (running f me) other ∙ ap (λ o. reply_by accounts g me (if_running (o me)) call) alike.processes
        where
          by : (r : Option Process) → is_some_and r readers ≡ false → reply_by accounts f me r call ≡ reply_by accounts g me r call
          by None i = refl
          by (Some p) i = reply_alike accounts f g me p call (both_look_alike me p i (path_of call))

      -- It leaves states that differ only in these bytes.
      pub flat_after_alike : IsAlikeBut secret (flat_after accounts f me call) (flat_after accounts g me call)
      flat_after_alike =
          subst
          (λ o. IsAlikeBut secret (flat_after accounts f me call) (flat_by accounts g me (if_running (o me)) call))
          alike.processes (by (running f me) other)
        where
          by : (r : Option Process) → is_some_and r readers ≡ false → IsAlikeBut secret (flat_by accounts f me r call) (flat_by accounts g me r call)
          by None i = alike
          by (Some p) i =
              states_alike me p i call (refused accounts f me p call) (refused accounts g me p call) refl
              (refused_alike accounts f g me p call (both_look_alike me p i (path_of call)))

-- while none of these users is there
module _ (accounts : Accounts) (secret : Class → Bool) (users : Name → Bool) (kept : AreKept accounts secret (λ p. users p.user)) where
  -- a process of another user is of none of these users, whether it runs or not
  other_is_away : (p : Process) → users p.user ≡ false → is_some_and (if_running (Some p)) (λ r. users r.user) ≡ false
  other_is_away p h = by p.exited
    where
      by : (x : Option ℕ) → is_some_and (elim x [ None ↦ Some p | Some n ↦ None ]) (λ r. users r.user) ≡ false
      by None = h
      by (Some n) = refl

  away_with : (f : Flat) (me : ProcName) (p : Process) → AreAway users f → users p.user ≡ false → AreAway users (with_process f me p)
  away_with f me p away h x = by (same me x)
    where
      by : (b : Bool) → is_some_and (if_running (cond b (Some p) (f.processes x))) (λ r. users r.user) ≡ false
      by true = other_is_away p h
      by false = away x

  away_with_child : (f : Flat) (me : ProcName) (p : Process) (chain : List ProcName) → AreAway users f
      → users p.user ≡ false → AreAway users (with_child f me p chain)
  away_with_child f me p chain away h =
      let grown : Process = record p { born = p.born + 1 } in
      away_with (with_process f me grown) ((p.born + 1) ∷ me)
      (record { user = p.user; chain = chain; held = []; exited = None; born = 0 }) (away_with f me grown away h) h

  away_without : (b : Bool) (o : Option Process) → is_some_and (if_running o) (λ r. users r.user) ≡ false
      → is_some_and (if_running (cond b None o)) (λ r. users r.user) ≡ false
  away_without true o h = refl
  away_without false o h = h

  away_changes : (f : Flat) (me : ProcName) (p : Process) (call : UnixCall) → AreAway users f → users p.user ≡ false
      → is_login_of users call ≡ false → EachChange accounts f me p call (AreAway users)
  away_changes f me p call away other quiet = record {
    stays = away;
    makes = λ n d x walked free w own mode made_is. away;
    overwrites = λ n d bytes file w. away;
    cuts = λ n d takes w. away;
    renames = λ n k d takes apart free w. away;
    spawns = λ is. away_with_child f me p p.chain away other;
    exits = λ n is. away_with f me (record p { exited = Some n }) away other;
    logs_in = λ name is known free. away_with f me (record p { user = name; held = [] }) away (sym (ap (becomes users) is) ∙ quiet);
    kills = λ n x. away_without (under_process (n ∷ me) x) (f.processes x) (away x);
    wraps = λ n d is walked free w named. away_with_child f me (record p { held = p.held ++ next_child me p ∷ [] }) (inner_chain me p) away other;
  }

  -- these users stay away while no process logs in as one of them
  stays_away : (f : Flat) (me : ProcName) (call : UnixCall) → AreAway users f → is_login_of users call ≡ false
      → AreAway users (flat_after accounts f me call)
  stays_away f me call away quiet =
      by_line accounts f me call (AreAway users) away (λ p runs.
      away_changes f me p call away (sym (ap (λ r. is_some_and r (λ p. users p.user)) runs) ∙ away me) quiet)

  -- while no process is of one of these users, the replies are the same in two states that differ only in secret bytes
  all_replies_alike : (f g : Flat) → IsAlikeBut secret f g → AreAway users f → (calls : List CallLine)
      → has_no_login_of users calls ≡ true → answered_from accounts f calls ≡ answered_from accounts g calls
  all_replies_alike f g alike away [] h = refl
  all_replies_alike f g alike away (c ∷ calls) h =
      let parts = and_parts (not (is_login_of users c.call)) (has_no_login_of users calls) h in
      let quiet = not-true (is_login_of users c.call) parts.0 in
      let here = reply_to_alike accounts secret (λ p. users p.user) kept f g alike c.process c.call (away c.process) in
      let rest = all_replies_alike (flat_after accounts f c.process c.call) (flat_after accounts g c.process c.call)
      (flat_after_alike accounts secret (λ p. users p.user) kept f g alike c.process c.call (away c.process))
      (stays_away f c.process c.call away quiet) calls parts.1 in
      λ i. record { call = c; reply = here i } ∷ rest i

-- two states with different bytes in a secret file differ only in secret bytes
pub other_bytes_alike : (secret : Class → Bool) (f : Flat) (q : Path) (class : Class) (bytes other : List ℕ)
    → secret class ≡ true → get f.files q ≡ Some (record { class = class; content = File bytes })
    → IsAlikeBut secret f (with_bytes f q other)
other_bytes_alike secret f q class bytes other hides h = record {
  files = λ r. elim (same_path_found r q) [
    | inl e ↦ ap (option_map (veiled secret)) (ap (get f.files) e.1 ∙ h) ∙ ap Some (is_veiled bytes ∙ sym (is_veiled other))
        ∙ ap (option_map (veiled secret)) (sym (get-insert f.files q _ r ∙ ap (λ b. cond b (Some new) (get f.files r)) e.0
        ∙ ap (λ o. Some (record { class = class_of o; content = File other })) h))
    | inr e ↦ ap (option_map (veiled secret)) (sym (get-insert f.files q new r ∙ ap (λ b. cond b (Some new) (get f.files r)) e.0))
  ];
  processes = refl;
}
  where
    new : Node
    new = record { class = class_of (get f.files q); content = File other }

    is_veiled : (b : List ℕ) → veiled secret (record { class = class; content = File b }) ≡ record { class = class; content = File [] }
    is_veiled b = ap (λ t. record { class = class; content = File (cond t [] b) }) hides

-- a name is the same as itself
same_self : (name : Name) → same name name ≡ true
same_self name = elim (same_name_found name name) [
  | inl e ↦ e.0
  | inr e ↦ absurd (e.1 refl)
]

-- the class is for this owner alone
abbrev is_private_of : Name → Class → Bool
is_private_of owner (Private o) = same o owner
is_private_of owner _ = false

-- a private class is kept from processes of other users
private_is_kept : (accounts : Accounts) (owner : Name) → AreKept accounts (is_private_of owner) (λ p. same p.user owner)
private_is_kept accounts owner = record { unread = unread; unwritten = unwritten }
  where
    unread : (p : Process) (class : Class) → same p.user owner ≡ false → may_read accounts p class ≡ true → not (is_private_of owner class) ≡ true
    unread p (Private o) other h = elim (same_name_found o owner) [
      | inl e ↦ absurd (true≢false (sym h ∙ ap (same p.user) e.1 ∙ other))
      | inr e ↦ ap not e.0
    ]
    unread p (Readable o) other h = refl
    unread p Open other h = refl
    unread p (Scratch o jobs) other h = refl
    unread p (Grouped group) other h = refl

    unwritten : (p : Process) (class : Class) → same p.user owner ≡ false → may_write accounts p class ≡ true → not (is_private_of owner class) ≡ true
    unwritten p (Private o) other h = unread p (Private o) other (and_parts (same p.user o) (is_free p) h).0
    unwritten p (Readable o) other h = refl
    unwritten p Open other h = refl
    unwritten p (Scratch o jobs) other h = refl
    unwritten p (Grouped group) other h = refl

-- the class is this group's
abbrev is_class_of_group : Name → Class → Bool
is_class_of_group group (Grouped g) = same g group
is_class_of_group group _ = false

-- a group's class is kept from processes of users that are no members
group_is_kept : (accounts : Accounts) (group : Name) → AreKept accounts (is_class_of_group group) (λ p. is_member accounts p.user group)
group_is_kept accounts group = record { unread = unread; unwritten = unwritten }
  where
    unread : (p : Process) (class : Class) → is_member accounts p.user group ≡ false → may_read accounts p class ≡ true
        → not (is_class_of_group group class) ≡ true
    unread p (Private o) other h = refl
    unread p (Readable o) other h = refl
    unread p Open other h = refl
    unread p (Scratch o jobs) other h = refl
    unread p (Grouped g) other h = elim (same_name_found g group) [
      | inl e ↦ absurd (true≢false (sym h ∙ ap (is_member accounts p.user) e.1 ∙ other))
      | inr e ↦ ap not e.0
    ]

    unwritten : (p : Process) (class : Class) → is_member accounts p.user group ≡ false
        → may_write accounts p class ≡ true → not (is_class_of_group group class) ≡ true
    unwritten p (Private o) other h = refl
    unwritten p (Readable o) other h = refl
    unwritten p Open other h = refl
    unwritten p (Scratch o jobs) other h = refl
    unwritten p (Grouped g) other h = unread p (Grouped g) other (and_parts (is_member accounts p.user g) (is_free p) h).0

-- no reply reveals the bytes of a private file to others, until its owner logs in
pub private_bytes_are_hidden : PrivateBytesAreHidden
private_bytes_are_hidden owner accounts f q bytes other calls h away quiet =
    all_replies_alike accounts (is_private_of owner) (λ name. same name owner) (private_is_kept accounts owner) f (with_bytes f q other)
    (other_bytes_alike (is_private_of owner) f q (Private owner) bytes other (same_self owner) h) away calls quiet

-- no reply to a process of a user that is no member reveals the bytes of a group's file
pub group_bytes_are_hidden : GroupBytesAreHidden
group_bytes_are_hidden group accounts f q bytes other me call h outside =
    reply_to_alike accounts (is_class_of_group group) (λ p. is_member accounts p.user group) (group_is_kept accounts group) f (with_bytes f q other)
    (other_bytes_alike (is_class_of_group group) f q (Grouped group) bytes other (same_self group) h) me call outside

-- no reply reveals the bytes of a group's file, until a member logs in
pub group_bytes_stay_hidden : GroupBytesStayHidden
group_bytes_stay_hidden group accounts f q bytes other calls h away quiet =
    all_replies_alike accounts (is_class_of_group group) (λ name. is_member accounts name group)
    (group_is_kept accounts group) f (with_bytes f q other)
    (other_bytes_alike (is_class_of_group group) f q (Grouped group) bytes other (same_self group) h) away calls quiet
