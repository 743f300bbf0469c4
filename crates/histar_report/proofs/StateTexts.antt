-- No name and no file of a flat state has a line end, where no call has one.
use Rattle.std.proofs.Common.{◌≡◌, ℕ, ◌+◌, Bool, true, false, not, cond, List, [], ◌∷◌, ◌++◌, Option, None, Some}
use Rattle.std.proofs.Common.{refl, subst}
use Rattle.std.specs.Prelude.{codes, decimal, map}
use Rattle.std.specs.List.{AllByRecursion, list_all}
use Rattle.std.specs.FinMap.{find, put}
use Rattle.std.specs.FinMap.Entries.{by_order, where_key}
use Rattle.std.specs.Ordering.{eq_by_cmp}
use Rattle.std.specs.declared.cmp.Ordering.{Ordering}
use Rattle.std.specs.declared.cmp.Ordering.TheVariants.{Less, Equal, Greater}
use Rattle.std.proofs.lemmas.Bool.{and_parts}
use Rattle.histar_base.specs.Paths.{path_cmp, same, same_path}
use Rattle.histar_flat.specs.declared.calls.Mode.{Mode}
use Rattle.histar_flat.specs.declared.calls.Mode.TheVariants as modes
use Rattle.histar_flat.specs.declared.calls.UnixCall.{UnixCall}
use Rattle.histar_flat.specs.Words.{Path, ProcName}
use Rattle.histar_flat.specs.PathOrder.{parent, under_path, under_process}
use Rattle.histar_flat.specs.Accounts.{Accounts, is_member}
use Rattle.histar_flat.specs.Files.{from_list, get}
use Rattle.histar_flat.specs.Classes.{Class, Process, class_made, free_class, is_free, nobody}
use Rattle.histar_flat.specs.Classes.Class.{Private, Readable, Open, Scratch, Grouped}
use Rattle.histar_flat.specs.FlatState.{Content, Flat, Node, bytes_at, bytes_of, class_of, moved}
use Rattle.histar_flat.specs.FlatState.{with_child, with_node, with_process, without_below, without_process}
use Rattle.histar_flat.specs.FlatState.Content.{Dir, File}
use Rattle.histar_flat.specs.Effects.{Effect, apply, class_or_open, inner_chain, next_child}
use Rattle.histar_flat.specs.Effects.Effect.{Makes, Stores, Removes, Renames, Spawns, Exits, LogsIn, Kills, Wraps, Nothing}
use Rattle.histar_flat.specs.CallRules.{path_of, rule}
use Rattle.histar_flat.specs.FlatCalls.{flat_after}
use Rattle.histar_flat.specs.Meaning.{boot, first_process, first_user}
use Rattle.histar_flat.specs.Texts.{names_text, path_text}
use Rattle.histar_flat.specs.Texts.{process_text}
use Rattle.histar_flat.proofs.Changes.{by_rule}
use Rattle.histar_flat.proofs.SplitLemmas.{lacks}
use Rattle.histar_report.proofs.OneLines.{IsOneLine, joined, number_lined}

-- ---- states

-- each name of a path is one line
abbrev pub IsLinedPath : Path → Type 0
IsLinedPath path = list_all (lacks 10) path ≡ true

-- the name in a class is one line
abbrev pub IsLinedClass : Class → Type 0
IsLinedClass (Private owner) = IsOneLine owner
IsLinedClass (Readable owner) = IsOneLine owner
IsLinedClass Open = Unit {0}
IsLinedClass (Scratch owner jobs) = IsOneLine owner
IsLinedClass (Grouped group) = IsOneLine group

-- the bytes of a file are one line
abbrev pub IsLinedContent : Content → Type 0
IsLinedContent Dir = Unit {0}
IsLinedContent (File bytes) = IsOneLine bytes

-- so are the texts of what is there
abbrev pub IsLinedNode : Option Node → Type 0
IsLinedNode None = Unit {0}
IsLinedNode (Some node) = IsLinedClass node.class × IsLinedContent node.content

-- so are those of an entry and its path
abbrev pub IsLinedEntry : Path × Node → Type 0
IsLinedEntry e = IsLinedPath e.0 × IsLinedNode (Some e.1)

-- the user of a process that is there is one line
abbrev pub IsLinedUser : Option Process → Type 0
IsLinedUser None = Unit {0}
IsLinedUser (Some p) = IsOneLine p.user

-- Each name and each file of a flat state is one line.
pub record IsLined (f : Flat) : Type 0 where
  pub files : AllByRecursion IsLinedEntry f.files.entries
  pub users : (q : ProcName) → IsLinedUser (f.processes q)

-- ---- calls

-- the name in a mode is one line
abbrev pub IsLinedMode : Mode → Type 0
IsLinedMode modes.Private = Unit {0}
IsLinedMode modes.Readable = Unit {0}
IsLinedMode modes.Open = Unit {0}
IsLinedMode (modes.Group name) = IsOneLine name

-- what an effect puts into a state is one line
abbrev pub IsLinedEffect : Effect → Type 0
IsLinedEffect (Makes content mode) = IsLinedContent content × IsLinedMode mode
IsLinedEffect (Stores new) = (old : List ℕ) → IsOneLine old → IsOneLine (new old)
IsLinedEffect (Renames name) = IsOneLine name
IsLinedEffect (LogsIn name) = IsOneLine name
IsLinedEffect _ = Unit {0}

-- the texts in a call are one line each
abbrev pub IsLinedCall : UnixCall → Type 0
IsLinedCall call = IsLinedPath (path_of call) × IsLinedEffect (rule call).effect

-- ---- maps of paths

-- an entry that is put in
put_lined : (q : Path) (node : Node) (es : List (Path × Node)) → IsLinedEntry (q, node) → AllByRecursion IsLinedEntry es
    → AllByRecursion IsLinedEntry (put path_cmp q node es)
put_lined q node [] one all = (one, tt)
put_lined q node (e ∷ es) one all = by (path_cmp q e.0) (put_lined q node es one all.1)
  where
    by : (o : Ordering) → AllByRecursion IsLinedEntry (put path_cmp q node es)
        → AllByRecursion IsLinedEntry (by_order o ((q, node) ∷ e ∷ es) ((e.0, node) ∷ es) (e ∷ put path_cmp q node es))
    by Less later = (one, all)
    by Equal later = ((all.0.0, one.1), all.1)
    by Greater later = (all.0, later)

-- the entries that are kept
kept_lined : (test : Path → Bool) (es : List (Path × Node)) → AllByRecursion IsLinedEntry es
    → AllByRecursion IsLinedEntry (where_key path_cmp test es)
kept_lined test [] all = tt
kept_lined test (e ∷ es) all = by (test e.0) (kept_lined test es all.1)
  where
    by : (t : Bool) → AllByRecursion IsLinedEntry (where_key path_cmp test es)
        → AllByRecursion IsLinedEntry (cond t (e ∷ where_key path_cmp test es) (where_key path_cmp test es))
    by true later = (all.0, later)
    by false later = later

-- a path that is moved
moved_lined : (old new q : Path) → IsLinedPath new → IsLinedPath q → IsLinedPath (moved old new q)
moved_lined old new [] one all = refl
moved_lined old new (n ∷ d) one all = by (same_path old (n ∷ d)) (moved_lined old new d one parts.1)
  where
    parts : (lacks 10 n ≡ true) × IsLinedPath d
    parts = and_parts (lacks 10 n) (list_all (lacks 10) d) all

    by : (t : Bool) → IsLinedPath (moved old new d) → IsLinedPath (cond t new (n ∷ moved old new d))
    by true later = one
    by false later = rw (parts.0, later) refl

-- the entries with their paths moved
renamed_lined : (old new : Path) (es : List (Path × Node)) → IsLinedPath new → AllByRecursion IsLinedEntry es
    → AllByRecursion IsLinedEntry (from_list (map (λ e. (moved old new e.0, e.1)) es)).entries
renamed_lined old new [] one all = tt
renamed_lined old new (e ∷ es) one all =
    put_lined (moved old new e.0) e.1 (from_list (map (λ e. (moved old new e.0, e.1)) es)).entries
    (moved_lined old new e.0 one all.0.0, all.0.1) (renamed_lined old new es one all.1)

-- what is found
pub found_lined : (q : Path) (es : List (Path × Node)) → AllByRecursion IsLinedEntry es → IsLinedNode (find path_cmp q es)
found_lined q [] all = tt
found_lined q (e ∷ es) all = by (eq_by_cmp path_cmp q e.0) (found_lined q es all.1)
  where
    by : (t : Bool) → IsLinedNode (find path_cmp q es) → IsLinedNode (cond t (Some e.1) (find path_cmp q es))
    by true later = all.0.1
    by false later = later

-- the bytes of what is there
bytes_lined : (o : Option Node) → IsLinedNode o → IsOneLine (bytes_of o)
bytes_lined None lined = refl
bytes_lined (Some node) lined = by node.content lined.1
  where
    by : (content : Content) → IsLinedContent content → IsOneLine (let l : List ℕ = elim content [ Dir ↦ [] | File bytes ↦ bytes ] in l)
    by Dir one = refl
    by (File bytes) one = one

-- the class of what is there
class_lined : (o : Option Node) → IsLinedNode o → IsLinedClass (class_of o)
class_lined None lined = tt
class_lined (Some node) lined = lined.0

-- the class of what a process makes
made_lined : (accounts : Accounts) (p : Process) (mode : Mode) → IsOneLine p.user → IsLinedMode mode
    → IsLinedClass (class_or_open (class_made accounts p mode))
made_lined accounts p mode user named = by (is_free p) mode named
  where
    unless_nobody : (t : Bool) (class : Class) → IsLinedClass class → IsLinedClass (class_or_open (cond t None (Some class)))
    unless_nobody true class one = tt
    unless_nobody false class one = one

    of_member : (t : Bool) (class : Class) → IsLinedClass class → IsLinedClass (class_or_open (cond t (Some class) None))
    of_member true class one = one
    of_member false class one = tt

    by : (t : Bool) (m : Mode) → IsLinedMode m
        → IsLinedClass (class_or_open (cond t (free_class accounts p m) (Some (Scratch p.user p.chain))))
    by true modes.Private named = unless_nobody (same p.user nobody) (Private p.user) user
    by true modes.Readable named = unless_nobody (same p.user nobody) (Readable p.user) user
    by true modes.Open named = tt
    by true (modes.Group group) named = of_member (is_member accounts p.user group) (Grouped group) named
    by false m named = user

-- the path above
parent_lined : (q : Path) → IsLinedPath q → IsLinedPath (parent q)
parent_lined [] lined = refl
parent_lined (n ∷ d) lined = (and_parts (lacks 10 n) (list_all (lacks 10) d) lined).1

-- ---- what a call changes

module _ (f : Flat) (lined : IsLined f) where
  -- a state in which a file or directory is put
  node_lined : (q : Path) (class : Class) (content : Content) → IsLinedPath q → IsLinedClass class → IsLinedContent content
      → IsLined (with_node f q class content)
  node_lined q class content named owned held = record {
    files = put_lined q (record { class = class; content = content }) f.files.entries (named, (owned, held)) lined.files;
    users = lined.users;
  }

  -- a state in which a process is put
  process_lined : (me : ProcName) (p : Process) → IsOneLine p.user → IsLined (with_process f me p)
  process_lined me p user = record { files = lined.files; users = λ q. by q (same me q) }
    where
      by : (q : ProcName) (t : Bool) → IsLinedUser (cond t (Some p) (f.processes q))
      by q true = user
      by q false = lined.users q

  -- a state without some processes
  killed_lined : (me : ProcName) → IsLined (without_process f me)
  killed_lined me = record { files = lined.files; users = λ q. by q (under_process me q) }
    where
      by : (q : ProcName) (t : Bool) → IsLinedUser (cond t None (f.processes q))
      by q true = tt
      by q false = lined.users q

  -- a state without some paths
  cut_lined : (q : Path) → IsLined (without_below f q)
  cut_lined q = record { files = kept_lined (λ r. not (under_path q r)) f.files.entries lined.files; users = lined.users }

  -- the bytes of a file
  pub held_lined : (q : Path) → IsOneLine (bytes_at f q)
  held_lined q = bytes_lined (get f.files q) (found_lined q f.files.entries lined.files)

-- a state in which a child is put
child_lined : (f : Flat) (me : ProcName) (p : Process) (chain : List ProcName) → IsLined f → IsOneLine p.user
    → IsLined (with_child f me p chain)
child_lined f me p chain lined user =
    process_lined (with_process f me (record p { born = p.born + 1 })) (process_lined f lined me (record p { born = p.born + 1 }) user)
    (next_child me p) (record { user = p.user; chain = chain; held = []; exited = None; born = 0 }) user

-- the state after an effect
effect_lined : (accounts : Accounts) (f : Flat) (me : ProcName) (p : Process) (q : Path) (effect : Effect) → IsLined f
    → IsOneLine p.user × IsLinedPath q → IsLinedEffect effect → IsLined (apply accounts f me p q effect)
effect_lined accounts f me p q Nothing lined at is = lined
effect_lined accounts f me p q (Makes content mode) lined at is =
    node_lined f lined q (class_or_open (class_made accounts p mode)) content at.1 (made_lined accounts p mode at.0 is.1) is.0
effect_lined accounts f me p q (Stores new) lined at is =
    node_lined f lined q (class_of (get f.files q)) (File (new (bytes_at f q))) at.1
    (class_lined (get f.files q) (found_lined q f.files.entries lined.files)) (is (bytes_at f q) (held_lined f lined q))
effect_lined accounts f me p q Removes lined at is = cut_lined f lined q
effect_lined accounts f me p q (Renames name) lined at is = record {
  files = renamed_lined q (name ∷ parent q) f.files.entries (rw (is, parent_lined q at.1) refl) lined.files;
  users = lined.users;
}
effect_lined accounts f me p q Spawns lined at is = child_lined f me p p.chain lined at.0
effect_lined accounts f me p q (Exits n) lined at is = process_lined f lined me (record p { exited = Some n }) at.0
effect_lined accounts f me p q (LogsIn name) lined at is = process_lined f lined me (record p { user = name; held = [] }) is
effect_lined accounts f me p q (Kills name) lined at is = killed_lined f lined name
effect_lined accounts f me p q Wraps lined at is =
    child_lined (with_node f q (Scratch p.user (inner_chain me p)) Dir) me (record p { held = p.held ++ next_child me p ∷ [] }) (inner_chain me p)
    (node_lined f lined q (Scratch p.user (inner_chain me p)) Dir at.1 at.0 tt) at.0

-- the state after a call
pub after_lined : (accounts : Accounts) (f : Flat) (me : ProcName) (call : UnixCall) → IsLined f → IsLinedCall call
    → IsLined (flat_after accounts f me call)
after_lined accounts f me call lined texts = by_rule accounts f me call IsLined lined
    (λ p there may. effect_lined accounts f me p (path_of call) (rule call).effect lined
    (subst IsLinedUser there (lined.users me), texts.0) texts.1)

-- the state at the start, where the first user's name is one line
pub boot_lined : (accounts : Accounts) → IsOneLine (first_user accounts.users) → IsLined (boot accounts)
boot_lined accounts user =
    process_lined (record { files = (boot accounts).files; processes = λ q. None })
    (record { files = ((refl, (user, tt)), tt); users = λ q. tt }) [] first_process refl

-- ---- the texts of processes and paths

-- the text of a process
pub process_text_lined : (p : ProcName) → IsOneLine (process_text p)
process_text_lined [] = refl
process_text_lined (n ∷ p) =
    joined (process_text p ++ codes ".") (decimal n) (joined (process_text p) (codes ".") (process_text_lined p) refl)
    (number_lined n)

-- the text of a path
names_lined : (q : Path) → IsLinedPath q → IsOneLine (names_text q)
names_lined [] lined = refl
names_lined (n ∷ d) lined =
    let parts = and_parts (lacks 10 n) (list_all (lacks 10) d) lined in
    joined (names_text d ++ codes "/") n (joined (names_text d) (codes "/") (names_lined d parts.1) refl) parts.0

pub path_text_lined : (q : Path) → IsLinedPath q → IsOneLine (path_text q)
path_text_lined [] lined = refl
path_text_lined (n ∷ d) lined = names_lined (n ∷ d) lined
