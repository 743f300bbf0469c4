-- The first part of a call's needs that is not met, by what was read, is that of the rule.
use Rattle.std.specs.Prelude.{◌≡◌, ℕ, suc, ◌+◌, ◌==◌, Bool, true, false, cond, not, nat_le, nat_lt, List, [], ◌∷◌, ◌++◌, length}
use Rattle.std.specs.Prelude.{Option, None, Some, MatchOption}
use Rattle.std.specs.Prelude.{if◌then◌else◌, is_some, option_and_then, option_map, refl, T}
use Rattle.std.specs.List.{cons_option, filter_map, position_or_len}
use Rattle.std.specs.FinMap.{find, is_sorted}
use Rattle.std.specs.FinMap.Entries.{below_all}
use Rattle.std.proofs.lemmas.Bool.Decides.{nat_tests}
use Rattle.std.proofs.Common.{arith, ap, inl, inr, sym, ◌∙◌, subst}
use Rattle.std.proofs.lemmas.Bool.{true≢false}
use Rattle.std.proofs.lemmas.List.{length-append}
use Rattle.std.proofs.lemmas.Option.{none-some, same_Some}
use Rattle.histar_base.specs.Paths.{path_cmp, same}
use Rattle.histar_base.proofs.PathLaws.{path_cmp_total, path_cmp_exact}
use Rattle.histar_base.specs.Refusals.{◌orelse◌, unless}
use Rattle.histar_flat.specs.declared.calls.CallLine.{CallLine}
use Rattle.histar_flat.specs.declared.calls.Mode.{Mode}
use Rattle.histar_flat.specs.declared.calls.Mode.TheVariants as modes
use Rattle.histar_flat.specs.declared.calls.UnixCall.{UnixCall}
use Rattle.histar_flat.specs.declared.calls.UnixCall.TheVariants.{Create, Mkdir, Read, Write, Append, List as ListCall, Stat, Unlink, Rmdir, Rmtree}
use Rattle.histar_flat.specs.declared.calls.UnixCall.TheVariants.{Rename, Spawn, Exit, Status, Kill, Whoami, Login, Wrap}
use Rattle.histar_flat.specs.declared.calls.User.{User}
use Rattle.histar_flat.specs.declared.replies.Errno.{Errno}
use Rattle.histar_flat.specs.declared.replies.Errno.TheVariants.{EBUSY, EEXIST, EISDIR}
use Rattle.histar_flat.specs.Words.{Name, Path, ProcName, most_children, most_numbers}
use Rattle.histar_flat.specs.Accounts.{Accounts, user_named, user_number}
use Rattle.histar_flat.specs.Classes.{Class, Process, class_made, free_class, is_free, nobody}
use Rattle.histar_flat.specs.Classes.Class.{Scratch}
use Rattle.histar_flat.specs.Files.{get}
use Rattle.histar_flat.specs.FlatState.{Flat, IsTree, Node, bytes_at, bytes_of, class_of, entries_in, entry_in}
use Rattle.histar_flat.specs.FlatState.{is_dir, is_dir_at, is_file_at, is_some_and, is_there}
use Rattle.histar_flat.specs.Needs.{is_below_root, is_child, most_bytes, most_entries}
use Rattle.histar_flat.specs.CallRules.{path_of, rule}
use Rattle.histar_flat.specs.PathOrder.{parent}
use Rattle.histar_flat.proofs.FileLemmas.{same_path_found}
use Rattle.histar_flat.proofs.Finding.{first, second, find_first, find_later}
use Rattle.histar_flat.proofs.Refusals.{passed, passes_first, passes_later}
use Rattle.histar_object.specs.State.{State}
use Rattle.histar_layout.specs.Listing.{is_directory}
use Rattle.histar_layout.specs.UserTable.{without_passwords}
use Rattle.histar_layout.specs.declared.entry.Target.{Target}
use Rattle.histar_layout.specs.declared.entry.Target.TheVariants as targets
use Rattle.histar_programs.specs.declared.roots.Roots.{Roots}
use Rattle.histar_programs.specs.Start.{roots_of}
use Rattle.histar_refinement.specs.Directories.{directory_of}
use Rattle.histar_refinement.specs.Represents.{ObjectsMatch}
use Rattle.histar_refinement.proofs.Lent.{shows_directory}
use Rattle.histar_refinement.proofs.LinesMatched.{directory_back}
use Rattle.histar_refinement.proofs.Making.{count_entries}
use Rattle.histar_readout.specs.Resolve.{LeadsTo, Resolves}
use Rattle.histar_names.specs.Births.{Births}
use Rattle.histar_reasons.specs.Causes.{innermost, unwritten}
use Rattle.histar_reasons.specs.Reasons.{Reason, not_read, not_written, root_reason, unmade, why, why_into, why_need, why_not_found, why_walk}
use Rattle.histar_reasons.specs.Reasons.Reason.{MayNotRead, MayNotWrite, IsMissing, HasFile, HasDirectory, IsTaken, IsFull, IsNotEmpty}
use Rattle.histar_reasons.specs.Reasons.Reason.{IsTooLong, HadChildren, HasNumbers, IsInJob, IsNoChild, NoUser, StartsNoJob, WrongPassword}
use Rattle.histar_reasons.proofs.Agreeing.{directory_there}
use Rattle.histar_why.specs.declared.asked.Asked.{Asked}
use Rattle.histar_why.specs.declared.asked.Kept.{Kept}
use Rattle.histar_why.specs.declared.asked.Kept.TheVariants as kepts
use Rattle.histar_why.specs.declared.asked.Part.{Part}
use Rattle.histar_why.specs.declared.asked.Part.TheVariants as parts
use Rattle.histar_why.specs.declared.asked.ProcessPart.TheVariants as of_process
use Rattle.histar_why.specs.declared.names.Caller.{Caller}
use Rattle.histar_why.specs.declared.views.View.{View}
use Rattle.histar_why.specs.declared.ways.Spot.{Spot}
use Rattle.histar_why.specs.Asked.{IsAsked, beside_of, mode_of, other_of, parts_of, user_of}
use Rattle.histar_why.specs.Asked.{bytes_of as call_bytes}
use Rattle.histar_why.specs.Names.{process_of}
use Rattle.histar_names.specs.KnownBirths.{NamesBirths}
use Rattle.histar_why.specs.Barriers.{IsOnWay, barrier_of}
use Rattle.histar_why.specs.Reasons.{bytes_then, first_reason, has_directory, has_file, part_reason, unread_in, unwritten_in}
use Rattle.histar_why.specs.Reasons.{bytes_of as spot_bytes}
use Rattle.histar_why.specs.Views.{CountsEntries, CountsIn, IsViewOf, asks_empty, asks_room}
use Rattle.histar_why.specs.Ways.{IsAt, Reveals, Sight, sight_at, sight_of}
use Rattle.histar_why.proofs.Found.{search_is}
use Rattle.histar_why.proofs.Spots.{is_directory_is, led_directory, node_at, nothing_at, same_number, there_is_some, unread_is}

-- ---- chains of refusals

module _ {E : Type 0} where
  -- where the first of two doesn't refuse, the second is the same
  later : {a x b y : Option E} → a ≡ x → (x ≡ None → b ≡ y) → (a orelse b) ≡ (x orelse y)
  later {x = x} {b = b} {y = y} e h = ap (λ (z : Option E). z orelse b) e ∙ by x h
    where
      by : (z : Option E) → (z ≡ None → b ≡ y) → (z orelse b) ≡ (z orelse y)
      by None k = k refl
      by (Some r) k = refl

  none_last : (a : Option E) → (a orelse None) ≡ a
  none_last None = refl
  none_last (Some e) = refl

  assoc : (a b c : Option E) → ((a orelse b) orelse c) ≡ (a orelse b orelse c)
  assoc None b c = refl
  assoc (Some e) b c = refl

  three : (a b c x : Option E) → ((a orelse b orelse c) orelse x) ≡ (a orelse b orelse c orelse x)
  three a b c x = assoc a (b orelse c) x ∙ ap (λ (y : Option E). a orelse y) (assoc b c x)

  four : (a b c d x : Option E) → ((a orelse b orelse c orelse d) orelse x) ≡ (a orelse b orelse c orelse d orelse x)
  four a b c d x = assoc a (b orelse c orelse d) x ∙ ap (λ (y : Option E). a orelse y) (three b c d x)

  five : (a b c d e x : Option E) → ((a orelse b orelse c orelse d orelse e) orelse x) ≡ (a orelse b orelse c orelse d orelse e orelse x)
  five a b c d e x = assoc a (b orelse c orelse d orelse e) x ∙ ap (λ (y : Option E). a orelse y) (four b c d e x)

  -- where a chain refuses, and its last test is only known to refuse if the others don't
  last_refuses : (a b : Option E) (passes : Bool) (e : E) → is_some (a orelse b orelse unless passes e) ≡ true
      → (a orelse b orelse Some e) ≡ (a orelse b orelse unless passes e)
  last_refuses (Some x) b passes e h = refl
  last_refuses None (Some x) passes e h = refl
  last_refuses None None true e h = absurd (true≢false (sym h))
  last_refuses None None false e h = refl

-- ---- a path with no directory has no entries

module _ (d : Path) where
  none_in : (es : List (Path × Node)) → T (is_sorted path_cmp es)
      → ((n : Name) (there : Node) → find path_cmp (n ∷ d) es ≡ Some there → ⊥) → filter_map (entry_in d) es ≡ []
  none_in [] h lacks = refl
  none_in (e ∷ es) h lacks = step e.0 e.1 lacks (none_in es (second (below_all path_cmp e.0 es) _ h)
      (λ n there is. lacks n there (find_later path_cmp_total path_cmp_exact e.0 e.1 es (n ∷ d) there (first (below_all path_cmp e.0 es) _ h) is)))
    where
      step : (r : Path) (x : Node) → ((n : Name) (there : Node) → find path_cmp (n ∷ d) ((r, x) ∷ es) ≡ Some there → ⊥)
          → filter_map (entry_in d) es ≡ [] → filter_map (entry_in d) ((r, x) ∷ es) ≡ []
      step [] x lacks rest = rest
      step (n ∷ above) x lacks rest = elim (same_path_found d above) [
        | inl t ↦ absurd (lacks n x (subst (λ (a : Path). find path_cmp (n ∷ d) ((n ∷ a, x) ∷ es) ≡ Some x) t.1
            (find_first path_cmp_total path_cmp_exact (n ∷ d) x es)))
        | inr t ↦
            subst (λ b. cons_option (cond b (Some (n, is_dir x)) None) (filter_map (entry_in d) es) ≡ []) (sym t.0) rest
      ]

no_entries : (f : Flat) → IsTree f → (d : Path) → is_dir_at f d ≡ false → entries_in f d ≡ []
no_entries f tree d none =
    none_in d f.files.entries f.files.sorted (λ n there is.
    true≢false (sym (tree.below n d (ap (λ (o : Option Node). is_some_and o (λ x. true)) is)) ∙ none))

-- ---- users

module _ (name : Name) where
  some_more : (b : ℕ) → nat_lt 0 (suc b) ≡ true
  some_more b = grind (arith, nat_tests)

  longer : (a b : ℕ) → nat_lt (1 + a) (suc b) ≡ nat_lt a b
  longer a b = grind (arith, nat_tests)

  named_place : (users : List User) → is_some (user_named users name) ≡ nat_lt (position_or_len (λ (u : User). same u.name name) users) (length users)
  named_place [] = refl
  named_place (u ∷ users) = by (same u.name name) (named_place users)
    where
      by : (b : Bool) → is_some (user_named users name) ≡ nat_lt (position_or_len (λ (v : User). same v.name name) users) (length users)
          → is_some (cond b (Some u) (user_named users name))
          ≡ nat_lt (cond (not b) (1 + position_or_len (λ (v : User). same v.name name) users) 0) (suc (length users))
      by true rest = sym (some_more (length users))
      by false rest = rest ∙ sym (longer (position_or_len (λ (v : User). same v.name name) users) (length users))

  some_if : (b : Bool) (k : ℕ) → is_some (option_map (λ place. place + 1) (cond b (Some k) None)) ≡ b
  some_if true k = refl
  some_if false k = refl

  user_is : (accounts : Accounts) → is_some (user_number (without_passwords accounts) name) ≡ is_some (user_named accounts.users name)
  user_is accounts = ap is_some (same_number accounts name) ∙ some_if _ _ ∙ sym (named_place accounts.users)

made_is : (accounts : Accounts) (p : Process) (mode : Mode) → class_made (without_passwords accounts) p mode ≡ class_made accounts p mode
made_is accounts p mode = ap (λ (c : Option Class). if is_free p then c else Some (Scratch p.user p.chain)) (free mode)
  where
    free : (m : Mode) → free_class (without_passwords accounts) p m ≡ free_class accounts p m
    free modes.Private = refl
    free modes.Readable = refl
    free modes.Open = refl
    free (modes.Group group) = refl

-- ---- what a view reveals

module _ (accounts : Accounts) (s : State) (f : Flat) (births : Births) (names : NamesBirths births accounts s f)
    (tree : IsTree f) (p : Process) where
  abbrev users : Accounts
  users = without_passwords accounts

  abbrev roots : Roots
  roots = roots_of (length accounts.users)

  abbrev l : ObjectsMatch accounts s f
  l = names.represents.matched

  abbrev At : Path → Option Spot → Type 0
  At q found = IsAt users roots births s accounts f p q found

  -- why the process may not read or write what is there
  read_is : (q : Path) (found : Option Spot) → At q found → option_map (MayNotRead q) (unread_in found) ≡ not_read accounts f p q
  read_is q found at = ap (option_map (MayNotRead q)) (unread_is accounts s f births names p found (get f.files q) at.seen)

  write_is : (q : Path) (found : Option Spot) → At q found → is_there f q ≡ true
      → option_map (MayNotWrite q) (unwritten_in found) ≡ not_written accounts f p q
  write_is q found at there = ap (option_map (MayNotWrite q)) (by found (get f.files q) there at.seen)
    where
      by : (x : Option Spot) (o : Option Node) → is_some_and o (λ n. true) ≡ true
          → option_map sight_of x ≡ option_map (sight_at accounts p) o → unwritten_in x ≡ unwritten accounts p (class_of o)
      by x None is e = absurd (true≢false (sym is))
      by None (Some node) is e = absurd (none-some _ e)
      by (Some spot) (Some node) is e = ap (λ (y : Sight). y.unwritten) (same_Some _ _ e)

  -- whether something is there, a directory, a file
  there_is : (q : Path) (found : Option Spot) → At q found → is_some found ≡ is_there f q
  there_is q found at = there_is_some accounts s f births names p found (get f.files q) at.seen

  directory_is : (q : Path) (found : Option Spot) → At q found → has_directory found ≡ is_dir_at f q
  directory_is q found at = is_directory_is accounts s f births names p found (get f.files q) at.seen

  file_is : (q : Path) (found : Option Spot) → At q found → has_file found ≡ is_file_at f q
  file_is q found at = by found (get f.files q) at.seen
    where
      by : (x : Option Spot) (o : Option Node) → option_map sight_of x ≡ option_map (sight_at accounts p) o
          → has_file x ≡ is_some_and o (λ n. not (is_dir n))
      by None None e = refl
      by None (Some node) e = absurd (none-some _ e)
      by (Some spot) None e = absurd (none-some _ (sym e))
      by (Some spot) (Some node) e = ap (λ (x : Sight). not x.is_directory) (same_Some _ _ e)

  bytes_is : (q : Path) (found : Option Spot) → At q found → spot_bytes found ≡ length (bytes_at f q)
  bytes_is q found at = by found (get f.files q) at.seen
    where
      by : (x : Option Spot) (o : Option Node) → option_map sight_of x ≡ option_map (sight_at accounts p) o → spot_bytes x ≡ length (bytes_of o)
      by None None e = refl
      by None (Some node) e = absurd (none-some _ e)
      by (Some spot) None e = absurd (none-some _ (sym e))
      by (Some spot) (Some node) e = ap (λ (x : Sight). x.bytes) (same_Some _ _ e)

  -- how many entries there are
  entries_are : (q : Path) (found : Option Spot) → At q found → (n : ℕ) → CountsEntries s found n → n ≡ length (entries_in f q)
  entries_are q None at n is =
      is ∙ sym (ap length (no_entries f tree q (sym (directory_is q None at))))
  entries_are q (Some spot) at n is = by spot.target refl is
    where
      by : (t : Target) → spot.target ≡ t → CountsIn s t n → n ≡ length (entries_in f q)
      by (targets.File file) e zero_is =
          let node = node_at accounts s f births names q spot.target at.leads in
          let no_dir : is_dir_at f q ≡ false =
          ap (λ (o : Option Node). is_some_and o is_dir) node.at ∙ sym node.kind ∙ ap is_directory e in
          zero_is ∙ sym (ap length (no_entries f tree q no_dir))
      by (targets.Directory c g) e counts =
          let back = directory_back accounts s f l q c g (led_directory accounts s f births names q c g (subst (LeadsTo s roots q) e at.leads)) in
          counts (directory_of f.files l.naming.number q) (shows_directory accounts s f l q g back.0 back.2) ∙ count_entries accounts s f l q

  -- whether something has the name that the call gives
  beside_is : (q : Path) (name : Name) (found : Option Target) → Resolves s roots (name ∷ parent q) found
      → is_some found ≡ is_there f (name ∷ parent q)
  unfolding Resolves
  beside_is q name None nowhere =
      sym (ap (λ (o : Option Node). is_some_and o (λ n. true)) (nothing_at accounts s f births names (name ∷ parent q) nowhere))
  beside_is q name (Some target) led =
      sym (ap (λ (o : Option Node). is_some_and o (λ n. true)) (node_at accounts s f births names (name ∷ parent q) target led).at)

  -- ---- part by part

  module _ (line : CallLine) (caller : Caller) (caller_is : process_of caller ≡ p) (asked : Asked) (is_asked : IsAsked line asked)
      (view : View) (is : IsViewOf users roots births s caller asked view) where
    abbrev me : ProcName
    me = line.process

    abbrev call : UnixCall
    call = line.call

    abbrev q : Path
    q = path_of call

    path_is : view.asked.now.path ≡ q
    path_is = ap (λ (x : Asked). x.path) is.asked_is ∙ is_asked.path

    me_is : view.asked.now.process ≡ me
    me_is = ap (λ (x : Asked). x.process) is.asked_is ∙ is_asked.by

    p_is : process_of view.caller.now ≡ p
    p_is = ap process_of is.caller_is ∙ caller_is

    revealed : Reveals users roots births s accounts f
    revealed = record { users_are = refl; roots_are = refl; names = names }

    way_is : IsOnWay q view.facts.now.way.walk × (option_map (barrier_of q) view.facts.now.way.walk ≡ why_walk accounts f p q)
        × At (parent q) view.facts.now.way.above × At q view.facts.now.way.here
    way_is =
        let way = is.facts.way accounts f revealed in
        subst (λ (x : Process × Path). IsOnWay x.1 view.facts.now.way.walk
        × (option_map (barrier_of x.1) view.facts.now.way.walk ≡ why_walk accounts f x.0 x.1)
        × IsAt users roots births s accounts f x.0 (parent x.1) view.facts.now.way.above
        × IsAt users roots births s accounts f x.0 x.1 view.facts.now.way.here)
        (λ i. (caller_is i, is_asked.path i)) way

    above_is : At (parent q) view.facts.now.way.above
    above_is = way_is.2

    here_is : At q view.facts.now.way.here
    here_is = way_is.3

    abbrev reason : Part → Option Reason
    reason = part_reason view

    walk_met : reason parts.Walk ≡ why_walk accounts f p q
    walk_met = ap (λ (x : Path). option_map (barrier_of x) view.facts.now.way.walk) path_is ∙ way_is.1

    root_met : (e : Errno) → reason (parts.NotRoot e) ≡ unless (is_below_root q) (root_reason e q)
    root_met e = λ i. unless (is_below_root (path_is i)) (root_reason e (path_is i))

    exists_met : reason parts.Exists ≡ unless (is_there f q) (IsMissing q)
    exists_met = λ i. unless (there_is q view.facts.now.way.here here_is i) (IsMissing (path_is i))

    file_met : reason parts.IsFile ≡ unless (is_file_at f q) (HasDirectory q)
    file_met = λ i. unless (file_is q view.facts.now.way.here here_is i) (HasDirectory (path_is i))

    directory_met : reason parts.IsDirectory ≡ unless (is_dir_at f q) (HasFile q)
    directory_met = λ i. unless (directory_is q view.facts.now.way.here here_is i) (HasFile (path_is i))

    absent_met : reason parts.Absent ≡ unless (not (is_there f q)) (IsTaken q)
    absent_met = λ i. unless (not (there_is q view.facts.now.way.here here_is i)) (IsTaken (path_is i))

    beside_met : (name : Name) → beside_of call ≡ Some name
        → reason parts.AbsentBeside ≡ unless (not (is_there f (name ∷ parent q))) (IsTaken (name ∷ parent q))
    beside_met name given =
        let beside : MatchOption (Some name) (view.facts.now.beside ≡ false)
        (λ n. (found : Option Target) × Resolves s roots (n ∷ parent asked.path) found × (view.facts.now.beside ≡ is_some found)) =
        subst (λ (o : Option Name). MatchOption o (view.facts.now.beside ≡ false)
        (λ n. (found : Option Target) × Resolves s roots (n ∷ parent asked.path) found
        × (view.facts.now.beside ≡ is_some found))) (is_asked.beside ∙ given) is.facts.beside in
        let there : view.facts.now.beside ≡ is_there f (name ∷ parent q) =
        beside.2 ∙ beside_is q name beside.0 (subst (λ (x : Path). Resolves s roots (name ∷ parent x) beside.0) is_asked.path beside.1) in
        ap (option_and_then (λ (n : Name). unless (not view.facts.now.beside) (IsTaken (n ∷ parent view.asked.now.path))))
        (ap (λ (x : Asked). x.beside) is.asked_is ∙ is_asked.beside ∙ given)
        ∙ (λ i. unless (not (there i)) (IsTaken (name ∷ parent (path_is i))))

    read_met : reason parts.MayRead ≡ not_read accounts f p q
    read_met = ap (λ (x : Path). option_map (MayNotRead x) (unread_in view.facts.now.way.here)) path_is ∙ read_is q view.facts.now.way.here here_is

    write_met : is_there f q ≡ true → reason parts.MayWrite ≡ not_written accounts f p q
    write_met there =
        ap (λ (x : Path). option_map (MayNotWrite x) (unwritten_in view.facts.now.way.here)) path_is
        ∙ write_is q view.facts.now.way.here here_is there

    -- where the process can walk to the path, its directory is there
    parent_there : (r : Path) → why_walk accounts f p r ≡ None → is_there f (parent r) ≡ true
    parent_there [] walked = directory_there (get f.files []) tree.root
    parent_there (n ∷ []) walked = directory_there (get f.files []) tree.root
    parent_there (n ∷ m ∷ d) walked =
        passed (is_there f (m ∷ d)) (IsMissing (m ∷ d)) (passes_first _ _ (passes_later (why_into accounts f p d) _ walked))

    write_above_met : why_walk accounts f p q ≡ None → reason parts.MayWriteAbove ≡ not_written accounts f p (parent q)
    write_above_met walked =
        ap (λ (x : Path). option_map (MayNotWrite (parent x)) (unwritten_in view.facts.now.way.above)) path_is
        ∙ write_is (parent q) view.facts.now.way.above above_is (parent_there q walked)

    room_met : asks_room (parts_of call) ≡ true → reason parts.HasRoomAbove
        ≡ unless (nat_lt (length (entries_in f (parent q))) most_entries) (IsFull (parent q) (length (entries_in f (parent q))))
    room_met asks =
        let counts = is.facts.above (ap asks_room is_asked.parts ∙ asks) in
        let n = entries_are (parent q) view.facts.now.way.above above_is view.facts.now.above counts in
        λ i. unless (nat_lt (n i) most_entries) (IsFull (parent (path_is i)) (n i))

    empty_met : asks_empty (parts_of call) ≡ true
        → reason parts.IsEmpty ≡ unless (length (entries_in f q) == 0) (IsNotEmpty q (length (entries_in f q)))
    empty_met asks =
        let counts = is.facts.here (ap asks_empty is_asked.parts ∙ asks) in
        let n = entries_are q view.facts.now.way.here here_is view.facts.now.here counts in
        λ i. unless (n i == 0) (IsNotEmpty (path_is i) (n i))

    -- how many bytes the file would have
    abbrev made_of : Kept → List ℕ → List ℕ
    made_of kepts.All bytes = bytes_at f q ++ bytes
    made_of kepts.Nothing bytes = bytes

    bytes_are : (kept : Kept) (bytes : List ℕ) → bytes_then kept view.facts.now.way.here (length bytes) ≡ length (made_of kept bytes)
    bytes_are kepts.All bytes =
        ap (λ (n : ℕ). n + length bytes) (bytes_is q view.facts.now.way.here here_is) ∙ sym (length-append (bytes_at f q) bytes)
    bytes_are kepts.Nothing bytes = omega arith

    fits_met : (kept : Kept) (bytes : List ℕ) → call_bytes call ≡ bytes → reason (parts.Fits kept)
        ≡ unless (nat_le (length (made_of kept bytes)) most_bytes) (IsTooLong q (length (made_of kept bytes)))
    fits_met kept bytes given =
        let new : view.asked.now.new ≡ length bytes = ap (λ (x : Asked). x.new) is.asked_is ∙ is_asked.new ∙ ap length given in
        let total : bytes_then kept view.facts.now.way.here view.asked.now.new ≡ length (made_of kept bytes) =
        ap (bytes_then kept view.facts.now.way.here) new ∙ bytes_are kept bytes in
        λ i. unless (nat_le (total i) most_bytes) (IsTooLong (path_is i) (total i))

    make_met : (mode : Mode) → mode_of call ≡ mode
        → reason (parts.OfProcess of_process.MayMake) ≡ unless (is_some (class_made accounts p mode)) (unmade mode)
    make_met mode given =
        let same : view.asked.now.mode ≡ mode = ap (λ (x : Asked). x.mode) is.asked_is ∙ is_asked.mode ∙ given in
        (λ i. unless (is_some (class_made (is.users_are i) (p_is i) (same i))) (unmade (same i)))
        ∙ ap (λ (c : Option Class). unless (is_some c) (unmade mode)) (made_is accounts p mode)

    child_left_met : reason (parts.OfProcess of_process.HasChildLeft) ≡ unless (nat_lt p.born most_children) (HadChildren p.born)
    child_left_met = λ i. unless (nat_lt (p_is i).born most_children) (HadChildren (p_is i).born)

    number_left_met : reason (parts.OfProcess of_process.HasNumberLeft) ≡ unless (nat_lt (length me) most_numbers) (HasNumbers (length me + 1))
    number_left_met = λ i. unless (nat_lt (length (me_is i)) most_numbers) (HasNumbers (length (me_is i) + 1))

    found_met : (name : ProcName) → other_of call ≡ name → reason (parts.OfProcess of_process.Found) ≡ why_not_found accounts f p name
    found_met name given =
        is.facts.sought ∙ search_is accounts s f births names (process_of caller) asked.other
        ∙ (λ i. why_not_found accounts f (caller_is i) ((is_asked.other ∙ given) i))

    child_met : (name : ProcName) → other_of call ≡ name
        → reason (parts.OfProcess of_process.IsChild) ≡ unless (is_child me name) (IsNoChild name)
    child_met name given =
        let other : view.asked.now.other ≡ name = ap (λ (x : Asked). x.other) is.asked_is ∙ is_asked.other ∙ given in
        λ i. unless (is_child (me_is i) (other i)) (IsNoChild (other i))

    user_given : (name : Name) → user_of call ≡ Some name → view.asked.now.user ≡ Some name
    user_given name given = ap (λ (x : Asked). x.user) is.asked_is ∙ is_asked.user ∙ given

    user_met : (name : Name) → user_of call ≡ Some name
        → reason (parts.OfProcess of_process.IsUser) ≡ unless (is_some (user_named accounts.users name)) (NoUser name)
    user_met name given =
        (λ i. option_and_then (λ (n : Name). unless (is_some (user_number (is.users_are i) n)) (NoUser n)) (user_given name given i))
        ∙ ap (λ (b : Bool). unless b (NoUser name)) (user_is name accounts)

    password_met : (name : Name) → user_of call ≡ Some name → reason (parts.OfProcess of_process.HasPassword) ≡ Some (WrongPassword name)
    password_met name given = ap (option_map WrongPassword) (user_given name given)

    job_met : reason (parts.OfProcess of_process.InNoJob) ≡ option_map IsInJob (innermost p)
    job_met = λ i. option_map IsInJob (innermost (p_is i))

    somebody_met : reason (parts.OfProcess of_process.IsSomebody) ≡ unless (not (same p.user nobody)) StartsNoJob
    somebody_met = λ i. unless (not (same (p_is i).user nobody)) StartsNoJob

    -- ---- call by call

    abbrev firsts : List Part → Option Reason
    firsts = first_reason view

    -- an entry that is made, a file whose bytes change, and an entry that is removed or renamed
    room_first : asks_room (parts_of call) ≡ true → (last : Part) (x : Option Reason) → reason last ≡ x
        → firsts (parts.NotRoot EEXIST ∷ parts.Walk ∷ parts.Absent ∷ parts.HasRoomAbove ∷ parts.MayWriteAbove ∷ last ∷ [])
        ≡ ((unless (is_below_root q) (root_reason EEXIST q) orelse why_walk accounts f p q orelse unless (not (is_there f q)) (IsTaken q)
        orelse unless (nat_lt (length (entries_in f (parent q))) most_entries) (IsFull (parent q) (length (entries_in f (parent q))))
        orelse not_written accounts f p (parent q)) orelse x)
    room_first asks last x e =
        later (root_met EEXIST) (λ root. later walk_met (λ walked. λ i.
        absent_met i orelse room_met asks i orelse write_above_met walked i orelse (none_last (reason last) ∙ e) i))
        ∙ sym (five (unless (is_below_root q) (root_reason EEXIST q)) (why_walk accounts f p q) (unless (not (is_there f q)) (IsTaken q))
        (unless (nat_lt (length (entries_in f (parent q))) most_entries) (IsFull (parent q) (length (entries_in f (parent q)))))
        (not_written accounts f p (parent q)) x)

    file_first : (more : List Part) (x : Option Reason) → (is_there f q ≡ true → firsts more ≡ x)
        → firsts (parts.NotRoot EISDIR ∷ parts.Walk ∷ parts.Exists ∷ parts.IsFile ∷ more)
        ≡ ((unless (is_below_root q) (root_reason EISDIR q) orelse why_walk accounts f p q orelse unless (is_there f q) (IsMissing q)
        orelse unless (is_file_at f q) (HasDirectory q)) orelse x)
    file_first more x e =
        later (root_met EISDIR) (λ root. later walk_met (λ walked. later exists_met (λ there. λ i.
        file_met i orelse e (passed (is_there f q) (IsMissing q) there) i)))
        ∙ sym (four (unless (is_below_root q) (root_reason EISDIR q)) (why_walk accounts f p q) (unless (is_there f q) (IsMissing q))
        (unless (is_file_at f q) (HasDirectory q)) x)

    entry_first : (more : List Part) (x : Option Reason) → (why_walk accounts f p q ≡ None → firsts more ≡ x)
        → firsts (parts.NotRoot EBUSY ∷ parts.Walk ∷ parts.Exists ∷ more)
        ≡ ((unless (is_below_root q) (root_reason EBUSY q) orelse why_walk accounts f p q orelse unless (is_there f q) (IsMissing q)) orelse x)
    entry_first more x e =
        later (root_met EBUSY) (λ root. later walk_met (λ walked. λ i. exists_met i orelse e walked i))
        ∙ sym (three (unless (is_below_root q) (root_reason EBUSY q)) (why_walk accounts f p q) (unless (is_there f q) (IsMissing q)) x)

    written_last : why_walk accounts f p q ≡ None → firsts (parts.MayWriteAbove ∷ []) ≡ not_written accounts f p (parent q)
    written_last walked = none_last (reason parts.MayWriteAbove) ∙ write_above_met walked

    -- the first part that is not met is that of the rule
    call_met : (c : UnixCall) → call ≡ c → is_some (why_need accounts f me p q (rule c).needs) ≡ true
        → firsts (parts_of c) ≡ why_need accounts f me p q (rule c).needs
    call_met (Create r mode) e refused =
        room_first (ap (λ c. asks_room (parts_of c)) e) (parts.OfProcess of_process.MayMake) _ (make_met mode (ap mode_of e))
    call_met (Mkdir r mode) e refused =
        room_first (ap (λ c. asks_room (parts_of c)) e) (parts.OfProcess of_process.MayMake) _ (make_met mode (ap mode_of e))
    call_met (Read r) e refused = file_first (parts.MayRead ∷ []) _ (λ there. none_last (reason parts.MayRead) ∙ read_met)
    call_met (Write r bytes) e refused =
        file_first (parts.MayWrite ∷ parts.Fits kepts.Nothing ∷ []) _
        (λ there. λ i.
        write_met there i orelse (none_last (reason (parts.Fits kepts.Nothing)) ∙ fits_met kepts.Nothing bytes (ap call_bytes e)) i)
    call_met (Append r bytes) e refused =
        file_first (parts.MayWrite ∷ parts.Fits kepts.All ∷ []) _
        (λ there. λ i.
        write_met there i orelse (none_last (reason (parts.Fits kepts.All)) ∙ fits_met kepts.All bytes (ap call_bytes e)) i)
    call_met (ListCall r) e refused =
        λ i. walk_met i orelse exists_met i orelse directory_met i orelse (none_last (reason parts.MayRead) ∙ read_met) i
    call_met (Stat r) e refused = λ i. walk_met i orelse (none_last (reason parts.Exists) ∙ exists_met) i
    call_met (Unlink r) e refused = entry_first (parts.IsFile ∷ parts.MayWriteAbove ∷ []) _ (λ walked. λ i. file_met i orelse written_last walked i)
    call_met (Rmdir r) e refused =
        entry_first (parts.IsDirectory ∷ parts.MayRead ∷ parts.IsEmpty ∷ parts.MayWriteAbove ∷ []) _
        (λ walked. λ i.
        directory_met i orelse read_met i orelse empty_met (ap (λ c. asks_empty (parts_of c)) e) i orelse written_last walked i)
    call_met (Rmtree r) e refused = entry_first (parts.MayWriteAbove ∷ []) _ written_last
    call_met (Rename r name) e refused =
        entry_first (parts.AbsentBeside ∷ parts.MayWriteAbove ∷ []) _
        (λ walked. λ i. beside_met name (ap beside_of e) i orelse written_last walked i)
    call_met Spawn e refused = λ i. child_left_met i orelse (none_last (reason (parts.OfProcess of_process.HasNumberLeft)) ∙ number_left_met) i
    call_met (Exit n) e refused = refl
    call_met (Status name) e refused = none_last (reason (parts.OfProcess of_process.Found)) ∙ found_met name (ap other_of e)
    call_met (Kill name) e refused =
        λ i. found_met name (ap other_of e) i
        orelse (none_last (reason (parts.OfProcess of_process.IsChild)) ∙ child_met name (ap other_of e)) i
    call_met Whoami e refused = refl
    call_met (Login name password) e refused =
        (λ i. user_met name (ap user_of e) i orelse job_met i
        orelse (none_last (reason (parts.OfProcess of_process.HasPassword)) ∙ password_met name (ap user_of e)) i)
        ∙ last_refuses (unless (is_some (user_named accounts.users name)) (NoUser name)) (option_map IsInJob (innermost p)) _
        (WrongPassword name) refused
    call_met (Wrap r) e refused =
        (λ i. child_left_met i orelse number_left_met i orelse room_first (ap (λ c. asks_room (parts_of c)) e)
        (parts.OfProcess of_process.IsSomebody) _ somebody_met i)
        ∙ sym (assoc (unless (nat_lt p.born most_children) (HadChildren p.born))
        (unless (nat_lt (length me) most_numbers) (HasNumbers (length me + 1))) _)

    -- so the reason that is found is the rule's
    pub reason_is : is_some (why accounts f me p call) ≡ true → first_reason view asked.parts.now ≡ why accounts f me p call
    reason_is refused = ap firsts is_asked.parts ∙ call_met call refl refused
