-- What a reason says is so.
use Rattle.std.specs.Prelude.{◌≡◌, Bool, true, false, not, [], ◌∷◌, length, Option, None, Some, is_some, option_map, if◌then◌else◌, refl}
use Rattle.std.proofs.Common.{sym, ap, ◌∙◌, subst}
use Rattle.std.proofs.lemmas.Bool.{true≢false}
use Rattle.histar_base.specs.Paths.{same}
use Rattle.histar_base.specs.Refusals.{◌orelse◌, unless}
use Rattle.histar_flat.specs.declared.calls.Mode.{Mode}
use Rattle.histar_flat.specs.declared.calls.Mode.TheVariants as modes
use Rattle.histar_flat.specs.declared.replies.Errno.{Errno}
use Rattle.histar_flat.specs.declared.replies.Errno.TheVariants.{EEXIST, EISDIR, EBUSY}
use Rattle.histar_flat.specs.Words.{Path, ProcName}
use Rattle.histar_flat.specs.PathOrder.{parent}
use Rattle.histar_flat.specs.Accounts.{Accounts, user_named, is_member}
use Rattle.histar_flat.specs.Files.{get}
use Rattle.histar_flat.specs.Classes.{Process, nobody, is_free, free_class}
use Rattle.histar_flat.specs.Classes.Class.{Private, Readable, Scratch, Grouped}
use Rattle.histar_flat.specs.FlatState.{Flat, Node, is_some_and, is_dir, is_there, is_dir_at, class_of, bytes_at, entries_in}
use Rattle.histar_flat.specs.Needs.{Test, Need, is_below_root, passes}
use Rattle.histar_flat.specs.Needs.Test.{NotRoot, Exists, IsFile, IsDirectory, Absent, AbsentBeside, MayRead}
use Rattle.histar_flat.specs.Needs.Test.{MayWrite, MayWriteAbove, HasRoomAbove, IsEmpty}
use Rattle.histar_flat.specs.Needs.Test.{Fits, MayMake, HasChildLeft, HasNumberLeft, IsChild, IsUser, HasPassword, InNoJob, IsSomebody}
use Rattle.histar_flat.specs.Needs.Need.{Nothing, Walk, ◌then◌, ◌or◌, Found}
use Rattle.histar_flat.specs.CallRules.{path_of, rule}
use Rattle.histar_flat.specs.RuleLaws.{Met}
use Rattle.histar_flat.proofs.Warrants.{met}
use Rattle.histar_reasons.specs.Causes.{unknown, unread, unwritten, innermost}
use Rattle.histar_reasons.specs.Reasons.{Reason, errno_of, unmade, root_reason, why_into, why_walk, unseen, why_not_found, why_test, why_need}
use Rattle.histar_reasons.specs.Reasons.Reason.{MayNotRead, MayNotWrite, IsMissing, HasFile, HasDirectory, IsTaken, IsFull, IsNotEmpty}
use Rattle.histar_reasons.specs.Reasons.Reason.{IsTooLong, HadChildren, NoProcess, IsUnseen, IsNoChild, NoUser, WrongPassword, IsInJob, StartsNoJob}
use Rattle.histar_reasons.specs.Laws.{IsSo, ReasonsAreSo}
use Rattle.histar_reasons.proofs.Options.{from_map, from_unless, from_orelse, first_is}
use Rattle.histar_reasons.proofs.Causes.{read_fails, write_fails, last_is}
use Rattle.histar_reasons.proofs.Agreeing.{IsGrounded, IsFitting, Ground, directory_there, directory_above, agrees, grounded_at}

-- what is not absent is there
not_absent : (b : Bool) → not b ≡ false → b ≡ true
not_absent true h = refl
not_absent false h = absurd (true≢false h)

-- where something is that is no file, a directory is
no_file : (o : Option Node) → is_some_and o (λ n. true) ≡ true → is_some_and o (λ n. not (is_dir n)) ≡ false → is_some_and o is_dir ≡ true
no_file None there h = absurd (true≢false (sym there))
no_file (Some n) there h = not_absent (is_dir n) h

-- where something is that is no directory, a file is
no_directory : (o : Option Node) → is_some_and o (λ n. true) ≡ true → is_some_and o is_dir ≡ false → is_some_and o (λ n. not (is_dir n)) ≡ true
no_directory None there h = absurd (true≢false (sym there))
no_directory (Some n) there h = ap not h

-- there is no value
no_value : {A : Type 0} (o : Option A) → is_some o ≡ false → o ≡ None
no_value None h = refl
no_value (Some x) h = absurd (true≢false h)

-- a test that chooses nothing has passed
chose_none : {A : Type 0} (b : Bool) (x : A) → is_some (if b then None else Some x) ≡ false → b ≡ true
chose_none true x h = refl
chose_none false x h = absurd (true≢false h)

-- a test that doesn't choose has failed
chose_nothing : {A : Type 0} (b : Bool) (x : A) → is_some (if b then Some x else None) ≡ false → b ≡ false
chose_nothing true x h = absurd (true≢false h)
chose_nothing false x h = refl

module _ (accounts : Accounts) (f : Flat) (me : ProcName) (p : Process) where
  abbrev So : Reason → Type 0
  So = IsSo accounts f me p

  -- where nothing is made of a mode
  free_unmade : (mode : Mode) → is_some (free_class accounts p mode) ≡ false → So (unmade mode)
  free_unmade modes.Private h = chose_none (same p.user nobody) (Private p.user) h
  free_unmade modes.Readable h = chose_none (same p.user nobody) (Readable p.user) h
  free_unmade modes.Open h = absurd (true≢false h)
  free_unmade (modes.Group group) h = chose_nothing (is_member accounts p.user group) (Grouped group) h

  unmade_so : (b : Bool) (mode : Mode) → is_some (if b then free_class accounts p mode else Some (Scratch p.user p.chain)) ≡ false → So (unmade mode)
  unmade_so true mode h = free_unmade mode h
  unmade_so false mode h = absurd (true≢false h)

  -- what may not be read, where something is
  read_so : (q : Path) (o : Option Node) → get f.files q ≡ o → is_some_and o (λ n. true) ≡ true
      → (r : Reason) → option_map (MayNotRead q) (unread accounts p (class_of o)) ≡ Some r → So r
  read_so q None is there r h = absurd (true≢false (sym there))
  read_so q (Some n) is there r h = from_map So (MayNotRead q) (unread accounts p n.class) r (λ c e. (n, is, read_fails accounts p n.class c e)) h

  -- what may not be written, where something is
  write_so : (q : Path) (o : Option Node) → get f.files q ≡ o → is_some_and o (λ n. true) ≡ true
      → (r : Reason) → option_map (MayNotWrite q) (unwritten accounts p (class_of o)) ≡ Some r → So r
  write_so q None is there r h = absurd (true≢false (sym there))
  write_so q (Some n) is there r h =
      from_map So (MayNotWrite q) (unwritten accounts p n.class) r (λ c e. (n, is, write_fails accounts p n.class c e)) h

  -- one step of a walk
  step_so : (q : Path) (o : Option Node) → get f.files q ≡ o → (r : Reason)
      → (unless (is_some_and o (λ n. true)) (IsMissing q) orelse unless (is_some_and o is_dir) (HasFile q)
      orelse option_map (MayNotRead q) (unread accounts p (class_of o))) ≡ Some r
      → So r
  step_so q None is r h = let said : IsMissing q ≡ r = cc in subst So said (ap (λ o. is_some_and o (λ n. true)) is)
  step_so q (Some n) is r h =
      from_orelse So (unless (is_dir n) (HasFile q)) (option_map (MayNotRead q) (unread accounts p n.class)) r
      (from_unless So (is_dir n) (HasFile q) r (λ e. ap (λ o. is_some_and o (λ n. not (is_dir n))) is ∙ ap not e))
      (λ e. read_so q (Some n) is refl r)
      h

  -- one step of a search
  sought_so : (name : ProcName) (o : Option Process) → f.processes name ≡ o → (r : Reason)
      → (unless (is_some o) (NoProcess name) orelse unseen accounts f p name o) ≡ Some r → So r
  sought_so name None is r h = let said : NoProcess name ≡ r = cc in subst So said is
  sought_so name (Some other) is r h = from_map So (IsUnseen name) (unknown p other.chain) r (λ job e. (other, is, first_is _ other.chain job e)) h

  search_so : (name : ProcName) (r : Reason) → why_not_found accounts f p name ≡ Some r → So r
  search_so [] r h = absurd (cc)
  search_so (n ∷ above) r h =
      from_orelse So (why_not_found accounts f p above) _ r (search_so above r) (λ e i. sought_so (n ∷ above) (f.processes (n ∷ above)) refl r i) h

  module _ (root : is_dir_at f [] ≡ true) where
    way_so : (d : Path) (r : Reason) → why_into accounts f p d ≡ Some r → So r
    way_so [] r h = read_so [] (get f.files []) refl (directory_there (get f.files []) root) r h
    way_so (n ∷ d) r h = from_orelse So (why_into accounts f p d) _ r (way_so d r) (λ e i. step_so (n ∷ d) (get f.files (n ∷ d)) refl r i) h

    walk_so : (q : Path) (r : Reason) → why_walk accounts f p q ≡ Some r → So r
    walk_so [] r h = absurd (cc)
    walk_so (n ∷ d) r h = way_so d r h

    -- what the reason at `/` says is so of `/`
    root_so : (e : Errno) (q : Path) → is_below_root q ≡ false → IsFitting e NotRoot → So (root_reason e q)
    root_so EEXIST [] h fits = directory_there (get f.files []) root
    root_so EISDIR [] h fits = root
    root_so EBUSY [] h fits = tt
    root_so e (n ∷ d) h fits = absurd (true≢false h)
    root_so _ [] h fits = absurd (fits)

    test_so : (q : Path) (e : Errno) (test : Test) → IsFitting e test → Ground accounts f me p q test
        → (r : Reason) → why_test accounts f me p q e test ≡ Some r → So r
    test_so q e NotRoot fits ground r = from_unless So (is_below_root q) (root_reason e q) r (λ h. root_so e q h fits)
    test_so q e Exists fits ground r = from_unless So (passes accounts f me p q Exists) (IsMissing q) r (λ h. h)
    test_so q e IsFile fits ground r = from_unless So (passes accounts f me p q IsFile) (HasDirectory q) r (no_file (get f.files q) ground)
    test_so q e IsDirectory fits ground r = from_unless So (passes accounts f me p q IsDirectory) (HasFile q) r (no_directory (get f.files q) ground)
    test_so q e Absent fits ground r = from_unless So (passes accounts f me p q Absent) (IsTaken q) r (not_absent (is_there f q))
    test_so q e (AbsentBeside name) fits ground r =
        from_unless So (passes accounts f me p q (AbsentBeside name)) (IsTaken (name ∷ parent q)) r (not_absent (is_there f (name ∷ parent q)))
    test_so q e MayRead fits ground r = read_so q (get f.files q) refl ground r
    test_so q e MayWrite fits ground r = write_so q (get f.files q) refl ground r
    test_so q e MayWriteAbove fits ground r =
        write_so (parent q) (get f.files (parent q)) refl (directory_above accounts f me p root q ground.0 ground.1) r
    test_so q e HasRoomAbove fits ground r =
        from_unless So (passes accounts f me p q HasRoomAbove) (IsFull (parent q) (length (entries_in f (parent q)))) r (λ h. (refl, h))
    test_so q e IsEmpty fits ground r = from_unless So (passes accounts f me p q IsEmpty) (IsNotEmpty q (length (entries_in f q))) r (λ h. (refl, h))
    test_so q e (Fits new) fits ground r = from_unless So (passes accounts f me p q (Fits new)) (IsTooLong q (length (new (bytes_at f q)))) r (λ h. h)
    test_so q e (MayMake mode) fits ground r = from_unless So (passes accounts f me p q (MayMake mode)) (unmade mode) r (unmade_so (is_free p) mode)
    test_so q e HasChildLeft fits ground r = from_unless So (passes accounts f me p q HasChildLeft) (HadChildren p.born) r (λ h. (refl, h))
    test_so q e HasNumberLeft fits ground r = from_unless So (passes accounts f me p q HasNumberLeft) _ r (λ h. h)
    test_so q e (IsChild name) fits ground r = from_unless So (passes accounts f me p q (IsChild name)) (IsNoChild name) r (λ h. h)
    test_so q e (IsUser name) fits ground r =
        from_unless So (passes accounts f me p q (IsUser name)) (NoUser name) r (no_value (user_named accounts.users name))
    test_so q e (HasPassword name password) fits ground r =
        from_unless So (passes accounts f me p q (HasPassword name password)) (WrongPassword name) r (λ h. ground)
    test_so q e InNoJob fits ground r = from_map So IsInJob (innermost p) r (λ job h. last_is p.chain job h)
    test_so q e IsSomebody fits ground r = from_unless So (passes accounts f me p q IsSomebody) StartsNoJob r (not_absent (same p.user nobody))

    need_so : (q : Path) (Known : Type 0) (need : Need) → IsGrounded accounts f me p q Known need → Known
        → (r : Reason) → why_need accounts f me p q need ≡ Some r → So r
    need_so q Known Nothing grounded known r h = absurd (cc)
    need_so q Known (a then b) grounded known r h =
        from_orelse So (why_need accounts f me p q a) (why_need accounts f me p q b) r
        (need_so q Known a grounded.0 known r)
        (λ e. need_so q (Known × Met accounts f me p q a) b grounded.1
        (known, met accounts f me p q a (sym (agrees accounts f me p root q Known a grounded.0 known) ∙ ap (option_map errno_of) e)) r)
        h
    need_so q Known (test or e) grounded known r h = test_so q e test grounded.0 (grounded.1 known) r h
    need_so q Known Walk grounded known r h = walk_so q r h
    need_so q Known (Found name) grounded known r h = search_so name r h

pub reasons_are_so : ReasonsAreSo
reasons_are_so accounts f tree me p call r h =
    need_so accounts f me p tree.root (path_of call) (Unit {0}) (rule call).needs (grounded_at accounts f me p (path_of call) call) tt r h
