-- There is a reason exactly where a need is not met, and the refusal is the reason's.
use Rattle.std.specs.Prelude.{◌≡◌, Bool, true, false, [], ◌∷◌, length, Option, None, Some, is_some, option_map, refl}
use Rattle.std.proofs.Common.{sym, ap, ◌∙◌}
use Rattle.std.proofs.lemmas.Bool.{true≢false}
use Rattle.histar_base.specs.Refusals.{◌orelse◌, unless}
use Rattle.histar_flat.specs.declared.calls.UnixCall.{UnixCall}
use Rattle.histar_flat.specs.declared.calls.UnixCall.TheVariants.{Create}
use Rattle.histar_flat.specs.declared.calls.Mode.{Mode}
use Rattle.histar_flat.specs.declared.calls.Mode.TheVariants as modes
use Rattle.histar_flat.specs.declared.replies.Errno.{Errno}
use Rattle.histar_flat.specs.declared.replies.Errno.TheVariants.{ENOENT, ENOTDIR, EISDIR, EEXIST, EACCES, EPERM, ENOTEMPTY, EBUSY, ENOSPC, EFBIG}
use Rattle.histar_flat.specs.declared.replies.Errno.TheVariants.{ESRCH, EAGAIN, EAUTH}
use Rattle.histar_flat.specs.Words.{Path, ProcName}
use Rattle.histar_flat.specs.PathOrder.{parent}
use Rattle.histar_flat.specs.Accounts.{Accounts, user_named}
use Rattle.histar_flat.specs.Files.{get}
use Rattle.histar_flat.specs.Classes.{Process, may_read, may_write, sees, is_free}
use Rattle.histar_flat.specs.FlatState.{Flat, Node, is_some_and, is_dir, is_there, is_dir_at, reads, writes}
use Rattle.histar_flat.specs.FlatState.{into, walk, class_of, bytes_at, entries_in}
use Rattle.histar_flat.specs.Needs.{Test, Need, is_below_root, not_found, passes, unmet}
use Rattle.histar_flat.specs.Needs.Test.{NotRoot, Exists, IsFile, IsDirectory, Absent, AbsentBeside, MayRead}
use Rattle.histar_flat.specs.Needs.Test.{MayWrite, MayWriteAbove, HasRoomAbove, IsEmpty}
use Rattle.histar_flat.specs.Needs.Test.{Fits, MayMake, HasChildLeft, HasNumberLeft, IsChild, IsUser, HasPassword, InNoJob, IsSomebody}
use Rattle.histar_flat.specs.Needs.Need.{Nothing, Walk, ◌then◌, ◌or◌, Found}
use Rattle.histar_flat.specs.CallRules.{path_of, rule}
use Rattle.histar_flat.specs.RuleLaws.{Met}
use Rattle.histar_flat.proofs.Trees.{walked_into_directory}
use Rattle.histar_flat.proofs.Warrants.{met}
use Rattle.histar_reasons.specs.Causes.{unknown, unread, unwritten, innermost}
use Rattle.histar_reasons.specs.Reasons.{errno_of, unmade, root_reason, not_read, not_written, why_into, why_walk}
use Rattle.histar_reasons.specs.Reasons.{unseen, why_not_found, why_test, why_need}
use Rattle.histar_reasons.specs.Reasons.Reason.{MayNotRead, MayNotWrite, IsMissing, HasFile, HasDirectory, IsTaken, IsFull, IsNotEmpty}
use Rattle.histar_reasons.specs.Reasons.Reason.{IsTooLong, HadChildren, HasNumbers, NoProcess, IsUnseen, IsNoChild}
use Rattle.histar_reasons.specs.Reasons.Reason.{NoUser, WrongPassword, IsInJob, StartsNoJob}
use Rattle.histar_reasons.specs.Laws.{RefusalsHaveReasons}
use Rattle.histar_reasons.proofs.Options.{none, none_first, mapped_unless, chain}
use Rattle.histar_reasons.proofs.Causes.{read_agrees, write_agrees, innermost_agrees}

-- a directory is something
pub directory_there : (o : Option Node) → is_some_and o is_dir ≡ true → is_some_and o (λ n. true) ≡ true
directory_there None h = absurd (true≢false (sym h))
directory_there (Some n) h = refl

module _ (accounts : Accounts) (p : Process) (q : Path) where
  -- where something is there, there is a reason exactly where it may not be read
  read_at : (o : Option Node) → is_some_and o (λ n. true) ≡ true
      → option_map errno_of (option_map (MayNotRead q) (unread accounts p (class_of o)))
      ≡ unless (is_some_and o (λ n. may_read accounts p n.class)) EACCES
  read_at None h = absurd (true≢false (sym h))
  read_at (Some n) h = by (unread accounts p n.class) (read_agrees accounts p n.class)
    where
      by : (c : Option _) → none c ≡ may_read accounts p n.class
          → option_map errno_of (option_map (MayNotRead q) c) ≡ unless (may_read accounts p n.class) EACCES
      by None e = ap (λ b. unless b EACCES) e
      by (Some c) e = ap (λ b. unless b EACCES) e

  -- the same of writing
  write_at : (o : Option Node) → is_some_and o (λ n. true) ≡ true
      → option_map errno_of (option_map (MayNotWrite q) (unwritten accounts p (class_of o)))
      ≡ unless (is_some_and o (λ n. may_write accounts p n.class)) EACCES
  write_at None h = absurd (true≢false (sym h))
  write_at (Some n) h = by (unwritten accounts p n.class) (write_agrees accounts p n.class)
    where
      by : (c : Option _) → none c ≡ may_write accounts p n.class
          → option_map errno_of (option_map (MayNotWrite q) c) ≡ unless (may_write accounts p n.class) EACCES
      by None e = ap (λ b. unless b EACCES) e
      by (Some c) e = ap (λ b. unless b EACCES) e

  -- one step of a walk
  pub step_agrees : (o : Option Node)
      → option_map errno_of
      (unless (is_some_and o (λ n. true)) (IsMissing q) orelse unless (is_some_and o is_dir) (HasFile q)
      orelse option_map (MayNotRead q) (unread accounts p (class_of o)))
      ≡ (unless (is_some_and o (λ n. true)) ENOENT orelse unless (is_some_and o is_dir) ENOTDIR
      orelse unless (is_some_and o (λ n. may_read accounts p n.class)) EACCES)
  step_agrees None = refl
  step_agrees (Some n) = by (is_dir n)
    where
      by : (b : Bool)
          → option_map errno_of (unless b (HasFile q) orelse option_map (MayNotRead q) (unread accounts p n.class))
          ≡ (unless b ENOTDIR orelse unless (may_read accounts p n.class) EACCES)
      by true = read_at (Some n) refl
      by false = refl

module _ (accounts : Accounts) (f : Flat) (p : Process) where
  pub not_read_agrees : (q : Path) → is_there f q ≡ true → option_map errno_of (not_read accounts f p q) ≡ unless (reads accounts f p q) EACCES
  not_read_agrees q there = read_at accounts p q (get f.files q) there

  pub not_written_agrees : (q : Path) → is_there f q ≡ true → option_map errno_of (not_written accounts f p q) ≡ unless (writes accounts f p q) EACCES
  not_written_agrees q there = write_at accounts p q (get f.files q) there

  -- the way into a directory has a reason exactly where it has a refusal
  pub into_agrees : is_there f [] ≡ true → (d : Path) → option_map errno_of (why_into accounts f p d) ≡ into accounts f p d
  into_agrees root [] = not_read_agrees [] root
  into_agrees root (n ∷ d) =
      chain errno_of (why_into accounts f p d) _ (into accounts f p d) _ (into_agrees root d)
      (λ e. step_agrees accounts p (n ∷ d) (get f.files (n ∷ d)))

  pub walk_agrees : is_there f [] ≡ true → (q : Path) → option_map errno_of (why_walk accounts f p q) ≡ walk accounts f p q
  walk_agrees root [] = refl
  walk_agrees root (n ∷ d) = into_agrees root d

  -- one step of a search
  sought : (name : ProcName) (o : Option Process)
      → option_map errno_of (unless (is_some o) (NoProcess name) orelse unseen accounts f p name o)
      ≡ (unless (is_some o) ESRCH orelse unless (is_some_and o (sees p)) EACCES)
  sought name None = refl
  sought name (Some other) = by (unknown p other.chain) (none_first _ other.chain)
    where
      by : (c : Option ProcName) → none c ≡ sees p other → option_map errno_of (option_map (IsUnseen name) c) ≡ unless (sees p other) EACCES
      by None e = ap (λ b. unless b EACCES) e
      by (Some c) e = ap (λ b. unless b EACCES) e

  -- a search has a reason exactly where it has a refusal
  pub search_agrees : (name : ProcName) → option_map errno_of (why_not_found accounts f p name) ≡ not_found f p name
  search_agrees [] = refl
  search_agrees (n ∷ above) =
      chain errno_of (why_not_found accounts f p above) _ (not_found f p above) _ (search_agrees above)
      (λ e. sought (n ∷ above) (f.processes (n ∷ above)))

-- the refusal that a rule may have for a test
abbrev pub IsFitting : Errno → Test → Type 0
IsFitting EEXIST NotRoot = Unit {0}
IsFitting EISDIR NotRoot = Unit {0}
IsFitting EBUSY NotRoot = Unit {0}
IsFitting ENOENT Exists = Unit {0}
IsFitting EISDIR IsFile = Unit {0}
IsFitting ENOTDIR IsDirectory = Unit {0}
IsFitting EEXIST Absent = Unit {0}
IsFitting EEXIST (AbsentBeside name) = Unit {0}
IsFitting EACCES MayRead = Unit {0}
IsFitting EACCES MayWrite = Unit {0}
IsFitting EACCES MayWriteAbove = Unit {0}
IsFitting ENOSPC HasRoomAbove = Unit {0}
IsFitting ENOTEMPTY IsEmpty = Unit {0}
IsFitting EFBIG (Fits new) = Unit {0}
IsFitting EPERM (MayMake mode) = Unit {0}
IsFitting EAGAIN HasChildLeft = Unit {0}
IsFitting EAGAIN HasNumberLeft = Unit {0}
IsFitting EACCES (IsChild name) = Unit {0}
IsFitting ENOENT (IsUser name) = Unit {0}
IsFitting EAUTH (HasPassword name password) = Unit {0}
IsFitting EACCES InNoJob = Unit {0}
IsFitting EPERM IsSomebody = Unit {0}
IsFitting _ _ = ⊥

module _ (accounts : Accounts) (f : Flat) (me : ProcName) (p : Process) (q : Path) where
  -- what is known when a test is made
  abbrev pub Ground : Test → Type 0
  Ground IsFile = is_there f q ≡ true
  Ground IsDirectory = is_there f q ≡ true
  Ground MayRead = is_there f q ≡ true
  Ground MayWrite = is_there f q ≡ true
  Ground MayWriteAbove = (is_below_root q ≡ true) × (walk accounts f p q ≡ None)
  Ground (HasPassword name password) = is_some (user_named accounts.users name) ≡ true
  Ground _ = Unit {0}

  -- each test of a need has its refusal, and is made when its ground is known
  abbrev pub IsGrounded : Type 0 → Need → Type 0
  IsGrounded Known (a then b) = IsGrounded Known a × IsGrounded (Known × Met accounts f me p q a) b
  IsGrounded Known (test or e) = IsFitting e test × (Known → Ground test)
  IsGrounded Known _ = Unit {0}

  -- so it is in each rule, whatever the path
  pub grounded_at : (call : UnixCall) → IsGrounded (Unit {0}) (rule call).needs
  grounded_at (Create r mode) = assumption
  grounded_at _ = assumption

module _ (accounts : Accounts) (f : Flat) (me : ProcName) (p : Process) (root : is_dir_at f [] ≡ true) where
  -- the directory of a path that is walked to is there
  pub directory_above : (q : Path) → is_below_root q ≡ true → walk accounts f p q ≡ None → is_there f (parent q) ≡ true
  directory_above [] below walked = absurd (true≢false (sym below))
  directory_above (n ∷ d) below walked = directory_there (get f.files d) (walked_into_directory accounts f p root d walked)

  -- a test has a reason exactly where it fails, and its refusal is the reason's
  pub test_agrees : (q : Path) (e : Errno) (test : Test) → IsFitting e test → Ground accounts f me p q test
      → option_map errno_of (why_test accounts f me p q e test) ≡ unless (passes accounts f me p q test) e
  test_agrees q EEXIST NotRoot fits ground = mapped_unless errno_of (is_below_root q) (IsTaken q)
  test_agrees q EISDIR NotRoot fits ground = mapped_unless errno_of (is_below_root q) (HasDirectory q)
  test_agrees q EBUSY NotRoot fits ground = mapped_unless errno_of (is_below_root q) (root_reason EBUSY q)
  test_agrees q ENOENT Exists fits ground = mapped_unless errno_of (passes accounts f me p q Exists) (IsMissing q)
  test_agrees q EISDIR IsFile fits ground = mapped_unless errno_of (passes accounts f me p q IsFile) (HasDirectory q)
  test_agrees q ENOTDIR IsDirectory fits ground = mapped_unless errno_of (passes accounts f me p q IsDirectory) (HasFile q)
  test_agrees q EEXIST Absent fits ground = mapped_unless errno_of (passes accounts f me p q Absent) (IsTaken q)
  test_agrees q EEXIST (AbsentBeside name) fits ground =
      mapped_unless errno_of (passes accounts f me p q (AbsentBeside name)) (IsTaken (name ∷ parent q))
  test_agrees q EACCES MayRead fits ground = not_read_agrees accounts f p q ground
  test_agrees q EACCES MayWrite fits ground = not_written_agrees accounts f p q ground
  test_agrees q EACCES MayWriteAbove fits ground = not_written_agrees accounts f p (parent q) (directory_above q ground.0 ground.1)
  test_agrees q ENOSPC HasRoomAbove fits ground =
      mapped_unless errno_of (passes accounts f me p q HasRoomAbove) (IsFull (parent q) (length (entries_in f (parent q))))
  test_agrees q ENOTEMPTY IsEmpty fits ground = mapped_unless errno_of (passes accounts f me p q IsEmpty) (IsNotEmpty q (length (entries_in f q)))
  test_agrees q EFBIG (Fits new) fits ground =
      mapped_unless errno_of (passes accounts f me p q (Fits new)) (IsTooLong q (length (new (bytes_at f q))))
  test_agrees q EPERM (MayMake mode) fits ground = mapped_unless errno_of (passes accounts f me p q (MayMake mode)) (unmade mode) ∙ by mode
    where
      by : (mode : Mode) → unless (passes accounts f me p q (MayMake mode)) (errno_of (unmade mode))
          ≡ unless (passes accounts f me p q (MayMake mode)) EPERM
      by modes.Private = refl
      by modes.Readable = refl
      by modes.Open = refl
      by (modes.Group group) = refl
  test_agrees q EAGAIN HasChildLeft fits ground = mapped_unless errno_of (passes accounts f me p q HasChildLeft) (HadChildren _)
  test_agrees q EAGAIN HasNumberLeft fits ground = mapped_unless errno_of (passes accounts f me p q HasNumberLeft) (HasNumbers _)
  test_agrees q EACCES (IsChild name) fits ground = mapped_unless errno_of (passes accounts f me p q (IsChild name)) (IsNoChild name)
  test_agrees q ENOENT (IsUser name) fits ground = mapped_unless errno_of (passes accounts f me p q (IsUser name)) (NoUser name)
  test_agrees q EAUTH (HasPassword name password) fits ground =
      mapped_unless errno_of (passes accounts f me p q (HasPassword name password)) (WrongPassword name)
  test_agrees q EACCES InNoJob fits ground = by (innermost p) (innermost_agrees p)
    where
      by : (o : Option ProcName) → none o ≡ is_free p → option_map errno_of (option_map IsInJob o) ≡ unless (is_free p) EACCES
      by None e = ap (λ b. unless b EACCES) e
      by (Some job) e = ap (λ b. unless b EACCES) e
  test_agrees q EPERM IsSomebody fits ground = mapped_unless errno_of (passes accounts f me p q IsSomebody) StartsNoJob
  test_agrees q _ _ fits ground = absurd (fits)

  -- a need has a reason exactly where it is not met, and its refusal is the reason's
  pub agrees : (q : Path) (Known : Type 0) (need : Need) → IsGrounded accounts f me p q Known need → Known
      → option_map errno_of (why_need accounts f me p q need) ≡ unmet accounts f me p q need
  agrees q Known Nothing grounded known = refl
  agrees q Known (a then b) grounded known =
      chain errno_of (why_need accounts f me p q a) (why_need accounts f me p q b) (unmet accounts f me p q a) (unmet accounts f me p q b)
      (agrees q Known a grounded.0 known)
      (λ e. agrees q (Known × Met accounts f me p q a) b grounded.1 (known, met accounts f me p q a e))
  agrees q Known (test or e) grounded known = test_agrees q e test grounded.0 (grounded.1 known)
  agrees q Known Walk grounded known = walk_agrees accounts f p (directory_there (get f.files []) root) q
  agrees q Known (Found name) grounded known = search_agrees accounts f p name

pub refusals_have_reasons : RefusalsHaveReasons
refusals_have_reasons accounts f tree me p call =
    agrees accounts f me p tree.root (path_of call) (Unit {0}) (rule call).needs (grounded_at accounts f me p (path_of call) call) tt
