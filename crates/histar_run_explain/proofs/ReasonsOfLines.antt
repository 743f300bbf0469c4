-- What the reason of a refusal names is of its line: the path of the call or one above it, and the process of the call or one above it.
use Rattle.std.specs.Prelude.{◌≡◌, ◌+◌, List, [], ◌∷◌, length, Option, None, Some, is_some, refl}
use Rattle.std.proofs.Common.{sym, ap, inl, inr, subst}
use Rattle.histar_flat.specs.declared.calls.Mode.{Mode}
use Rattle.histar_flat.specs.declared.calls.Mode.TheVariants as modes
use Rattle.histar_flat.specs.declared.calls.UnixCall.{UnixCall}
use Rattle.histar_flat.specs.declared.calls.UnixCall.TheVariants.{Status, Kill}
use Rattle.histar_flat.specs.declared.replies.Errno.{Errno}
use Rattle.histar_flat.specs.declared.replies.Errno.TheVariants.{EEXIST, EISDIR}
use Rattle.histar_flat.specs.Words.{Path, ProcName}
use Rattle.histar_flat.specs.PathOrder.{parent}
use Rattle.histar_flat.specs.Accounts.{Accounts}
use Rattle.histar_flat.specs.Files.{get}
use Rattle.histar_flat.specs.Classes.{Process}
use Rattle.histar_flat.specs.FlatState.{Flat, is_there, is_dir_at, class_of, bytes_at, entries_in}
use Rattle.histar_flat.specs.Needs.{Test, Need}
use Rattle.histar_flat.specs.Needs.Test.{NotRoot, Exists, IsFile, IsDirectory, Absent, AbsentBeside, MayRead}
use Rattle.histar_flat.specs.Needs.Test.{MayWrite, MayWriteAbove, HasRoomAbove, IsEmpty}
use Rattle.histar_flat.specs.Needs.Test.{Fits, MayMake, HasChildLeft, HasNumberLeft, IsChild, IsUser, HasPassword, InNoJob, IsSomebody}
use Rattle.histar_flat.specs.Needs.Need.{Nothing, Walk, ◌then◌, ◌or◌, Found}
use Rattle.histar_flat.specs.CallRules.{path_of, rule}
use Rattle.histar_reasons.specs.Causes.{unknown, unread, unwritten, innermost}
use Rattle.histar_reasons.specs.Reasons.{Reason, root_reason, unmade, not_read, not_written, why_into, why_walk, unseen}
use Rattle.histar_reasons.specs.Reasons.{why_not_found, why_test, why_need, why}
use Rattle.histar_reasons.specs.Reasons.Reason.{MayNotRead, MayNotWrite, IsMissing, HasFile, HasDirectory, IsTaken, IsFull, IsNotEmpty, IsTooLong}
use Rattle.histar_reasons.specs.Reasons.Reason.{HadChildren, HasNumbers, NoProcess, IsUnseen, IsNoChild, NoUser, WrongPassword, IsInJob, StartsNoJob}
use Rattle.histar_reasons.proofs.Options.{from_map, from_unless, from_orelse}
use Rattle.histar_names.specs.Clues.{process_named}
use Rattle.histar_names.specs.Laws.{IsAtOrAbove}

-- ---- names above names

-- each list is at or above itself
pub at_itself : {A : Type 0} (q : List A) → IsAtOrAbove q q
at_itself [] = refl
at_itself (n ∷ q) = inl refl

-- what is above a name at or above another is above that too
pub one_above : {A : Type 0} (n : A) (d q : List A) → IsAtOrAbove (n ∷ d) q → IsAtOrAbove d q
one_above n d [] above = absurd cc
one_above n d (m ∷ q) (inl here) = inr (subst (λ e. IsAtOrAbove e q) (sym (ap parent here)) (at_itself q))
one_above n d (m ∷ q) (inr above) = inr (one_above n d q above)

-- the name above one is at or above it
pub parent_above : {A : Type 0} (q : List A) → IsAtOrAbove (parent q) q
parent_above [] = refl
parent_above (n ∷ d) = inr (at_itself d)

-- ---- what a reason names

-- A reason names paths at or above a path, and processes at or above a process: what isn't a child is that process.
abbrev pub IsOf : Path → ProcName → Reason → Type 0
IsOf path name (MayNotRead q cause) = IsAtOrAbove q path
IsOf path name (MayNotWrite q cause) = IsAtOrAbove q path
IsOf path name (IsTooLong q n) = IsAtOrAbove q path
IsOf path name (IsUnseen other job) = IsAtOrAbove other name
IsOf path name (IsNoChild other) = other ≡ name
IsOf path name reason = Unit {0}

-- a test of a child is of this process
abbrev TestsProcess : ProcName → Test → Type 0
TestsProcess name (IsChild other) = other ≡ name
TestsProcess name test = Unit {0}

-- a need that finds a process, or tests it as a child, does it with this one
abbrev NamesProcess : ProcName → Need → Type 0
NamesProcess name (a then b) = NamesProcess name a × NamesProcess name b
NamesProcess name (test or e) = TestsProcess name test
NamesProcess name (Found other) = other ≡ name
NamesProcess name need = Unit {0}

-- the needs of each call name the process that the call names
names_process : (me : ProcName) (call : UnixCall) → NamesProcess (process_named me call) (rule call).needs
names_process me (Status name) = refl
names_process me (Kill name) = (refl, refl)
names_process me _ = assumption

module _ (accounts : Accounts) (f : Flat) (me : ProcName) (p : Process) (path : Path) (name : ProcName) where
  abbrev Of : Reason → Type 0
  Of = IsOf path name

  -- a path that may not be read is at or above the path
  unread_of : (q : Path) (r : Reason) → IsAtOrAbove q path → not_read accounts f p q ≡ Some r → Of r
  unread_of q r above = from_map Of (MayNotRead q) (unread accounts p (class_of (get f.files q))) r (λ cause e. above)

  -- so is one that may not be written
  unwritten_of : (q : Path) (r : Reason) → IsAtOrAbove q path → not_written accounts f p q ≡ Some r → Of r
  unwritten_of q r above = from_map Of (MayNotWrite q) (unwritten accounts p (class_of (get f.files q))) r (λ cause e. above)

  -- the walk into a directory at or above the path names what is so too
  into_of : (d : Path) (r : Reason) → IsAtOrAbove d path → why_into accounts f p d ≡ Some r → Of r
  into_of [] r above h = unread_of [] r above h
  into_of (n ∷ d) r above h =
      from_orelse Of (why_into accounts f p d) _ r (into_of d r (one_above n d path above))
      (λ e i. from_orelse Of _ _ r (from_unless Of (is_there f (n ∷ d)) (IsMissing (n ∷ d)) r (λ fails. tt))
      (λ e j. from_orelse Of _ _ r (from_unless Of (is_dir_at f (n ∷ d)) (HasFile (n ∷ d)) r (λ fails. tt))
      (λ e. unread_of (n ∷ d) r above) j) i)
      h

  -- so does the walk to the path
  walk_of : (q : Path) (r : Reason) → q ≡ path → why_walk accounts f p q ≡ Some r → Of r
  walk_of [] r is h = absurd cc
  walk_of (n ∷ d) r is h = into_of d r (one_above n d path (subst (IsAtOrAbove (n ∷ d)) is (at_itself (n ∷ d)))) h

  -- a process that is not seen is the one that is looked for, or above it
  seen_of : (other : ProcName) (o : Option Process) (r : Reason) → IsAtOrAbove other name → unseen accounts f p other o ≡ Some r → Of r
  seen_of other None r above h = absurd cc
  seen_of other (Some there) r above h = from_map Of (IsUnseen other) (unknown p there.chain) r (λ job e. above) h

  -- a search names the process that is looked for, or one above it
  search_of : (other : ProcName) (r : Reason) → IsAtOrAbove other name → why_not_found accounts f p other ≡ Some r → Of r
  search_of [] r above h = absurd cc
  search_of (n ∷ d) r above h =
      from_orelse Of (why_not_found accounts f p d) _ r (search_of d r (one_above n d name above))
      (λ e i. from_orelse Of _ _ r (from_unless Of (is_some (f.processes (n ∷ d))) (NoProcess (n ∷ d)) r (λ fails. tt))
      (λ e. seen_of (n ∷ d) (f.processes (n ∷ d)) r above) i)
      h

  -- why `/` may not be named: such a reason names nothing else
  root_of : (e : Errno) → Of (root_reason e path)
  root_of EEXIST = tt
  root_of EISDIR = tt
  root_of _ = tt

  -- why nothing is made of a mode: nor does this reason
  unmade_of : (mode : Mode) → Of (unmade mode)
  unmade_of (modes.Group group) = tt
  unmade_of _ = tt

  -- a test names the path, the one above it, or the process
  test_of : (e : Errno) (test : Test) (r : Reason) → TestsProcess name test → why_test accounts f me p path e test ≡ Some r → Of r
  test_of e NotRoot r names h = from_unless Of _ (root_reason e path) r (λ fails. root_of e) h
  test_of e Exists r names h = from_unless Of _ (IsMissing path) r (λ fails. tt) h
  test_of e IsFile r names h = from_unless Of _ (HasDirectory path) r (λ fails. tt) h
  test_of e IsDirectory r names h = from_unless Of _ (HasFile path) r (λ fails. tt) h
  test_of e Absent r names h = from_unless Of _ (IsTaken path) r (λ fails. tt) h
  test_of e (AbsentBeside other) r names h = from_unless Of _ (IsTaken (other ∷ parent path)) r (λ fails. tt) h
  test_of e MayRead r names h = unread_of path r (at_itself path) h
  test_of e MayWrite r names h = unwritten_of path r (at_itself path) h
  test_of e MayWriteAbove r names h = unwritten_of (parent path) r (parent_above path) h
  test_of e HasRoomAbove r names h = from_unless Of _ (IsFull (parent path) (length (entries_in f (parent path)))) r (λ fails. tt) h
  test_of e IsEmpty r names h = from_unless Of _ (IsNotEmpty path (length (entries_in f path))) r (λ fails. tt) h
  test_of e (Fits new) r names h = from_unless Of _ (IsTooLong path (length (new (bytes_at f path)))) r (λ fails. at_itself path) h
  test_of e (MayMake mode) r names h = from_unless Of _ (unmade mode) r (λ fails. unmade_of mode) h
  test_of e HasChildLeft r names h = from_unless Of _ (HadChildren p.born) r (λ fails. tt) h
  test_of e HasNumberLeft r names h = from_unless Of _ (HasNumbers (length me + 1)) r (λ fails. tt) h
  test_of e (IsChild other) r names h = from_unless Of _ (IsNoChild other) r (λ fails. names) h
  test_of e (IsUser other) r names h = from_unless Of _ (NoUser other) r (λ fails. tt) h
  test_of e (HasPassword other password) r names h = from_unless Of _ (WrongPassword other) r (λ fails. tt) h
  test_of e InNoJob r names h = from_map Of IsInJob (innermost p) r (λ job e. tt) h
  test_of e IsSomebody r names h = from_unless Of _ StartsNoJob r (λ fails. tt) h

  -- so does a need
  need_of : (need : Need) (r : Reason) → NamesProcess name need → why_need accounts f me p path need ≡ Some r → Of r
  need_of Nothing r names h = absurd cc
  need_of (a then b) r names h =
      from_orelse Of (why_need accounts f me p path a) (why_need accounts f me p path b) r
      (need_of a r names.0) (λ e. need_of b r names.1) h
  need_of (test or e) r names h = test_of e test r names h
  need_of Walk r names h = walk_of path r refl h
  need_of (Found other) r names h = search_of other r (subst (λ o. IsAtOrAbove o name) (sym names) (at_itself name)) h

-- A reason of a call's refusal names what is of its line.
pub reason_of_line : (accounts : Accounts) (f : Flat) (me : ProcName) (p : Process) (call : UnixCall) (r : Reason)
    → why accounts f me p call ≡ Some r → IsOf (path_of call) (process_named me call) r
reason_of_line accounts f me p call r h =
    need_of accounts f me p (path_of call) (process_named me call) (rule call).needs r (names_process me call) h
