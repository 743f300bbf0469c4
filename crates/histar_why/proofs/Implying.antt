-- Reasons that follow from a refusal alone: the path that one of EEXIST, EISDIR or ENOENT is about is known from the call and the files.
use Rattle.std.specs.Prelude.{◌≡◌, ◌⊎◌, Bool, true, false, if◌then◌else◌, [], ◌∷◌, Option, None, Some}
use Rattle.std.specs.Prelude.{is_some, option_map, refl}
use Rattle.std.proofs.Common.{sym, ap, inl, inr, ◌∙◌, subst}
use Rattle.std.proofs.lemmas.Bool.{true≢false}
use Rattle.histar_base.specs.Refusals.{◌orelse◌, unless}
use Rattle.histar_flat.specs.declared.calls.UnixCall.{UnixCall}
use Rattle.histar_flat.specs.declared.calls.UnixCall.TheVariants.{Create, Rename}
use Rattle.histar_flat.specs.declared.calls.Mode.{Mode}
use Rattle.histar_flat.specs.declared.calls.Mode.TheVariants as modes
use Rattle.histar_flat.specs.declared.replies.Errno.{Errno}
use Rattle.histar_flat.specs.declared.replies.Errno.TheVariants.{ENOENT, EISDIR, EEXIST, EBUSY}
use Rattle.histar_flat.specs.Words.{Name, Path, ProcName}
use Rattle.histar_flat.specs.PathOrder.{parent}
use Rattle.histar_flat.specs.Accounts.{Accounts}
use Rattle.histar_flat.specs.Files.{get}
use Rattle.histar_flat.specs.Classes.{Process}
use Rattle.histar_flat.specs.FlatState.{Flat, IsTree, is_there, is_dir_at, class_of}
use Rattle.histar_flat.specs.Needs.{Test, Need, passes}
use Rattle.histar_flat.specs.Needs.Test.{NotRoot, Exists, IsFile, IsDirectory, Absent, AbsentBeside, MayRead}
use Rattle.histar_flat.specs.Needs.Test.{MayWrite, MayWriteAbove, HasRoomAbove, IsEmpty}
use Rattle.histar_flat.specs.Needs.Test.{Fits, MayMake, HasChildLeft, HasNumberLeft, IsChild, IsUser, HasPassword, InNoJob, IsSomebody}
use Rattle.histar_flat.specs.Needs.Need.{Nothing, Walk, ◌then◌, ◌or◌, Found}
use Rattle.histar_flat.specs.CallRules.{path_of, rule}
use Rattle.histar_flat.proofs.Refusals.{passed, passes_first, passes_later}
use Rattle.histar_reasons.specs.Causes.{unknown, unread, unwritten, innermost}
use Rattle.histar_reasons.specs.Reasons.{Reason, errno_of, root_reason, unmade, why, why_into, why_walk, unseen, why_not_found, why_test, why_need}
use Rattle.histar_reasons.specs.Reasons.Reason.{MayNotRead, MayNotWrite, IsMissing, HasFile, HasDirectory, IsTaken, RootStays, IsFull, IsNotEmpty}
use Rattle.histar_reasons.specs.Reasons.Reason.{IsTooLong, HadChildren, HasNumbers, NoProcess, IsUnseen, IsNoChild, NoUser}
use Rattle.histar_reasons.specs.Reasons.Reason.{WrongPassword, IsInJob, StartsNoJob}
use Rattle.histar_reasons.proofs.Agreeing.{directory_there}

-- the first path on the way to a path at which nothing is, if each directory above the last is looked for alone
abbrev pub first_missing : Flat → Path → Path
first_missing f [] = []
first_missing f (n ∷ d) = if is_there f d then n ∷ d else first_missing f d

-- the path at which something has to be, where a call is refused since it is there
abbrev pub taken_by : UnixCall → Path
taken_by (Rename q name) = name ∷ parent q
taken_by call = path_of call

-- ---- reasons of a refusal

-- what is refused with EEXIST is refused since something is there
pub taken_reason : (r : Reason) → errno_of r ≡ EEXIST → (x : Path) × (r ≡ IsTaken x)
taken_reason (IsTaken x) h = (x, refl)
taken_reason _ h = absurd (cc)

-- what is refused with EISDIR is refused since a directory is there
pub directory_reason : (r : Reason) → errno_of r ≡ EISDIR → (x : Path) × (r ≡ HasDirectory x)
directory_reason (HasDirectory x) h = (x, refl)
directory_reason _ h = absurd (cc)

-- what is refused with EBUSY is refused since `/` stays
pub root_stays_reason : (r : Reason) → errno_of r ≡ EBUSY → r ≡ RootStays
root_stays_reason RootStays h = refl
root_stays_reason _ h = absurd (cc)

-- what is refused with ENOENT is refused since nothing is there, or since no user has the name
pub missing_reason : (r : Reason) → errno_of r ≡ ENOENT → ((x : Path) × (r ≡ IsMissing x)) ⊎ ((name : Name) × (r ≡ NoUser name))
missing_reason (IsMissing x) h = inl (x, refl)
missing_reason (NoUser name) h = inr (name, refl)
missing_reason _ h = absurd (cc)

-- ---- what holds of the reason, if there is one

-- there is no reason, or this holds of it
abbrev IfAny : (Reason → Type 0) → Option Reason → Type 0
IfAny P None = Unit {0}
IfAny P (Some r) = P r

module _ (P : Reason → Type 0) where
  -- of the first of two, and of the second where the first has no reason
  any_orelse : (a b : Option Reason) → IfAny P a → (a ≡ None → IfAny P b) → IfAny P (a orelse b)
  any_orelse None b k l = l refl
  any_orelse (Some r) b k l = k

  -- of a test's reason, where the test fails
  any_unless : (b : Bool) (r : Reason) → (b ≡ false → P r) → IfAny P (unless b r)
  any_unless true r k = tt
  any_unless false r k = k refl

  -- of each reason that a value may be mapped to
  any_map : {A : Type 0} (g : A → Reason) (o : Option A) → ((x : A) → P (g x)) → IfAny P (option_map g o)
  any_map g None k = tt
  any_map g (Some x) k = k x

  -- so it holds of the reason that is there
  of_any : (o : Option Reason) (r : Reason) → IfAny P o → o ≡ Some r → P r
  of_any None r k h = absurd (cc)
  of_any (Some x) r k h = let same : x ≡ r = cc in subst P same k

-- what follows from what holds of the reason holds of it
any_so : (P Q : Reason → Type 0) → ((r : Reason) → P r → Q r) → (o : Option Reason) → IfAny P o → IfAny Q o
any_so P Q k None h = tt
any_so P Q k (Some r) h = k r h

-- ---- walks

module _ (accounts : Accounts) (f : Flat) (tree : IsTree f) (p : Process) where
  -- where a directory is there, the first path on the way to an entry of it at which nothing may be is the entry
  missing_here : (n : Name) (d : Path) → is_there f d ≡ true → first_missing f (n ∷ d) ≡ n ∷ d
  missing_here n d there = ap (λ b. if b then n ∷ d else first_missing f d) there

  -- where a directory is not there, it is the first on the way to the directory
  missing_above : (n : Name) (d : Path) → is_there f d ≡ false → first_missing f (n ∷ d) ≡ first_missing f d
  missing_above n d free = ap (λ b. if b then n ∷ d else first_missing f d) free

  -- where a directory is not there, no entry of it is
  nothing_in : (n : Name) (d : Path) → is_there f d ≡ false → is_there f (n ∷ d) ≡ false
  nothing_in n d free = by (is_there f (n ∷ d)) refl
    where
      by : (b : Bool) → is_there f (n ∷ d) ≡ b → b ≡ false
      by true there = absurd (true≢false (sym (directory_there (get f.files d) (tree.below n d there)) ∙ free))
      by false there = refl

  -- a directory into which the process can go is there
  into_there : (d : Path) → why_into accounts f p d ≡ None → is_there f d ≡ true
  into_there [] walked = directory_there (get f.files []) tree.root
  into_there (n ∷ d) walked =
      passed (is_there f (n ∷ d)) (IsMissing (n ∷ d)) (passes_first _ _ (passes_later (why_into accounts f p d) _ walked))

  -- where the process can walk to a path, nothing but the path may be missing
  walked_there : (q : Path) → why_walk accounts f p q ≡ None → first_missing f q ≡ q
  walked_there [] walked = refl
  walked_there (n ∷ d) walked = missing_here n d (into_there d walked)

  -- what a reason of the way into a directory may be
  abbrev OnWay : Path → Reason → Type 0
  OnWay d (IsMissing x) = (is_there f d ≡ false) × (x ≡ first_missing f d)
  OnWay d (HasFile x) = Unit {0}
  OnWay d (MayNotRead x cause) = Unit {0}
  OnWay d _ = ⊥

  -- a reason of the way into a directory is one of the way into what is below it
  on_way_below : (n : Name) (d : Path) (r : Reason) → OnWay d r → OnWay (n ∷ d) r
  on_way_below n d (IsMissing x) way = (nothing_in n d way.0, way.1 ∙ sym (missing_above n d way.0))
  on_way_below n d (HasFile x) way = tt
  on_way_below n d (MayNotRead x cause) way = tt
  on_way_below n d _ way = absurd (way)

  -- a reason of the way into a directory, if it says that nothing is there, names the first path at which nothing is
  into_missing : (d : Path) → IfAny (OnWay d) (why_into accounts f p d)
  into_missing [] = any_map (OnWay []) (MayNotRead []) (unread accounts p (class_of (get f.files []))) (λ cause. tt)
  into_missing (n ∷ d) =
      any_orelse (OnWay (n ∷ d)) (why_into accounts f p d) _
      (any_so (OnWay d) (OnWay (n ∷ d)) (on_way_below n d) (why_into accounts f p d) (into_missing d))
      (λ walked. any_orelse (OnWay (n ∷ d)) (unless (is_there f (n ∷ d)) (IsMissing (n ∷ d))) _
      (any_unless (OnWay (n ∷ d)) (is_there f (n ∷ d)) (IsMissing (n ∷ d)) (λ free. (free, sym (missing_here n d (into_there d walked)))))
      (λ there. any_orelse (OnWay (n ∷ d)) (unless (is_dir_at f (n ∷ d)) (HasFile (n ∷ d))) _
      (any_unless (OnWay (n ∷ d)) (is_dir_at f (n ∷ d)) (HasFile (n ∷ d)) (λ file. tt))
      (λ directory. any_map (OnWay (n ∷ d)) (MayNotRead (n ∷ d)) (unread accounts p (class_of (get f.files (n ∷ d)))) (λ cause. tt))))

-- ---- calls

module _ (accounts : Accounts) (f : Flat) (tree : IsTree f) (me : ProcName) (p : Process) (call : UnixCall) where
  -- a reason that follows from the refusal alone is this one
  abbrev pub IsImplied : Reason → Type 0
  IsImplied (IsTaken x) = x ≡ taken_by call
  IsImplied (HasDirectory x) = x ≡ path_of call
  IsImplied (IsMissing x) = x ≡ first_missing f (path_of call)
  IsImplied (NoUser name) = path_of call ≡ []
  IsImplied reason = Unit {0}

  -- the path of the call
  abbrev q : Path
  q = path_of call

  -- a reason of a walk to the path is implied
  walk_implied : (r : Path) → q ≡ r → IfAny IsImplied (why_walk accounts f p r)
  walk_implied [] e = tt
  walk_implied (n ∷ d) e = any_so (OnWay accounts f tree p d) IsImplied by (why_into accounts f p d) (into_missing accounts f tree p d)
    where
      by : (r : Reason) → OnWay accounts f tree p d r → IsImplied r
      by (IsMissing x) way = way.1 ∙ sym (missing_above accounts f tree p n d way.0) ∙ ap (first_missing f) (sym e)
      by (HasFile x) way = tt
      by (MayNotRead x cause) way = tt
      by _ way = absurd (way)

  -- a reason of a search is implied
  search_implied : (name : ProcName) → IfAny IsImplied (why_not_found accounts f p name)
  search_implied [] = tt
  search_implied (n ∷ above) =
      any_orelse IsImplied (why_not_found accounts f p above) _ (search_implied above)
      (λ e. any_orelse IsImplied (unless (is_some (f.processes (n ∷ above))) (NoProcess (n ∷ above))) _
      (any_unless IsImplied (is_some (f.processes (n ∷ above))) (NoProcess (n ∷ above)) (λ h. tt))
      (λ i. by (f.processes (n ∷ above))))
    where
      by : (o : Option Process) → IfAny IsImplied (unseen accounts f p (n ∷ above) o)
      by None = tt
      by (Some other) = any_map IsImplied (IsUnseen (n ∷ above)) (unknown p other.chain) (λ job. tt)

  -- why nothing is made of a mode is implied
  unmade_implied : (mode : Mode) → IsImplied (unmade mode)
  unmade_implied (modes.Group group) = tt
  unmade_implied _ = tt

  -- what has to be so where a test is made, that its reason is implied
  abbrev Implies : Errno → Test → Type 0
  Implies e NotRoot = IsImplied (root_reason e q)
  Implies e Exists = why_walk accounts f p q ≡ None
  Implies e Absent = q ≡ taken_by call
  Implies e (AbsentBeside name) = (name ∷ parent q) ≡ taken_by call
  Implies e (IsUser name) = q ≡ []
  Implies e _ = Unit {0}

  -- the reason of a test is implied
  test_implied : (e : Errno) (test : Test) → Implies e test → IfAny IsImplied (why_test accounts f me p q e test)
  test_implied e NotRoot implies = any_unless IsImplied (passes accounts f me p q NotRoot) (root_reason e q) (λ h. implies)
  test_implied e Exists implies = any_unless IsImplied (passes accounts f me p q Exists) (IsMissing q)
      (λ h. sym (walked_there accounts f tree p q implies))
  test_implied e IsFile implies = any_unless IsImplied (passes accounts f me p q IsFile) (HasDirectory q) (λ h. refl)
  test_implied e IsDirectory implies = any_unless IsImplied (passes accounts f me p q IsDirectory) (HasFile q) (λ h. tt)
  test_implied e Absent implies = any_unless IsImplied (passes accounts f me p q Absent) (IsTaken q) (λ h. implies)
  test_implied e (AbsentBeside name) implies =
      any_unless IsImplied (passes accounts f me p q (AbsentBeside name)) (IsTaken (name ∷ parent q)) (λ h. implies)
  test_implied e MayRead implies = any_map IsImplied (MayNotRead q) (unread accounts p (class_of (get f.files q))) (λ cause. tt)
  test_implied e MayWrite implies = any_map IsImplied (MayNotWrite q) (unwritten accounts p (class_of (get f.files q))) (λ cause. tt)
  test_implied e MayWriteAbove implies =
      any_map IsImplied (MayNotWrite (parent q)) (unwritten accounts p (class_of (get f.files (parent q)))) (λ cause. tt)
  test_implied e HasRoomAbove implies = any_unless IsImplied (passes accounts f me p q HasRoomAbove) (IsFull (parent q) _) (λ h. tt)
  test_implied e IsEmpty implies = any_unless IsImplied (passes accounts f me p q IsEmpty) (IsNotEmpty q _) (λ h. tt)
  test_implied e (Fits new) implies = any_unless IsImplied (passes accounts f me p q (Fits new)) (IsTooLong q _) (λ h. tt)
  test_implied e (MayMake mode) implies = any_unless IsImplied (passes accounts f me p q (MayMake mode)) (unmade mode) (λ h. unmade_implied mode)
  test_implied e HasChildLeft implies = any_unless IsImplied (passes accounts f me p q HasChildLeft) (HadChildren p.born) (λ h. tt)
  test_implied e HasNumberLeft implies = any_unless IsImplied (passes accounts f me p q HasNumberLeft) (HasNumbers _) (λ h. tt)
  test_implied e (IsChild name) implies = any_unless IsImplied (passes accounts f me p q (IsChild name)) (IsNoChild name) (λ h. tt)
  test_implied e (IsUser name) implies = any_unless IsImplied (passes accounts f me p q (IsUser name)) (NoUser name) (λ h. implies)
  test_implied e (HasPassword name password) implies =
      any_unless IsImplied (passes accounts f me p q (HasPassword name password)) (WrongPassword name) (λ h. tt)
  test_implied e InNoJob implies = any_map IsImplied IsInJob (innermost p) (λ job. tt)
  test_implied e IsSomebody implies = any_unless IsImplied (passes accounts f me p q IsSomebody) StartsNoJob (λ h. tt)

  -- each test of a need is made where its reason is implied
  abbrev AllImply : Type 0 → Need → Type 0
  AllImply Known (a then b) = AllImply Known a × AllImply (Known × (why_need accounts f me p q a ≡ None)) b
  AllImply Known (test or e) = Known → Implies e test
  AllImply Known _ = Unit {0}

  -- the reason of such a need is implied
  need_implied : (Known : Type 0) (need : Need) → AllImply Known need → Known → IfAny IsImplied (why_need accounts f me p q need)
  need_implied Known Nothing imply known = tt
  need_implied Known (a then b) imply known =
      any_orelse IsImplied (why_need accounts f me p q a) (why_need accounts f me p q b) (need_implied Known a imply.0 known)
      (λ e. need_implied (Known × (why_need accounts f me p q a ≡ None)) b imply.1 (known, e))
  need_implied Known (test or e) imply known = test_implied e test (imply known)
  need_implied Known Walk imply known = walk_implied q refl
  need_implied Known (Found name) imply known = search_implied name

module _ (accounts : Accounts) (f : Flat) (tree : IsTree f) (me : ProcName) (p : Process) where
  -- so it is in each rule
  all_imply : (call : UnixCall) → AllImply accounts f tree me p call (Unit {0}) (rule call).needs
  all_imply (Create r mode) = assumption
  all_imply _ = assumption

module _ (accounts : Accounts) (f : Flat) (tree : IsTree f) (me : ProcName) (p : Process) (call : UnixCall) where
  -- the reason is implied of this call
  abbrev Implied : Reason → Type 0
  Implied = IsImplied accounts f tree me p call

  -- the reason of a call is implied
  pub reason_implied : (r : Reason) → why accounts f me p call ≡ Some r → Implied r
  reason_implied r h =
      of_any Implied (why accounts f me p call) r
      (need_implied accounts f tree me p call (Unit {0}) (rule call).needs (all_imply accounts f tree me p call) tt) h

  -- so a refusal alone gives the reason, where it is EEXIST, EISDIR or EBUSY, or ENOENT of a call that names a path
  pub implied_of : (r : Reason) → why accounts f me p call ≡ Some r
      → (errno_of r ≡ EEXIST → r ≡ IsTaken (taken_by call))
      × (errno_of r ≡ EISDIR → r ≡ HasDirectory (path_of call))
      × (errno_of r ≡ EBUSY → r ≡ RootStays)
      × (errno_of r ≡ ENOENT → (path_of call ≡ [] → ⊥) → r ≡ IsMissing (first_missing f (path_of call)))
  implied_of r h = (
    λ e. let it = taken_reason r e in it.1 ∙ ap IsTaken (subst Implied it.1 (reason_implied r h)),
    λ e. let it = directory_reason r e in it.1 ∙ ap HasDirectory (subst Implied it.1 (reason_implied r h)),
    λ e. root_stays_reason r e,
    λ e below. elim (missing_reason r e) [
      | inl it ↦ it.1 ∙ ap IsMissing (subst Implied it.1 (reason_implied r h))
      | inr it ↦ absurd (below (subst Implied it.1 (reason_implied r h)))
    ],
  )
