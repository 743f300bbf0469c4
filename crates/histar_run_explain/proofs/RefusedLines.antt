-- The explanation of a denied raw call of a line that is refused is complete.
use Rattle.std.proofs.Common.{◌≡◌, ℕ, ◌+◌, ◌⊎◌, inl, inr, Bool, true, false, List, [], ◌∷◌, Option, None, Some, arith, refl}
use Rattle.std.proofs.Common.{sym, ap, ◌∙◌, subst, if◌then◌else◌}
use Rattle.std.specs.Prelude.{is_some}
use Rattle.std.specs.List.{AllByRecursion}
use Rattle.std.proofs.lemmas.Bool.Decides.{nat_tests}
use Rattle.std.proofs.lemmas.Option.{none-some}
use mathlib.Core.Bool.{true≢false}
use Rattle.histar_flat.specs.declared.calls.CallLine.{CallLine}
use Rattle.histar_flat.specs.declared.replies.Errno.{Errno}
use Rattle.histar_flat.specs.Accounts.{Accounts}
use Rattle.histar_flat.specs.Classes.{Process}
use Rattle.histar_flat.specs.FlatState.{Flat}
use Rattle.histar_level.specs.Levels.{Levels, default_of, level_of}
use Rattle.histar_level.specs.declared.level.Level.{Level}
use Rattle.histar_level.specs.declared.level.Level.TheVariants.{L1, L2}
use Rattle.histar_object.specs.State.{State, observes}
use Rattle.histar_rules.specs.declared.raw.Denied.{Denied}
use Rattle.histar_rules.specs.declared.raw.Denied.TheVariants.{Observe, Modify, Range, Gate, NoEntry, NoThread, BadKind, TooBig}
use Rattle.histar_rules.specs.declared.raw.RawCall.{RawCall}
use Rattle.histar_rules.specs.declared.raw.RawCall.TheVariants as raw
use Rattle.histar_rules.specs.Rights.{with_category}
use Rattle.histar_rules.specs.Rules.{check, fits_segment}
use Rattle.histar_explain.specs.declared.explanations.Act.{Act}
use Rattle.histar_explain.specs.declared.explanations.Explanation.{Explanation}
use Rattle.histar_explain.specs.declared.explanations.Obstacle.{Obstacle}
use Rattle.histar_explain.specs.declared.explanations.Obstacle.TheVariants as obstacles
use Rattle.histar_explain.specs.declared.reasons.Reason.{Reason}
use Rattle.histar_explain.specs.Explanations.{IsExplanationOf}
use Rattle.histar_explain.specs.Named.{clearance_in, label_in, modified_by, object_named, observed_by}
use Rattle.histar_explain.specs.Obstacles.{act_of, bytes_after, counted, excess, obstacle_of, whole_act}
use Rattle.histar_explain.specs.Unmade.{was_made}
use Rattle.histar_explain.proofs.NamedTests.{IsNamedOrNew, IsReasonOn, ListsOnly}
use Rattle.histar_explain.proofs.NamedDenial.{HasNamedLabels, IsNamedCall, Makes, explained_by_names}
use Rattle.histar_layout.specs.UserTable.{without_passwords}
use Rattle.histar_wrap.specs.Scratch.{directory_label}
use Rattle.histar_refinement.specs.Categories.{IsMade}
use Rattle.histar_refinement.specs.Categories.CategoryName.{OfBoot}
use Rattle.histar_refinement.specs.Guards.{rights_label}
use Rattle.histar_refinement.specs.Labels.{thread_rights}
use Rattle.histar_refinement.specs.KeptNames.{RepresentsStill}
use Rattle.histar_refinement.specs.Represents.{ObjectsMatch, Represents}
use Rattle.histar_sim.specs.Simulation.{errno_by_rule}
use Rattle.histar_names.specs.Births.{Births, purpose_of}
use Rattle.histar_names.specs.KnownBirths.{NamesBirths}
use Rattle.histar_names.proofs.KnownNames.{categories_are_named}
use Rattle.histar_run_explain.specs.Complete.{HasPurpose, IsComplete, IsLocated, IsNamedReason, objects_of}
use Rattle.histar_run_explain.proofs.DeniedObjects.{HasLocatedObjects, IsPlaced}
use Rattle.histar_run_explain.proofs.DeniedRequests.{IsHanded, MakesJob}
use Rattle.histar_run_explain.proofs.NewCategory.{clearance_widened, cleared_for_new, label_widened, owns_new}
use Rattle.histar_run_explain.proofs.UsedLabels.{IsUsedNumber, scratch_lists, state_clearance, state_label}

-- a raw call enters a gate
abbrev pub IsEntry : RawCall → Type 0
IsEntry (raw.Enter d o wanted clearance verify) = Unit {0}
IsEntry call = ⊥

-- ---- categories

-- a default that is 1 or 2
either_default : (l m : Level) → l ≡ m → (m ≡ L1) ⊎ (m ≡ L2) → (l ≡ L1) ⊎ (l ≡ L2)
either_default l m same (inl one) = inl (same ∙ one)
either_default l m same (inr two) = inr (same ∙ two)

-- a number that was made
was_made_so : (next c : ℕ) → IsMade next c → was_made next c ≡ true
was_made_so next c made = let low = made.0 in let high = made.1 in grind (arith, nat_tests, low, high)

-- a label lists used categories alone, and is 1 elsewhere
abbrev pub IsOfUsed : {accounts : Accounts} {s : State} {f : Flat} → ObjectsMatch accounts s f → Levels → Type 0
IsOfUsed {accounts} {s} {f} l L = ListsOnly (IsUsedNumber accounts f l.category) L × (default_of L ≡ L1)

-- A line of a process that is refused, from a state that represents a flat state to one that represents it still, with the births known then.
pub record IsRefusedLine (accounts : Accounts) (s : State) (f : Flat) (asked : CallLine) (births : Births) (mid : State)
    (was : Represents accounts s f) (process : Process) : Type 0 where
  pub still : RepresentsStill was mid f
  pub known : NamesBirths births accounts mid f
  pub same : known.represents ≡ still.represents
  pub here : f.processes asked.process ≡ Some process

module _ {accounts : Accounts} {s : State} {f : Flat} {asked : CallLine} {births : Births} {mid : State} {was : Represents accounts s f}
    {process : Process} (line : IsRefusedLine accounts s f asked births mid was process) where
  -- categories that have a purpose
  abbrev Named : ℕ → Type 0
  Named = HasPurpose accounts births

  -- the objects before the line and after it
  abbrev old : ObjectsMatch accounts s f
  old = was.matched

  abbrev new : ObjectsMatch accounts mid f
  new = line.still.represents.matched

  -- a category that is used in the end is named, and was made
  used_named : (c : ℕ) → IsUsedNumber accounts f new.category c → Named c
  used_named c used =
      ap (λ (n : ℕ). is_some (purpose_of (without_passwords accounts) births n))
      (sym used.1 ∙ ap (λ (r : Represents accounts mid f). r.matched.category used.0) (sym line.same))
      ∙ ap is_some (categories_are_named births accounts mid f line.known used.0 used.2)

  -- a category that was used before the line is used in the end, with its number
  still_used : (c : ℕ) → IsUsedNumber accounts f old.category c → IsUsedNumber accounts f new.category c
  still_used c used = (used.0, line.still.names.categories used.0 used.2 used.2 ∙ used.1, used.2)

  -- it was made by the end
  made_now : (c : ℕ) → IsUsedNumber accounts f new.category c → was_made mid.next_category c ≡ true
  made_now c used = was_made_so mid.next_category c (subst (IsMade mid.next_category) used.1 (new.made used.0 used.2))

  -- ---- in the last state

  -- no category is new
  abbrev None_new : ℕ → Type 0
  None_new c = ⊥

  -- so it is named
  now : (c : ℕ) → IsUsedNumber accounts f new.category c → IsNamedOrNew Named None_new mid.next_category c
  now c used = (made_now c used, inl (used_named c used))

  -- the labels of the last state list named categories alone
  pub labels_now : (t : ℕ) → HasNamedLabels Named None_new mid t
  labels_now t = record {
    label = λ q. let lists = state_label accounts mid f new q in (λ c differs. now c (lists.0 c differs), lists.1);
    clearance = λ q. let lists = state_clearance accounts mid f new q in (λ c differs. now c (lists.0 c differs), lists.1);
    owned = λ c none. absurd none;
    cleared = λ c none. absurd none;
  }

  -- a request whose labels are of used categories
  pub called_now : (t : ℕ) (call : RawCall) → IsPlaced old call → IsHanded accounts s f old asked.process process t (IsOfUsed old) call
      → IsNamedCall Named None_new mid t call
  called_now t (raw.MakeSegment c label bytes) placed handed =
      let lists = handed placed in ((λ q differs. now q (still_used q (lists.0 q differs)), lists.1), λ c none. absurd none)
  called_now t (raw.MakeContainer c label) placed handed =
      let lists = handed placed in ((λ q differs. now q (still_used q (lists.0 q differs)), lists.1), λ c none. absurd none)
  called_now t (raw.Enter c g label clearance verify) placed handed = (λ q differs. now q (still_used q (handed.0 q differs)), handed.1)
  called_now t (raw.Read c o) placed handed = tt
  called_now t (raw.Write c o keep bytes) placed handed = tt
  called_now t (raw.Unlink c o) placed handed = tt
  called_now t call placed handed = absurd placed

  -- ---- in the state in which the category of a new job was made

  -- the category of the job is new
  abbrev New : ℕ → Type 0
  New c = c ≡ s.next_category

  -- a category that was used before the line, or that of the job, was made by then
  was_used : (c : ℕ) → IsUsedNumber accounts f old.category c → IsNamedOrNew Named New (s.next_category + 1) c
  was_used c used =
      let made = subst (IsMade s.next_category) used.1 (old.made used.0 used.2) in
      let low = made.0 in
      let high = made.1 in
      (was_made_so (s.next_category + 1) c (low, omega (arith, high)), inl (used_named c (still_used c used)))

  -- so was the category of the job
  of_job : IsNamedOrNew Named New (s.next_category + 1) s.next_category
  of_job =
      let made = old.made OfBoot tt in
      let low = made.0 in
      let high = made.1 in
      (was_made_so (s.next_category + 1) s.next_category (omega (arith, low, high), omega arith), inr refl)

  -- a label that lists these alone
  job_lists : (L : Levels) → ListsOnly (λ c. IsUsedNumber accounts f old.category c ⊎ (c ≡ s.next_category)) L
      → ListsOnly (IsNamedOrNew Named New (s.next_category + 1)) L
  job_lists L lists c differs = elim (lists c differs) [
    | inl used ↦ was_used c used
    | inr is ↦ subst (IsNamedOrNew Named New (s.next_category + 1)) (sym is) of_job
  ]

  module _ (t : ℕ) (granted : check s t raw.MakeCategory ≡ None) where
    -- the labels of that state list named categories and the job's alone
    pub labels_job : HasNamedLabels Named New (with_category s t) t
    labels_job = record {
      label = λ q.
          let lists = state_label accounts s f old q in
          let more = label_widened s t (IsUsedNumber accounts f old.category) q in
          (job_lists (label_in (with_category s t) q) (more.0 lists.0), more.1 ∙ lists.1);
      clearance = λ q.
          let lists = state_clearance accounts s f old q in
          let more = clearance_widened s t (IsUsedNumber accounts f old.category) q in
          (job_lists (clearance_in (with_category s t) q) (more.0 lists.0), either_default _ _ more.1 lists.1);
      owned = λ c is. ap (level_of (label_in (with_category s t) t)) is ∙ owns_new s t granted;
      cleared = λ c is. ap (level_of (clearance_in (with_category s t) t)) is ∙ cleared_for_new s t granted;
    }

    -- the request for the directory of the job
    pub called_job : (call : RawCall) → (job : MakesJob accounts s f old asked.process process t (IsOfUsed old) (with_category s t) call)
        → IsNamedCall Named New (with_category s t) t call
    called_job call job =
        let lists = scratch_lists accounts s f old asked.process process line.here s.next_category in
        let label = directory_label accounts (rights_label old.category (thread_rights accounts asked.process process)) s.next_category in
        subst (IsNamedCall Named New (with_category s t) t) (sym job.is)
        ((job_lists label lists.0, lists.1), λ c is. ap (level_of label) is ∙ lists.2)

-- ---- the parts of an explanation

-- a denial for which a refusal is answered
abbrev pub IsAnswered : Denied → Type 0
IsAnswered denied = (errno : Errno) × (errno_by_rule denied ≡ Some errno)

module _ (accounts : Accounts) (mid : State) (asked : CallLine) where
  -- the object that a denied raw call would observe has a location
  observed_located : (x : State) (t : ℕ) (call : RawCall) → HasLocatedObjects accounts mid asked call
      → IsLocated accounts mid asked (observed_by x t call)
  observed_located x t (raw.Read d o) found = by (observes (x.objects t) (x.objects d))
    where
      by : (b : Bool) → IsLocated accounts mid asked (if b then o else d)
      by true = found.object tt
      by false = found.container
  observed_located x t call found = found.container

  -- the one that it would modify, and the gate that it would enter
  modified_located : (call : RawCall) → HasLocatedObjects accounts mid asked call → IsLocated accounts mid asked (modified_by call)
  modified_located (raw.Write d o keep bytes) found = found.object tt
  modified_located call found = found.container

  entered_located : (call : RawCall) → IsEntry call → HasLocatedObjects accounts mid asked call
      → IsLocated accounts mid asked (object_named call)
  entered_located (raw.Enter d o wanted clearance verify) entry found = found.object tt
  entered_located call entry found = absurd entry

  -- and that of a call as a whole
  whole_located : (call : RawCall) → HasLocatedObjects accounts mid asked call
      → AllByRecursion (IsLocated accounts mid asked) (objects_of (whole_act call))
  whole_located (raw.Enter d o wanted clearance verify) found = (found.object tt, tt)
  whole_located (raw.Write d o keep bytes) found = (found.object tt, tt)
  whole_located raw.MakeCategory found = tt
  whole_located raw.OwnLabel found = tt
  whole_located (raw.SetLabel label) found = tt
  whole_located (raw.SetClearance clearance) found = tt
  whole_located (raw.MakeSegment d label bytes) found = tt
  whole_located (raw.MakeContainer d label) found = tt
  whole_located (raw.MakeThread d label clearance) found = tt
  whole_located (raw.MakeGate d label clearance entry) found = tt
  whole_located (raw.Read d o) found = tt
  whole_located (raw.Unlink d o) found = tt
  whole_located (raw.LabelOf d o) found = tt

  -- the object that an action names has a location
  act_located : (x : State) (t : ℕ) (call : RawCall) (denied : Denied) → HasLocatedObjects accounts mid asked call → IsAnswered denied
      → (denied ≡ Gate → IsEntry call) → AllByRecursion (IsLocated accounts mid asked) (objects_of (act_of x t call denied))
  act_located x t call Observe found answered entry = (observed_located x t call found, tt)
  act_located x t call Modify found answered entry = (modified_located call found, tt)
  act_located x t call Gate found answered entry = (entered_located call (entry refl) found, tt)
  act_located x t call Range found answered entry = whole_located call found
  act_located x t call TooBig found answered entry = whole_located call found
  act_located x t call NoEntry found answered entry = absurd (none-some answered.0 answered.1)
  act_located x t call NoThread found answered entry = absurd (none-some answered.0 answered.1)
  act_located x t call BadKind found answered entry = absurd (none-some answered.0 answered.1)

-- the reasons of an explanation are named
named_reasons : (accounts : Accounts) (births : Births) (reasons : List Reason) → AllByRecursion (IsReasonOn (HasPurpose accounts births)) reasons
    → AllByRecursion (IsNamedReason accounts births) reasons
named_reasons accounts births [] named = tt
named_reasons accounts births (r ∷ reasons) named =
    (record { listed = named.0.0; elsewhere = named.0.1 }, named_reasons accounts births reasons named.1)

-- ---- obstacles

-- an obstacle is that a container doesn't link an object
abbrev is_link : Option Obstacle → Bool
is_link (Some (obstacles.NotLinked d)) = true
is_link o = false

-- that of a denial is another one
of_size : (bytes : ℕ) → is_link (Some (excess bytes)) ≡ false
of_size bytes = by (fits_segment bytes)
  where
    by : (b : Bool) → is_link (Some (if b then obstacles.NoNumber else obstacles.TooLong (counted bytes))) ≡ false
    by true = refl
    by false = refl

no_link_named : (x : State) (call : RawCall) (denied : Denied) → IsAnswered denied → is_link (obstacle_of x call denied) ≡ false
no_link_named x call Observe answered = refl
no_link_named x call Modify answered = refl
no_link_named x call Gate answered = refl
no_link_named x call Range answered = refl
no_link_named x call TooBig answered = of_size (bytes_after x call)
no_link_named x call NoEntry answered = absurd (none-some answered.0 answered.1)
no_link_named x call NoThread answered = absurd (none-some answered.0 answered.1)
no_link_named x call BadKind answered = absurd (none-some answered.0 answered.1)

-- ---- the whole

module _ (accounts : Accounts) (mid : State) (asked : CallLine) (births : Births) where
  -- how a raw call of a line is denied: its labels are so, a refusal is answered for it, and its objects have a location
  pub record IsDeniedSo (New : ℕ → Type 0) (x : State) (t : ℕ) (call : RawCall) (denied : Denied) : Type 0 where
    pub called : IsNamedCall (HasPurpose accounts births) New x t call
    pub makes : denied ≡ Range → Makes call
    pub entry : denied ≡ Gate → IsEntry call
    pub answered : IsAnswered denied
    pub found : HasLocatedObjects accounts mid asked call

  -- An explanation is complete, where the labels at its state list categories that are named or new, and its objects have a location.
  pub complete_by : (New : ℕ → Type 0) (x : State) (t : ℕ) → HasNamedLabels (HasPurpose accounts births) New x t
      → (call : RawCall) (denied : Denied) → IsDeniedSo New x t call denied
      → (e : Explanation) → IsExplanationOf x t call denied e → IsComplete accounts mid asked births e
  complete_by New x t labels call denied so e is =
      let parts = explained_by_names (HasPurpose accounts births) New x t labels call denied e so.called so.makes is in record {
        objects = subst (λ (act : Act). AllByRecursion (IsLocated accounts mid asked) (objects_of act)) (sym is.act)
            (act_located accounts mid asked x t call denied so.found so.answered so.entry);
        reasons = named_reasons accounts births e.reasons.items parts.0;
        made = parts.1;
        linked = λ d link. true≢false (sym (ap is_link link) ∙ ap is_link is.obstacle ∙ no_link_named x call denied so.answered);
      }
