-- The raw calls of a birth and the two after them that set the parent's own labels, one after another, from the making of the child's two
-- categories on.
use Rattle.std.proofs.Common.{◌≡◌, ℕ, ◌+◌, ◌<◌, true, List, [], ◌∷◌, ◌++◌, Result, arith, refl, sym, ap, ◌∙◌, subst, length}
use Rattle.std.specs.Prelude.{min, option_map}
use Rattle.std.proofs.lemmas.Bool.{ltb-true}
use Rattle.std.specs.FinSet as set
use Rattle.histar_flat.specs.declared.calls.UnixCall.{UnixCall}
use Rattle.histar_flat.specs.declared.replies.Reply.{Reply}
use Rattle.histar_flat.specs.Words.{ProcName}
use Rattle.histar_flat.specs.Accounts.{Accounts}
use Rattle.histar_flat.specs.FlatState.{Flat}
use Rattle.histar_base.specs.Refusals.{unless}
use Rattle.histar_level.specs.declared.level.Level.TheVariants.{Star, L3}
use Rattle.histar_level.specs.Levels.{Levels}
use Rattle.histar_label.specs.Levels.{with_level, is_below, is_below_raised}
use Rattle.histar_object.specs.declared.objects.Kind.TheVariants.{Segment, Container, Thread}
use Rattle.histar_object.specs.Objects.{thread_of}
use Rattle.histar_container.proofs.TableMoves.{changed_here}
use Rattle.histar_rules.specs.Rights.{with_star_at, with_label, with_clearance, with_changed, with_category}
use Rattle.histar_object.specs.State.{State, with_object, with_segment_bytes}
use Rattle.histar_rules.specs.declared.raw.Denied.TheVariants.{TooBig}
use Rattle.histar_rules.specs.declared.raw.RawCall.{RawCall}
use Rattle.histar_rules.specs.declared.raw.RawCall.TheVariants.{MakeCategory, SetLabel, SetClearance, MakeSegment, MakeContainer, MakeThread, Write}
use Rattle.histar_rules.specs.Rules.{check, fits_segment, has_number, greatest}
use Rattle.histar_syscall.specs.KernelModel.{KernelModel, state}
use Rattle.histar_layout.specs.Status.{ProcessStatus, started, status_bytes, with_child_listed}
use Rattle.histar_programs.specs.declared.call_error.Stopped.{Stopped}
use Rattle.histar_programs.specs.declared.roots.Home.{Home}
use Rattle.histar_programs.specs.Programs.{Program, Runs}
use Rattle.histar_programs.specs.Programs.Program.{Answers}
use Rattle.histar_programs.specs.Parts.{ask}
use Rattle.histar_programs.specs.Kin.{Kin}
use Rattle.histar_process.specs.Birth.{birth, outer_label, inner_label, thread_label, thread_clearance}
use Rattle.histar_refinement.proofs.RawChecks.{object}
use Rattle.histar_refinement.proofs.Spawned.{births}
use Rattle.histar_refinement.proofs.Beside.{own_set}
use Rattle.histar_sim.specs.Simulation.{has_category}
use Rattle.histar_sim.specs.RawCalls.{Request, births_at, plain}
use Rattle.histar_sim.proofs.Requests.{AreLeft, left_then}
use Rattle.histar_sim.proofs.Ready.{Ready}
use Rattle.histar_sim.specs.Reads.{AreAmong}
use Rattle.histar_sim.proofs.Chains.{all_granted, entries_of, Chain}
use Rattle.histar_sim.proofs.Steps.{Goal, granted_step}
use Rattle.histar_sim.proofs.Walks.{among_then}
use Rattle.histar_sim.proofs.BirthObjects.{Around}
use Rattle.histar_sim.proofs.BirthChecks as checks
use Rattle.histar_sim.proofs.BirthChecks.{IsModified, IsLesser, IsTaken, category_said}
use Rattle.histar_sim.proofs.BirthSteps.{numbered_step, category_step}

-- What a birth needs of the state before it: the thread has its own labels, its container and its process segment; once it has made the
-- child's categories it may make the child's objects and have its own labels again; and the bytes are few.
pub record IsFit (s : State) (t : ℕ) (home : Home) (status : ProcessStatus) (kin : Kin) (own own_clearance : Levels) : Type 0 where
  pub thread : s.objects t ≡ object own (Thread own_clearance)
  pub owner : Levels
  pub owner_clearance : Levels
  pub label : Levels
  pub held : List ℕ
  pub around : Around t home.container home.segment owner owner_clearance label held (with_category (with_category s t) t)
  pub under : is_below owner label ≡ true
  pub seen : is_below_raised label owner ≡ true
  pub outer : IsModified owner owner_clearance (outer_label kin (s.next_category + 1)) (s.next_category + 1 + 1)
  pub inner : IsModified owner owner_clearance (inner_label kin s.next_category (s.next_category + 1)) (s.next_category + 1 + 1)
  pub lesser : IsLesser owner owner_clearance (thread_label kin s.next_category (s.next_category + 1))
      (thread_clearance kin s.next_category (s.next_category + 1)) (s.next_category + 1 + 1)
  pub taken : IsTaken owner owner_clearance own own_clearance (s.next_category + 1 + 1)
  pub child_few : fits_segment (length (status_bytes (started (s.next_object + 1) (s.next_object + 1 + 1)))) ≡ true
  pub own_few : fits_segment (min 0 (length held) + length (status_bytes (with_child_listed s.next_object (s.next_object + 1 + 1 + 1) status))) ≡ true

-- the state after a birth, once the thread has its own labels again
abbrev pub spawned : State → ℕ → Home → ProcessStatus → Kin → Levels → Levels → State
spawned s t home status kin own own_clearance =
    own_set t (births (with_category (with_category s t) t) home.container home.segment
    (record { label = outer_label kin (s.next_category + 1); kind = Container set.empty })
    (record { label = inner_label kin s.next_category (s.next_category + 1); kind = Container set.empty })
    (thread_of (thread_label kin s.next_category (s.next_category + 1)) (thread_clearance kin s.next_category (s.next_category + 1)))
    (record { label = outer_label kin (s.next_category + 1); kind = Segment (status_bytes (started (s.next_object + 1) (s.next_object + 1 + 1))) })
    (status_bytes (with_child_listed s.next_object (s.next_object + 1 + 1 + 1) status))) own own_clearance

module _ {M : Type 0} (accounts : Accounts) (f : Flat) (me : ProcName) (call : UnixCall)
    (old new : KernelModel) (t : ℕ) (ready : Ready M accounts (state old) f me t) (result : Result Reply Stopped)
    (s : State) (home : Home) (status : ProcessStatus) (kin : Kin) (own own_clearance : Levels)
    (fit : IsFit s t home status kin own own_clearance) (reply : Reply) (wanted : List RawCall) (requests : List Request) where
  abbrev Refined : Type 0
  Refined = Goal accounts f me call old new t ready result

  -- the numbers that the kernel gives
  abbrev read : ℕ
  read = s.next_category

  abbrev write : ℕ
  write = s.next_category + 1

  abbrev m : ℕ
  m = s.next_object

  -- the labels of what they make
  abbrev outer : Levels
  outer = outer_label kin write

  abbrev inner : Levels
  inner = inner_label kin read write

  abbrev label : Levels
  label = thread_label kin read write

  abbrev clearance : Levels
  clearance = thread_clearance kin read write

  abbrev child_bytes : List ℕ
  child_bytes = status_bytes (started (m + 1) (m + 1 + 1))

  abbrev own_bytes : List ℕ
  own_bytes = status_bytes (with_child_listed m (m + 1 + 1 + 1) status)

  abbrev u : State
  u = with_category (with_category s t) t

  -- the states on the way
  abbrev third : State
  third = with_object u home.container (record { label = outer; kind = Container set.empty })

  abbrev fourth : State
  fourth = with_object third m (record { label = inner; kind = Container set.empty })

  abbrev fifth : State
  fifth = with_object fourth (m + 1) (thread_of label clearance)

  abbrev sixth : State
  sixth = with_object fifth m (record { label = outer; kind = Segment child_bytes })

  abbrev seventh : State
  seventh = with_segment_bytes sixth home.segment own_bytes

  abbrev eighth : State
  eighth = with_changed seventh t (with_label own)

  -- what is left of the program after each raw call, from the last on, by the numbers that the kernel gave
  abbrev after_label : Program
  after_label = ask (SetClearance own_clearance) (λ _. Answers reply)

  abbrev after_write : Program
  after_write = ask (SetLabel own) (λ _. after_label)

  abbrev after_segment : ℕ → ℕ → Program
  after_segment c g = ask (Write home.container home.segment 0 (status_bytes (with_child_listed c g status))) (λ _. after_write)

  abbrev after_thread : ℕ → ℕ → ℕ → ℕ → Program
  after_thread w c i th = ask (MakeSegment c (outer_label kin w) (status_bytes (started i th))) (after_segment c)

  abbrev after_internal : ℕ → ℕ → ℕ → ℕ → Program
  after_internal r w c i = ask (MakeThread i (thread_label kin r w) (thread_clearance kin r w)) (after_thread w c i)

  abbrev after_container : ℕ → ℕ → ℕ → Program
  after_container r w c = ask (MakeContainer c (inner_label kin r w)) (after_internal r w c)

  abbrev after_categories : ℕ → ℕ → Program
  after_categories r w = ask (MakeContainer home.container (outer_label kin w)) (after_container r w)

  abbrev after_category : ℕ → Program
  after_category r = ask MakeCategory (after_categories r)

  -- the raw calls of the birth, from each on
  abbrev clearance_on : List RawCall
  clearance_on = SetClearance own_clearance ∷ []

  abbrev label_on : List RawCall
  label_on = SetLabel own ∷ clearance_on

  abbrev write_on : List RawCall
  write_on = Write home.container home.segment 0 own_bytes ∷ label_on

  abbrev segment_on : List RawCall
  segment_on = MakeSegment m outer child_bytes ∷ write_on

  abbrev thread_on : List RawCall
  thread_on = MakeThread (m + 1) label clearance ∷ segment_on

  abbrev internal_on : List RawCall
  internal_on = MakeContainer m inner ∷ thread_on

  abbrev container_on : List RawCall
  container_on = MakeContainer home.container outer ∷ internal_on

  -- the raw calls that were made before the birth are among all, and these are left
  abbrev AreKept : List RawCall → List RawCall → Type 0
  AreKept calls left = AreAmong wanted (entries_of old.line t (all_granted calls)) × AreLeft requests calls (plain left)

  kept_then : (calls : List RawCall) (next : RawCall) (left : List RawCall) → AreKept calls (next ∷ left)
      → AreKept (calls ++ next ∷ []) left
  kept_then calls next left kept = (
    among_then old.line t wanted calls (next ∷ []) kept.0,
    left_then requests calls next (plain left) kept.1,
  )

  -- what comes after all raw calls of the birth
  abbrev pub Ends : Type 0
  Ends =
      (calls : List RawCall) (later : KernelModel) → AreAmong wanted (entries_of old.line t (all_granted calls))
      → AreLeft requests calls [] → Chain old t (all_granted calls) later → state later ≡ spawned s t home status kin own own_clearance
      → s.next_object + 3 < greatest → Runs M (Answers reply) later new t result
      → Goal accounts f me call old new t ready result

  module _ (ends : Ends) where
    clearance_set : s.next_object + 3 < greatest → (calls : List RawCall) (mid : KernelModel) → AreKept calls clearance_on
        → Chain old t (all_granted calls) mid → state mid ≡ eighth → Runs M after_label mid new t result → Refined
    clearance_set few calls mid kept chain at runs =
        granted_step accounts f me call old new t ready result calls mid chain (SetClearance own_clearance) (λ _. Answers reply)
        (ap (λ (x : State). check x t (SetClearance own_clearance)) at
        ∙ checks.set_clearance_said t home.container home.segment fit.owner fit.owner_clearance fit.label
        fit.held u fit.around outer inner label clearance own own_clearance child_bytes own_bytes fit.under
        fit.seen fit.outer fit.inner fit.lesser fit.taken) runs
        (λ later done called right longer goes.
        ends (calls ++ SetClearance own_clearance ∷ []) later (kept_then calls (SetClearance own_clearance) [] kept).0
        (kept_then calls (SetClearance own_clearance) [] kept).1 longer
        (called.state ∙ ap (λ (x : State). with_changed x t (with_clearance own_clearance)) at) few goes)

    label_set : s.next_object + 3 < greatest → (calls : List RawCall) (mid : KernelModel) → AreKept calls label_on
        → Chain old t (all_granted calls) mid → state mid ≡ seventh → Runs M after_write mid new t result → Refined
    label_set few calls mid kept chain at runs =
        granted_step accounts f me call old new t ready result calls mid chain (SetLabel own) (λ _. after_label)
        (ap (λ (x : State). check x t (SetLabel own)) at
        ∙ checks.set_label_said t home.container home.segment fit.owner fit.owner_clearance fit.label fit.held u
        fit.around outer inner label clearance own own_clearance child_bytes own_bytes fit.under fit.seen
        fit.outer fit.inner fit.lesser fit.taken) runs
        (λ later done called right longer goes.
        clearance_set few (calls ++ SetLabel own ∷ []) later (kept_then calls (SetLabel own) clearance_on kept) longer
        (called.state ∙ ap (λ (x : State). with_changed x t (with_label own)) at) goes)

    segment_written : s.next_object + 3 < greatest → (calls : List RawCall) (mid : KernelModel) → AreKept calls write_on
        → Chain old t (all_granted calls) mid → state mid ≡ sixth
        → Runs M (after_segment m (m + 1 + 1 + 1)) mid new t result → Refined
    segment_written few calls mid kept chain at runs =
        let next : RawCall = Write home.container home.segment 0 own_bytes in
        granted_step accounts f me call old new t ready result calls mid chain next (λ _. after_write)
        (ap (λ (x : State). check x t next) at
        ∙ checks.write_said t home.container home.segment fit.owner fit.owner_clearance fit.label fit.held u
        fit.around outer inner label clearance own own_clearance child_bytes own_bytes fit.under fit.seen
        fit.outer fit.inner fit.lesser fit.taken fit.own_few) runs
        (λ later done called right longer goes.
        label_set few (calls ++ next ∷ []) later (kept_then calls next label_on kept) longer
        (called.state ∙ ap (λ (x : State). with_segment_bytes x home.segment own_bytes) at) goes)

    segment_made : (calls : List RawCall) (mid : KernelModel) → AreKept calls segment_on → Chain old t (all_granted calls) mid
        → state mid ≡ fifth → Runs M (after_thread write m (m + 1) (m + 1 + 1)) mid new t result → Refined
    segment_made calls mid kept chain at runs =
        let next : RawCall = MakeSegment m outer child_bytes in
        numbered_step accounts f me call old new t ready result calls mid chain next (after_segment m) refl
        (subst (λ (x : State). check x t next ≡ unless (has_number x) TooBig) (sym at)
        (checks.make_segment_said t home.container home.segment fit.owner fit.owner_clearance fit.label fit.held
        u fit.around outer inner label clearance own own_clearance child_bytes own_bytes fit.under fit.seen
        fit.outer fit.inner fit.lesser fit.taken fit.child_few)) runs
        (λ more later number called right longer goes.
        let few = ltb-true (m + 1 + 1 + 1) greatest (sym (ap has_number at) ∙ more) in
        segment_written (omega (arith, few)) (calls ++ next ∷ []) later (kept_then calls next write_on kept) longer
        (called.state
        ∙ ap (λ (x : State). with_object x m (record { label = outer; kind = Segment child_bytes })) at)
        (subst (λ (q : ℕ). Runs M (after_segment m q) later new t result) (right ∙ ap (λ (x : State). x.next_object) at) goes))

    thread_made : (calls : List RawCall) (mid : KernelModel) → AreKept calls thread_on → Chain old t (all_granted calls) mid
        → state mid ≡ fourth → Runs M (after_internal read write m (m + 1)) mid new t result → Refined
    thread_made calls mid kept chain at runs =
        let next : RawCall = MakeThread (m + 1) label clearance in
        numbered_step accounts f me call old new t ready result calls mid chain next (after_thread write m (m + 1)) refl
        (subst (λ (x : State). check x t next ≡ unless (has_number x) TooBig) (sym at)
        (checks.make_thread_said t home.container home.segment fit.owner fit.owner_clearance fit.label fit.held
        u fit.around outer inner label clearance own own_clearance child_bytes own_bytes fit.under fit.seen
        fit.outer fit.inner fit.lesser fit.taken)) runs
        (λ more later number called right longer goes.
        segment_made (calls ++ next ∷ []) later (kept_then calls next segment_on kept) longer
        (called.state ∙ ap (λ (x : State). with_object x (m + 1) (thread_of label clearance)) at)
        (subst (λ (q : ℕ). Runs M (after_thread write m (m + 1) q) later new t result) (right ∙ ap (λ (x : State). x.next_object) at) goes))

    internal_made : (calls : List RawCall) (mid : KernelModel) → AreKept calls internal_on → Chain old t (all_granted calls) mid
        → state mid ≡ third → Runs M (after_container read write m) mid new t result → Refined
    internal_made calls mid kept chain at runs =
        let next : RawCall = MakeContainer m inner in
        numbered_step accounts f me call old new t ready result calls mid chain next (after_internal read write m) refl
        (subst (λ (x : State). check x t next ≡ unless (has_number x) TooBig) (sym at)
        (checks.make_internal_said t home.container home.segment fit.owner fit.owner_clearance fit.label
        fit.held u fit.around outer inner label clearance own own_clearance child_bytes own_bytes fit.under
        fit.seen fit.outer fit.inner fit.lesser fit.taken)) runs
        (λ more later number called right longer goes.
        thread_made (calls ++ next ∷ []) later (kept_then calls next thread_on kept) longer
        (called.state
        ∙ ap (λ (x : State). with_object x m (record { label = inner; kind = Container set.empty })) at)
        (subst (λ (q : ℕ). Runs M (after_internal read write m q) later new t result) (right ∙ ap (λ (x : State). x.next_object) at) goes))

    container_made : (calls : List RawCall) (mid : KernelModel) → AreKept calls container_on → Chain old t (all_granted calls) mid
        → state mid ≡ u → Runs M (after_categories read write) mid new t result → Refined
    container_made calls mid kept chain at runs =
        let next : RawCall = MakeContainer home.container outer in
        numbered_step accounts f me call old new t ready result calls mid chain next (after_container read write) refl
        (subst (λ (x : State). check x t next ≡ unless (has_number x) TooBig) (sym at)
        (checks.make_container_said t home.container home.segment fit.owner fit.owner_clearance fit.label
        fit.held u fit.around outer inner label clearance own own_clearance child_bytes own_bytes fit.under
        fit.seen fit.outer fit.inner fit.lesser fit.taken)) runs
        (λ more later number called right longer goes.
        internal_made (calls ++ next ∷ []) later (kept_then calls next internal_on kept) longer
        (called.state
        ∙ ap (λ (x : State).
        with_object x home.container (record { label = outer; kind = Container set.empty })) at)
        (subst (λ (q : ℕ). Runs M (after_container read write q) later new t result) (right ∙ ap (λ (x : State). x.next_object) at) goes))

    -- the thread with the first category
    thread_then : (with_category s t).objects t ≡ object (with_level own s.next_category Star) (Thread (with_level own_clearance s.next_category L3))
    thread_then = changed_here s.objects t (with_star_at s.next_category) ∙ ap (option_map (with_star_at s.next_category)) fit.thread

    write_made : (calls : List RawCall) (mid : KernelModel) → AreKept calls (MakeCategory ∷ container_on) → Chain old t (all_granted calls) mid
        → state mid ≡ with_category s t → Runs M (after_category read) mid new t result → Refined
    write_made calls mid kept chain at runs =
        category_step accounts f me call old new t ready result calls mid chain MakeCategory (after_categories read) refl
        (subst (λ (x : State). check x t MakeCategory ≡ unless (has_category x) TooBig) (sym at)
        (category_said (with_category s t) t (with_level own s.next_category Star)
        (with_level own_clearance s.next_category L3) thread_then)) runs
        (λ later number called right longer goes.
        container_made (calls ++ MakeCategory ∷ []) later (kept_then calls MakeCategory container_on kept) longer
        (called.state ∙ ap (λ (x : State). with_category x t) at)
        (subst (λ (q : ℕ). Runs M (after_categories read q) later new t result) (right ∙ ap (λ (x : State). x.next_category) at) goes))

    read_made : (calls : List RawCall) (mid : KernelModel) → AreKept calls (MakeCategory ∷ MakeCategory ∷ container_on)
        → Chain old t (all_granted calls) mid
        → state mid ≡ s → Runs M (ask MakeCategory after_category) mid new t result → Refined
    read_made calls mid kept chain at runs =
        category_step accounts f me call old new t ready result calls mid chain MakeCategory after_category refl
        (subst (λ (x : State). check x t MakeCategory ≡ unless (has_category x) TooBig) (sym at)
        (category_said s t own own_clearance fit.thread)) runs
        (λ later number called right longer goes.
        write_made (calls ++ MakeCategory ∷ []) later (kept_then calls MakeCategory (MakeCategory ∷ container_on) kept) longer
        (called.state ∙ ap (λ (x : State). with_category x t) at)
        (subst (λ (q : ℕ). Runs M (after_category q) later new t result) (right ∙ ap (λ (x : State). x.next_category) at) goes))

    -- The birth, and the thread's own labels again.
    pub birth_made : (calls : List RawCall) (mid : KernelModel)
        → AreAmong wanted (entries_of old.line t (all_granted calls))
        → AreLeft requests calls (plain (births_at home status kin s.next_category s.next_object
        ++ SetLabel own ∷ SetClearance own_clearance ∷ []))
        → Chain old t (all_granted calls) mid → state mid ≡ s
        → Runs M (birth home status kin
        (λ _. ask (SetLabel own) (λ _. ask (SetClearance own_clearance) (λ _. Answers reply)))) mid new t result
        → Refined
    unfolding birth
    birth_made calls mid kept left chain at runs = read_made calls mid (kept, left) chain at runs
