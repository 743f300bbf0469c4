-- How the code that makes the objects of a child runs its parts.
use Rattle.std.proofs.Common.{◌≡◌, ℕ, List, [], ◌∷◌, Result, Ok, Err, ap, subst}
use Rattle.std.specs.Result.{IsErrAnd}
use Rattle.histar_level.specs.Levels.{Levels}
use Rattle.histar_rules.specs.declared.raw.RawCall.{RawCall}
use Rattle.histar_rules.specs.declared.raw.RawCall.TheVariants.{MakeCategory, MakeSegment, MakeContainer, MakeThread, Write}
use Rattle.histar_syscall.specs.KernelModel.{KernelModel}
use Rattle.histar_layout.specs.Status.{ProcessStatus, started, status_bytes, with_child_listed}
use Rattle.histar_layout.specs.Labelling.{guarded_by}
use Rattle.histar_programs.specs.Parts.{ask}
use Rattle.histar_programs.specs.Programs.{Part, RunsPart}
use Rattle.histar_programs.specs.declared.call_error.CallError.{CallError}
use Rattle.histar_programs.specs.declared.call_error.CallError.TheVariants.{Stopped}
use Rattle.histar_programs.specs.declared.roots.Home.{Home}
use Rattle.histar_programs.proofs.Running.{before_ask, hands, then_part, part_fails}
use Rattle.histar_process.specs.Birth.{birth}
use Rattle.histar_process.specs.Births.{kin_of_newborn, make_body, make_categories, make_containers, make_objects, make_segment, make_thread}
use Rattle.histar_process.specs.declared.birth.Body.{Body}
use Rattle.histar_process.specs.declared.birth.Newborn.{Newborn}
use Rattle.histar_programs.proofs.Exits.{LeavesPart, ends_in_so, further_in, whole_part}
use Rattle.histar_programs.specs.Kin.{Kin}
use Rattle.histar_process.specs.Parts.{write_status}

-- ---- a raw call with the expected arguments

module _ (t : ℕ) (old new : KernelModel) where
  pub container_so : {M : Type 0} → (container : ℕ) (label due : Levels) → label ≡ due → (result : Result ℕ CallError)
      → RunsPart M (ask (MakeContainer container label)) old new t result
      → RunsPart M (ask (MakeContainer container due)) old new t result
  container_so {M} container label due is result runs =
      subst (λ (l : Levels). RunsPart {A = ℕ} M (ask (MakeContainer container l)) old new t result) is runs

  pub guarded_so : {M : Type 0} → (container : ℕ) (secret due : List ℕ) (write : ℕ) → secret ≡ due → (result : Result ℕ CallError)
      → RunsPart M (ask (MakeContainer container (guarded_by secret (write ∷ [])))) old new t result
      → RunsPart M (ask (MakeContainer container (guarded_by due (write ∷ [])))) old new t result
  guarded_so container secret due write is =
      container_so container (guarded_by secret (write ∷ [])) (guarded_by due (write ∷ []))
      (ap (λ (cs : List ℕ). guarded_by cs (write ∷ [])) is)

  pub thread_so : {M : Type 0} → (internal : ℕ) (label label_due clearance clearance_due : Levels) → label ≡ label_due
      → clearance ≡ clearance_due → (result : Result ℕ CallError)
      → RunsPart M (ask (MakeThread internal label clearance)) old new t result
      → RunsPart M (ask (MakeThread internal label_due clearance_due)) old new t result
  thread_so {M} internal label label_due clearance clearance_due p q result runs =
      subst (λ (l : Levels). RunsPart {A = ℕ} M (ask (MakeThread internal l clearance_due)) old new t result) p
      (subst (λ (l : Levels). RunsPart {A = ℕ} M (ask (MakeThread internal label l)) old new t result) q runs)

  pub segment_so : {M : Type 0} → (container : ℕ) (label label_due : Levels) (bytes bytes_due : List ℕ) → label ≡ label_due
      → bytes ≡ bytes_due → (result : Result ℕ CallError)
      → RunsPart M (ask (MakeSegment container label bytes)) old new t result
      → RunsPart M (ask (MakeSegment container label_due bytes_due)) old new t result
  segment_so {M} container label label_due bytes bytes_due p q result runs =
      subst (λ (l : Levels). RunsPart {A = ℕ} M (ask (MakeSegment container l bytes_due)) old new t result) p
      (subst (λ (bs : List ℕ). RunsPart {A = ℕ} M (ask (MakeSegment container label bs)) old new t result) q runs)

  pub written_so : {M : Type 0} → (home : Home) (bytes due : List ℕ) → bytes ≡ due → (result : Result (Unit {0}) CallError)
      → RunsPart M (ask (Write home.container home.segment 0 bytes)) old new t result
      → RunsPart M (ask (Write home.container home.segment 0 due)) old new t result
  written_so {M} home bytes due is result runs =
      subst (λ (bs : List ℕ). RunsPart {A = Unit {0}} M (ask (Write home.container home.segment 0 bs)) old new t result)
      is runs

-- memory ran out before a process segment was written
pub before_write : {M : Type 0} → (t : ℕ) (home : Home) (status : ProcessStatus) (k : KernelModel) → M
    → RunsPart M (write_status home status) k k t (Err Stopped)
before_write t home status k memory = before_ask t (Write home.container home.segment 0 (status_bytes status)) k memory

-- memory ran out before a process segment was made
pub before_segment : {M : Type 0} → (t : ℕ) (body : Body) (jobs : List ℕ) (write : ℕ) (k : KernelModel) → M
    → RunsPart M (make_segment body.container jobs write body.internal body.thread) k k t (Err Stopped)
before_segment t body jobs write k memory =
    before_ask t (MakeSegment body.container (guarded_by jobs (write ∷ [])) (status_bytes (started body.internal body.thread))) k memory

-- ---- the two categories

-- what comes after the first category
abbrev after_read : ℕ → Part (ℕ × ℕ)
after_read read rest = ask MakeCategory (λ write. rest (read, write))

-- what comes after both categories
abbrev after_both : ℕ → ℕ → Part (ℕ × ℕ)
after_both a b rest = rest (a, b)

module _ (t : ℕ) (old new : KernelModel) where
  pub no_read : {M : Type 0} → (call_error : CallError) → RunsPart M (ask MakeCategory) old new t (Err call_error)
      → RunsPart M make_categories old new t (Err call_error)
  unfolding make_categories
  no_read call_error first = part_fails t (ask MakeCategory) old new after_read call_error first

  module _ {M : Type 0} (mid : KernelModel) (read : ℕ) (first : RunsPart M (ask MakeCategory) old mid t (Ok read)) where
    pub no_write : (call_error : CallError) → RunsPart M (ask MakeCategory) mid new t (Err call_error)
        → RunsPart M make_categories old new t (Err call_error)
    unfolding make_categories
    no_write call_error second =
        then_part t (ask MakeCategory) old new after_read mid read first (Err call_error)
        (part_fails t (ask MakeCategory) mid new (after_both read) call_error second)

    pub categories : (write : ℕ) → RunsPart M (ask MakeCategory) mid new t (Ok write) → RunsPart M make_categories old new t (Ok (read, write))
    unfolding make_categories
    categories write second =
        then_part t (ask MakeCategory) old new after_read mid read first (Ok (read, write))
        (then_part t (ask MakeCategory) mid new (after_both read) new write second (Ok (read, write))
        (hands t new (read, write)))

-- ---- the two containers

module _ (t : ℕ) (old new : KernelModel) (parent : ℕ) (jobs : List ℕ) (read write : ℕ) where
  abbrev outer : RawCall
  outer = MakeContainer parent (guarded_by jobs (write ∷ []))

  abbrev inner : ℕ → RawCall
  inner container = MakeContainer container (guarded_by (read ∷ jobs) (write ∷ []))

  -- what comes after the first container
  abbrev after_container : ℕ → Part (ℕ × ℕ)
  after_container container rest = ask (inner container) (λ internal. rest (container, internal))

  pub no_container : {M : Type 0} → (call_error : CallError)
      → RunsPart M (ask (MakeContainer parent (guarded_by jobs (write ∷ [])))) old new t (Err call_error)
      → RunsPart M (make_containers parent jobs read write) old new t (Err call_error)
  unfolding make_containers
  no_container call_error first = part_fails t (ask outer) old new after_container call_error first

  module _ {M : Type 0} (mid : KernelModel) (container : ℕ)
      (first : RunsPart M (ask (MakeContainer parent (guarded_by jobs (write ∷ [])))) old mid t (Ok container)) where
    pub no_internal : (call_error : CallError)
        → RunsPart M (ask (MakeContainer container (guarded_by (read ∷ jobs) (write ∷ [])))) mid new t (Err call_error)
        → RunsPart M (make_containers parent jobs read write) old new t (Err call_error)
    unfolding make_containers
    no_internal call_error second =
        then_part t (ask outer) old new after_container mid container first (Err call_error)
        (part_fails t (ask (inner container)) mid new (after_both container) call_error second)

    pub containers : (internal : ℕ)
        → RunsPart M (ask (MakeContainer container (guarded_by (read ∷ jobs) (write ∷ [])))) mid new t (Ok internal)
        → RunsPart M (make_containers parent jobs read write) old new t (Ok (container, internal))
    unfolding make_containers
    containers internal second =
        then_part t (ask outer) old new after_container mid container first (Ok (container, internal))
        (then_part t (ask (inner container)) mid new (after_both container) new internal second
        (Ok (container, internal)) (hands t new (container, internal)))

-- ---- the whole birth

-- the two categories of a child that is being born
abbrev own_of : Newborn → ℕ × ℕ
own_of newborn = (newborn.read, newborn.write)

module _ (t : ℕ) (parent : ℕ) (newborn : Newborn) (old : KernelModel) where
  -- the part that makes the two containers
  abbrev both : Part (ℕ × ℕ)
  both = make_containers parent newborn.jobs.now newborn.read newborn.write

  -- the part that makes the thread
  abbrev child : ℕ × ℕ → Part ℕ
  child made = make_thread made.1 newborn.owned.now newborn.jobs.now newborn.read newborn.write

  -- what these make
  abbrev body_of : ℕ × ℕ → ℕ → Body
  body_of made thread = record { container = made.0; internal = made.1; thread = thread }

  -- what comes after the thread
  abbrev after_thread : ℕ × ℕ → ℕ → Part Body
  after_thread made thread rest = rest (body_of made thread)

  -- what comes after the two containers
  abbrev after_containers : ℕ × ℕ → Part Body
  after_containers made rest = child made (λ thread. after_thread made thread rest)

  -- the two containers and the thread
  abbrev its_body : Part Body
  its_body = make_body parent (kin_of_newborn newborn) (own_of newborn)

  -- the two containers aren't made
  pub without_containers : {M : Type 0} → (new : KernelModel) (call_error : CallError) (result : Result Body CallError)
      → IsErrAnd result (λ e. e ≡ call_error)
      → RunsPart M both old new t (Err call_error) → RunsPart M its_body old new t result
  without_containers = ends_in_so both after_containers (whole_part t its_body old)

  module _ {M : Type 0} (mid : KernelModel) (made : ℕ × ℕ) (first : RunsPart M both old mid t (Ok made)) (new : KernelModel) where
    -- the two containers are made
    with_containers : LeavesPart M Body t its_body old (after_containers made) mid
    with_containers = further_in both after_containers (whole_part t its_body old) mid made first

    -- the thread isn't made
    pub without_thread : (call_error : CallError) (result : Result Body CallError) → IsErrAnd result (λ e. e ≡ call_error)
        → RunsPart M (child made) mid new t (Err call_error) → RunsPart M its_body old new t result
    without_thread = ends_in_so (child made) (after_thread made) with_containers new

    -- the containers and the thread are made
    pub with_thread : (thread : ℕ) → RunsPart M (child made) mid new t (Ok thread) → RunsPart M its_body old new t (Ok (body_of made thread))
    with_thread thread second =
        (further_in (child made) (after_thread made) with_containers new thread second).leads new (Ok (body_of made thread))
        (hands t new (body_of made thread))

module _ (t : ℕ) (parent : Home) (status : ProcessStatus) (newborn : Newborn) (old : KernelModel) where
  -- the part that makes the process segment
  abbrev segment_of : Body → Part ℕ
  segment_of body = make_segment body.container newborn.jobs.now newborn.write body.internal body.thread

  -- what comes after the process segment
  abbrev after_segment : Body → ℕ → Part (Unit {0})
  after_segment body segment = write_status parent (with_child_listed body.container segment status)

  -- what comes after the containers and the thread
  abbrev after_body : Body → Part (Unit {0})
  after_body body rest = segment_of body (λ segment. after_segment body segment rest)

  -- all objects
  abbrev its_objects : Part (Unit {0})
  its_objects = make_objects parent status (kin_of_newborn newborn) (own_of newborn)

  -- the containers and the thread
  abbrev body_there : Part Body
  body_there = make_body parent.container (kin_of_newborn newborn) (own_of newborn)

  -- the containers and the thread aren't made
  pub without_body : {M : Type 0} → (new : KernelModel) (call_error : CallError) (result : Result (Unit {0}) CallError)
      → IsErrAnd result (λ e. e ≡ call_error)
      → RunsPart M body_there old new t (Err call_error) → RunsPart M its_objects old new t result
  without_body = ends_in_so body_there after_body (whole_part t its_objects old)

  module _ {M : Type 0} (mid : KernelModel) (body : Body) (first : RunsPart M body_there old mid t (Ok body)) where
    -- these are made
    with_body : LeavesPart M (Unit {0}) t its_objects old (after_body body) mid
    with_body = further_in body_there after_body (whole_part t its_objects old) mid body first

    -- the process segment isn't made
    pub without_segment : (new : KernelModel) (call_error : CallError) (result : Result (Unit {0}) CallError) → IsErrAnd result (λ e. e ≡ call_error)
        → RunsPart M (segment_of body) mid new t (Err call_error) → RunsPart M its_objects old new t result
    without_segment = ends_in_so (segment_of body) (after_segment body) with_body

    -- the process segment is made, and the child is still to be added to the segment of its parent
    pub with_segment : (later : KernelModel) (segment : ℕ) → RunsPart M (segment_of body) mid later t (Ok segment)
        → LeavesPart M (Unit {0}) t its_objects old (after_segment body segment) later
    with_segment = further_in (segment_of body) (after_segment body) with_body

module _ (t : ℕ) (parent : Home) (status : ProcessStatus) (kin : Kin) (old : KernelModel) where
  -- at first the whole birth is left
  begun : {M : Type 0}
      → LeavesPart M (Unit {0}) t (birth parent status kin) old (λ rest. make_categories (λ own. make_objects parent status kin own rest)) old
  unfolding birth make_categories make_containers
  begun = record { leads = λ new result on. on }

  -- the two categories aren't made
  pub without_categories : {M : Type 0} → (new : KernelModel) (call_error : CallError) (result : Result (Unit {0}) CallError)
      → IsErrAnd result (λ e. e ≡ call_error) → RunsPart M make_categories old new t (Err call_error)
      → RunsPart M (birth parent status kin) old new t result
  without_categories = ends_in_so make_categories (make_objects parent status kin) begun

  -- the two categories are made, and the objects are still to be made
  pub with_categories : {M : Type 0} → (mid : KernelModel) (own : ℕ × ℕ) → RunsPart M make_categories old mid t (Ok own)
      → LeavesPart M (Unit {0}) t (birth parent status kin) old (make_objects parent status kin own) mid
  with_categories = further_in make_categories (make_objects parent status kin) begun
