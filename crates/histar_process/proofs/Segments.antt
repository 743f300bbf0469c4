-- How the code that reads process segments, and finds processes by them, runs its parts.
use Rattle.std.proofs.Common.{◌≡◌, ℕ, ◌≤◌, List, [], ◌∷◌, length, get_or, take, drop, ◌-◌, Option, None, Some, Result, Ok, Err, refl, sym, ap, ◌∙◌}
use Rattle.std.proofs.Common.{subst, arith}
use Rattle.std.specs.Prelude.{option_map}
use Rattle.std.specs.Borrow.{Bor}
use Rattle.std.specs.Result.{IsErrAnd}
use Rattle.std.proofs.lemmas.Option.{same_Some}
use Rattle.std.proofs.lemmas.Result.{err_from_is_err_and}
use Rattle.histar_flat.specs.Words.{ProcName}
use Rattle.histar_flat.specs.declared.replies.Errno.{Errno}
use Rattle.histar_flat.specs.declared.replies.Errno.TheVariants.{ESRCH}
use Rattle.histar_rules.specs.declared.raw.RawCall.TheVariants.{Read}
use Rattle.histar_rules.specs.declared.raw.Refusal.{Refusal}
use Rattle.histar_rules.specs.Memory.{OnOutOfMemory}
use Rattle.histar_rules.specs.RawAnswers.{IsAnswer}
use Rattle.histar_syscall.specs.KernelModel.{KernelModel, ReadsLent, state}
use Rattle.histar_layout.specs.Status.{ProcessStatus, child_at, head_of, look_for, status_in}
use Rattle.histar_layout.specs.declared.status.Child.{Child}
use Rattle.histar_layout.specs.declared.status.NotAStatus.{NotAStatus}
use Rattle.histar_layout.specs.declared.status.StatusHead.{StatusHead}
use Rattle.histar_programs.specs.declared.call_error.CallError.{CallError}
use Rattle.histar_programs.specs.declared.call_error.CallError.TheVariants.{Refused}
use Rattle.histar_programs.specs.declared.roots.Home.{Home}
use Rattle.histar_programs.specs.Programs.{Program, Part, RunsPart}
use Rattle.histar_programs.specs.Parts.{ask, given, if_there}
use Rattle.histar_programs.specs.Refusals.{call_error_of, errno_for}
use Rattle.histar_programs.proofs.Running.{gives, gives_not, grants, hands, refuses, refuses_at_once, then_part, part_fails}
use Rattle.histar_process.specs.declared.find.Segment.{Segment}
use Rattle.histar_process.specs.Parts.{find_home, home_of, must_be_there, read_status}
use Rattle.histar_process.specs.Reading.{RunsReading, read_head, look_up}

-- ---- what the readers of bytes return

-- where no head is read, the bytes spell no status
nothing_revealed : (o : Option ProcessStatus) → None ≡ option_map head_of o → o ≡ None
nothing_revealed None e = refl
nothing_revealed (Some status) e = absurd cc

-- a head that is read is that of the status
head_revealed : (o : Option ProcessStatus) (head : StatusHead) → Some head ≡ option_map head_of o
    → (status : ProcessStatus) × (o ≡ Some status) × (head ≡ head_of status)
head_revealed None head e = absurd cc
head_revealed (Some status) head e = (status, refl, same_Some head (head_of status) e)

-- looking a child up faults only where the bytes spell no status
nothing_looked : (o : Option ProcessStatus) (number : ℕ) (fault : NotAStatus) → Err fault ≡ look_for o number → o ≡ None
nothing_looked None number fault e = refl
nothing_looked (Some status) number fault e = absurd cc

-- a child is looked up in the status that the bytes spell
pub child_looked : (o : Option ProcessStatus) (number : ℕ) (found : Option Child) → Ok found ≡ look_for o number
    → (status : ProcessStatus) × (o ≡ Some status) × (found ≡ child_at status.children number)
child_looked None number found e = absurd cc
child_looked (Some status) number found e = (status, refl, ap of_ok e)
  where
    of_ok : Result (Option Child) NotAStatus → Option Child
    of_ok (Ok child) = child
    of_ok (Err fault) = None

-- ---- reading a process segment

module _ (t : ℕ) (old new : KernelModel) (home : Home) (result : Result (Bor (List ℕ)) Refusal)
    (lent : ReadsLent old t home.container home.segment result new) where
  -- the kernel lent the bytes of the segment
  pub bytes_lent : {M : Type 0} → (bytes : Bor (List ℕ)) → result ≡ Ok bytes
      → RunsPart M (ask (Read home.container home.segment)) old new t (Ok bytes.now)
  bytes_lent bytes is =
      let answered = subst (λ (r : Result (Bor (List ℕ)) Refusal). ReadsLent old t home.container home.segment r new) is lent in
      grants t (Read home.container home.segment) old new bytes.now answered.0 answered.1

  -- the kernel lent no bytes
  pub not_lent : {M : Type 0} → (refusal : Refusal) → result ≡ Err refusal → OnOutOfMemory result M
      → RunsPart M (ask (Read home.container home.segment)) old new t (Err (call_error_of (errno_for (Read home.container home.segment)) refusal))
  not_lent {M} refusal is memory =
      refuses t (Read home.container home.segment) old new
      (λ (bytes : Bor (List ℕ)). IsAnswer (state old) t (Read home.container home.segment) bytes.now) refusal
      (subst (λ (r : Result (Bor (List ℕ)) Refusal). ReadsLent old t home.container home.segment r new) is lent)
      (subst (λ (r : Result (Bor (List ℕ)) Refusal). OnOutOfMemory r M) is memory)

-- what comes after the bytes of a process segment
abbrev after_bytes : List ℕ → Part ProcessStatus
after_bytes bytes rest = if_there ESRCH rest (status_in bytes)

module _ (t : ℕ) (old new : KernelModel) (home : Home) where
  -- the segment was not read
  pub read_fails : {M : Type 0} → (call_error : CallError)
      → RunsPart M (ask (Read home.container home.segment)) old new t (Err call_error)
      → RunsPart M (read_status home) old new t (Err call_error)
  unfolding read_status
  read_fails call_error first = part_fails t (ask (Read home.container home.segment)) old new after_bytes call_error first

  -- the head of the segment was not read
  pub head_fails : {M : Type 0} → (call_error : CallError)
      → RunsPart M (ask (Read home.container home.segment)) old new t (Err call_error)
      → RunsPart M (read_head home) old new t (Err call_error)
  unfolding read_head
  head_fails call_error first =
      part_fails t (read_status home) old new
      (λ (status : ProcessStatus) (rest : StatusHead → Program). rest (head_of status)) call_error
      (read_fails call_error first)

  -- no child was looked up
  pub look_fails : {M : Type 0} → (call_error : CallError) (number : ℕ)
      → RunsPart M (ask (Read home.container home.segment)) old new t (Err call_error)
      → RunsPart M (look_up home number) old new t (Err call_error)
  unfolding look_up
  look_fails call_error number first =
      part_fails t (read_status home) old new
      (λ (status : ProcessStatus) (rest : Option Child → Program). rest (child_at status.children number))
      call_error (read_fails call_error first)

  module _ {M : Type 0} (bytes : List ℕ) (first : RunsPart M (ask (Read home.container home.segment)) old new t (Ok bytes)) where
    -- the segment's bytes spell no status
    reads_none : status_in bytes ≡ None → RunsPart M (read_status home) old new t (Err (Refused ESRCH))
    unfolding read_status
    reads_none none =
        then_part t (ask (Read home.container home.segment)) old new after_bytes new bytes first (Err (Refused ESRCH))
        (subst (λ (o : Option ProcessStatus).
        RunsPart {A = ProcessStatus} M (λ rest. if_there ESRCH rest o) new new t (Err (Refused ESRCH))) (sym none)
        (refuses_at_once t ProcessStatus new ESRCH))

    -- the segment's bytes spell this status
    reads : (status : ProcessStatus) → status_in bytes ≡ Some status → RunsPart M (read_status home) old new t (Ok status)
    unfolding read_status
    reads status is =
        then_part t (ask (Read home.container home.segment)) old new after_bytes new bytes first (Ok status)
        (subst (λ (o : Option ProcessStatus).
        RunsPart {A = ProcessStatus} M (λ rest. if_there ESRCH rest o) new new t (Ok status)) (sym is)
        (hands t new status))

    -- the bytes have no head
    pub segment_none : None ≡ option_map head_of (status_in bytes) → RunsPart M (read_status home) old new t (Err (Refused ESRCH))
    segment_none none = reads_none (nothing_revealed (status_in bytes) none)

    pub head_none : None ≡ option_map head_of (status_in bytes) → RunsPart M (read_head home) old new t (Err (Refused ESRCH))
    unfolding read_head
    head_none none =
        part_fails t (read_status home) old new
        (λ (status : ProcessStatus) (rest : StatusHead → Program). rest (head_of status)) (Refused ESRCH)
        (segment_none none)

    -- the bytes have this head
    pub segment_read : (head : StatusHead) → Some head ≡ option_map head_of (status_in bytes)
        → RunsReading M home old new t (Ok (record { head = head; bytes = bytes }))
    segment_read head is =
        let status_is = head_revealed (status_in bytes) head is in
        (status_is.0, record { status_is = status_is.1; head = status_is.2 }, reads status_is.0 status_is.1)

    pub head_read : (head : StatusHead) → Some head ≡ option_map head_of (status_in bytes) → RunsPart M (read_head home) old new t (Ok head)
    unfolding read_head
    head_read head is =
        let status_is = head_revealed (status_in bytes) head is in
        subst (λ (h : StatusHead). RunsPart M (read_head home) old new t (Ok h)) (sym status_is.2)
        (then_part t (read_status home) old new
        (λ (status : ProcessStatus) (rest : StatusHead → Program). rest (head_of status)) new status_is.0
        (reads status_is.0 status_is.1) (Ok (head_of status_is.0)) (hands t new (head_of status_is.0)))

    -- the bytes are no status to look a child up in
    pub look_none : (number : ℕ) (fault : NotAStatus) → Err fault ≡ look_for (status_in bytes) number
        → RunsPart M (look_up home number) old new t (Err (Refused ESRCH))
    unfolding look_up
    look_none number fault is =
        part_fails t (read_status home) old new
        (λ (status : ProcessStatus) (rest : Option Child → Program). rest (child_at status.children number)) (Refused ESRCH)
        (reads_none (nothing_looked (status_in bytes) number fault is))

    -- the child of this number is looked up
    pub looks : (number : ℕ) (found : Option Child) → Ok found ≡ look_for (status_in bytes) number
        → RunsPart M (look_up home number) old new t (Ok found)
    unfolding look_up
    looks number found is =
        let status_is = child_looked (status_in bytes) number found is in
        subst (λ (o : Option Child). RunsPart M (look_up home number) old new t (Ok o)) (sym status_is.2)
        (then_part t (read_status home) old new
        (λ (status : ProcessStatus) (rest : Option Child → Program). rest (child_at status.children number)) new
        status_is.0 (reads status_is.0 status_is.1) (Ok (child_at status_is.0.children number))
        (hands t new (child_at status_is.0.children number)))

-- an error that `?` passed on from a process segment
pub reading_fails : {M : Type 0} → (t : ℕ) (home : Home) (old new : KernelModel) (call_error : CallError)
    (result : Result Segment CallError) → IsErrAnd result (λ e. e ≡ call_error)
    → RunsPart M (read_status home) old new t (Err call_error) → RunsReading M home old new t result
reading_fails {M} t home old new call_error result gave fails =
    let error = err_from_is_err_and result gave in
    subst (RunsReading M home old new t) (sym (error.1 ∙ ap Err error.2)) fails

-- ---- what was decided

module _ {A : Type 0} (t : ℕ) (k : KernelModel) (due : Result A Errno) where
  -- the part passes on what was decided
  pub decided : {M : Type 0} → (x : A) → Ok x ≡ due → RunsPart M (given due) k k t (Ok x)
  decided {M} x is = subst (λ (d : Result A Errno). RunsPart M (given d) k k t (Ok x)) is (gives t k x)

  -- the call is refused by what was decided
  pub decided_not : {M : Type 0} → (errno : Errno) → Err errno ≡ due → RunsPart M (given due) k k t (Err (Refused errno))
  decided_not {M} errno is = subst (λ (d : Result A Errno). RunsPart M (given d) k k t (Err (Refused errno))) is (gives_not t A k errno)

-- ---- finding a process

take_all : (xs : List ℕ) → take (length xs) xs ≡ xs
take_all [] = refl
take_all (x ∷ xs) = ap (λ ys. x ∷ ys) (take_all xs)

-- at least one number is a first number and the others
pub first_of_numbers : (numbers : List ℕ) (d : ℕ) → 1 ≤ length numbers → numbers ≡ get_or numbers 0 d ∷ take (length numbers - 1) (drop 1 numbers)
first_of_numbers [] d some = absurd (omega arith)
first_of_numbers (x ∷ xs) d some =
    let count : length (x ∷ xs) - 1 ≡ length xs = omega arith in
    ap (λ ys. x ∷ ys) (sym (ap (λ (n : ℕ). take n xs) count ∙ take_all xs))

-- less than one number is none
pub no_numbers : (numbers : List ℕ) → length numbers ≤ 0 → numbers ≡ []
no_numbers [] none = refl
no_numbers (x ∷ xs) none = absurd (omega arith)

-- what comes after the process above
abbrev pub into : ℕ → Home → Part Home
into number home rest = look_up home number (λ found. given (must_be_there found) (λ child. rest (home_of child)))

abbrev then_there : Option Child → Part Home
then_there found rest = given (must_be_there found) (λ child. rest (home_of child))

module _ (t : ℕ) (old new : KernelModel) (number : ℕ) (home : Home) where
  -- the number was not looked up
  pub into_fails : {M : Type 0} → (call_error : CallError) → RunsPart M (look_up home number) old new t (Err call_error)
      → RunsPart M (into number home) old new t (Err call_error)
  into_fails call_error first = part_fails t (look_up home number) old new then_there call_error first

  module _ {M : Type 0} (found : Option Child) (first : RunsPart M (look_up home number) old new t (Ok found)) where
    -- a child has the number
    pub into_child : (child : Child) → Ok child ≡ must_be_there found → RunsPart M (into number home) old new t (Ok (home_of child))
    into_child child is =
        then_part t (look_up home number) old new then_there new found first (Ok (home_of child))
        (subst (λ (r : Result Child Errno).
        RunsPart {A = Home} M (λ rest. given r (λ child. rest (home_of child))) new new t (Ok (home_of child)))
        is (hands t new (home_of child)))

    -- no child has the number
    pub into_none : (errno : Errno) → Err errno ≡ must_be_there found → RunsPart M (into number home) old new t (Err (Refused errno))
    into_none errno is =
        then_part t (look_up home number) old new then_there new found first (Err (Refused errno))
        (subst (λ (r : Result Child Errno).
        RunsPart {A = Home} M (λ rest. given r (λ child. rest (home_of child))) new new t (Err (Refused errno)))
        is (refuses_at_once t Home new errno))

module _ (t : ℕ) (first : Home) (old new : KernelModel) (numbers : List ℕ) where
  -- process 0 is found there
  pub finds_first : {M : Type 0} → numbers ≡ [] → RunsPart M (find_home first numbers) old old t (Ok first)
  unfolding find_home
  finds_first {M} none = subst (λ (n : List ℕ). RunsPart M (find_home first n) old old t (Ok first)) (sym none) (hands t old first)

  module _ (number : ℕ) (above : ProcName) (split : numbers ≡ number ∷ above) where
    here : {M : Type 0} → (result : Result Home CallError)
        → RunsPart M (λ rest. find_home first above (λ home. into number home rest)) old new t result
        → RunsPart M (find_home first numbers) old new t result
    unfolding find_home look_up
    here {M} result runs = subst (λ (n : List ℕ). RunsPart M (find_home first n) old new t result) (sym split) runs

    -- the process above was not found
    pub find_fails : {M : Type 0} → (call_error : CallError) → RunsPart M (find_home first above) old new t (Err call_error)
        → RunsPart M (find_home first numbers) old new t (Err call_error)
    find_fails call_error before = here (Err call_error) (part_fails t (find_home first above) old new (into number) call_error before)

    -- the process above was found, and the number is looked up in its segment
    pub finds_on : {M : Type 0} → (mid : KernelModel) (home : Home) → RunsPart M (find_home first above) old mid t (Ok home)
        → (result : Result Home CallError) → RunsPart M (into number home) mid new t result
        → RunsPart M (find_home first numbers) old new t result
    finds_on mid home before result then = here result (then_part t (find_home first above) old new (into number) mid home before result then)
