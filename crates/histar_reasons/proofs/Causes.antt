-- A cause is there exactly where a class may not be read or written, and is the first part of the rule that fails.
use Rattle.std.specs.Prelude.{◌≡◌, Bool, true, false, ◌&&◌, List, [], ◌∷◌, ◌++◌, Option, None, Some, option_map, refl}
use Rattle.std.proofs.Common.{sym, ap, ◌∙◌, subst}
use Rattle.std.specs.List.{list_all}
use Rattle.std.proofs.lemmas.Bool.{and_parts}
use Rattle.histar_base.specs.Paths.{same}
use Rattle.histar_base.specs.Refusals.{◌orelse◌, unless}
use Rattle.histar_flat.specs.Words.{Name, ProcName}
use Rattle.histar_flat.specs.Accounts.{Accounts, has, is_member}
use Rattle.histar_flat.specs.Classes.{Class, Process, knows, is_free, may_read, may_write, class_owner}
use Rattle.histar_flat.specs.Classes.Class.{Private, Readable, Open, Scratch, Grouped}
use Rattle.histar_reasons.specs.Causes.{Cause, unknown, left, unread, unwritten, last_of, innermost}
use Rattle.histar_reasons.specs.Causes.Cause.{IsPrivate, IsReadable, IsScratch, IsGrouped, NeedsJob, LeavesJob}
use Rattle.histar_reasons.specs.Laws.{jobs_of, ReadFails, WriteFails}
use Rattle.histar_reasons.proofs.Options.{none, none_unless, none_orelse, none_first, none_map, first_is, from_map, from_unless, from_orelse}

-- a test and a chain behind it refuse nothing exactly if both pass
test_then : {A : Type 0} (b c : Bool) (x : A) (o : Option A) → none o ≡ c → none (unless b x orelse o) ≡ (b && c)
test_then true c x o h = h
test_then false c x o h = refl

-- a test that refuses nothing has passed
pub passed_by : {A : Type 0} (b : Bool) (x : A) → unless b x ≡ None → b ≡ true
passed_by true x h = refl
passed_by false x h = absurd (cc)

-- a process is in no job exactly if each of its jobs is one of none
in_none : (p : Process) → list_all (has []) p.chain ≡ is_free p
in_none p = by p.chain
  where
    by : (chain : List ProcName) → list_all (has []) chain ≡ elim chain as (λ _. Bool) [ [] ↦ true | job ∷ jobs ↦ false ]
    by [] = refl
    by (job ∷ jobs) = refl

-- the process leaves none of its jobs exactly if each is one of these
none_left : (p : Process) (jobs : List ProcName) → none (option_map LeavesJob (left p jobs)) ≡ list_all (has jobs) p.chain
none_left p jobs = none_map LeavesJob (left p jobs) ∙ none_first (has jobs) p.chain

-- it leaves no job for what is of none exactly if it is in none
none_left_free : (p : Process) → none (option_map LeavesJob (left p [])) ≡ is_free p
none_left_free p = none_left p [] ∙ in_none p

-- it lacks none of these jobs exactly if it knows each
none_lacks : (p : Process) (jobs : List ProcName) → none (option_map NeedsJob (unknown p jobs)) ≡ list_all (knows p) jobs
none_lacks p jobs = none_map NeedsJob (unknown p jobs) ∙ none_first (knows p) jobs

-- a class may be read exactly if there is no cause
pub read_agrees : (accounts : Accounts) (p : Process) (class : Class) → none (unread accounts p class) ≡ may_read accounts p class
read_agrees accounts p (Private owner) = none_unless (same p.user owner) (IsPrivate owner)
read_agrees accounts p (Readable owner) = refl
read_agrees accounts p Open = refl
read_agrees accounts p (Scratch owner jobs) =
    test_then (same p.user owner) (list_all (knows p) jobs) (IsScratch owner) (option_map NeedsJob (unknown p jobs)) (none_lacks p jobs)
read_agrees accounts p (Grouped group) = none_unless (is_member accounts p.user group) (IsGrouped group)

-- a class may be written exactly if there is no cause
pub write_agrees : (accounts : Accounts) (p : Process) (class : Class) → none (unwritten accounts p class) ≡ may_write accounts p class
write_agrees accounts p (Private owner) =
    test_then (same p.user owner) (is_free p) (IsPrivate owner) (option_map LeavesJob (left p [])) (none_left_free p)
write_agrees accounts p (Readable owner) =
    test_then (same p.user owner) (is_free p) (IsReadable owner) (option_map LeavesJob (left p [])) (none_left_free p)
write_agrees accounts p Open = none_left_free p
write_agrees accounts p (Scratch owner jobs) =
    none_orelse (unless (same p.user owner) (IsScratch owner) orelse option_map NeedsJob (unknown p jobs)) (option_map LeavesJob (left p jobs))
    ∙ ap (λ b. b && none (option_map LeavesJob (left p jobs))) (read_agrees accounts p (Scratch owner jobs))
    ∙ ap (λ b. (same p.user owner && list_all (knows p) jobs) && b) (none_left p jobs)
write_agrees accounts p (Grouped group) =
    test_then (is_member accounts p.user group) (is_free p) (IsGrouped group) (option_map LeavesJob (left p [])) (none_left_free p)

module _ (accounts : Accounts) (p : Process) where
  -- scratch may not be read for this cause
  scratch_fails : (owner : Name) (jobs : List ProcName) (cause : Cause)
      → (unless (same p.user owner) (IsScratch owner) orelse option_map NeedsJob (unknown p jobs)) ≡ Some cause
      → ReadFails accounts p (Scratch owner jobs) cause
  scratch_fails owner jobs cause =
      from_orelse (ReadFails accounts p (Scratch owner jobs)) (unless (same p.user owner) (IsScratch owner))
      (option_map NeedsJob (unknown p jobs)) cause
      (from_unless (ReadFails accounts p (Scratch owner jobs)) (same p.user owner) (IsScratch owner) cause (λ e. (jobs, refl, e)))
      (λ owns. from_map (ReadFails accounts p (Scratch owner jobs)) NeedsJob (unknown p jobs) cause
      (λ job e. (owner, refl, passed_by (same p.user owner) (IsScratch owner) owns, first_is (knows p) jobs job e)))

  -- the cause for which a class may not be read is so
  pub read_fails : (class : Class) (cause : Cause) → unread accounts p class ≡ Some cause → ReadFails accounts p class cause
  read_fails (Private owner) cause = from_unless (ReadFails accounts p (Private owner)) (same p.user owner) (IsPrivate owner) cause (λ e. (refl, e))
  read_fails (Readable owner) cause = λ h. absurd (cc)
  read_fails Open cause = λ h. absurd (cc)
  read_fails (Scratch owner jobs) cause = scratch_fails owner jobs cause
  read_fails (Grouped group) cause =
      from_unless (ReadFails accounts p (Grouped group)) (is_member accounts p.user group) (IsGrouped group) cause (λ e. (refl, e))

  -- a process that may read a class of its own doesn't write it, because it is in a job
  leaves : (class : Class) (cause : Cause) → may_read accounts p class ≡ true
      → ((owner : Name) → class_owner class ≡ Some owner → same p.user owner ≡ true)
      → option_map LeavesJob (left p (jobs_of class)) ≡ Some cause → WriteFails accounts p class cause
  leaves class cause reads owns = from_map (WriteFails accounts p class) LeavesJob (left p (jobs_of class)) cause
      (λ job e. (reads, owns, first_is (has (jobs_of class)) p.chain job e))

  -- a class of this owner has no other
  own : (owner : Name) → same p.user owner ≡ true → (other : Name) → Some owner ≡ Some other → same p.user other ≡ true
  own owner owns other e = let is : owner ≡ other = cc in subst (λ n. same p.user n ≡ true) is owns

  -- a cause for which scratch may not be read is one for which it may not be written
  also_written : (owner : Name) (jobs : List ProcName) (cause : Cause) → ReadFails accounts p (Scratch owner jobs) cause
      → WriteFails accounts p (Scratch owner jobs) cause
  also_written owner jobs (IsPrivate o) h = h
  also_written owner jobs (IsReadable o) h = absurd (h)
  also_written owner jobs (IsScratch o) h = h
  also_written owner jobs (IsGrouped o) h = h
  also_written owner jobs (NeedsJob o) h = h
  also_written owner jobs (LeavesJob o) h = absurd (h)

  -- the cause for which a class may not be written is so
  pub write_fails : (class : Class) (cause : Cause) → unwritten accounts p class ≡ Some cause → WriteFails accounts p class cause
  write_fails (Private owner) cause =
      from_orelse (WriteFails accounts p (Private owner)) (unless (same p.user owner) (IsPrivate owner)) (option_map LeavesJob (left p [])) cause
      (from_unless (WriteFails accounts p (Private owner)) (same p.user owner) (IsPrivate owner) cause (λ e. (refl, e)))
      (λ e. let owns = passed_by (same p.user owner) (IsPrivate owner) e in leaves (Private owner) cause owns (own owner owns))
  write_fails (Readable owner) cause =
      from_orelse (WriteFails accounts p (Readable owner)) (unless (same p.user owner) (IsReadable owner)) (option_map LeavesJob (left p [])) cause
      (from_unless (WriteFails accounts p (Readable owner)) (same p.user owner) (IsReadable owner) cause (λ e. (refl, e)))
      (λ e. let owns = passed_by (same p.user owner) (IsReadable owner) e in leaves (Readable owner) cause refl (own owner owns))
  write_fails Open cause = leaves Open cause refl (λ owner e. absurd (cc))
  write_fails (Scratch owner jobs) cause =
      from_orelse (WriteFails accounts p (Scratch owner jobs))
      (unless (same p.user owner) (IsScratch owner) orelse option_map NeedsJob (unknown p jobs)) (option_map LeavesJob (left p jobs)) cause
      (λ h. also_written owner jobs cause (scratch_fails owner jobs cause h))
      (λ e. let reads = sym (read_agrees accounts p (Scratch owner jobs)) ∙ ap none e in
      leaves (Scratch owner jobs) cause reads (own owner (and_parts (same p.user owner) (list_all (knows p) jobs) reads).0))
  write_fails (Grouped group) cause =
      from_orelse (WriteFails accounts p (Grouped group)) (unless (is_member accounts p.user group) (IsGrouped group))
      (option_map LeavesJob (left p [])) cause
      (from_unless (WriteFails accounts p (Grouped group)) (is_member accounts p.user group) (IsGrouped group) cause (λ e. (refl, e)))
      (λ e. leaves (Grouped group) cause (passed_by (is_member accounts p.user group) (IsGrouped group) e) (λ owner i. absurd (cc)))

-- the last of some jobs is there
last_there : (job : ProcName) (jobs : List ProcName) → none (last_of (job ∷ jobs)) ≡ false
last_there job [] = refl
last_there job (next ∷ jobs) = last_there next jobs

-- a process has an innermost job exactly if it is in one
pub innermost_agrees : (p : Process) → none (innermost p) ≡ is_free p
innermost_agrees p = by p.chain
  where
    by : (chain : List ProcName) → none (last_of chain) ≡ elim chain as (λ _. Bool) [ [] ↦ true | job ∷ jobs ↦ false ]
    by [] = refl
    by (job ∷ jobs) = last_there job jobs

-- the last of some jobs is their last
pub last_is : (chain : List ProcName) (job : ProcName) → last_of chain ≡ Some job → (outer : List ProcName) × (chain ≡ outer ++ job ∷ [])
last_is [] job h = absurd (cc)
last_is (first ∷ []) job h = let is : first ≡ job = cc in ([], ap (λ j. j ∷ []) is)
last_is (first ∷ next ∷ jobs) job h = let rest = last_is (next ∷ jobs) job h in (first ∷ rest.0, ap (λ js. first ∷ js) rest.1)
