-- The processes that are read off a state are those of the flat state, with each job by its name.
use Rattle.std.specs.Prelude.{◌≡◌, ℕ, true, ◌||◌, ◌&&◌, List, [], ◌∷◌, length, map, Option, None, Some}
use Rattle.std.specs.Prelude.{if◌then◌else◌, is_some, option_and_then, option_map, refl}
use Rattle.std.proofs.Common.{ap, inl, ◌∙◌}
use Rattle.std.proofs.Math.Bool.{or-true}
use Rattle.histar_base.specs.Paths.{same}
use Rattle.histar_base.specs.Refusals.{◌orelse◌, unless}
use Rattle.histar_flat.specs.Words.{ProcName}
use Rattle.histar_flat.specs.Accounts.{Accounts, has}
use Rattle.histar_flat.specs.Classes.{Process}
use Rattle.histar_flat.specs.FlatState.{Flat, was_given, is_given}
use Rattle.histar_flat.specs.FlatCalls.{if_running, running}
use Rattle.histar_flat.proofs.FileLemmas.{same_itself}
use Rattle.histar_level.specs.Levels.{Levels}
use Rattle.histar_object.specs.State.{State}
use Rattle.histar_layout.specs.Jobs.{jobs_in}
use Rattle.histar_layout.specs.Reading.{◌>>=◌}
use Rattle.histar_layout.specs.Status.{ProcessStatus}
use Rattle.histar_layout.specs.UserTable.{without_passwords}
use Rattle.histar_programs.specs.declared.caller.Caller.{Caller as Thread}
use Rattle.histar_programs.specs.declared.roots.Home.{Home}
use Rattle.histar_programs.specs.Caller.{caller_in, home_at, status_at}
use Rattle.histar_programs.specs.Start.{roots_of}
use Rattle.histar_refinement.specs.Categories.{IsUsed}
use Rattle.histar_refinement.specs.Categories.CategoryName.{OfJob}
use Rattle.histar_refinement.specs.NumberedClasses.{job_numbers}
use Rattle.histar_refinement.specs.Represents.{ObjectsMatch}
use Rattle.histar_refinement.proofs.CallerFound.{where_is, home_is, status_is}
use Rattle.histar_readout.specs.Process.{container_label, life_in, node_in, owned_beside, running_by, thread_label}
use Rattle.histar_readout.specs.ProcessLines.{flat_life}
use Rattle.histar_readout.specs.declared.process.Life.TheVariants.{Running}
use Rattle.histar_readout.specs.declared.process.ProcessNode.{ProcessNode}
use Rattle.histar_readout.proofs.ProcessesMatched.{node_is}
use Rattle.histar_shell.proofs.SameUsers.{same_kin, same_user}
use Rattle.histar_names.specs.Births.{Births}
use Rattle.histar_reasons.specs.Causes.{unknown}
use Rattle.histar_reasons.specs.Reasons.{absence, first_absent, unseen, why_not_found}
use Rattle.histar_reasons.specs.Reasons.Absence.{HasExited, WasKilled, WasNeverStarted}
use Rattle.histar_reasons.specs.Reasons.Reason.{IsUnseen, NoProcess}
use Rattle.histar_why.specs.Absences.{absence_by, first_absent_by, given_at, given_in, is_given_by, was_given_by}
use Rattle.histar_why.specs.Names.{caller_by, job_named, named_or_zero, node_at, running_at as running_named}
use Rattle.histar_names.specs.KnownBirths.{NamesBirths}
use Rattle.histar_why.specs.Views.{search_by, unfound_by}

-- ---- users with no passwords

module _ (accounts : Accounts) (s : State) where
  same_running : (caller : Thread) (own : Levels) → running_by (without_passwords accounts) caller own ≡ running_by accounts caller own
  same_running caller own = λ i. Running (same_user accounts own i) (owned_beside (caller.read ∷ caller.write ∷ (same_kin accounts own i).owned) own)

  same_life : (home : Home) (exited : Option ℕ) → life_in (without_passwords accounts) s home exited ≡ life_in accounts s home exited
  same_life home None = λ i. do
    caller ← caller_in s home
    own ← thread_label (s.objects caller.thread)
    Some (same_running caller own i)
  same_life home (Some number) = refl

  same_node : (me : ProcName) (home : Home) → node_in (without_passwords accounts) s me home ≡ node_in accounts s me home
  same_node me home = λ i. do
    status ← status_at s home.segment
    outer ← container_label (s.objects home.container)
    life ← same_life home status.exited i
    Some (record { name = me; home = home; chain = jobs_in outer; life = life; born = status.born })

module _ (accounts : Accounts) (s : State) (f : Flat) (births : Births) (names : NamesBirths births accounts s f) where
  abbrev l : ObjectsMatch accounts s f
  l = names.represents.matched

  abbrev first : Home
  first = (roots_of (length accounts.users)).home

  -- ---- the names of jobs

  -- a job that is used has its name
  job_is : (job : ProcName) → IsUsed accounts f (OfJob job) → job_named births (l.category (OfJob job)) ≡ job
  job_is job used = ap named_or_zero (names.noted (OfJob job) used refl)

  -- so have all jobs that are used
  pub jobs_are : (jobs : List ProcName) → ((job : ProcName) → has jobs job ≡ true → IsUsed accounts f (OfJob job))
      → map (job_named births) (job_numbers l.category jobs) ≡ jobs
  jobs_are [] used = refl
  jobs_are (job ∷ jobs) used = λ i. job_is job (used job (ap (λ b. b || has jobs job) (same_itself job))) i
      ∷ jobs_are jobs (λ other is. used other (ap (λ b. same other job || b) is ∙ or-true (same other job))) i

  -- what is read of a process
  abbrev read_of : ProcName → Option Process → Option ProcessNode
  read_of me o = elim o [
    | None ↦ None
    | Some p ↦ Some (record {
      name = me;
      home = where_is accounts s f l me;
      chain = job_numbers l.category p.chain;
      life = flat_life l.category p p.exited;
      born = p.born;
    })
  ]

  module _ (me : ProcName) where
    -- the process is read as the flat state has it
    pub node_found : node_at (without_passwords accounts) s first me ≡ read_of me (f.processes me)
    node_found =
        ap (option_and_then (λ (home : Home). node_in (without_passwords accounts) s me home)) (home_is accounts s f l me)
        ∙ by (f.processes me) refl
      where
        by : (o : Option Process) → f.processes me ≡ o
            → option_and_then (λ (home : Home). node_in (without_passwords accounts) s me home)
            (option_map (λ (p : Process). where_is accounts s f l me) o)
            ≡ read_of me o
        by None e = refl
        by (Some p) e = same_node accounts s me (where_is accounts s f l me) ∙ node_is accounts s f l me p e

    -- the jobs that it is in are named
    chain_named : (p : Process) → f.processes me ≡ Some p → map (job_named births) (job_numbers l.category p.chain) ≡ p.chain
    chain_named p e = jobs_are p.chain (λ job is. inl (me, p, e, ap (λ b. b || has p.held job) is))

    held_named : (p : Process) → f.processes me ≡ Some p → map (job_named births) (job_numbers l.category p.held) ≡ p.held
    held_named p e = jobs_are p.held (λ job is. inl (me, p, e, ap (λ b. has p.chain job || b) is ∙ or-true (has p.chain job)))

    -- a process that runs is found with its jobs by name, and no other is found
    pub running_found : running_named (without_passwords accounts) births s first me ≡ running f me
    running_found =
        ap (option_and_then (caller_by births)) node_found ∙ by (f.processes me) refl
      where
        by_life : (p : Process) (e : f.processes me ≡ Some p) (x : Option ℕ) → p.exited ≡ x
            → option_and_then (caller_by births) (read_of me (Some (record p { exited = x }))) ≡ if_running (Some (record p { exited = x }))
        by_life p e None runs =
            λ i. Some (record { user = p.user; chain = chain_named p e i; held = held_named p e i; exited = None; born = p.born })
        by_life p e (Some n) exited = refl

        by : (o : Option Process) → f.processes me ≡ o → option_and_then (caller_by births) (read_of me o) ≡ if_running o
        by None e = refl
        by (Some p) e = by_life p e p.exited refl

  -- ---- the search

  -- why a process doesn't find the one of a name, if it finds those above it
  unfound_is : (p : Process) (n : ℕ) (above : ProcName)
      → unfound_by births p (n ∷ above) (node_at (without_passwords accounts) s first (n ∷ above))
      ≡ (unless (is_some (f.processes (n ∷ above))) (NoProcess (n ∷ above)) orelse unseen accounts f p (n ∷ above) (f.processes (n ∷ above)))
  unfound_is p n above = ap (unfound_by births p (n ∷ above)) (node_found (n ∷ above)) ∙ by (f.processes (n ∷ above)) refl
    where
      by : (o : Option Process) → f.processes (n ∷ above) ≡ o
          → unfound_by births p (n ∷ above) (read_of (n ∷ above) o)
          ≡ (unless (is_some o) (NoProcess (n ∷ above))
          orelse elim o [ None ↦ None | Some other ↦ option_map (IsUnseen (n ∷ above)) (unknown p other.chain) ])
      by None e = refl
      by (Some other) e = ap (λ (jobs : List ProcName). option_map (IsUnseen (n ∷ above)) (unknown p jobs)) (chain_named (n ∷ above) other e)

  -- why a process doesn't find the one of a name
  pub search_is : (p : Process) (name : ProcName) → search_by (without_passwords accounts) births s first p name ≡ why_not_found accounts f p name
  search_is p [] = refl
  search_is p (n ∷ above) = λ i. search_is p above i orelse unfound_is p n above i

  -- ---- absences

  home_there : (me : ProcName) → is_some (home_at s first me) ≡ is_some (f.processes me)
  home_there me = ap is_some (home_is accounts s f l me) ∙ by (f.processes me)
    where
      by : (o : Option Process) → is_some (option_map (λ (p : Process). where_is accounts s f l me) o) ≡ is_some o
      by None = refl
      by (Some p) = refl

  given_is : (me : ProcName) (n : ℕ) → was_given_by s first me n ≡ was_given (f.processes me) n
  given_is me n = ap (λ (o : Option Home). given_at s o n) (home_is accounts s f l me) ∙ by (f.processes me) refl
    where
      by : (o : Option Process) → f.processes me ≡ o
          → given_at s (option_map (λ (p : Process). where_is accounts s f l me) o) n ≡ was_given o n
      by None e = refl
      by (Some p) e = ap (λ (x : Option ProcessStatus). given_in x n) (status_is accounts s f l me p e)

  all_given : (me : ProcName) → is_given_by s first me ≡ is_given f.processes me
  all_given [] = refl
  all_given (n ∷ me) = λ i. given_is me n i && all_given me i

  absent_is : (me : ProcName) → first_absent_by s first me ≡ first_absent f me
  absent_is [] = refl
  absent_is (n ∷ me) = λ i. if home_there me i then n ∷ me else absent_is me i

  -- why a process doesn't run
  pub absence_is : (me : ProcName) → absence_by s first me ≡ absence f me
  absence_is me =
      λ i. if home_there me i then HasExited
      else if all_given me i then WasKilled (absent_is me i)
      else WasNeverStarted
