-- The birth of a job's first process: what its raw calls need is there, and they leave the state in which its parent holds the job.
use Rattle.std.proofs.Common.{◌≡◌, ℕ, ◌+◌, ◌<◌, ◌≤◌, inr, true, false, List, [], ◌∷◌, ◌++◌, None, Some, arith, sym, ap, ◌∙◌, subst}
use Rattle.std.specs.Prelude.{map}
use Rattle.std.specs.FinSet as set
use Rattle.histar_flat.specs.Words.{ProcName}
use Rattle.histar_flat.specs.Accounts.{Accounts, has, user_number}
use Rattle.histar_flat.specs.Classes.{Process, is_free}
use Rattle.histar_flat.specs.FlatState.{Flat}
use Rattle.histar_level.specs.Levels.{Levels}
use Rattle.histar_object.specs.declared.objects.Kind.TheVariants.{Segment, Container, Thread}
use Rattle.histar_object.specs.Objects.{Objects, thread_of}
use Rattle.histar_rules.specs.Rights.{with_category}
use Rattle.histar_object.specs.State.{State}
use Rattle.histar_rules.specs.Rules.{greatest}
use Rattle.histar_layout.specs.Status.{ProcessStatus}
use Rattle.histar_programs.specs.declared.roots.Home.{Home}
use Rattle.histar_process.specs.Birth.{outer_label, inner_label, thread_label, thread_clearance}
use Rattle.histar_programs.specs.Kin.{Kin, user_name, owned_by}
use Rattle.histar_refinement.specs.Accounts.{AreAccounts}
use Rattle.histar_refinement.specs.Categories.{CategoryName, Categories, IsUsed, boot_category, among}
use Rattle.histar_refinement.specs.Categories.CategoryName.{ReadsProcess, WritesProcess, OfJob}
use Rattle.histar_refinement.specs.Guards.{guard_label, rights_label, rights_clearance}
use Rattle.histar_refinement.specs.Labels.{process_guard, inside_guard, thread_rights}
use Rattle.histar_refinement.specs.Represents.{AreInOrder, ObjectsMatch}
use Rattle.histar_refinement.specs.Processes.{or_zero, process_bytes, status_by}
use Rattle.histar_refinement.proofs.Beside.{Beside, own_set}
use Rattle.histar_refinement.proofs.Counting.{boot_used}
use Rattle.histar_refinement.proofs.Growing.{same_numbers}
use Rattle.histar_refinement.proofs.JobBorn.{state_held}
use Rattle.histar_layout.proofs.Members.{is_in}
use Rattle.histar_refinement.proofs.RawChecks.{object}
use Rattle.histar_refinement.proofs.Spawned.{births}
use Rattle.histar_refinement.proofs.Spawning.{reads_number, writes_number}
use Rattle.histar_refinement.proofs.Uses.{job_among}
use Rattle.histar_refinement.proofs.WrapTests.{not_free}
use Rattle.histar_refinement.proofs.OwnLabels.{name_of_number}
use Rattle.histar_sim.proofs.BirthChecks.{IsModified, IsLesser}
use Rattle.histar_sim.proofs.BirthRun.{IsFit, spawned}
use Rattle.histar_sim.proofs.ChildBytes.{started_fits, grown_fits, few_listed, child_bytes_are, own_bytes_are}
use Rattle.histar_sim.proofs.ChildLabels.{outer_is, inner_is, label_is, clearance_is}
use Rattle.histar_sim.proofs.ScratchLabels.{rights_with_job}
use Rattle.histar_sim.proofs.JobRights.{JobParent, jobs_used, jobs_free, names, kept, owner, owner_clearance, around_owner, home_modified}
use Rattle.histar_sim.proofs.JobRights.{outer_modified, inner_modified, thread_lesser, own_taken, own_is, own_clearance_is}

module _ (accounts : Accounts) (ok : AreAccounts accounts) (s : State) (f : Flat) (l : ObjectsMatch accounts s f)
    (me : ProcName) (p : Process) (parent : JobParent accounts s f l me p)
    (objects : Objects Levels) (own clearance : Levels) (beside : Beside parent.thread own clearance
    (record { objects = objects; next_object = s.next_object; next_category = s.next_category }) s)
    (thread : objects parent.thread
    ≡ object (rights_label l.category (rights_with_job accounts me p))
    (Thread (rights_clearance l.category (rights_with_job accounts me p))))
    (kin : Kin)
    (alike : (q : ℕ)
    → is_in kin.jobs q ≡ is_in (map l.category (map OfJob (p.chain ++ ((p.born + 1) ∷ me) ∷ []))) q)
    (revealed : kin.owned ≡ owned_by accounts (or_zero (user_number accounts p.user)) false) where
  -- the numbers of the parent's container, its process segment and its thread
  abbrev C : ℕ
  C = parent.home

  abbrev S : ℕ
  S = parent.segment

  abbrev T : ℕ
  T = parent.thread

  abbrev child : ProcName
  child = (p.born + 1) ∷ me

  abbrev jobs : List ProcName
  jobs = p.chain ++ ((p.born + 1) ∷ me) ∷ []

  abbrev home : Home
  home = record { container = C; segment = S }

  abbrev status : ProcessStatus
  status = status_by f.processes l.naming.number me p

  abbrev newborn : Process
  newborn = record { user = p.user; chain = jobs; held = []; exited = None; born = 0 }

  -- the labels of its thread with the job
  abbrev pub own_with_job : Levels
  own_with_job = rights_label l.category (rights_with_job accounts me p)

  abbrev pub own_clearance_with_job : Levels
  own_clearance_with_job = rights_clearance l.category (rights_with_job accounts me p)

  -- the state before the birth
  abbrev pub before : State
  before = record { objects = objects; next_object = s.next_object; next_category = s.next_category }

  -- the numbers of categories once the child has its two
  abbrev then_names : Categories
  then_names = names accounts s f l me p parent

  same : (c : CategoryName) → IsUsed accounts f c → then_names c ≡ l.category c
  same = kept accounts s f l me p parent

  -- boot's categories keep their numbers
  as_made : (c : CategoryName) (q : ℕ) → boot_category accounts c ≡ Some q → then_names c ≡ q
  as_made c q booted = same c (boot_used accounts f l.first c q booted) ∙ l.as_made c q booted

  -- the jobs keep their numbers
  used : (c : CategoryName) → among (map OfJob jobs) c ≡ true → IsUsed accounts f c
  used c e =
      let found = job_among jobs c e in
      subst (IsUsed accounts f) (sym found.1) (jobs_used accounts s f l me p parent found.0 found.2)

  alike_then : (q : ℕ) → is_in kin.jobs q ≡ is_in (map then_names (map OfJob jobs)) q
  alike_then q =
      alike q
      ∙ ap (λ (numbers : List ℕ). is_in numbers q)
      (sym (same_numbers l.category then_names (map OfJob jobs) (λ c e. same c (used c e))))

  revealed_then : kin.owned ≡ owned_by accounts (or_zero (user_number accounts p.user)) (is_free newborn)
  revealed_then = revealed ∙ ap (owned_by accounts (or_zero (user_number accounts p.user))) (sym (not_free p.chain child))

  named : user_name accounts.users (or_zero (user_number accounts p.user)) ≡ p.user
  named = name_of_number accounts p.user (inr parent.declared)

  reads_is : then_names (ReadsProcess ((p.born + 1) ∷ me)) ≡ s.next_category
  reads_is =
      reads_number accounts s f l me p parent.here parent.runs parent.room jobs (jobs_used accounts s f l me p parent)
      parent.jobs_ordered (jobs_free accounts s f l me p parent) C S parent.at_home parent.at_status

  writes_is : then_names (WritesProcess ((p.born + 1) ∷ me)) ≡ s.next_category + 1
  writes_is =
      writes_number accounts s f l me p parent.here parent.runs parent.room jobs (jobs_used accounts s f l me p parent)
      parent.jobs_ordered (jobs_free accounts s f l me p parent) C S parent.at_home parent.at_status

  -- the labels of the objects that are made are the child's
  outer_same : outer_label kin (s.next_category + 1) ≡ guard_label then_names (process_guard child newborn)
  outer_same =
      outer_is accounts then_names newborn as_made named kin alike_then revealed_then child s.next_category
      (s.next_category + 1) reads_is writes_is

  inner_same : inner_label kin s.next_category (s.next_category + 1) ≡ guard_label then_names (inside_guard child newborn)
  inner_same =
      inner_is accounts then_names newborn as_made named kin alike_then revealed_then child s.next_category
      (s.next_category + 1) reads_is writes_is

  label_same : thread_label kin s.next_category (s.next_category + 1) ≡ rights_label then_names (thread_rights accounts child newborn)
  label_same =
      label_is accounts then_names newborn as_made named kin alike_then revealed_then child s.next_category
      (s.next_category + 1) reads_is writes_is

  clearance_same : thread_clearance kin s.next_category (s.next_category + 1) ≡ rights_clearance then_names (thread_rights accounts child newborn)
  clearance_same =
      clearance_is accounts then_names newborn as_made named kin alike_then revealed_then child s.next_category
      (s.next_category + 1) reads_is writes_is

  abbrev grown : Levels
  grown = owner accounts s f l me p parent

  abbrev grown_clearance : Levels
  grown_clearance = owner_clearance accounts s f l me p parent

  -- What the birth needs is there.
  pub fit : IsFit before T (record { container = C; segment = S }) (status_by f.processes l.naming.number me p) kin
      own_with_job own_clearance_with_job
  fit = record {
    thread = thread;
    owner = grown;
    owner_clearance = grown_clearance;
    label = guard_label then_names (process_guard me p);
    held = process_bytes f.processes l.naming.number me p;
    around = around_owner accounts s f l me p parent objects beside.others thread;
    under = (home_modified accounts s f l me p parent).0;
    seen = (home_modified accounts s f l me p parent).1;
    outer =
        subst (λ (x : Levels). IsModified grown grown_clearance x (s.next_category + 1 + 1)) (sym outer_same)
        (outer_modified accounts s f l me p parent);
    inner =
        subst (λ (x : Levels). IsModified grown grown_clearance x (s.next_category + 1 + 1)) (sym inner_same)
        (inner_modified accounts s f l me p parent);
    lesser =
        subst (λ (x : Levels × Levels). IsLesser grown grown_clearance x.0 x.1 (s.next_category + 1 + 1))
        (λ i. (sym label_same i, sym clearance_same i))
        (thread_lesser accounts s f l me p parent);
    taken = own_taken accounts s f l me p parent;
    child_few = started_fits (s.next_object + 1) (s.next_object + 1 + 1);
    own_few =
        grown_fits (process_bytes f.processes l.naming.number me p) s.next_object (s.next_object + 1 + 1 + 1) status
        (let listed = few_listed f.processes l.naming.number me p in let room = parent.room in omega
        (arith, listed, room));
  }

  -- the state after the birth is the one in which its parent holds the job
  module _ (stranger : has p.chain ((p.born + 1) ∷ me) ≡ false)
      (held_ordered : AreInOrder l.category (p.held ++ ((p.born + 1) ∷ me) ∷ [])) (few : s.next_object + 3 < greatest)
      (counted : s.next_category ≤ s.next_category) where
    pub held_is : spawned before T (record { container = C; segment = S }) (status_by f.processes l.naming.number me p)
        kin own_with_job own_clearance_with_job
        ≡ state_held accounts s f l me p parent.here parent.runs parent.room parent.declared parent.served stranger
        parent.jobs_ordered held_ordered C S T parent.at_home parent.at_status parent.at_thread few own clearance
        before beside counted
    held_is = λ i. own_set T (births (with_category (with_category before T) T) C S
        (record { label = outer_same i; kind = Container set.empty })
        (record { label = inner_same i; kind = Container set.empty })
        (thread_of (label_same i) (clearance_same i))
        (record {
          label = outer_same i;
          kind = Segment (child_bytes_are accounts s f l me p parent.here parent.runs parent.room jobs
              (jobs_used accounts s f l me p parent) parent.jobs_ordered
              (jobs_free accounts s f l me p parent) C S parent.at_home parent.at_status i);
        })
        (own_bytes_are accounts s f l me p parent.here parent.runs parent.room jobs
        (jobs_used accounts s f l me p parent) parent.jobs_ordered (jobs_free accounts s f l me p parent) C S
        parent.at_home parent.at_status i))
        (own_is accounts s f l me p parent i) (own_clearance_is accounts s f l me p parent i)
