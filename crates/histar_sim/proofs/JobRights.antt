-- What the thread of a process may do once it has made the category of a job and the two of the job's first process, and what is there.
use Rattle.std.proofs.Common.{◌≡◌, ◌≢◌, ℕ, ◌+◌, ◌<◌, inl, inr, true, false, List, [], ◌∷◌, ◌++◌, None, Some, arith, sym, ap, ◌∙◌, subst}
use Rattle.std.specs.Prelude.{is_some}
use Rattle.std.proofs.lemmas.Bool.{or_left}
use mathlib.Core.Bool.{true≢false}
use Rattle.histar_flat.specs.Words.{ProcName}
use Rattle.histar_flat.specs.Accounts.{Accounts, has, user_number}
use Rattle.histar_flat.specs.Classes.{Process}
use Rattle.histar_flat.specs.FlatState.{Flat}
use Rattle.histar_flat.proofs.GivenNames.{longer_has}
use Rattle.histar_level.specs.declared.level.Level.TheVariants.{Star, L3}
use Rattle.histar_level.specs.Levels.{Levels}
use Rattle.histar_label.specs.Levels.{with_level, is_below, is_below_raised, is_made}
use Rattle.histar_object.specs.declared.objects.Kind.TheVariants.{Thread}
use Rattle.histar_object.specs.Objects.{Objects}
use Rattle.histar_rules.specs.Rights.{with_category}
use Rattle.histar_object.specs.State.{State}
use Rattle.histar_refinement.specs.Categories.{CategoryName, Categories, AreDifferent, IsMade, IsServed, IsUsed}
use Rattle.histar_refinement.specs.Categories.CategoryName.{OfBoot, ReadsProcess, WritesProcess, OfJob}
use Rattle.histar_refinement.specs.Guards.{Rights, guard_label, rights_label, rights_clearance}
use Rattle.histar_refinement.specs.Labels.{process_guard, inside_guard, thread_rights}
use Rattle.histar_refinement.specs.Addresses.{home_address}
use Rattle.histar_refinement.specs.Addresses.Step.{Status, Inside, Runner}
use Rattle.histar_refinement.specs.Represents.{AreInOrder, ObjectsMatch}
use Rattle.histar_refinement.specs.Processes.{process_bytes}
use Rattle.histar_refinement.proofs.AmongNames.{each_head, each_append}
use Rattle.histar_refinement.proofs.Growing.{RightsHave, IsOld, new_number, made_label, made_clearance, same_rights_label, same_rights_clearance}
use Rattle.histar_layout.proofs.Members.{first_of, second_of}
use Rattle.histar_refinement.proofs.RawChecks.{object}
use Rattle.histar_refinement.proofs.Spawning.{after, no_child, with_reads, different_reads, category, different, keeps_first, keeps, made_then}
use Rattle.histar_refinement.proofs.Spawning.{at_child}
use Rattle.histar_refinement.proofs.Tested.{AreMade, guard_made, rights_made, clearance_made, guard_owns_nothing}
use Rattle.histar_refinement.proofs.Uses.{process_used, inside_used, rights_used, keep_process_label}
use Rattle.histar_refinement.proofs.WrapTests as tests
use Rattle.histar_refinement.proofs.WrapTests.{grown, holding}
use Rattle.histar_sim.proofs.BirthObjects.{LinksTo, Around, around_category, home_apart, segment_apart}
use Rattle.histar_sim.proofs.BirthChecks.{IsModified, IsLesser, IsTaken}
use Rattle.histar_sim.proofs.BirthRights.{around_before}
use Rattle.histar_sim.proofs.ScratchLabels.{rights_with_job}

-- The parent of a new job's first process, once the job has its directory: the parent's user is declared, its jobs and the new one are in the
-- order of their categories, and its container, its process segment and its thread have these numbers.
pub record JobParent (accounts : Accounts) (s : State) (f : Flat) (l : ObjectsMatch accounts s f) (me : ProcName) (p : Process) : Type 0 where
  pub here : f.processes me ≡ Some p
  pub runs : p.exited ≡ None
  pub room : p.born < 64
  pub declared : is_some (user_number accounts p.user) ≡ true
  pub served : IsServed f ((p.born + 1) ∷ me)
  pub jobs_ordered : AreInOrder l.category (p.chain ++ ((p.born + 1) ∷ me) ∷ [])
  pub home : ℕ
  pub segment : ℕ
  pub thread : ℕ
  pub at_home : l.naming.number (home_address me) ≡ Some home
  pub at_status : l.naming.number (Status ∷ home_address me) ≡ Some segment
  pub at_thread : l.naming.number (Runner ∷ Inside ∷ home_address me) ≡ Some thread

module _ (accounts : Accounts) (s : State) (f : Flat) (l : ObjectsMatch accounts s f) (me : ProcName) (p : Process)
    (parent : JobParent accounts s f l me p) where
  -- the fields of the parent by name
  abbrev here : f.processes me ≡ Some p
  here = parent.here

  abbrev runs : p.exited ≡ None
  runs = parent.runs

  abbrev room : p.born < 64
  room = parent.room

  abbrev declared : is_some (user_number accounts p.user) ≡ true
  declared = parent.declared

  abbrev served : IsServed f ((p.born + 1) ∷ me)
  served = parent.served

  abbrev jobs_ordered : AreInOrder l.category (p.chain ++ ((p.born + 1) ∷ me) ∷ [])
  jobs_ordered = parent.jobs_ordered

  -- the numbers of its container, its process segment and its thread
  abbrev C : ℕ
  C = parent.home

  abbrev S : ℕ
  S = parent.segment

  abbrev T : ℕ
  T = parent.thread

  abbrev at_home : l.naming.number (home_address me) ≡ Some C
  at_home = parent.at_home

  abbrev at_status : l.naming.number (Status ∷ home_address me) ≡ Some S
  at_status = parent.at_status

  abbrev at_thread : l.naming.number (Runner ∷ Inside ∷ home_address me) ≡ Some T
  at_thread = parent.at_thread

  abbrev child : ProcName
  child = (p.born + 1) ∷ me

  -- the jobs that the child is in
  abbrev pub jobs : List ProcName
  jobs = p.chain ++ ((p.born + 1) ∷ me) ∷ []

  pub jobs_used : (job : ProcName) → has jobs job ≡ true → IsUsed accounts f (OfJob job)
  jobs_used job e = elim (longer_has p.chain child job e) [
    | inl k ↦ inl (me, p, here, or_left (has p.chain job) (has p.held job) k)
    | inr is ↦ inr (subst (IsServed f) (sym is) served)
  ]

  pub jobs_free : is_some (user_number accounts p.user) ≡ false → jobs ≡ []
  jobs_free e = absurd (true≢false (sym declared ∙ e))

  -- the next category before
  abbrev next : ℕ
  next = s.next_category

  -- the numbers of categories once both of the child's are made, and once the first is
  abbrev pub names : Categories
  names = category accounts s f l me p here runs room jobs jobs_used jobs_ordered jobs_free C S at_home at_status

  pub apart : AreDifferent names
  apart = different accounts s f l me p here runs room jobs jobs_used jobs_ordered jobs_free C S at_home at_status

  abbrev first_names : Categories
  first_names = with_reads accounts s f l me p here runs room jobs jobs_used jobs_ordered jobs_free C S at_home at_status

  first_apart : AreDifferent first_names
  first_apart = different_reads accounts s f l me p here runs room jobs jobs_used jobs_ordered jobs_free C S at_home at_status

  -- the flat state with the child
  abbrev then_flat : Flat
  then_flat = after accounts s f l me p here runs room jobs jobs_used jobs_ordered jobs_free C S at_home at_status

  abbrev pub newborn : Process
  newborn = record { user = p.user; chain = jobs; held = []; exited = None; born = 0 }

  -- what the thread owns with the job, and with the first of the child's categories
  abbrev mine : Rights
  mine = rights_with_job accounts me p

  abbrev first : Rights
  first = record { owned = ReadsProcess child ∷ mine.owned; tainted = mine.tainted }

  abbrev pub owner : Levels
  owner = rights_label names (grown accounts names apart me p ((p.born + 1) ∷ me))

  abbrev pub owner_clearance : Levels
  owner_clearance = rights_clearance names (grown accounts names apart me p ((p.born + 1) ∷ me))

  -- ---- its label and its clearance grow by both categories

  used : RightsHave (IsUsed accounts f) mine
  used =
      let own = rights_used accounts f me p here in
      (each_head (IsUsed accounts f) (OfJob child) (thread_rights accounts me p).owned (inr served) own.0, own.1)

  -- used names keep their numbers
  pub kept : (c : CategoryName) → IsUsed accounts f c → names c ≡ l.category c
  kept = keeps accounts s f l me p here runs room jobs jobs_used jobs_ordered jobs_free C S at_home at_status

  not_reads : (c : CategoryName) → IsUsed accounts f c → c ≢ ReadsProcess child
  not_reads c is e =
      let there : is_some (f.processes child)
      ≡ true = subst (IsUsed accounts f) e is in true≢false (sym there
      ∙ ap is_some (no_child accounts s f l me p here runs room jobs jobs_used jobs_ordered jobs_free C S at_home
      at_status))

  not_writes : (c : CategoryName) → IsUsed accounts f c → c ≢ WritesProcess child
  not_writes c is e =
      let there : is_some (f.processes child)
      ≡ true = subst (IsUsed accounts f) e is in true≢false (sym there
      ∙ ap is_some (no_child accounts s f l me p here runs room jobs jobs_used jobs_ordered jobs_free C S at_home
      at_status))

  -- a name that was used is old, beside the first of the child's categories and beside the second
  abbrev IsOldFirst : CategoryName → Type 0
  IsOldFirst = IsOld l.category l.different next (ReadsProcess child)

  abbrev IsOldSecond : CategoryName → Type 0
  IsOldSecond = IsOld first_names first_apart (next + 1) (WritesProcess child)

  old_first : (c : CategoryName) → IsUsed accounts f c → IsOldFirst c
  old_first c is = (not_reads c is, l.made c is)

  old_second : (c : CategoryName) → IsUsed accounts f c → IsOldSecond c
  old_second c is =
      let same = keeps_first accounts s f l me p here runs room jobs jobs_used jobs_ordered jobs_free C S at_home at_status c is in
      let made = l.made c is in
      (not_writes c is, (omega (arith, same, made.0), omega (arith, same, made.1)))

  old_reads : IsOldSecond (ReadsProcess child)
  old_reads =
      let same : first_names (ReadsProcess child) ≡ next = new_number l.category l.different next (ReadsProcess child) in
      let made = l.made OfBoot tt in
      ((λ e. absurd cc), (omega (arith, same, made.0, made.1), omega (arith, same)))

  first_has : RightsHave IsOldFirst mine
  first_has = (λ c e. old_first c (used.0 c e), λ c e. old_first c (used.1 c e))

  second_has : RightsHave IsOldSecond first
  second_has = (
    each_head IsOldSecond (ReadsProcess child) mine.owned old_reads (λ c e. old_second c (used.0 c e)),
    λ c e. old_second c (used.1 c e),
  )

  label_grown : with_level (with_level (rights_label l.category mine) next Star) (next + 1) Star ≡ owner
  label_grown = ap (λ (x : Levels). with_level x (next + 1) Star) (made_label l.category l.different next (ReadsProcess child) mine first_has)
      ∙ made_label first_names first_apart (next + 1) (WritesProcess child) first second_has

  clearance_grown : with_level (with_level (rights_clearance l.category mine) next L3) (next + 1) L3 ≡ owner_clearance
  clearance_grown = ap (λ (x : Levels). with_level x (next + 1) L3) (made_clearance l.category l.different next (ReadsProcess child) mine first_has)
      ∙ made_clearance first_names first_apart (next + 1) (WritesProcess child) first second_has

  -- ---- the objects that are there

  -- In a state with these objects, where the thread has the job and all other objects are as they are.
  module _ (objects : Objects Levels) (others : (q : ℕ) → q ≢ T → objects q ≡ s.objects q)
      (thread : objects T
      ≡ object (rights_label l.category (rights_with_job accounts me p))
      (Thread (rights_clearance l.category (rights_with_job accounts me p)))) where
    abbrev pub beside_state : State
    beside_state = record { objects = objects; next_object = s.next_object; next_category = s.next_category }

    around_beside : Around T C S (rights_label l.category mine) (rights_clearance l.category mine)
        (guard_label l.category (process_guard me p)) (process_bytes f.processes l.naming.number me p) beside_state
    around_beside =
        let before = around_before accounts s f l me p here runs C S at_home at_status T at_thread in
        let own = rights_label l.category (thread_rights accounts me p) in
        let clearance = rights_clearance l.category (thread_rights accounts me p) in
        let label = guard_label l.category (process_guard me p) in
        let held = process_bytes f.processes l.naming.number me p in
        record {
          thread = thread;
          home = subst (LinksTo label S) (sym (others C (home_apart T C S own clearance label held s before))) before.home;
          segment = others S (segment_apart T C S own clearance label held s before) ∙ before.segment;
          thread_below = before.thread_below;
          home_below = before.home_below;
          segment_below = before.segment_below;
        }

    -- once both categories of the child are made
    pub around_owner : Around T C S owner owner_clearance (guard_label names (process_guard me p))
        (process_bytes f.processes l.naming.number me p) (with_category (with_category beside_state T) T)
    around_owner =
        let one =
        around_category T C S (rights_label l.category mine) (rights_clearance l.category mine)
        (guard_label l.category (process_guard me p)) (process_bytes f.processes l.naming.number me p)
        beside_state around_beside in
        let two =
        around_category T C S (with_level (rights_label l.category mine) next Star)
        (with_level (rights_clearance l.category mine) next L3) (guard_label l.category (process_guard me p))
        (process_bytes f.processes l.naming.number me p) (with_category beside_state T) one in
        subst (λ (x : Levels × Levels × Levels). Around T C S x.0 x.1 x.2 (process_bytes f.processes l.naming.number me p)
        (with_category (with_category beside_state T) T))
        (λ i. (label_grown i, clearance_grown i, keep_process_label accounts f l.category names kept me p here i)) two

  -- ---- what it may do

  made : (c : CategoryName) → IsUsed accounts then_flat c → IsMade (next + 1 + 1) (names c)
  made c is =
      let two : next + 2
      ≡ next + 1
      + 1 = omega arith in subst (λ (n : ℕ). IsMade n (names c)) two (made_then accounts s f l me p here runs
      room jobs jobs_used jobs_ordered jobs_free C S at_home at_status c is)

  -- what was used was made
  made_before : (c : CategoryName) → IsUsed accounts f c → IsMade (next + 1 + 1) (names c)
  made_before c is = let old = l.made c is in let same = kept c is in (omega (arith, old.0, same), omega (arith, old.1, same))

  -- the thread modifies its own container and process segment
  pub home_modified : (is_below owner (guard_label names (process_guard me p)) ≡ true)
      × (is_below_raised (guard_label names (process_guard me p)) owner ≡ true)
  home_modified =
      let both = tests.own_modified accounts names apart me p child in (
        first_of (is_below owner (guard_label names (process_guard me p))) (is_below_raised (guard_label names (process_guard me p)) owner) both,
        second_of (is_below owner (guard_label names (process_guard me p))) (is_below_raised (guard_label names (process_guard me p)) owner) both,
      )

  -- the thread makes the child's container and process segment, and its internal container
  pub outer_modified : IsModified owner owner_clearance (guard_label names (process_guard ((p.born + 1) ∷ me) newborn)) (s.next_category + 1 + 1)
  outer_modified =
      let these =
      process_used accounts then_flat child newborn
      (at_child accounts s f l me p here runs room jobs jobs_used jobs_ordered jobs_free C S at_home at_status) in
      record {
        above = tests.outer_above accounts names apart me p child;
        below = tests.outer_below accounts names apart me p child;
        seen = tests.outer_seen accounts names apart me p child;
        made = guard_made (next + 1 + 1) names (process_guard child newborn) (λ c e. made c (these.0 c e)) (λ c e. made c (these.1 c e));
        plain = guard_owns_nothing names (process_guard child newborn);
      }

  pub inner_modified : IsModified owner owner_clearance (guard_label names (inside_guard ((p.born + 1) ∷ me) newborn)) (s.next_category + 1 + 1)
  inner_modified =
      let these =
      inside_used accounts then_flat child newborn
      (at_child accounts s f l me p here runs room jobs jobs_used jobs_ordered jobs_free C S at_home at_status) in
      record {
        above = tests.inner_above accounts names apart me p child;
        below = tests.inner_below accounts names apart me p child;
        seen = tests.inner_seen accounts names apart me p child;
        made = guard_made (next + 1 + 1) names (inside_guard child newborn) (λ c e. made c (these.0 c e)) (λ c e. made c (these.1 c e));
        plain = guard_owns_nothing names (inside_guard child newborn);
      }

  rights_are_made : (r : Rights) → RightsHave (λ c. IsMade (next + 1 + 1) (names c)) r → AreMade (next + 1 + 1) names (r.owned ++ r.tainted)
  rights_are_made r has = each_append (λ c. IsMade (next + 1 + 1) (names c)) r.owned r.tainted has.0 has.1

  -- the thread makes the child's thread
  pub thread_lesser : IsLesser owner owner_clearance
      (rights_label names (thread_rights accounts ((p.born + 1) ∷ me) newborn))
      (rights_clearance names (thread_rights accounts ((p.born + 1) ∷ me) newborn)) (s.next_category + 1 + 1)
  thread_lesser =
      let childs : Rights = thread_rights accounts child newborn in
      let these =
      rights_used accounts then_flat child newborn
      (at_child accounts s f l me p here runs room jobs jobs_used jobs_ordered jobs_free C S at_home at_status) in
      let are : RightsHave (λ c. IsMade (next + 1 + 1) (names c)) childs = (λ c e. made c (these.0 c e), λ c e. made c (these.1 c e)) in
      record {
        above = tests.thread_above accounts names apart me p child;
        below = tests.thread_below accounts names apart me p child;
        within = tests.clearance_below accounts names apart me p child;
        made = rights_made (next + 1 + 1) names childs are.0 are.1;
        cleared = clearance_made (next + 1 + 1) names (childs.owned ++ childs.tainted) (rights_are_made childs are);
      }

  -- ---- the labels that it takes then

  -- what it has with the job is what it has as the holder of the job
  pub own_is : rights_label l.category (rights_with_job accounts me p) ≡ rights_label names (holding accounts names apart me p ((p.born + 1) ∷ me))
  own_is =
      sym (same_rights_label l.category names mine (λ c e. kept c (used.0 c e), λ c e. kept c (used.1 c e)))
      ∙ tests.label_holding accounts names apart me p child

  pub own_clearance_is : rights_clearance l.category (rights_with_job accounts me p)
      ≡ rights_clearance names (holding accounts names apart me p ((p.born + 1) ∷ me))
  own_clearance_is =
      sym (same_rights_clearance l.category names mine (λ c e. kept c (used.0 c e), λ c e. kept c (used.1 c e)))
      ∙ tests.clearance_holding accounts names apart me p child

  taken_then : IsTaken owner owner_clearance (rights_label names (holding accounts names apart me p child))
      (rights_clearance names (holding accounts names apart me p child)) (next + 1 + 1)
  taken_then =
      let are : RightsHave (λ c. IsMade (next + 1 + 1) (names c)) mine = (λ c e. made_before c (used.0 c e), λ c e. made_before c (used.1 c e)) in
      record {
        above = (tests.label_kept accounts names apart me p child).0;
        below = (tests.label_kept accounts names apart me p child).1;
        capped = (tests.clearance_kept accounts names apart me p child).0;
        within = (tests.clearance_kept accounts names apart me p child).1;
        made =
            subst (λ (x : Levels). is_made (next + 1 + 1) x ≡ true)
            (tests.label_holding accounts names apart me p child)
            (rights_made (next + 1 + 1) names mine are.0 are.1);
        cleared =
            subst (λ (x : Levels). is_made (next + 1 + 1) x ≡ true)
            (tests.clearance_holding accounts names apart me p child)
            (clearance_made (next + 1 + 1) names (mine.owned ++ mine.tainted) (rights_are_made mine are));
      }

  -- the thread may have its own labels with the job
  pub own_taken : IsTaken owner owner_clearance (rights_label l.category (rights_with_job accounts me p))
      (rights_clearance l.category (rights_with_job accounts me p)) (s.next_category + 1 + 1)
  own_taken =
      subst (λ (x : Levels × Levels). IsTaken owner owner_clearance x.0 x.1 (next + 1 + 1))
      (λ i. (sym own_is i, sym own_clearance_is i)) taken_then
