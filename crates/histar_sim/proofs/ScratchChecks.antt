-- The kernel's checks once the category of a new job is made: the thread makes the container of the scratch directory exactly where the
-- directory above may be written, its user is declared and there is a number for it; and it may take its own label and clearance again.
use Rattle.std.proofs.Common.{◌≡◌, ◌≢◌, ℕ, ◌+◌, ◌&&◌, Bool, true, [], ◌∷◌, ◌++◌, None, Some, sym, ap, ◌∙◌, subst}
use Rattle.std.specs.Prelude.{is_some, not, option_map}
use mathlib.Core.Bool.{true≢false}
use Rattle.histar_base.specs.Refusals.{◌orelse◌, unless}
use Rattle.histar_flat.specs.Words.{Path, ProcName}
use Rattle.histar_flat.specs.Accounts.{Accounts, user_number}
use Rattle.histar_flat.specs.Classes.{Class, Process, may_write}
use Rattle.histar_flat.specs.FlatState.{Flat, into}
use Rattle.histar_flat.specs.FlatState.Content.{Dir}
use Rattle.histar_level.specs.declared.level.Level.TheVariants.{Star, L3}
use Rattle.histar_level.specs.Levels.{Levels}
use Rattle.histar_label.specs.Levels.{with_level}
use Rattle.histar_object.specs.declared.objects.Kind.TheVariants.{Container, Thread}
use Rattle.histar_object.specs.Objects.{Numbers as Links, is_container}
use Rattle.histar_rules.specs.Rights.{with_star_at, with_label, with_changed, with_category}
use Rattle.histar_object.specs.State.{State, Found, in_range, with_next_category}
use Rattle.histar_container.specs.Tree.{Naming}
use Rattle.histar_container.proofs.TableMoves.{changed_here, changed_other}
use Rattle.histar_rules.specs.declared.raw.Denied.TheVariants.{Modify, Range, TooBig}
use Rattle.histar_rules.specs.declared.raw.RawCall.TheVariants.{MakeContainer, SetLabel, SetClearance}
use Rattle.histar_rules.specs.Rules.{no_making, known, has_number, check}
use Rattle.histar_wrap.specs.Scratch.{directory_label}
use Rattle.histar_refinement.specs.Accounts.{AreAccounts}
use Rattle.histar_refinement.specs.Categories.{IsMade, naming_next, IsUsed}
use Rattle.histar_refinement.specs.Categories.CategoryName.{OfJob}
use Rattle.histar_refinement.specs.Guards.{Guard, Rights, guard_label, rights_label, rights_clearance}
use Rattle.histar_refinement.specs.Labels.{class_guard, scratch_guard, thread_rights}
use Rattle.histar_refinement.specs.Addresses.{Step, address_of}
use Rattle.histar_refinement.specs.Represents.{ObjectsMatch}
use Rattle.histar_refinement.specs.Processes.{or_zero}
use Rattle.histar_refinement.proofs.AmongNames.{each_append}
use Rattle.histar_refinement.proofs.Growing.{RightsHave, same_rights_label, same_rights_clearance}
use Rattle.histar_refinement.proofs.JobNamed as jobs
use Rattle.histar_refinement.proofs.RawChecks.{object, making_check}
use Rattle.histar_refinement.proofs.Agreeing.{container_found}
use Rattle.histar_refinement.proofs.Tested.{rights_made, clearance_made, guard_owns_nothing}
use Rattle.histar_refinement.proofs.Uses.{rights_used}
use Rattle.histar_refinement.proofs.WrapTests.{with_job, scratch_above, scratch_below, observes_parent, modifies_parent, label_back, clearance_back}
use Rattle.histar_sim.proofs.Ready.{Ready}
use Rattle.histar_sim.proofs.FoundObjects.{label, clearance, thread, container, directory_class, directory_agrees, directory_guard}
use Rattle.histar_sim.proofs.FoundObjects.{container_numbered, may_look}
use Rattle.histar_sim.proofs.BirthChecks.{IsTaken, label_said, clearance_said}
use Rattle.histar_sim.proofs.BirthObjects.{thread_relabelled}
use Rattle.histar_sim.proofs.ScratchLabels.{number_there, label_by, clearance_by, directory_by, directory_made}

module _ {M : Type 0} (accounts : Accounts) (ok : AreAccounts accounts) (s : State) (f : Flat) (me : ProcName) (t : ℕ)
    (ready : Ready M accounts s f me t) where
  abbrev p : Process
  p = ready.caller.process

  abbrev l : ObjectsMatch accounts s f
  l = ready.represents.matched

  abbrev child : ProcName
  child = (p.born + 1) ∷ me

  -- the new job's category, and the flat state that is represented once it is named
  abbrev job : ℕ
  job = s.next_category

  abbrev m : ObjectsMatch accounts (with_next_category s) f
  m = jobs.m accounts s f ready.represents me p ready.caller.agrees

  -- the job's name was not used, and it is named as the labels are
  unused : ¬ IsUsed accounts f (OfJob child)
  unused = jobs.unused accounts s f ready.represents me p ready.caller.agrees

  naming_is : m.category ≡ naming_next l.category job (OfJob child)
  naming_is = (jobs.named accounts s f ready.represents me p ready.caller.agrees).2

  abbrev with_it : State
  with_it = with_category s t

  -- the thread's own label and clearance
  abbrev own : Levels
  own = label accounts ok s f me t ready

  abbrev own_clearance : Levels
  own_clearance = clearance accounts ok s f me t ready

  abbrev mine : Rights
  mine = thread_rights accounts me p

  -- ---- what the thread has with the category

  abbrev holding : Rights
  holding = with_job accounts m.category m.different me p child

  abbrev owner : Levels
  owner = rights_label m.category holding

  abbrev owner_clearance : Levels
  owner_clearance = rights_clearance m.category holding

  label_then : with_level own job Star ≡ owner
  label_then = label_by accounts s f l me p ready.caller.agrees unused m.category naming_is

  clearance_then : with_level own_clearance job L3 ≡ owner_clearance
  clearance_then = clearance_by accounts s f l me p ready.caller.agrees unused m.category naming_is

  thread_then : with_it.objects t ≡ object owner (Thread owner_clearance)
  thread_then =
      changed_here s.objects t (with_star_at job)
      ∙ ap (option_map (with_star_at job)) (thread accounts ok s f me t ready)
      ∙ (λ i. object (label_then i) (Thread (clearance_then i)))

  -- ---- it takes its own label and clearance again

  used : RightsHave (IsUsed accounts f) mine
  used = rights_used accounts f me p ready.caller.agrees

  taken_named : IsTaken owner owner_clearance (rights_label m.category mine) (rights_clearance m.category mine) (job + 1)
  taken_named = record {
    above = (label_back accounts m.category m.different me p child).0;
    below = (label_back accounts m.category m.different me p child).1;
    capped = (clearance_back accounts m.category m.different me p child).0;
    within = (clearance_back accounts m.category m.different me p child).1;
    made = rights_made (job + 1) m.category mine (λ c e. m.made c (used.0 c e)) (λ c e. m.made c (used.1 c e));
    cleared =
        clearance_made (job + 1) m.category (mine.owned ++ mine.tainted)
        (each_append (λ c. IsMade (job + 1) (m.category c)) mine.owned mine.tainted (λ c e. m.made c (used.0 c e))
        (λ c e. m.made c (used.1 c e)));
  }

  taken : IsTaken owner owner_clearance own own_clearance (job + 1)
  taken =
      let kept = jobs.keeps accounts s f ready.represents me p ready.caller.agrees in
      subst (λ (x : Levels × Levels). IsTaken owner owner_clearance x.0 x.1 (job + 1))
      (λ i. (
        same_rights_label l.category m.category mine (λ c e. kept c (used.0 c e), λ c e. kept c (used.1 c e)) i,
        same_rights_clearance l.category m.category mine
            (λ c e. kept c (used.0 c e), λ c e. kept c (used.1 c e)) i,
      )) taken_named

  pub set_label_said : check (with_category s t) t (SetLabel (label accounts ok s f me t ready)) ≡ None
  set_label_said = label_said with_it t owner owner_clearance thread_then own own_clearance taken

  pub set_clearance_said : check (with_changed (with_category s t) t (with_label (label accounts ok s f me t ready))) t
      (SetClearance (clearance accounts ok s f me t ready)) ≡ None
  set_clearance_said =
      clearance_said (with_changed with_it t (with_label own)) t owner owner_clearance own own_clearance
      (thread_relabelled with_it t owner owner_clearance own thread_then) taken

  -- ---- the label of the scratch directory

  -- the number of its user, and nobody's where there is none
  abbrev i : ℕ
  i = or_zero (user_number accounts p.user)

  -- the guard of the scratch directory
  abbrev guard : Guard
  guard = scratch_guard (p.chain ++ child ∷ []) i

  -- The label that the thread asks for is secret to its user, to its jobs and to the new one.
  due_is : directory_label accounts own job ≡ guard_label m.category guard
  due_is = directory_by accounts s f l me p ready.caller.agrees unused m.category naming_is

  -- ---- its container is made

  known_then : known with_it (guard_label m.category guard) ≡ true
  known_then = ap (known with_it) (sym due_is) ∙ directory_made accounts s f l me p ready.caller.agrees unused

  ranged : in_range (with_it.objects t) (guard_label m.category guard) ≡ is_some (user_number accounts p.user)
  ranged = ap (λ (x : Found). in_range x (guard_label m.category guard)) thread_then
      ∙ (λ k. scratch_above accounts m.category m.different me p child i k && scratch_below accounts m.category m.different me p child i k)
      ∙ number_there (user_number accounts p.user)

  module _ (d : Path) (open_so_far : into accounts f p d ≡ None) where
    abbrev D : ℕ
    D = container accounts ok s f me t ready d

    abbrev class : Class
    class = directory_class accounts ok s f me t ready d open_so_far

    above : (g : Guard) × (class_guard accounts class ≡ Some g)
    above = directory_guard accounts ok s f me t ready d open_so_far

    at_container : m.naming.number (address_of d) ≡ Some D
    at_container =
        ap (λ (n : Naming Step). n.number (address_of d))
        (jobs.named accounts s f ready.represents me p ready.caller.agrees).1
        ∙ container_numbered accounts ok s f me t ready d open_so_far

    holder : (links : Links) × (s.objects D ≡ object (guard_label m.category above.0) (Container links))
    holder =
        container_found accounts (with_next_category s) f m d class
        (directory_agrees accounts ok s f me t ready d open_so_far) above.0 above.1 D at_container

    -- the thread is no container
    other : D ≢ t
    other e = true≢false (sym (ap is_container holder.1) ∙ ap is_container (ap s.objects e ∙ thread accounts ok s f me t ready))

    holder_then : with_it.objects D ≡ object (guard_label m.category above.0) (Container holder.0)
    holder_then = changed_other s.objects t (with_star_at job) D other ∙ holder.1

    making_then : no_making with_it t D ≡ unless (may_write accounts p class) Modify
    making_then =
        let stranger = jobs.stranger accounts s f ready.represents me p ready.caller.agrees in
        let unnamed =
        jobs.not_named accounts s f ready.represents me p ready.caller.agrees d
        (record { class = class; content = Dir }) above.0
        (directory_agrees accounts ok s f me t ready d open_so_far) above.1 in
        making_check with_it t owner owner_clearance thread_then D (guard_label m.category above.0) holder.0 holder_then
        (observes_parent accounts m.category m.different me p child ok class above.0 above.1 stranger unnamed.0
        unnamed.1 ∙ may_look accounts ok s f me t ready d open_so_far)
        ∙ ap (λ (b : Bool). unless b Modify) (modifies_parent accounts m.category m.different me p child ok class
        above.0 above.1 stranger unnamed.0 unnamed.1)

    -- Making the container is refused where the directory may not be written, where the user is not declared, and where there is no number for it.
    pub scratch_said : check (with_category s t) t (MakeContainer (container accounts ok s f me t ready d)
        (directory_label accounts (label accounts ok s f me t ready) s.next_category))
        ≡ (unless (may_write accounts ready.caller.process (directory_class accounts ok s f me t ready d open_so_far))
        Modify orelse unless (is_some (user_number accounts ready.caller.process.user)) Range
        orelse unless (has_number s) TooBig)
    scratch_said =
        ap (λ (x : Levels). check with_it t (MakeContainer D x)) due_is
        ∙ (λ k. making_then k
        orelse unless (ranged k) Range
        orelse unless (known_then k) Range
        orelse unless (not (guard_owns_nothing m.category guard k)) Range
        orelse unless (has_number s) TooBig)
