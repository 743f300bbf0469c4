-- A job is born: the child of a process that is in one job more, which its parent then holds. A file or directory is for the job before
-- it has a process.
use Rattle.std.proofs.Common.{◌≡◌, ℕ, ◌+◌, ◌<◌, ◌≤◌, ◌⊎◌, inl, inr, true, false, List, [], ◌∷◌, ◌++◌, None, Some, arith, refl, sym, ap, ◌∙◌, subst}
use Rattle.std.specs.Prelude.{is_some}
use Rattle.std.specs.FinSet as set
use Rattle.std.proofs.lemmas.Bool.{or_left, or_right}
use mathlib.Core.Bool.{true≢false}
use Rattle.histar_flat.specs.Words.{ProcName}
use Rattle.histar_level.specs.Levels.{Levels}
use Rattle.histar_object.specs.declared.objects.Kind.TheVariants.{Segment, Container}
use Rattle.histar_object.specs.Objects.{thread_of}
use Rattle.histar_rules.specs.Rights.{with_category}
use Rattle.histar_object.specs.State.{State, with_own, with_next_category}
use Rattle.histar_flat.specs.Accounts.{Accounts, has, user_number}
use Rattle.histar_flat.specs.Classes.{Process}
use Rattle.histar_flat.specs.FlatState.{Flat, with_child, with_process, is_given}
use Rattle.histar_flat.proofs.GivenNames.{longer_has}
use Rattle.histar_refinement.specs.Categories.{Categories, IsKnown, IsServed, IsUsed}
use Rattle.histar_refinement.specs.Categories.CategoryName.{OfJob}
use Rattle.histar_refinement.specs.Guards.{rights_label, rights_clearance}
use Rattle.histar_refinement.specs.Labels.{thread_rights}
use Rattle.histar_refinement.specs.Addresses.{home_address}
use Rattle.histar_refinement.specs.Addresses.Step.{Status, Inside, Runner}
use Rattle.histar_refinement.specs.Represents.{AreInOrder, ObjectsMatch}
use Rattle.histar_rules.specs.Rules.{greatest}
use Rattle.histar_refinement.proofs.JobLists.{not_added}
use Rattle.histar_refinement.proofs.Uses.{keep_order}
use Rattle.histar_refinement.proofs.Beside.{Beside, beside_uncounted, own_set, own_taken}
use Rattle.histar_refinement.proofs.Spawned.{births, beside_births}
use Rattle.histar_refinement.proofs.Spawning.{outer, inner, label, clearance, child_written, own_written, naming, category, child_not_me, at_me}
use Rattle.histar_refinement.proofs.Spawning.{keeps, kept_runner, matched_born as matched_with_child, job_used, given_then, child_given, grows_born}
use Rattle.histar_refinement.proofs.KeepingNames.{Grows}
use Rattle.histar_refinement.proofs.Becoming.{becomes, job_used as job_used_then, given_then as given_later, used_then as used_after}

module _ (accounts : Accounts) (s : State) (f : Flat) (l : ObjectsMatch accounts s f) (me : ProcName) (p : Process)
    (here : f.processes me ≡ Some p) (runs : p.exited ≡ None) (room : p.born < 64)
    (declared : is_some (user_number accounts p.user) ≡ true) (served : IsServed f ((p.born + 1) ∷ me))
    (stranger : has p.chain ((p.born + 1) ∷ me) ≡ false)
    (jobs_ordered : AreInOrder l.category (p.chain ++ ((p.born + 1) ∷ me) ∷ []))
    (held_ordered : AreInOrder l.category (p.held ++ ((p.born + 1) ∷ me) ∷ []))
    (C S T : ℕ) (at_home : l.naming.number (home_address me) ≡ Some C)
    (at_status : l.naming.number (Status ∷ home_address me) ≡ Some S)
    (at_thread : l.naming.number (Runner ∷ Inside ∷ home_address me) ≡ Some T) (few : s.next_object + 3 < greatest)
  where
    abbrev child : ProcName
    child = (p.born + 1) ∷ me

    -- the jobs that the child is in, and those that its parent holds then
    abbrev pub jobs : List ProcName
    jobs = p.chain ++ child ∷ []

    abbrev pub held : List ProcName
    held = p.held ++ child ∷ []

    pub jobs_used : (job : ProcName) → has jobs job ≡ true → IsUsed accounts f (OfJob job)
    jobs_used job e = elim (longer_has p.chain child job e) [
      | inl k ↦ inl (me, p, here, or_left (has p.chain job) (has p.held job) k)
      | inr is ↦ inr (subst (IsServed f) (sym is) served)
    ]

    pub jobs_free : is_some (user_number accounts p.user) ≡ false → jobs ≡ []
    jobs_free e = absurd (true≢false (sym declared ∙ e))

    -- the flat state with the child
    abbrev born : Flat
    born = with_child f me p jobs

    abbrev parent : Process
    parent = record { user = p.user; chain = p.chain; held = p.held; exited = p.exited; born = p.born + 1 }

    abbrev pub holder : Process
    holder = record { user = p.user; chain = p.chain; held = held; exited = p.exited; born = p.born + 1 }

    -- what the birth makes and writes
    abbrev pub births_of : State → State
    births_of t = births t C S
        (record {
          label = outer accounts s f l me p here runs room jobs jobs_used jobs_ordered jobs_free C S at_home
              at_status;
          kind = Container set.empty;
        })
        (record {
          label = inner accounts s f l me p here runs room jobs jobs_used jobs_ordered jobs_free C S at_home
              at_status;
          kind = Container set.empty;
        })
        (thread_of
        (label accounts s f l me p here runs room jobs jobs_used jobs_ordered jobs_free C S at_home at_status)
        (clearance accounts s f l me p here runs room jobs jobs_used jobs_ordered jobs_free C S at_home at_status))
        (record {
          label = outer accounts s f l me p here runs room jobs jobs_used jobs_ordered jobs_free C S at_home
              at_status;
          kind = Segment (child_written accounts s f l me p here runs room jobs jobs_used jobs_ordered jobs_free C S
              at_home at_status);
        })
        (own_written accounts s f l me p here runs room jobs jobs_used jobs_ordered jobs_free C S at_home at_status)

    abbrev state_born_two : State
    state_born_two = with_next_category (with_next_category (births_of s))

    matched_born : (later : ObjectsMatch accounts state_born_two born)
        × (later.naming
        ≡ naming accounts s f l me p here runs room jobs jobs_used jobs_ordered jobs_free C S at_home at_status)
        × (later.category
        ≡ category accounts s f l me p here runs room jobs jobs_used jobs_ordered jobs_free C S at_home at_status)
    matched_born =
        matched_with_child accounts s f l me p here runs room jobs jobs_used jobs_ordered jobs_free C S at_home at_status
        state_born_two (λ q. refl) refl (omega arith) few

    abbrev b : ObjectsMatch accounts state_born_two born
    b = matched_born.0

    parent_there : born.processes me ≡ Some parent
    parent_there = at_me accounts s f l me p here runs room jobs jobs_used jobs_ordered jobs_free C S at_home at_status

    thread_there : b.naming.number (Runner ∷ Inside ∷ home_address me) ≡ Some T
    thread_there =
        ap (λ nm. nm.number (Runner ∷ Inside ∷ home_address me)) matched_born.1
        ∙ sym (kept_runner accounts s f l me p here runs room jobs jobs_used jobs_ordered jobs_free C S at_home
        at_status me (λ e.
        child_not_me accounts s f l me p here runs room jobs jobs_used jobs_ordered jobs_free C S at_home
        at_status (sym e))) ∙ at_thread

    held_used : (job : ProcName) → has held job ≡ true → IsUsed accounts born (OfJob job)
    held_used job e = elim (longer_has p.held child job e) [
      | inl k ↦ inl (me, parent, parent_there, or_right (has p.chain job) (has p.held job) k)
      | inr is ↦ inr (subst (IsServed born) (sym is) served)
    ]

    held_before : (job : ProcName) → has held job ≡ true → IsUsed accounts f (OfJob job)
    held_before job e = elim (longer_has p.held child job e) [
      | inl k ↦ inl (me, p, here, or_right (has p.chain job) (has p.held job) k)
      | inr is ↦ inr (subst (IsServed f) (sym is) served)
    ]

    held_ordered_then : AreInOrder b.category held
    held_ordered_then =
        subst (λ (c : Categories). AreInOrder c held) (sym matched_born.2)
        (keep_order accounts f l.category (category accounts s f l me p here runs room jobs jobs_used jobs_ordered jobs_free C S at_home
        at_status)
        (keeps accounts s f l me p here runs room jobs jobs_used jobs_ordered jobs_free C S at_home at_status)
        held held_before held_ordered)

    held_apart : (job : ProcName) → has p.chain job ≡ true → has held job ≡ false
    held_apart job e = not_added p.held child job ((l.processes me p here).apart runs job e)
        (λ is. true≢false (sym e ∙ ap (has p.chain) is ∙ stranger))

    held_free : is_some (user_number accounts p.user) ≡ false → (p.chain ≡ []) × (held ≡ [])
    held_free e = absurd (true≢false (sym declared ∙ e))

    -- the flat state in which the parent holds the job
    abbrev pub after : Flat
    after = with_process born me holder

    abbrev pub final_label : Levels
    final_label =
        rights_label
        (category accounts s f l me p here runs room jobs jobs_used jobs_ordered jobs_free C S at_home at_status)
        (thread_rights accounts me holder)

    abbrev pub final_clearance : Levels
    final_clearance =
        rights_clearance
        (category accounts s f l me p here runs room jobs jobs_used jobs_ordered jobs_free C S at_home at_status)
        (thread_rights accounts me holder)

    -- the same names are given once the parent holds the job as when the child was born
    given_held : (job : ProcName) → is_given born.processes job ≡ is_given after.processes job
    given_held =
        given_later accounts state_born_two born b me parent parent_there runs p.user (inr declared) held held_used
        held_ordered_then held_apart held_free T thread_there

    pub given_after : (job : ProcName) → is_given f.processes job ≡ true → is_given after.processes job ≡ true
    given_after job e =
        sym (given_held job)
        ∙ given_then accounts s f l me p here runs room jobs jobs_used jobs_ordered jobs_free C S at_home at_status
        job e

    pub given_child : is_given after.processes child ≡ true
    given_child = sym (given_held child) ∙ child_given accounts s f l me p here runs room jobs jobs_used jobs_ordered jobs_free C S at_home at_status

    pub used_before : (job : ProcName) → IsKnown after job ⊎ IsServed after job → IsUsed accounts f (OfJob job)
    used_before job u =
        job_used accounts s f l me p here runs room jobs jobs_used jobs_ordered jobs_free C S at_home at_status job
        (job_used_then accounts state_born_two born b me parent parent_there runs p.user (inr declared) held
        held_used held_ordered_then held_apart held_free T thread_there job u)

    -- Of another state, which is the same but for the thread: it makes the child's two categories, makes and writes what a birth does, and
    -- the thread takes its label and clearance with the job.
    module _ (own own_clearance : Levels) (t : State) (beside : Beside T own own_clearance t s) (counted : s.next_category ≤ t.next_category) where
      abbrev pub owning_two : State
      owning_two = with_category (with_category t T) T

      abbrev pub state_held : State
      state_held = own_set T (births_of owning_two) final_label final_clearance

      two : Beside T own own_clearance owning_two s
      two = beside_uncounted T own own_clearance (with_category t T) s (beside_uncounted T own own_clearance t s beside)

      pub matched_held : (later : ObjectsMatch accounts state_held after)
          × (later.naming
          ≡ naming accounts s f l me p here runs room jobs jobs_used jobs_ordered jobs_free C S at_home at_status)
          × (later.category
          ≡ category accounts s f l me p here runs room jobs jobs_used jobs_ordered jobs_free C S at_home at_status)
      matched_held =
          let same = two.next in
          let later =
          becomes accounts state_born_two born b me parent parent_there runs p.user (inr declared) held held_used
          held_ordered_then held_apart held_free T thread_there state_held
          (λ q.
          own_taken T own own_clearance (births_of owning_two) (births_of s) final_label final_clearance
          (beside_births T own own_clearance owning_two s C S _ _ _ _ _ two) q
          ∙ ap (λ (c : Categories). (with_own (births_of s) T (rights_label c (thread_rights accounts me holder))
          (rights_clearance c (thread_rights accounts me holder))).objects q) (sym matched_born.2))
          (ap (λ (m : ℕ). m + 1 + 1 + 1 + 1) same) (omega (arith, counted)) in
          (later.0, later.1 ∙ matched_born.1, later.2 ∙ matched_born.2)

      -- names are added to those that there were
      pub grows_held : Grows l matched_held.0
      grows_held =
          grows_born accounts s f l me p here runs room jobs jobs_used jobs_ordered jobs_free C S at_home at_status
          state_held after matched_held.0 matched_held.1 matched_held.2
          (used_after accounts state_born_two born b me parent parent_there runs p.user (inr declared) held held_used
          held_ordered_then held_apart held_free T thread_there)
