-- An outsider of a job by its name is outside the job's category, where no other category that is used has its number.
use Rattle.std.proofs.Common.{◌≡◌, ◌≢◌, ℕ, Bool, true, false, List, [], ◌∷◌, map, Option, None, Some, length, refl, sym, ap, ◌∙◌}
use Rattle.std.proofs.Common.{subst}
use Rattle.std.specs.Prelude.{is_some, not, option_and_then, nat_eq}
use Rattle.std.proofs.lemmas.Bool.{and_parts, or_parts, not-true}
use Rattle.std.proofs.lemmas.Option.{same_Some}
use mathlib.Core.Bool.{true≢false}
use Rattle.std.specs.Cmp.Lexicographic.{pointwise}
use Rattle.histar_base.specs.Paths.{same}
use Rattle.histar_flat.specs.Words.{ProcName}
use Rattle.histar_flat.specs.Accounts.{Accounts, has}
use Rattle.histar_flat.specs.Classes.{Process}
use Rattle.histar_flat.specs.FlatState.{Flat}
use Rattle.histar_flat.specs.PathOrder.{under_process, parent}
use Rattle.histar_noninterference.specs.Comparison.{is_outsider}
use Rattle.histar_noninterference.proofs.Relation.{IsStarted}
use Rattle.histar_secrecy.proofs.Knowing.{AreJobs, jobs_at_end}
use Rattle.histar_level.specs.declared.level.Level.TheVariants.{Star, L3}
use Rattle.histar_level.specs.Levels.{Levels, level_of}
use Rattle.histar_object.specs.declared.objects.Object.{Object}
use Rattle.histar_object.specs.State.{State}
use Rattle.histar_container.specs.Tree.{Address}
use Rattle.histar_layout.specs.Status.{ProcessStatus}
use Rattle.histar_layout.proofs.LabelLevels.{at_guarded, at_owning, owning_level}
use Rattle.histar_layout.proofs.Members.{is_in}
use Rattle.histar_programs.specs.declared.roots.Home.{Home}
use Rattle.histar_programs.specs.declared.caller.Caller.{Caller}
use Rattle.histar_programs.specs.Caller.{home_at, caller_at, status_at}
use Rattle.histar_programs.specs.Start.{roots_of}
use Rattle.histar_refinement.specs.Addresses.{Step, home_address}
use Rattle.histar_refinement.specs.Addresses.Step.{Status, Inside, Runner}
use Rattle.histar_refinement.specs.Agrees.{bare}
use Rattle.histar_refinement.specs.Asked.{AsksFor}
use Rattle.histar_refinement.specs.Asked.AsksFor.{AtHome, AtStatus, AtInside, AtRunner}
use Rattle.histar_refinement.specs.Categories.{Categories, CategoryName, IsUsed, among}
use Rattle.histar_refinement.specs.Categories.CategoryName.{OfJob, ReadsProcess, WritesProcess}
use Rattle.histar_refinement.specs.Guards.{guard_label, rights_label}
use Rattle.histar_refinement.specs.Labels.{thread_rights}
use Rattle.histar_refinement.specs.Represents.{ObjectsMatch}
use Rattle.histar_refinement.proofs.AmongNames.{each_head}
use Rattle.histar_refinement.proofs.CategoryTests.{named_in}
use Rattle.histar_refinement.proofs.CallerFound.{caller_found}
use Rattle.histar_refinement.proofs.ClassTests.{owns_job}
use Rattle.histar_refinement.proofs.Uses.{job_among, process_used, rights_used}
use Rattle.histar_outside.specs.Search.{IsClear, IsClearHome, IsClearWay, IsOutsideCaller}
use Rattle.histar_outside.specs.NamedAttacks.{OutsidersAreOutside}
use Rattle.histar_outside.proofs.Sealing.{secret_three}
use Rattle.histar_outside.proofs.Searches.{found_there, at_container, at_segment, status_of, at_internal}

-- the two tests of an outsider
pub outsider_parts : (job me : ProcName) → is_outsider job me ≡ true → (under_process job me ≡ false) × (same (parent job) me ≡ false)
outsider_parts job me out =
    let parts = and_parts (not (under_process job me)) (not (same (parent job) me)) out in
    (not-true (under_process job me) parts.0, not-true (same (parent job) me) parts.1)

-- what is not below a name is below none that is there
pub not_above : (job : ProcName) (n : ℕ) (above : ProcName) → under_process job (n ∷ above) ≡ false → under_process job above ≡ false
not_above job n above out = (or_parts (pointwise nat_eq job (n ∷ above)) (under_process job above) out).1

-- each category that is used, but that of the job, has another number than v
abbrev pub IsNoOthers : (accounts : Accounts) → Flat → Categories → ProcName → ℕ → Type 0
IsNoOthers accounts f category job v = (c : CategoryName) → IsUsed accounts f c → c ≢ OfJob job → category c ≢ v

module _ (accounts : Accounts) (s : State) (f : Flat) (l : ObjectsMatch accounts s f) (job : ProcName) (v : ℕ) (started : IsStarted job f)
    (others : IsNoOthers accounts f l.category job v) where
  -- the name has another number than v
  abbrev IsPlain : CategoryName → Type 0
  IsPlain c = l.category c ≢ v

  plain_in : (names : List CategoryName) → ((c : CategoryName) → among names c ≡ true → IsPlain c) → is_in (map l.category names) v ≡ false
  plain_in names each = by (is_in (map l.category names) v) refl
    where
      by : (b : Bool) → is_in (map l.category names) v ≡ b → is_in (map l.category names) v ≡ false
      by false e = e
      by true e = let of = named_in l.category names v e in absurd (each of.0 of.2 (sym of.1))

  -- what is there has the label that is asked for
  label_at : (a : Address Step) (n : ℕ) (asked o : Object Levels) → l.naming.number a ≡ Some n → AsksFor accounts l.category f l.naming.number a asked
      → s.objects n ≡ Some o → asked.label ≡ o.label
  label_at a n asked o at asks is =
      let there : bare (s.objects n) ≡ Some asked =
      ap (λ (x : Option ℕ). bare (option_and_then s.objects x)) (sym at) ∙ (l.agrees.objects a asked).1 asks in
      ap (λ (x : Object Levels). x.label) (same_Some asked _ (sym there ∙ ap bare is))

  -- what is guarded by other names is clear
  guarded_clear : (secret written : List CategoryName) → ((c : CategoryName) → among secret c ≡ true → IsPlain c)
      → level_of (guard_label l.category (record { secret = secret; written = written })) v ≢ L3
  guarded_clear secret written each three =
      true≢false (sym (secret_three (is_in (map l.category secret) v) (is_in (map l.category written) v)
      (sym (at_guarded (map l.category secret) (map l.category written) v) ∙ three)) ∙ plain_in secret each)

  module _ (q : ProcName) (p : Process) (here : f.processes q ≡ Some p) (out : under_process job q ≡ false) where
    chain_plain : (c : CategoryName) → among (map OfJob p.chain) c ≡ true → IsPlain c
    chain_plain c e =
        let of = job_among p.chain c e in
        others c ((process_used accounts f q p here).0 c e) (λ is.
        let one : OfJob of.0 ≡ OfJob job = sym of.1 ∙ is in
        let named : of.0 ≡ job = cc in
        true≢false (sym of.2 ∙ ap (has p.chain) named ∙ started.inside q p here ∙ out))

    inside_plain : (c : CategoryName) → among (ReadsProcess q ∷ map OfJob p.chain) c ≡ true → IsPlain c
    inside_plain = each_head IsPlain (ReadsProcess q) (map OfJob p.chain) (others (ReadsProcess q) (ap is_some here) (λ is. cc)) chain_plain

    -- a thread of a process that doesn't hold the job owns other names
    owned_plain : same (parent job) q ≡ false → (c : CategoryName) → among (thread_rights accounts q p).owned c ≡ true → IsPlain c
    owned_plain other c e =
        others c ((rights_used accounts f q p here).0 c e) (λ is.
        true≢false (sym e ∙ ap (among (thread_rights accounts q p).owned) is ∙ owns_job accounts q p job ∙ started.held q p here other))

    thread_level : same (parent job) q ≡ false
        → level_of (rights_label l.category (thread_rights accounts q p)) v ≡ owning_level false false
    thread_level other =
        at_owning (map l.category (thread_rights accounts q p).owned) (map l.category (map OfJob p.chain)) v
        ∙ (λ i. owning_level (plain_in (thread_rights accounts q p).owned (owned_plain other) i) (plain_in (map OfJob p.chain) chain_plain i))

  abbrev first : Home
  first = (roots_of (length accounts.users)).home

  -- a process that is not below the job's name has a clear home
  home_clear : (q : ProcName) → under_process job q ≡ false → (home : Home) → home_at s first q ≡ Some home → IsClearHome s v home
  home_clear q out home at =
      let p = found_there accounts s f l q home at in
      let clear = guarded_clear (map OfJob p.0.chain) (WritesProcess q ∷ []) (chain_plain q p.0 p.1 out) in (
        λ o is three.
            let same_label = label_at (home_address q) home.container _ o (at_container accounts s f l q home at) (AtHome q p.0 p.1) is in
            clear (ap (λ (L : Levels). level_of L v) same_label ∙ three),
        λ o is three.
            let same_label = label_at (Status ∷ home_address q) home.segment _ o (at_segment accounts s f l q home at) (AtStatus q p.0 p.1) is in
            clear (ap (λ (L : Levels). level_of L v) same_label ∙ three),
      )

  pub way_clear : (me : ProcName) → under_process job me ≡ false → IsClearWay s v first me
  way_clear [] out = home_clear [] out first refl
  way_clear (n ∷ above) out = (way_clear above (not_above job n above out), home_clear (n ∷ above) out)

  -- an outsider is outside
  pub outside_by_name : (me : ProcName) → is_outsider job me ≡ true → IsOutsideCaller s v first me
  outside_by_name me outsider = record { way = way_clear me parts.0; inside = inside; thread = thread }
    where
      parts : (under_process job me ≡ false) × (same (parent job) me ≡ false)
      parts = outsider_parts job me outsider

      inside : (home : Home) (status : ProcessStatus) → home_at s first me ≡ Some home → status_at s home.segment ≡ Some status
          → status.exited ≡ None → IsClear s v status.internal
      inside home status at shows runs o is three =
          let p = status_of accounts s f l me home status at shows in
          let runs_too : p.0.exited ≡ None = ap (λ (x : ProcessStatus). x.exited) p.2 ∙ runs in
          let number = at_internal accounts s f l me home status at shows runs in
          let same_label = label_at (Inside ∷ home_address me) status.internal _ o number (AtInside me p.0 p.1 runs_too) is in
          guarded_clear (ReadsProcess me ∷ map OfJob p.0.chain) (WritesProcess me ∷ []) (inside_plain me p.0 p.1 parts.0)
          (ap (λ (L : Levels). level_of L v) same_label ∙ three)

      thread : (caller : Caller) (o : Object Levels) → caller_at s first me ≡ Some caller → s.objects caller.thread ≡ Some o
          → (level_of o.label v ≢ L3) × (level_of o.label v ≢ Star)
      thread caller o at is =
          let p = caller_found accounts s f l me caller at in
          let same_label =
          label_at (Runner ∷ Inside ∷ home_address me) caller.thread _ o p.1.runs.2 (AtRunner me p.0 p.1.runs.0 p.1.runs.1) is in
          let level : owning_level false false ≡ level_of o.label v =
          sym (thread_level me p.0 p.1.runs.0 parts.0 parts.1) ∙ ap (λ (L : Levels). level_of L v) same_label in (
            λ three. let no : owning_level false false ≡ L3 = level ∙ three in cc,
            λ star. let no : owning_level false false ≡ Star = level ∙ star in cc,
          )

-- a category of a job that is known has its number alone
pub only_job : (accounts : Accounts) (s : State) (f : Flat) (l : ObjectsMatch accounts s f) (job : ProcName)
    → IsNoOthers accounts f l.category job (l.category (OfJob job))
only_job accounts s f l job c used other e = other (l.different c (OfJob job) e)

pub outsiders_outside : OutsidersAreOutside
outsiders_outside accounts s f rep job me reached known outsider =
    let jobs = subst AreJobs reached.1 (jobs_at_end accounts reached.0) in
    outside_by_name accounts s f rep.matched job (rep.matched.category (OfJob job)) (jobs.started known.0 known.1 job known.2 known.3)
    (only_job accounts s f rep.matched job) me outsider
