-- Attacks by names are attacks by labels: along the lines the names of the clean machine keep their numbers.
use Rattle.std.proofs.Common.{◌≡◌, ℕ, ◌+◌, ◌*◌, ◌<◌, ◌≤◌, true, false, List, [], ◌∷◌, ◌++◌, map, None, Some, inl, inr}
use Rattle.std.proofs.Common.{length, arith, refl, sym, ap, ◌∙◌, subst}
use Rattle.std.specs.Prelude.{is_some, nat_eq}
use Rattle.std.specs.Cmp.Lexicographic.{pointwise}
use Rattle.std.proofs.lemmas.Bool.{or_cases}
use Rattle.std.proofs.lemmas.Option.{same_Some}
use Rattle.histar_flat.specs.declared.calls.UnixCall.{UnixCall}
use Rattle.histar_flat.specs.Words.{ProcName}
use Rattle.histar_flat.specs.Accounts.{Accounts}
use Rattle.histar_flat.specs.Classes.{Process}
use Rattle.histar_flat.specs.FlatState.{Flat, is_given, with_process}
use Rattle.histar_flat.specs.FlatCalls.{flat_after, inner_chain, next_child}
use Rattle.histar_flat.specs.Meaning.{RepliedCall}
use Rattle.histar_flat.specs.PathOrder.{under_process}
use Rattle.histar_flat.proofs.Changes.{EachChange, by_line, runs_is_there}
use Rattle.histar_flat.proofs.Choices.{left}
use Rattle.histar_flat.proofs.FileLemmas.{same_name_found}
use Rattle.histar_flat.proofs.GivenNames.{next_is_new}
use Rattle.histar_flat.proofs.Under.{above_is_not_under, under_itself}
use Rattle.histar_noninterference.specs.Comparison.{is_outsider}
use Rattle.histar_noninterference.proofs.Kept.{born_cases, put_cases, started_after}
use Rattle.histar_noninterference.proofs.Relation.{IsStarted}
use Rattle.histar_secrecy.specs.Leaks.{IsFamily}
use Rattle.histar_secrecy.proofs.Family.{processes_are_a_tree}
use Rattle.histar_secrecy.proofs.Knowing.{AreJobs, jobs_at_end}
use Rattle.histar_layout.proofs.Members.{is_in}
use Rattle.histar_syscall.specs.KernelModel.{state}
use Rattle.histar_programs.specs.declared.roots.Home.{Home}
use Rattle.histar_programs.specs.Caller.{home_at}
use Rattle.histar_programs.specs.Start.{roots_of, declared}
use Rattle.histar_refinement.specs.Addresses.{home_address}
use Rattle.histar_refinement.specs.Categories.{Categories, IsUsed}
use Rattle.histar_refinement.specs.Categories.CategoryName.{OfJob}
use Rattle.histar_refinement.specs.Represents.{ObjectsMatch, Represents}
use Rattle.histar_refinement.proofs.Agreeing.{some_of}
use Rattle.histar_refinement.proofs.CategoryTests.{among_jobs, is_in_names}
use Rattle.histar_refinement.proofs.StatusFound.{numbered_home}
use Rattle.histar_shell.specs.Machine.{MachineModel}
use Rattle.histar_unwinding.specs.Sealed.{IsSealed}
use Rattle.histar_outside.specs.Attacks.{MixedLine, MakesAttack, AreAlikeMachines}
use Rattle.histar_outside.specs.Attacks.MixedLine.{Outside, Inside, Raw}
use Rattle.histar_outside.specs.NamedAttacks.{MakesAttackOn, HasJob, NamedAttacksAreAttacks, NamedAttacksAreUnseen}
use Rattle.histar_outside.specs.Search.{IsClearRoot, IsInsideCaller, IsOutsideCaller}
use Rattle.histar_outside.proofs.AllPrograms.{attacks_unseen, programs_near}
use Rattle.histar_outside.proofs.Attacks.{UnixStep, root_is_clear, unix_step}
use Rattle.histar_outside.proofs.LaterNumbers.{made_later}
use Rattle.histar_outside.proofs.OutsideByName.{IsNoOthers, only_job, outside_by_name, way_clear}
use Rattle.histar_outside.proofs.Searches.{at_container, child_same, outsiders_stay_outside}
use Rattle.histar_outside.proofs.Sealing.{below_sealed, home_sealed}
use Rattle.histar_outside.proofs.Starts.{attacks_start, root_level}
use Rattle.histar_outside.proofs.UnseenLines.{Unseen, inside_step, raw_step}

-- a process at or below a name has it as its end
under_parts : (job p : ProcName) → under_process job p ≡ true → (below : ProcName) × (p ≡ below ++ job)
under_parts job [] e = elim (same_name_found job []) [
  | inl t ↦ ([], sym t.1)
  | inr t ↦ let no : true ≡ false = sym e ∙ t.0 in cc
]
under_parts job (n ∷ p) e = elim (or_cases (pointwise nat_eq job (n ∷ p)) (under_process job p) e) [
  | inl t ↦ elim (same_name_found job (n ∷ p)) [
    | inl u ↦ ([], sym u.1)
    | inr u ↦ let no : true ≡ false = sym t ∙ u.0 in cc
  ]
  | inr t ↦ let of = under_parts job p t in (n ∷ of.0, ap (λ (x : ProcName). n ∷ x) of.1)
]

-- ---- a name that was given is of no new process

module _ (accounts : Accounts) (f : Flat) (job : ProcName) (given : is_given f.processes job ≡ true) where
  -- if a process has the name, one had it before
  abbrev WasThere : Flat → Type 0
  WasThere g = (y : Process) → g.processes job ≡ Some y → (x : Process) × (f.processes job ≡ Some x)

  module _ (caller : ProcName) (p : Process) (here : f.processes caller ≡ Some p) where
    was_there_with : (q : Process) → WasThere (with_process f caller q)
    was_there_with q y e = elim (put_cases f caller q job y e) [
      | inl t ↦ (p, ap f.processes (sym t.0) ∙ here)
      | inr t ↦ (y, t)
    ]

    was_there_at_birth : (q child : Process) → WasThere (with_process (with_process f caller q) (next_child caller p) child)
    was_there_at_birth q child y e = elim (born_cases f caller q (next_child caller p) child job y e) [
      | inl t ↦ let no : true ≡ false = sym given ∙ ap (is_given f.processes) (sym t.0) ∙ next_is_new f caller p here in cc
      | inr u ↦ elim u [
        | inl t ↦ (p, ap f.processes (sym t.0) ∙ here)
        | inr t ↦ (y, t)
      ]
    ]

    was_there_changes : (call : UnixCall) → EachChange accounts f caller p call WasThere
    was_there_changes call = record {
      stays = λ y e. (y, e);
      makes = λ n d x walked free w own mode made_is y e. (y, e);
      overwrites = λ n d bytes file w y e. (y, e);
      cuts = λ n d takes w y e. (y, e);
      renames = λ n k d takes apart free w y e. (y, e);
      spawns = λ is.
          was_there_at_birth (record p { born = p.born + 1 })
          (record { user = p.user; chain = p.chain; held = []; exited = None; born = 0 });
      exits = λ n is. was_there_with (record p { exited = Some n });
      logs_in = λ name is known free. was_there_with (record p { user = name; held = [] });
      kills = λ n y e. (y, left (under_process (n ∷ caller) job) (f.processes job) y e);
      wraps = λ n d is walked free w named.
          was_there_at_birth (record p { held = p.held ++ next_child caller p ∷ []; born = p.born + 1 })
          (record { user = p.user; chain = inner_chain caller p; held = []; exited = None; born = 0 });
    }

  was_there : (caller : ProcName) (call : UnixCall) → WasThere (flat_after accounts f caller call)
  was_there caller call =
      by_line accounts f caller call WasThere (λ y e. (y, e))
      (λ p runs. was_there_changes caller p (runs_is_there (f.processes caller) p runs) call)

-- ---- what holds along the lines of an attack by names

module _ (accounts : Accounts) (n : ℕ) (wrapper : ProcName) (v : ℕ) (late : 6 + 2 * declared accounts ≤ v) where
  abbrev job : ProcName
  job = n ∷ wrapper

  -- The machines are alike, no other used category has the number of the job's, and the container of the job, while it is there, is sealed.
  record Holds (m clean : MachineModel) (f : Flat) : Type 0 where
    alike : AreAlikeMachines accounts v m clean f
    started : IsStarted job f
    rep : Represents accounts (state clean.kernel) f
    others : IsNoOthers accounts f rep.matched.category job v
    sealed : (q : ℕ) → rep.matched.naming.number (home_address job) ≡ Some q → IsSealed (state m.kernel) v q

  module _ (m clean : MachineModel) (f : Flat) (h : Holds m clean f) where
    abbrev first : Home
    first = (roots_of (length accounts.users)).home

    homes : m.roots.home ≡ first
    homes = ap (λ r. r.home) (h.alike.roots ∙ h.alike.shows.roots)

    root : IsClearRoot (state clean.kernel) v
    root = root_is_clear accounts v (state clean.kernel) f h.rep (root_level accounts v)

    -- a line of an outsider is outside
    outside_now : (me : ProcName) → is_outsider job me ≡ true → IsOutsideCaller (state m.kernel) v m.roots.home me
    outside_now me outsider =
        subst (λ (x : Home). IsOutsideCaller (state m.kernel) v x me) (sym homes)
        (outsiders_stay_outside accounts v (state m.kernel) (state clean.kernel) f me h.alike.alike h.rep root
        (outside_by_name accounts (state clean.kernel) f h.rep.matched job v h.started h.others me outsider))

    -- the job is found where the clean machine finds it
    job_same : home_at (state m.kernel) first job ≡ home_at (state clean.kernel) first job
    job_same =
        child_same accounts v (state m.kernel) (state clean.kernel) f h.alike.alike h.rep root n wrapper
        (way_clear accounts (state clean.kernel) f h.rep.matched job v h.started h.others wrapper
        (above_is_not_under nat_eq same_name_found wrapper n))

    -- a line of a process at or below the job's name is inside
    inside_now : (me : ProcName) → under_process job me ≡ true → IsInsideCaller (state m.kernel) v m.roots.home me
    inside_now me under =
        let of = under_parts job me under in
        subst (λ (x : Home). IsInsideCaller (state m.kernel) v x me) (sym homes)
        (subst (IsInsideCaller (state m.kernel) v first) (sym of.1)
        (below_sealed (state m.kernel) v first job
        (λ now at. h.sealed now.container (at_container accounts (state clean.kernel) f h.rep.matched job now (sym job_same ∙ at))) of.0))

    -- it holds after a line that isn't seen
    after_unseen : (mid : MachineModel) (step : Unseen accounts v m mid clean f) → Holds mid step.after f
    after_unseen mid step =
        let now = step.names h.rep in
        record {
          alike = step.alike;
          started = h.started;
          rep = now.represents;
          others = subst (λ (category : Categories). IsNoOthers accounts f category job v) (sym now.category) h.others;
          sealed = λ q at. step.seals q (h.sealed q (ap (λ naming. naming.number (home_address job)) (sym now.naming) ∙ at));
        }

    -- and after a line of an outsider
    module _ (mid : MachineModel) (a : RepliedCall)
        (step : UnixStep programs_near accounts v (root_level accounts v) late m mid clean f a) where
      abbrev g : Flat
      g = flat_after accounts f a.call.process a.call.call

      abbrev new : ObjectsMatch accounts (state step.after.kernel) g
      new = (step.names h.rep).represents.matched

      others_now : IsNoOthers accounts g new.category job v
      others_now c used other e =
          let names = (step.names h.rep).names in
          let unused : IsUsed accounts f c → ⊥ = λ before. h.others c before other (sym (names.categories c before used) ∙ e) in
          let since = names.fresh c unused used in
          let made = h.alike.closed.made in
          let same_next = h.alike.alike.next_category in
          absurd (omega (arith, since, e, made, same_next))

      sealed_now : (q : ℕ) → new.naming.number (home_address job) ≡ Some q → IsSealed (state mid.kernel) v q
      sealed_now q at =
          let here = some_of (g.processes job) (sym (numbered_home accounts (state step.after.kernel) g new job) ∙ ap is_some at) in
          let before = was_there accounts f job h.started.given a.call.process a.call.call here.0 here.1 in
          let old = some_of (h.rep.matched.naming.number (home_address job))
          (numbered_home accounts (state clean.kernel) f h.rep.matched job ∙ ap is_some before.1) in
          let same_number : old.0 ≡ q =
          same_Some old.0 q (sym ((step.names h.rep).names.addresses (home_address job) old.0 old.1 (ap is_some at)) ∙ at) in
          step.seals q (subst (IsSealed (state m.kernel) v) same_number (h.sealed old.0 old.1))

      after_outside : Holds mid step.after g
      after_outside = record {
        alike = step.alike;
        started = started_after job accounts f a.call.process a.call.call h.started;
        rep = (step.names h.rep).represents;
        others = others_now;
        sealed = sealed_now;
      }

  -- so an attack by names is one by labels
  by_labels : (m clean end : MachineModel) (f : Flat) (lines : List MixedLine) → Holds m clean f → MakesAttackOn job v m lines end
      → MakesAttack v m lines end
  by_labels m clean end f [] h made = made
  by_labels m clean end f (Outside a ∷ more) h made =
      let out = outside_now m clean f h a.call.process made.2 in
      let step = unix_step programs_near accounts v (root_level accounts v) late m made.0 clean f a h.alike made.1 out made.3 in (
        made.0,
        made.1,
        out,
        made.3,
        by_labels made.0 step.after end (flat_after accounts f a.call.process a.call.call) more (after_outside m clean f h made.0 a step) made.4,
      )
  by_labels m clean end f (Inside a ∷ more) h made =
      let within = inside_now m clean f h a.call.process made.2 in
      let step = inside_step accounts v m made.0 clean f a h.alike within made.3 in
      (made.0, made.1, within, made.3, by_labels made.0 step.after end f more (after_unseen m clean f h made.0 step) made.4)
  by_labels m clean end f (Raw t call ∷ more) h made =
      let step = raw_step accounts v m made.0 clean f h.alike t call made.1 made.2 in
      (made.0, made.1, made.2, by_labels made.0 step.after end f more (after_unseen m clean f h made.0 step) made.3)

-- ---- where an attack by names starts

module _ (accounts : Accounts) (job : ProcName) (v : ℕ) (m : MachineModel) (f : Flat) (at : HasJob accounts job v m f) where
  abbrev l : ObjectsMatch accounts (state m.kernel) f
  l = at.under_way.shows.represents.matched

  jobs : AreJobs f
  jobs = subst AreJobs at.under_way.reached.1 (jobs_at_end accounts at.under_way.reached.0)

  family : IsFamily f
  family = subst IsFamily at.under_way.reached.1 (processes_are_a_tree accounts at.under_way.reached.0)

  started : IsStarted job f
  started = jobs.started at.known.0 at.known.1 job at.known.2 at.known.3

  late : 6 + 2 * declared accounts ≤ v
  late = subst (λ q. 6 + 2 * declared accounts ≤ q) at.number (made_later accounts (state m.kernel) f l job (inl at.known))

  itself : AreAlikeMachines accounts v m m f
  itself =
      attacks_start accounts v m f at.under_way.shows at.under_way.sound at.under_way.runs late
      (subst (λ q. q < (state m.kernel).next_category) at.number (l.made (OfJob job) (inl at.known)).1)

  -- the container of the job's first process, if it is there, is sealed
  sealed_first : (q : ℕ) → l.naming.number (home_address job) ≡ Some q → IsSealed (state m.kernel) v q
  sealed_first q numbered =
      let p = some_of (f.processes job) (sym (numbered_home accounts (state m.kernel) f l job) ∙ ap is_some numbered) in
      let of_one =
      subst (λ c. is_in (map l.category (map OfJob p.0.chain)) c ≡ true) at.number
      (is_in_names l.category l.different (map OfJob p.0.chain) (OfJob job) ∙ among_jobs p.0.chain job
      ∙ started.inside job p.0 p.1 ∙ under_itself nat_eq same_name_found job) in
      home_sealed accounts v (state m.kernel) f l family job p.0 p.1 of_one q numbered

-- it holds at the start
holds_at_start : (accounts : Accounts) (n : ℕ) (wrapper : ProcName) (v : ℕ) (m : MachineModel) (f : Flat)
    (at : HasJob accounts (n ∷ wrapper) v m f) → Holds accounts n wrapper v (late accounts (n ∷ wrapper) v m f at) m m f
holds_at_start accounts n wrapper v m f at = record {
  alike = itself accounts (n ∷ wrapper) v m f at;
  started = started accounts (n ∷ wrapper) v m f at;
  rep = at.under_way.shows.represents;
  others = subst (IsNoOthers accounts f at.under_way.shows.represents.matched.category (n ∷ wrapper)) at.number
      (only_job accounts (state m.kernel) f at.under_way.shows.represents.matched (n ∷ wrapper));
  sealed = sealed_first accounts (n ∷ wrapper) v m f at;
}

pub named_attacks_are_attacks : NamedAttacksAreAttacks
named_attacks_are_attacks accounts [] v m end f lines at made =
    absurd ((jobs accounts [] v m f at).child at.known.0 at.known.1 [] at.known.2 at.known.3 refl)
named_attacks_are_attacks accounts (n ∷ wrapper) v m end f lines at made =
    by_labels accounts n wrapper v (late accounts (n ∷ wrapper) v m f at) m m end f lines (holds_at_start accounts n wrapper v m f at) made

pub named_attacks_are_unseen : NamedAttacksAreUnseen
named_attacks_are_unseen accounts job v m end f lines at made =
    attacks_unseen accounts v m m end f lines (late accounts job v m f at) (itself accounts job v m f at)
    (named_attacks_are_attacks accounts job v m end f lines at made)
