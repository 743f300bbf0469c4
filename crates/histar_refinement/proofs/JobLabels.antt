-- The jobs of a process, from its thread's own label and from the label of its container.
use Rattle.std.proofs.Common.{◌≡◌, ◌≢◌, ℕ, ◌==◌, ◌||◌, ◌⊎◌, inl, inr, Bool, true, false, List, [], ◌∷◌, ◌++◌, refl, sym, ap, ◌∙◌}
use Rattle.std.specs.Prelude.{map}
use Rattle.std.proofs.lemmas.Bool.Decides.{eqb_tells}
use Rattle.std.proofs.lemmas.Bool.{or_left}
use Rattle.std.proofs.lemmas.Simd.{map-map}
use mathlib.Core.Bool.{true≢false}
use Rattle.histar_flat.specs.Words.{ProcName}
use Rattle.histar_flat.specs.Accounts.{Accounts}
use Rattle.histar_flat.specs.Classes.{Process, is_free}
use Rattle.histar_level.specs.declared.level.Level.TheVariants.{Star, L1, L3}
use Rattle.histar_level.specs.Levels.{Levels, default_of}
use Rattle.histar_label.specs.Levels.{constant}
use Rattle.histar_label.proofs.Readers.{default_of-constant}
use Rattle.histar_layout.specs.Jobs.{is_three, jobs_in, is_empty}
use Rattle.histar_layout.specs.Labelling.{each_at, owner_label}
use Rattle.histar_layout.proofs.LabelLevels.{default_kept, at_guarded, at_owning, guarded_level, owning_level}
use Rattle.histar_layout.proofs.Members.{is_in, equal_itself}
use Rattle.histar_layout.proofs.Passed.{in_passed, passed_rise}
use Rattle.histar_layout.proofs.Rising.{one_rising}
use Rattle.histar_refinement.specs.Categories.{Categories, AreDifferent}
use Rattle.histar_refinement.specs.Categories.CategoryName.{WritesProcess, OfJob}
use Rattle.histar_refinement.specs.Guards.{guard_label, rights_label}
use Rattle.histar_refinement.specs.Labels.{process_guard, thread_rights}
use Rattle.histar_refinement.specs.Represents.{AreInOrder}
use Rattle.histar_refinement.specs.NumberedClasses.{job_numbers}
use Rattle.histar_refinement.proofs.CallerLabels.{default_guarded}
use Rattle.histar_refinement.proofs.OneChain.{not_own}

-- level 3 is the level of what is at 3
tainted_at : (o t : Bool) → is_three (owning_level o t) ≡ t
tainted_at o true = refl
tainted_at true false = refl
tainted_at false false = refl

-- the default of what owns categories is level 1
pub default_owning : (owned tainted : List ℕ) → default_of (owner_label owned tainted) ≡ L1
default_owning owned tainted = default_kept (constant L1) (each_at Star owned ++ each_at L3 tainted) ∙ default_of-constant L1

-- The jobs that a label of rights contains are the categories that it has at 3.
pub in_jobs : (owned tainted : List ℕ) (c : ℕ) → is_in (jobs_in (owner_label owned tainted)) c ≡ is_in tainted c
in_jobs owned tainted c =
    in_passed (λ e. is_three e.1) (owner_label owned tainted) (λ c. ap is_three (default_owning owned tainted)) c
    ∙ ap is_three (at_owning owned tainted c) ∙ tainted_at (is_in owned c) (is_in tainted c)

-- a list with the same numbers as an empty one is empty, and the other way round
empty_alike : (cs ds : List ℕ) → ((c : ℕ) → is_in cs c ≡ is_in ds c) → is_empty cs ≡ is_empty ds
empty_alike [] [] same = refl
empty_alike [] (d ∷ ds) same = absurd (true≢false (sym (same d ∙ or_left (d == d) (is_in ds d) (equal_itself d))))
empty_alike (c ∷ cs) [] same = absurd (true≢false (sym (or_left (c == c) (is_in cs c) (equal_itself c)) ∙ same c))
empty_alike (c ∷ cs) (d ∷ ds) same = refl

-- The own label of the thread of a process contains the jobs that the process is in.
pub jobs_are : (category : Categories) (accounts : Accounts) (me : ProcName) (p : Process) (c : ℕ)
    → is_in (jobs_in (rights_label category (thread_rights accounts me p))) c
    ≡ is_in (map category (map OfJob p.chain)) c
jobs_are category accounts me p c = in_jobs (map category (thread_rights accounts me p).owned) (map category (map OfJob p.chain)) c

-- The own label of the thread shows whether the process is in a job.
pub none_if_free : (category : Categories) (accounts : Accounts) (me : ProcName) (p : Process)
    → is_empty (jobs_in (rights_label category (thread_rights accounts me p))) ≡ is_free p
none_if_free category accounts me p = empty_alike _ (map category (map OfJob p.chain)) (jobs_are category accounts me p) ∙ by p.chain
  where
    by : (chain : List ProcName) → is_empty (map category (map OfJob chain)) ≡ elim chain as (λ _. Bool) [ [] ↦ true | job ∷ jobs ↦ false ]
    by [] = refl
    by (job ∷ jobs) = refl

-- level 3 is the level of what is secret, and not written
is_secret : (s w : Bool) → (s ≡ true → w ≡ false) → is_three (guarded_level s w) ≡ s
is_secret true true apart = absurd (true≢false (apart refl))
is_secret true false apart = refl
is_secret false true apart = refl
is_secret false false apart = refl

module _ (category : Categories) (different : AreDifferent category) (me : ProcName) (p : Process) where
  abbrev jobs : List ℕ
  jobs = map category (map OfJob p.chain)

  abbrev own : List ℕ
  own = category (WritesProcess me) ∷ []

  abbrev outer : Levels
  outer = guard_label category (process_guard me p)

  -- the category by which a process writes is no job's
  not_written : (c : ℕ)
      → (((c == category (WritesProcess me)) ≡ true) × (c ≡ category (WritesProcess me)))
      ⊎ (((c == category (WritesProcess me)) ≡ false) × (c ≢ category (WritesProcess me))) → is_in jobs c ≡ true
      → is_in own c ≡ false
  not_written c (inl is) e = absurd (true≢false (sym e ∙ ap (is_in jobs) is.1 ∙ not_own category different me p.chain))
  not_written c (inr is) e = ap (λ b. b || false) is.0

  -- The label of the container of a process contains the jobs that the process is in.
  pub chain_is : AreInOrder category p.chain → jobs_in (guard_label category (process_guard me p)) ≡ job_numbers category p.chain
  chain_is in_order = one_rising 0 0 (jobs_in outer) (job_numbers category p.chain) (passed_rise (λ e. is_three e.1) outer) in_order (λ c.
      in_passed (λ e. is_three e.1) outer (λ d. ap is_three (default_guarded jobs own)) c
      ∙ ap is_three (at_guarded jobs own c) ∙ is_secret (is_in jobs c) (is_in own c) (not_written c (eqb_tells c (category (WritesProcess me))))
      ∙ ap (λ (cs : List ℕ). is_in cs c) (map-map category OfJob p.chain))
