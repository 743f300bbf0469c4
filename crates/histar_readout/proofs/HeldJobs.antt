-- The label of the thread of a process that runs determines the jobs that it holds.
use Rattle.std.proofs.Common.{◌≡◌, ℕ, ◌==◌, ◌||◌, ◌&&◌, Bool, true, false, List, [], ◌∷◌, ◌++◌, None, Some, arith, refl, sym, ap, ◌∙◌}
use Rattle.std.specs.Prelude.{map, nat_eq, not}
use Rattle.std.specs.Set.{is_member}
use Rattle.std.proofs.lemmas.Bool.Decides.{nat_tests}
use Rattle.std.proofs.lemmas.List.{map-append}
use Rattle.std.proofs.lemmas.Simd.{map-map}
use mathlib.Core.Bool.{true≢false}
use Rattle.histar_flat.specs.Words.{ProcName}
use Rattle.histar_flat.specs.Accounts.{Accounts, has, user_number}
use Rattle.histar_flat.specs.Classes.{Process}
use Rattle.histar_flat.specs.FlatState.{Flat}
use Rattle.histar_level.specs.Level.{is_star}
use Rattle.histar_level.specs.Levels.{Levels, default_of, level_of}
use Rattle.histar_level.specs.declared.level.Level.{Level}
use Rattle.histar_object.specs.State.{State}
use Rattle.histar_layout.specs.Labelling.{owner_label}
use Rattle.histar_layout.proofs.LabelLevels.{at_owning, owning_level}
use Rattle.histar_layout.proofs.Members.{is_in, is_in-append}
use Rattle.histar_layout.proofs.Passed.{in_passed, passed_rise}
use Rattle.histar_layout.proofs.Rising.{one_rising}
use Rattle.histar_programs.specs.Kin.{user_name}
use Rattle.histar_refinement.specs.Categories.{CategoryName, Categories, AreDifferent, among}
use Rattle.histar_refinement.specs.Categories.CategoryName.{ReadsProcess, WritesProcess, OfJob}
use Rattle.histar_refinement.specs.Guards.{rights_label}
use Rattle.histar_refinement.specs.Labels.{owned_as, thread_rights}
use Rattle.histar_refinement.specs.Represents.{ObjectsMatch, AreInOrder}
use Rattle.histar_refinement.specs.NumberedClasses.{job_numbers}
use Rattle.histar_refinement.specs.Processes.{or_zero}
use Rattle.histar_refinement.proofs.CallerFound.{caller_is}
use Rattle.histar_refinement.proofs.CategoryTests.{among_jobs, is_in_names, named_in}
use Rattle.histar_refinement.proofs.ClassTests.{none_as_user}
use Rattle.histar_refinement.proofs.JobLabels.{default_owning}
use Rattle.histar_refinement.proofs.OwnLabels.{name_of_number, own_user_is, own_kin_is}
use Rattle.histar_refinement.proofs.Uses.{job_among}
use Rattle.histar_readout.specs.declared.process.Life.TheVariants.{Running}
use Rattle.histar_readout.specs.Process.{owned_beside, held_by, running_by}

-- a number is a member of a list exactly where it equals one of its numbers
equal_to_one : (known : List ℕ) (c : ℕ) → is_member nat_eq known c ≡ is_in known c
equal_to_one [] c = refl
equal_to_one (k ∷ known) c = let equal : nat_eq c k ≡ (c == k) = grind (arith, nat_tests) in (λ i. equal i || equal_to_one known c i)

-- the default is no star
no_star : is_star (owning_level false false) ≡ false
unfolding is_star
no_star = refl

-- a category is owned and not known exactly where it is held, if no held one is known or at 3
held_alone : (k h t : Bool) → (h ≡ true → k ≡ false) → (h ≡ true → t ≡ false) → (is_star (owning_level (k || h) t) && not k) ≡ h
unfolding is_star
held_alone true true t apart low = absurd (true≢false (apart refl))
held_alone true false true apart low = refl
held_alone true false false apart low = refl
held_alone false true true apart low = absurd (true≢false (low refl))
held_alone false true false apart low = refl
held_alone false false true apart low = refl
held_alone false false false apart low = refl

module _ (category : Categories) (different : AreDifferent category) (known : List CategoryName) (held chain : List ProcName) where
  abbrev own : Levels
  own = owner_label (map category (known ++ map OfJob held)) (map category (map OfJob chain))

  -- an exception is owned and not known
  abbrev test : ℕ × Level → Bool
  test e = is_star e.1 && not (is_member nat_eq (map category known) e.0)

  abbrev numbers : List ProcName → List ℕ
  numbers jobs = map category (map OfJob jobs)

  owned_parts : (c : ℕ) → is_in (map category (known ++ map OfJob held)) c ≡ (is_in (map category known) c || is_in (numbers held) c)
  owned_parts c = ap (λ (cs : List ℕ). is_in cs c) (map-append category known (map OfJob held)) ∙ is_in-append (map category known) (numbers held) c

  level : (c : ℕ) → level_of own c ≡ owning_level (is_in (map category known) c || is_in (numbers held) c) (is_in (numbers chain) c)
  level c = at_owning (map category (known ++ map OfJob held)) (numbers chain) c ∙ ap (λ b. owning_level b (is_in (numbers chain) c)) (owned_parts c)

  fails : (c : ℕ) (l : Level) → is_star l ≡ false → test (c, l) ≡ false
  fails c l none = ap (λ b. b && not (is_member nat_eq (map category known) c)) none

  module _ (no_job : (job : ProcName) → among known (OfJob job) ≡ false)
      (apart : (job : ProcName) → has chain job ≡ true → has held job ≡ false) where
    not_known : (c : ℕ) → is_in (numbers held) c ≡ true → is_in (map category known) c ≡ false
    not_known c e =
        let name = named_in category (map OfJob held) c e in
        let job = job_among held name.0 name.2 in
        ap (is_in (map category known)) (name.1 ∙ ap category job.1) ∙ is_in_names category different known (OfJob job.0) ∙ no_job job.0

    not_in_chain : (job : ProcName) → has held job ≡ true → (b : Bool) → has chain job ≡ b → b ≡ false
    not_in_chain job e true is = absurd (true≢false (sym e ∙ apart job is))
    not_in_chain job e false is = refl

    not_tainted : (c : ℕ) → is_in (numbers held) c ≡ true → is_in (numbers chain) c ≡ false
    not_tainted c e =
        let name = named_in category (map OfJob held) c e in
        let job = job_among held name.0 name.2 in
        ap (is_in (numbers chain)) (name.1 ∙ ap category job.1)
        ∙ is_in_names category different (map OfJob chain) (OfJob job.0) ∙ among_jobs chain job.0
        ∙ not_in_chain job.0 job.2 (has chain job.0) refl

    alike : (c : ℕ) → is_in (owned_beside (map category known) own) c ≡ is_in (numbers held) c
    alike c =
        in_passed test own (λ d. fails d (default_of own)
        (ap is_star (default_owning (map category (known ++ map OfJob held)) (numbers chain)) ∙ no_star)) c
        ∙ (λ i. is_star (level c i) && not (equal_to_one (map category known) c i))
        ∙ held_alone (is_in (map category known) c) (is_in (numbers held) c) (is_in (numbers chain) c) (not_known c) (not_tainted c)

    -- the owned categories of such a label without the known ones are those of the held jobs, if these are in order
    pub beside_is : AreInOrder category held
        → owned_beside (map category known)
        (owner_label (map category (known ++ map OfJob held)) (map category (map OfJob chain)))
        ≡ job_numbers category held
    beside_is in_order = one_rising 0 0 (owned_beside (map category known) own) (job_numbers category held) (passed_rise test own) in_order (λ c.
        alike c ∙ ap (λ (cs : List ℕ). is_in cs c) (map-map category OfJob held))

module _ (accounts : Accounts) (s : State) (f : Flat) (l : ObjectsMatch accounts s f) (me : ProcName) (p : Process)
    (here : f.processes me ≡ Some p) (runs : p.exited ≡ None) where
  abbrev thread : Levels
  thread = rights_label l.category (thread_rights accounts me p)

  abbrev as_user : List CategoryName
  as_user = owned_as accounts p (user_number accounts p.user)

  named : user_name accounts.users (or_zero (user_number accounts p.user)) ≡ p.user
  named = name_of_number accounts p.user ((l.processes me p here).someone runs)

  held_is : held_by accounts (caller_is accounts s f l me) thread ≡ job_numbers l.category p.held
  held_is =
      ap (λ (kin : List ℕ). owned_beside (l.category (ReadsProcess me) ∷ l.category (WritesProcess me) ∷ kin) thread)
      (own_kin_is accounts s f l me p named)
      ∙ beside_is l.category l.different (ReadsProcess me ∷ WritesProcess me ∷ as_user) p.held p.chain
      (λ job. none_as_user accounts me p job (user_number accounts p.user)) ((l.processes me p here).apart runs) ((l.processes me p here).held runs)

  -- The process shows the same as in the flat state.
  pub running_is : running_by accounts (caller_is accounts s f l me)
      (rights_label l.category (thread_rights accounts me p)) ≡ Running p.user (job_numbers l.category p.held)
  running_is = λ i. Running ((ap (user_name accounts.users) (own_user_is accounts s f l me p) ∙ named) i) (held_is i)
