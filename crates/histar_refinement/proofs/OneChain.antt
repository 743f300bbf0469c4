-- A part of 'at most one flat state': the label of a process's container determines the jobs that it is in, since they are in order.
use Rattle.std.proofs.Common.{◌≡◌, ◌≢◌, ℕ, ◌==◌, ◌⊎◌, inl, inr, Bool, true, false, ◌||◌, List, [], ◌∷◌, arith, refl, sym, ap, ◌∙◌}
use Rattle.std.proofs.Common.{subst}
use Rattle.std.specs.Prelude.{map}
use Rattle.std.proofs.lemmas.Bool.Decides.{eqb_tells}
use Rattle.histar_flat.specs.Words.{ProcName}
use Rattle.histar_level.specs.Level.{rank}
use Rattle.histar_level.specs.Levels.{Levels, level_of}
use Rattle.histar_level.specs.declared.level.Level.TheVariants.{L1, L3}
use Rattle.histar_flat.specs.Accounts.{has}
use Rattle.histar_flat.specs.Classes.{Process}
use Rattle.histar_refinement.specs.Categories.{CategoryName, Categories, AreDifferent, split_category}
use Rattle.histar_refinement.specs.Categories.CategoryName.{WritesProcess, OfJob}
use Rattle.histar_refinement.specs.Guards.{guard_label}
use Rattle.histar_refinement.specs.Labels.{process_guard}
use Rattle.histar_refinement.specs.Represents.{AreInOrder}
use Rattle.histar_layout.proofs.Rising.{one_rising}
use Rattle.histar_layout.proofs.Members.{is_in, same_truth}
use Rattle.histar_layout.proofs.LabelLevels.{at_guarded, guarded_level}
use Rattle.histar_refinement.proofs.CategoryTests.{among_jobs, is_in_names, named_in}
use Rattle.histar_refinement.proofs.Uses.{job_among}

module _ (category : Categories) (different : AreDifferent category) where
  abbrev numbers : List ProcName → List ℕ
  numbers jobs = map (λ job. category (OfJob job)) jobs

  one_list : (xs ys : List ProcName) → numbers xs ≡ numbers ys → xs ≡ ys
  one_list [] [] e = refl
  one_list [] (y ∷ ys) e = absurd (cc)
  one_list (x ∷ xs) [] e = absurd (cc)
  one_list (x ∷ xs) (y ∷ ys) e =
      let heads : category (OfJob x) ≡ category (OfJob y) = cc in
      let tails : numbers xs ≡ numbers ys = cc in
      let names : x ≡ y = ap (λ (c : CategoryName). (split_category c).1) (different (OfJob x) (OfJob y) heads) in
      (λ i. names i ∷ one_list xs ys tails i)

  twice : (jobs : List ProcName) → map category (map OfJob jobs) ≡ numbers jobs
  twice [] = refl
  twice (j ∷ jobs) = ap (λ (cs : List ℕ). category (OfJob j) ∷ cs) (twice jobs)

  -- two lists of jobs in order whose numbers are the same
  pub one_order : (xs ys : List ProcName) → AreInOrder category xs → AreInOrder category ys
      → ((q : ℕ) → is_in (map category (map OfJob xs)) q ≡ is_in (map category (map OfJob ys)) q) → xs ≡ ys
  one_order xs ys a b alike =
      one_list xs ys (one_rising 0 0 (numbers xs) (numbers ys) a b (λ q. ap (λ (cs : List ℕ). is_in cs q) (sym (twice xs)) ∙ alike q
      ∙ ap (λ (cs : List ℕ). is_in cs q) (twice ys)))

  -- two lists of jobs in order that have the same jobs are the same
  number_in : (xs ys : List ProcName) → ((job : ProcName) → has xs job ≡ has ys job) → (k : ℕ)
      → is_in (map category (map OfJob xs)) k ≡ true → is_in (map category (map OfJob ys)) k ≡ true
  number_in xs ys alike k e =
      let there = named_in category (map OfJob xs) k e in
      let found = job_among xs there.0 there.2 in
      ap (is_in (map category (map OfJob ys))) (there.1 ∙ ap category found.1)
      ∙ is_in_names category different (map OfJob ys) (OfJob found.0) ∙ among_jobs ys found.0 ∙ sym (alike found.0)
      ∙ found.2

  pub one_jobs : (xs ys : List ProcName) → AreInOrder category xs → AreInOrder category ys → ((job : ProcName) → has xs job ≡ has ys job) → xs ≡ ys
  one_jobs xs ys a b alike =
      one_order xs ys a b (λ k. same_truth (is_in (map category (map OfJob xs)) k) (is_in (map category (map OfJob ys)) k)
      (number_in xs ys alike k) (number_in ys xs (λ job. sym (alike job)) k))

  -- a process's own category is no job's
  pub not_own : (me : ProcName) (jobs : List ProcName) → is_in (map category (map OfJob jobs)) (category (WritesProcess me)) ≡ false
  not_own me [] = refl
  not_own me (j ∷ jobs) = elim (eqb_tells (category (WritesProcess me)) (category (OfJob j))) [
    | inl e ↦
        let k : 6
        ≡ 7 = ap (λ (c : CategoryName). (split_category c).0) (different (WritesProcess me) (OfJob j) e.1) in absurd
        (omega (arith, k))
    | inr e ↦ ap (λ b. b || is_in (map category (map OfJob jobs)) (category (WritesProcess me))) e.0 ∙ not_own me jobs
  ]

  pub revealed_secret : (s t : Bool) → guarded_level s false ≡ guarded_level t false → s ≡ t
  revealed_secret true true e = refl
  revealed_secret true false e = let k : rank L3 ≡ rank L1 = ap rank e in absurd (omega (arith, k))
  revealed_secret false true e = let k : rank L1 ≡ rank L3 = ap rank e in absurd (omega (arith, k))
  revealed_secret false false e = refl

  -- The label of the container of a process determines the jobs that it is in.
  pub one_chain : (me : ProcName) (p q : Process) → AreInOrder category p.chain → AreInOrder category q.chain
      → guard_label category (process_guard me p) ≡ guard_label category (process_guard me q) → p.chain ≡ q.chain
  one_chain me p q a b e = one_order p.chain q.chain a b (λ k. by k (eqb_tells k (category (WritesProcess me))))
    where
      levels : (k : ℕ)
          → guarded_level (is_in (map category (map OfJob p.chain)) k) (is_in (category (WritesProcess me) ∷ []) k)
          ≡ guarded_level (is_in (map category (map OfJob q.chain)) k) (is_in (category (WritesProcess me) ∷ []) k)
      levels k =
          sym (at_guarded (map category (map OfJob p.chain)) (category (WritesProcess me) ∷ []) k)
          ∙ ap (λ (l : Levels). level_of l k) e
          ∙ at_guarded (map category (map OfJob q.chain)) (category (WritesProcess me) ∷ []) k

      by : (k : ℕ)
          → (((k == category (WritesProcess me)) ≡ true) × (k ≡ category (WritesProcess me)))
          ⊎ (((k == category (WritesProcess me)) ≡ false) × (k ≢ category (WritesProcess me)))
          → is_in (map category (map OfJob p.chain)) k ≡ is_in (map category (map OfJob q.chain)) k
      by k (inl is) =
          ap (is_in (map category (map OfJob p.chain))) is.1 ∙ not_own me p.chain
          ∙ sym (ap (is_in (map category (map OfJob q.chain))) is.1 ∙ not_own me q.chain)
      by k (inr is) = revealed_secret (is_in (map category (map OfJob p.chain)) k) (is_in (map category (map OfJob q.chain)) k)
          (subst (λ b. guarded_level (is_in (map category (map OfJob p.chain)) k) (b || false)
          ≡ guarded_level (is_in (map category (map OfJob q.chain)) k) (b || false)) is.0 (levels k))
