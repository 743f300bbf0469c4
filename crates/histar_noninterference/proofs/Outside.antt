-- What lies below a job's directories, what changes there, and that being the same outside a job is an equivalence.
use Rattle.std.specs.Prelude.{Bool, [], false, refl, true, ◌||◌, ◌∷◌, ◌≡◌}
use Rattle.std.proofs.Common.{ap, inl, inr, subst, sym, ◌∙◌}
use Rattle.std.proofs.lemmas.Bool.{true≢false, cases_Bool}
use Rattle.std.proofs.Math.Bool.{or-true}
use Rattle.histar_flat.specs.Files.{Files, get}
use Rattle.histar_flat.specs.FlatState.{Node}
use Rattle.histar_flat.specs.PathOrder.{under_path}
use Rattle.histar_flat.specs.Words.{Path, ProcName}
use Rattle.histar_flat.proofs.FileLemmas.{same_path_found}
use Rattle.histar_noninterference.specs.Comparison.{is_dir_of, lies_in_job}
use Rattle.histar_noninterference.proofs.Relation.{SameFiles}
use Rattle.histar_noninterference.proofs.TestLemmas.{is_same_path}

-- the path lies strictly below the directory
abbrev pub is_below : Path → Path → Bool
is_below d [] = false
is_below d (n ∷ q) = under_path d q

-- the trees differ only strictly below d
pub record ChangesBelow (d : Path) (m n : Files Node) : Type 0 where
  pub rest : (q : Path) → is_below d q ≡ false → get n q ≡ get m q

module _ (job : ProcName) where
  -- in the other tree the same paths lie in the job
  pub lie_alike : (m n : Files Node) → SameFiles job m n → (q : Path) → lies_in_job job m q ≡ lies_in_job job n q
  lie_alike m n r [] = refl
  lie_alike m n r (x ∷ d) = elim (cases_Bool (lies_in_job job m d)) [
    | inl h ↦
        ap (λ b. is_dir_of job (get m d) || b) h ∙ or-true (is_dir_of job (get m d))
        ∙ sym (ap (λ b. is_dir_of job (get n d) || b) (sym (lie_alike m n r d) ∙ h) ∙ or-true (is_dir_of job (get n d)))
    | inr h ↦ ap (λ o. is_dir_of job o || lies_in_job job m d) (r.same d h) ∙ ap (λ b. is_dir_of job (get n d) || b) (lie_alike m n r d)
  ]

  pub turned : (m n : Files Node) → SameFiles job m n → SameFiles job n m
  turned m n r = record { same = λ q h. sym (r.same q (lie_alike m n r q ∙ h)) }

  pub joined : (a b c : Files Node) → SameFiles job a b → SameFiles job b c → SameFiles job a c
  joined a b c r t = record { same = λ q h. r.same q h ∙ t.same q (sym (lie_alike a b r q) ∙ h) }

  pub same_files_itself : (m : Files Node) → SameFiles job m m
  same_files_itself m = record { same = λ q h. refl }

  -- what lies below a directory of the job, or below what lies in the job, lies in the job too
  pub lies_below_it : (m : Files Node) (d : Path) → (is_dir_of job (get m d) || lies_in_job job m d) ≡ true → (q : Path)
      → under_path d q ≡ true → (is_dir_of job (get m q) || lies_in_job job m q) ≡ true
  lies_below_it m d h [] u = subst (λ x. (is_dir_of job (get m x) || lies_in_job job m x) ≡ true) (is_same_path d [] u) h
  lies_below_it m d h (n ∷ q) u = elim (same_path_found d (n ∷ q)) [
    | inl r ↦ subst (λ x. (is_dir_of job (get m x) || lies_in_job job m x) ≡ true) r.1 h
    | inr r ↦
        let below : under_path d q ≡ true = sym (ap (λ b. b || under_path d q) r.0) ∙ u in
        ap (λ b. is_dir_of job (get m (n ∷ q)) || b) (lies_below_it m d h q below) ∙ or-true (is_dir_of job (get m (n ∷ q)))
  ]

  -- a change below a job's directory is no change outside the job
  pub change_inside : (m n : Files Node) (d : Path) → (is_dir_of job (get m d) || lies_in_job job m d) ≡ true → ChangesBelow d m n
      → SameFiles job m n
  change_inside m n d h c = record { same = λ q out. sym (c.rest q (by q out)) }
    where
      by : (q : Path) → lies_in_job job m q ≡ false → is_below d q ≡ false
      by [] out = refl
      by (x ∷ q) out = elim (cases_Bool (under_path d q)) [
        | inl u ↦ absurd (true≢false (sym (lies_below_it m d h q u) ∙ out))
        | inr u ↦ u
      ]
