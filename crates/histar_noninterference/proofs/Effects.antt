-- Changes that keep two states the same outside a job.
use Rattle.std.specs.Prelude.{None, Some, [], cond, false, not, refl, true, ◌||◌, ◌∷◌, ◌≡◌, ◌≢◌}
use Rattle.std.proofs.Common.{ap, inl, inr, sym, ◌∙◌}
use Rattle.std.proofs.lemmas.Bool.{or_parts, true≢false, cases_Bool}
use Rattle.std.proofs.Math.Bool.{or-true}
use Rattle.histar_flat.specs.Files.{Files, get, insert, keep}
use Rattle.histar_flat.specs.FlatState.{Node}
use Rattle.histar_base.specs.Paths.{same, same_path}
use Rattle.histar_flat.specs.PathOrder.{under_path}
use Rattle.histar_flat.specs.Words.{Name, Path, ProcName}
use Rattle.histar_flat.proofs.FileLemmas.{get-insert, get-keep, get_other, same_path_found}
use Rattle.histar_flat.proofs.Under.{under_itself}
use Rattle.histar_noninterference.specs.Comparison.{is_dir_of, lies_in_job}
use Rattle.histar_noninterference.proofs.Outside.{ChangesBelow, is_below}
use Rattle.histar_noninterference.proofs.Relation.{SameFiles}
use Rattle.histar_noninterference.proofs.TestLemmas.{left_holds, parent_under}

module _ (job : ProcName) where
  -- what lies in the job still does after something new is made, if no directory of the job was there
  pub lies_inserted : (m : Files Node) (q : Path) (x : Node) → is_dir_of job (get m q) ≡ false → (r : Path) → lies_in_job job m r ≡ true
      → lies_in_job job (insert m q x) r ≡ true
  lies_inserted m q x plain [] h = h
  lies_inserted m q x plain (n ∷ d) h = elim (cases_Bool (lies_in_job job m d)) [
    | inl i ↦
        ap (λ b. is_dir_of job (get (insert m q x) d) || b) (lies_inserted m q x plain d i) ∙ or-true (is_dir_of job (get (insert m q x) d))
    | inr i ↦
        let dir : is_dir_of job (get m d) ≡ true = left_holds (is_dir_of job (get m d)) (lies_in_job job m d) i h in
        elim (same_path_found d q) [
          | inl t ↦ absurd (true≢false (sym dir ∙ ap (λ e. is_dir_of job (get m e)) t.1 ∙ plain))
          | inr t ↦
              ap (λ o. is_dir_of job o || lies_in_job job (insert m q x) d) (get_other m q x d t.1)
              ∙ ap (λ b. b || lies_in_job job (insert m q x) d) dir
        ]
  ]

  -- the same node put in both trees keeps them the same outside the job
  pub insert_alike : (m n : Files Node) → SameFiles job m n → (q : Path) (x : Node) → is_dir_of job (get m q) ≡ false
      → SameFiles job (insert m q x) (insert n q x)
  insert_alike m n r q x plain = record { same = by }
    where
      by : (t : Path) → lies_in_job job (insert m q x) t ≡ false → get (insert m q x) t ≡ get (insert n q x) t
      by t h = elim (cases_Bool (lies_in_job job m t)) [
        | inl i ↦ absurd (true≢false (sym (lies_inserted m q x plain t i) ∙ h))
        | inr i ↦ get-insert m q x t ∙ ap (cond (same_path t q) (Some x)) (r.same t i) ∙ sym (get-insert n q x t)
      ]

  -- what a removal leaves lies in the job as before
  pub lies_cut : (m : Files Node) (q : Path) (r : Path) → under_path q r ≡ false
      → lies_in_job job (keep m (λ t. not (under_path q t))) r ≡ lies_in_job job m r
  lies_cut m q [] u = refl
  lies_cut m q (n ∷ d) u =
      let above = (or_parts (same_path q (n ∷ d)) (under_path q d) u).1 in
      ap (λ o. is_dir_of job o || lies_in_job job (keep m (λ t. not (under_path q t))) d)
      (get-keep m (λ t. not (under_path q t)) d ∙ ap (λ b. cond (not b) (get m d) None) above)
      ∙ ap (λ b. is_dir_of job (get m d) || b) (lies_cut m q d above)

  -- a removal in both trees keeps them the same outside the job
  pub cut_alike : (m n : Files Node) → SameFiles job m n → (q : Path)
      → SameFiles job (keep m (λ t. not (under_path q t))) (keep n (λ t. not (under_path q t)))
  cut_alike m n r q = record { same = by }
    where
      by : (t : Path) → lies_in_job job (keep m (λ t. not (under_path q t))) t ≡ false
          → get (keep m (λ t. not (under_path q t))) t ≡ get (keep n (λ t. not (under_path q t))) t
      by t h = get-keep m (λ t. not (under_path q t)) t ∙ elim (cases_Bool (under_path q t)) [
        | inl u ↦ ap (λ b. cond (not b) (get m t) None) u ∙ sym (ap (λ b. cond (not b) (get n t) None) u)
        | inr u ↦
            ap (cond (not (under_path q t)) (get m t)) refl
            ∙ ap (λ o. cond (not (under_path q t)) o None) (r.same t (sym (lies_cut m q t u) ∙ h))
      ] ∙ sym (get-keep n (λ t. not (under_path q t)) t)

  -- making an entry in a directory changes only what is below it
  pub insert_below : (m : Files Node) (n : Name) (d : Path) (x : Node) → ChangesBelow d m (insert m (n ∷ d) x)
  insert_below m n d x = record { rest = λ q h. get_other m (n ∷ d) x q (by q h) }
    where
      by : (q : Path) → is_below d q ≡ false → q ≢ n ∷ d
      by [] h e = cc
      by (k ∷ q) h e = let t : d ≡ q = cc in true≢false (sym (under_itself same same_path_found d) ∙ ap (under_path d) t ∙ h)

  pub cut_below : (m : Files Node) (n : Name) (d : Path) → ChangesBelow d m (keep m (λ t. not (under_path (n ∷ d) t)))
  cut_below m n d = record { rest = λ q h. get-keep m (λ t. not (under_path (n ∷ d) t)) q ∙ ap (λ b. cond (not b) (get m q) None) (by q h) }
    where
      by : (q : Path) → is_below d q ≡ false → under_path (n ∷ d) q ≡ false
      by [] h = refl
      by (k ∷ q) h = elim (cases_Bool (under_path (n ∷ d) (k ∷ q))) [
        | inl u ↦ absurd (true≢false (sym (parent_under same same_path_found d q n k u) ∙ h))
        | inr u ↦ u
      ]
