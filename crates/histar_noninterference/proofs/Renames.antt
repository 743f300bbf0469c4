-- A rename keeps two trees the same outside a job.
use Rattle.std.specs.Prelude.{None, [], cond, false, map, refl, true, ◌||◌, ◌∷◌, ◌≡◌, ◌≢◌, ◌⊎◌}
use Rattle.std.proofs.Common.{ap, inl, inr, sym, ◌∙◌}
use Rattle.std.proofs.lemmas.Bool.{or_parts, cases_Bool}
use Rattle.histar_flat.specs.Files.{Files, from_list, get}
use Rattle.histar_flat.specs.FlatState.{Node, moved}
use Rattle.histar_base.specs.Paths.{same, same_path}
use Rattle.histar_flat.specs.PathOrder.{under_path}
use Rattle.histar_flat.specs.Words.{Name, Path, ProcName}
use Rattle.histar_flat.proofs.FileLemmas.{same_path_found}
use Rattle.histar_flat.proofs.Renaming.{get_renamed, stays}
use Rattle.histar_flat.proofs.Under.{above_is_not_under}
use Rattle.histar_noninterference.specs.Comparison.{is_dir_of, lies_in_job}
use Rattle.histar_noninterference.proofs.Relation.{SameFiles}

module _ (job : ProcName) (n k : Name) (d : Path) (ne : n ≢ k) where
  abbrev from_new : Path → Path
  from_new = moved (k ∷ d) (n ∷ d)

  -- the tree after the entry has its new name
  unfoldable pub renamed : Files Node → Files Node
  renamed m = from_list (map (λ e. (moved (n ∷ d) (k ∷ d) e.0, e.1)) m.entries)

  pub gone_renamed : (m : Files Node) → ((q : Path) → under_path (k ∷ d) q ≡ true → get m q ≡ None) → (q : Path)
      → under_path (n ∷ d) q ≡ true → get (renamed m) q ≡ None
  unfolding renamed
  gone_renamed m h q u = get_renamed n k d ne m h q ∙ ap (λ b. cond b None (get m (from_new q))) u

  pub kept_renamed : (m : Files Node) → ((q : Path) → under_path (k ∷ d) q ≡ true → get m q ≡ None) → (q : Path)
      → under_path (n ∷ d) q ≡ false → get (renamed m) q ≡ get m (from_new q)
  unfolding renamed
  kept_renamed m h q u = get_renamed n k d ne m h q ∙ ap (λ b. cond b None (get m (from_new q))) u

  -- a moved path lies in the job as it did
  pub lies_renamed : (m : Files Node) → ((q : Path) → under_path (k ∷ d) q ≡ true → get m q ≡ None) → (q : Path)
      → under_path (n ∷ d) q ≡ false → lies_in_job job (renamed m) q ≡ lies_in_job job m (from_new q)
  lies_renamed m h [] u = refl
  lies_renamed m h (x ∷ e) u =
      let up = (or_parts (same_path (n ∷ d) (x ∷ e)) (under_path (n ∷ d) e) u).1 in
      ap (λ o. is_dir_of job o || lies_in_job job (renamed m) e) (kept_renamed m h e up)
      ∙ ap (λ b. is_dir_of job (get m (from_new e)) || b) (lies_renamed m h e up)
      ∙ elim (same_path_found (k ∷ d) (x ∷ e)) [
        | inl t ↦
            let tails : d ≡ e = cc in
            let same_d = stays (k ∷ d) (n ∷ d) d (above_is_not_under same same_path_found d k) in
            ap (λ z. is_dir_of job (get m (from_new z)) || lies_in_job job m (from_new z)) (sym tails)
            ∙ ap (λ z. is_dir_of job (get m z) || lies_in_job job m z) same_d
            ∙ sym (ap (λ b. lies_in_job job m (cond b (n ∷ d) (x ∷ from_new e))) t.0)
        | inr t ↦ sym (ap (λ b. lies_in_job job m (cond b (n ∷ d) (x ∷ from_new e))) t.0)
      ]

  -- a rename in both trees keeps them the same outside the job
  pub renamed_alike : (a b : Files Node) → SameFiles job a b
      → ((q : Path) → under_path (k ∷ d) q ≡ true → get a q ≡ None) → ((q : Path) → under_path (k ∷ d) q ≡ true → get b q ≡ None)
      → SameFiles job (renamed a) (renamed b)
  renamed_alike a b r ha hb = record { same = λ q h. by q h (cases_Bool (under_path (n ∷ d) q)) }
    where
      by : (q : Path) → lies_in_job job (renamed a) q ≡ false → (under_path (n ∷ d) q ≡ true) ⊎ (under_path (n ∷ d) q ≡ false)
          → get (renamed a) q ≡ get (renamed b) q
      by q h (inl u) = gone_renamed a ha q u ∙ sym (gone_renamed b hb q u)
      by q h (inr u) = kept_renamed a ha q u ∙ r.same (from_new q) (sym (lies_renamed a ha q u) ∙ h) ∙ sym (kept_renamed b hb q u)
