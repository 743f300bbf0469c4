-- The directory of a job is where calls and replies determine: each directory of the job is at the followed path or below it, and one is at
-- it.
use Rattle.std.specs.Prelude.{Bool, None, Option, Some, [], cond, false, not, option_map, refl, true, ◌∷◌, ◌≡◌, ◌≢◌, ◌⊎◌}
use Rattle.std.proofs.Common.{ap, inl, inr, sym, ◌∙◌}
use Rattle.std.proofs.lemmas.Bool.{true≢false, cases_Bool}
use Rattle.histar_flat.specs.Files.{get, insert}
use Rattle.histar_flat.specs.FlatState.{Flat, IsTree, Node, moved, with_node, with_renamed, without_below}
use Rattle.histar_base.specs.Paths.{same}
use Rattle.histar_flat.specs.PathOrder.{under_path}
use Rattle.histar_flat.specs.Words.{Name, Path, ProcName}
use Rattle.histar_flat.proofs.FileLemmas.{get-keep, get_new, get_other, same_path_found}
use Rattle.histar_flat.proofs.Renaming.{leaves, returns_from, stays}
use Rattle.histar_flat.proofs.Trees.{nothing_below}
use Rattle.histar_flat.proofs.Under.{above_is_not_under, under_child, under_inner, under_itself}
use Rattle.histar_noninterference.specs.Comparison.{is_dir_of}
use Rattle.histar_noninterference.specs.Following.{left_without}
use Rattle.histar_noninterference.proofs.Renames.{gone_renamed, kept_renamed, renamed}
use Rattle.histar_noninterference.proofs.TestLemmas.{is_same_path, none_some, under_all}

-- the path is the followed directory, or lies below it
abbrev pub lies_at : Option Path → Path → Bool
lies_at None q = false
lies_at (Some p) q = under_path p q

-- each directory of the job is the followed one or lies below it, and the followed one is a directory of the job
pub record IsFollowed (job : ProcName) (f : Flat) (directory : Option Path) : Type 0 where
  pub carried : (q : Path) → is_dir_of job (get f.files q) ≡ true → lies_at directory q ≡ true
  pub there : (p : Path) → directory ≡ Some p → is_dir_of job (get f.files p) ≡ true

-- what lies below a path at or below the directory lies at or below it too
lies_at_below : (directory : Option Path) (q r : Path) → lies_at directory q ≡ true → under_path q r ≡ true → lies_at directory r ≡ true
lies_at_below None q r h u = h
lies_at_below (Some p) q r h u = under_all same same_path_found p q r h u

pub lies_at_entry : (directory : Option Path) (n : Name) (d : Path) → lies_at directory d ≡ true → lies_at directory (n ∷ d) ≡ true
lies_at_entry directory n d h =
    lies_at_below directory d (n ∷ d) h (under_child same same_path_found d d n (under_itself same same_path_found d))

-- a path with a directory of the job is not empty
dir_is_there : (job : ProcName) (o : Option Node) → is_dir_of job o ≡ true → o ≡ None → ⊥
dir_is_there job o h e = true≢false (sym h ∙ ap (is_dir_of job) e)

module _ (job : ProcName) (f : Flat) (directory : Option Path) (h : IsFollowed job f directory) where
  -- the directory stays followed when a node is put at a path without a directory of the job; one of the job has to lie at it or below
  pub put_followed : (q : Path) (x : Node) → is_dir_of job (get f.files q) ≡ false
      → (is_dir_of job (Some x) ≡ true → lies_at directory q ≡ true) → IsFollowed job (with_node f q x.class x.content) directory
  put_followed q x free own = record {
    carried = λ r is. elim (same_path_found r q) [
      | inl t ↦ ap (lies_at directory) t.1 ∙ own (ap (is_dir_of job) (sym (ap (get (insert f.files q x)) t.1 ∙ get_new f.files q x)) ∙ is)
      | inr t ↦ h.carried r (ap (is_dir_of job) (sym (get_other f.files q x r t.1)) ∙ is)
    ];
    there = λ p e. ap (is_dir_of job)
        (get_other f.files q x p (λ i. true≢false (sym (h.there p e) ∙ ap (λ z. is_dir_of job (get f.files z)) i ∙ free))) ∙ h.there p e;
  }

  -- the directory, or nothing if it was removed, stays followed after a removal
  pub cut_followed : (q : Path) → IsFollowed job (without_below f q) (left_without q directory)
  cut_followed q = record {
    carried = λ r is. by r is (cases_Bool (under_path q r));
    there = λ p e. stays_there directory refl p e;
  }
    where
      left_at : (r : Path) → get (without_below f q).files r ≡ cond (not (under_path q r)) (get f.files r) None
      left_at r = get-keep f.files (λ t. not (under_path q t)) r

      still_lies : (o : Option Path) (r : Path) → under_path q r ≡ false → lies_at o r ≡ true → lies_at (left_without q o) r ≡ true
      still_lies None r u l = l
      still_lies (Some p) r u l = elim (cases_Bool (under_path q p)) [
        | inl v ↦ absurd (true≢false (sym (under_all same same_path_found q p r v l) ∙ u))
        | inr v ↦ ap (λ b. lies_at (cond b None (Some p)) r) v ∙ l
      ]

      by : (r : Path) → is_dir_of job (get (without_below f q).files r) ≡ true → (under_path q r ≡ true) ⊎ (under_path q r ≡ false)
          → lies_at (left_without q directory) r ≡ true
      by r is (inl u) =
          absurd (dir_is_there job (get (without_below f q).files r) is (left_at r ∙ ap (λ b. cond (not b) (get f.files r) None) u))
      by r is (inr u) =
          still_lies directory r u (h.carried r (ap (is_dir_of job) (sym (left_at r ∙ ap (λ b. cond (not b) (get f.files r) None) u)) ∙ is))

      stays_there : (o : Option Path) → directory ≡ o → (p : Path) → left_without q o ≡ Some p
          → is_dir_of job (get (without_below f q).files p) ≡ true
      stays_there None is p e = absurd (none_some p e)
      stays_there (Some r) is p e = elim (cases_Bool (under_path q r)) [
        | inl u ↦ absurd (none_some p (sym (ap (λ b. cond b None (Some r)) u) ∙ e))
        | inr u ↦
            let same_place : Some r ≡ Some p = sym (ap (λ b. cond b None (Some r)) u) ∙ e in
            let one : r ≡ p = cc in
            ap (λ z. is_dir_of job (get (without_below f q).files z)) (sym one)
            ∙ ap (is_dir_of job) (left_at r ∙ ap (λ b. cond (not b) (get f.files r) None) u) ∙ h.there r is
      ]

-- what lies below a path is moved with it
moved_under : (n k : Name) (d p r : Path) → under_path p r ≡ true → under_path (moved (n ∷ d) (k ∷ d) p) (moved (n ∷ d) (k ∷ d) r) ≡ true
moved_under n k d p [] u = ap (λ z. under_path (moved (n ∷ d) (k ∷ d) z) []) (is_same_path p [] u)
moved_under n k d p (x ∷ e) u = elim (same_path_found p (x ∷ e)) [
  | inl t ↦
      ap (λ z. under_path (moved (n ∷ d) (k ∷ d) z) (moved (n ∷ d) (k ∷ d) (x ∷ e))) t.1
      ∙ under_itself same same_path_found (moved (n ∷ d) (k ∷ d) (x ∷ e))
  | inr t ↦
      let above : under_path p e ≡ true = under_inner same same_path_found p e x t.0 u in
      elim (same_path_found (n ∷ d) (x ∷ e)) [
        | inl v ↦
            let tails : d ≡ e = cc in
            let over : under_path p d ≡ true = ap (under_path p) tails ∙ above in
            let out : under_path (n ∷ d) p ≡ false = outside p over in
            ap (λ b. under_path (moved (n ∷ d) (k ∷ d) p) (cond b (k ∷ d) (x ∷ moved (n ∷ d) (k ∷ d) e))) v.0
            ∙ ap (λ z. under_path z (k ∷ d)) (stays (n ∷ d) (k ∷ d) p out)
            ∙ under_child same same_path_found p d k over
        | inr v ↦
            ap (λ b. under_path (moved (n ∷ d) (k ∷ d) p) (cond b (k ∷ d) (x ∷ moved (n ∷ d) (k ∷ d) e))) v.0
            ∙ under_child same same_path_found (moved (n ∷ d) (k ∷ d) p) (moved (n ∷ d) (k ∷ d) e) x (moved_under n k d p e above)
      ]
]
  where
    outside : (z : Path) → under_path z d ≡ true → under_path (n ∷ d) z ≡ false
    outside z over = elim (cases_Bool (under_path (n ∷ d) z)) [
      | inl u ↦ absurd (true≢false (sym (under_all same same_path_found (n ∷ d) z d u over) ∙ above_is_not_under same same_path_found d n))
      | inr u ↦ u
    ]

-- a rename moves the directory, or leaves it where it is
pub rename_followed : (job : ProcName) (f : Flat) (directory : Option Path) → IsFollowed job f directory → IsTree f
    → (n k : Name) (d : Path) → n ≢ k → get f.files (k ∷ d) ≡ None
    → IsFollowed job (with_renamed f (n ∷ d) (k ∷ d)) (option_map (moved (n ∷ d) (k ∷ d)) directory)
unfolding renamed
rename_followed job f directory h tree n k d ne free = record {
  carried = λ q is. by q is (cases_Bool (under_path (n ∷ d) q));
  there = λ p e. moved_there directory refl p e;
}
  where
    below : (q : Path) → under_path (k ∷ d) q ≡ true → get f.files q ≡ None
    below = nothing_below f tree (k ∷ d) free

    moves : (o : Option Path) (q r : Path) → lies_at o r ≡ true → moved (n ∷ d) (k ∷ d) r ≡ q
        → lies_at (option_map (moved (n ∷ d) (k ∷ d)) o) q ≡ true
    moves None q r l e = l
    moves (Some p) q r l e = ap (under_path (moved (n ∷ d) (k ∷ d) p)) (sym e) ∙ moved_under n k d p r l

    by : (q : Path) → is_dir_of job (get (with_renamed f (n ∷ d) (k ∷ d)).files q) ≡ true
        → (under_path (n ∷ d) q ≡ true) ⊎ (under_path (n ∷ d) q ≡ false) → lies_at (option_map (moved (n ∷ d) (k ∷ d)) directory) q ≡ true
    by q is (inl u) =
        absurd (dir_is_there job (get (with_renamed f (n ∷ d) (k ∷ d)).files q) is (gone_renamed job n k d ne f.files below q u))
    by q is (inr u) =
        moves directory q (moved (k ∷ d) (n ∷ d) q)
        (h.carried (moved (k ∷ d) (n ∷ d) q) (ap (is_dir_of job) (sym (kept_renamed job n k d ne f.files below q u)) ∙ is))
        (returns_from k n d (λ e. ne (sym e)) q u)

    moved_there : (o : Option Path) → directory ≡ o → (p : Path) → option_map (moved (n ∷ d) (k ∷ d)) o ≡ Some p
        → is_dir_of job (get (with_renamed f (n ∷ d) (k ∷ d)).files p) ≡ true
    moved_there None is p e = absurd (none_some p e)
    moved_there (Some r) is p e =
        let same_place : Some (moved (n ∷ d) (k ∷ d) r) ≡ Some p = e in
        let one : moved (n ∷ d) (k ∷ d) r ≡ p = cc in
        ap (λ z. is_dir_of job (get (with_renamed f (n ∷ d) (k ∷ d)).files z)) (sym one)
        ∙ ap (is_dir_of job) (kept_renamed job n k d ne f.files below (moved (n ∷ d) (k ∷ d) r) (leaves n k d ne r) ∙ ap (get f.files)
        (returns_from n k d ne r (old_place r is)))
        ∙ h.there r is
      where
        old_place : (z : Path) → directory ≡ Some z → under_path (k ∷ d) z ≡ false
        old_place z i = elim (cases_Bool (under_path (k ∷ d) z)) [
          | inl u ↦ absurd (dir_is_there job (get f.files z) (h.there z i) (below z u))
          | inr u ↦ u
        ]
