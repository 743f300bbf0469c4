-- The labels that a birth gives are those of the child by the names of its categories.
use Rattle.std.proofs.Common.{◌≡◌, ℕ, ◌==◌, ◌||◌, List, [], ◌∷◌, ◌++◌, None, Some, refl, sym, ap, ◌∙◌}
use Rattle.std.specs.Prelude.{map}
use Rattle.std.proofs.lemmas.List.{append-nil, map-append}
use Rattle.histar_flat.specs.Words.{ProcName}
use Rattle.histar_flat.specs.Accounts.{Accounts, user_number}
use Rattle.histar_flat.specs.Classes.{Process, is_free}
use Rattle.histar_layout.specs.Labelling.{guarded_by, owner_label, cleared_at}
use Rattle.histar_programs.specs.Kin.{Kin, user_name, owned_by}
use Rattle.histar_process.specs.Birth.{outer_label, inner_label, thread_label, thread_clearance}
use Rattle.histar_refinement.specs.Categories.{CategoryName, Categories, boot_category}
use Rattle.histar_refinement.specs.Categories.CategoryName.{ReadsProcess, WritesProcess, OfJob}
use Rattle.histar_refinement.specs.Guards.{guard_label, rights_label, rights_clearance}
use Rattle.histar_refinement.specs.Labels.{process_guard, inside_guard, owned_as, thread_rights}
use Rattle.histar_refinement.specs.Processes.{or_zero}
use Rattle.histar_refinement.proofs.Levelled.{same_guarded, same_owning, same_cleared}
use Rattle.histar_refinement.proofs.OwnLabels.{owned_numbers}
use Rattle.histar_layout.proofs.Members.{is_in, is_in-append}

module _ (accounts : Accounts) (category : Categories) (p : Process)
    (as_made : (c : CategoryName) (q : ℕ) → boot_category accounts c ≡ Some q → category c ≡ q)
    (named : user_name accounts.users (or_zero (user_number accounts p.user)) ≡ p.user) where
  abbrev newborn : Process
  newborn = record { user = p.user; chain = p.chain; held = []; exited = None; born = 0 }

  -- what the child gets from its parent are its jobs, and what it owns as its user
  module _ (kin : Kin) (alike : (q : ℕ) → is_in kin.jobs q ≡ is_in (map category (map OfJob p.chain)) q)
      (revealed : kin.owned ≡ owned_by accounts (or_zero (user_number accounts p.user)) (is_free p)) where
    kin_owned : kin.owned ≡ map category (owned_as accounts newborn (user_number accounts p.user) ++ [])
    kin_owned =
        revealed
        ∙ sym (ap (map category) (append-nil (owned_as accounts newborn (user_number accounts p.user)))
        ∙ owned_numbers accounts category as_made newborn named)

    module _ (child : ProcName) (r w : ℕ) (reads : category (ReadsProcess child) ≡ r) (writes : category (WritesProcess child) ≡ w) where
      pub outer_is : outer_label kin w
          ≡ guard_label category
          (process_guard child (record { user = p.user; chain = p.chain; held = []; exited = None; born = 0 }))
      outer_is =
          same_guarded (kin.jobs) (w ∷ []) (map category (map OfJob p.chain)) (w ∷ []) alike (λ q. refl)
          ∙ (λ i. guarded_by (map category (map OfJob p.chain)) (sym writes i ∷ []))

      pub inner_is : inner_label kin r w
          ≡ guard_label category
          (inside_guard child (record { user = p.user; chain = p.chain; held = []; exited = None; born = 0 }))
      inner_is =
          same_guarded (r ∷ kin.jobs) (w ∷ []) (r ∷ map category (map OfJob p.chain)) (w ∷ []) (λ q i. q == r || alike q i) (λ q. refl)
          ∙ (λ i. guarded_by (sym reads i ∷ map category (map OfJob p.chain)) (sym writes i ∷ []))

      pub label_is : thread_label kin r w
          ≡ rights_label category (thread_rights accounts child
          (record { user = p.user; chain = p.chain; held = []; exited = None; born = 0 }))
      label_is =
          same_owning (r ∷ w ∷ kin.owned) (kin.jobs) (r ∷ w ∷ kin.owned) (map category (map OfJob p.chain)) (λ q. refl) alike
          ∙ (λ i. owner_label (sym reads i ∷ sym writes i ∷ kin_owned i) (map category (map OfJob p.chain)))

      -- what is owned before the jobs
      before_jobs : (owned : List ℕ) (q : ℕ) → is_in (owned ++ kin.jobs) q ≡ is_in (owned ++ map category (map OfJob p.chain)) q
      before_jobs owned q =
          is_in-append owned (kin.jobs) q ∙ ap (λ b. is_in owned q || b) (alike q)
          ∙ sym (is_in-append owned (map category (map OfJob p.chain)) q)

      pub clearance_is : thread_clearance kin r w
          ≡ rights_clearance category (thread_rights accounts child
          (record { user = p.user; chain = p.chain; held = []; exited = None; born = 0 }))
      clearance_is =
          same_cleared (r ∷ w ∷ (kin.owned ++ kin.jobs)) (r ∷ w ∷ (kin.owned ++ map category (map OfJob p.chain))) (before_jobs (r ∷ w ∷ kin.owned))
          ∙ (λ i. cleared_at (sym reads i ∷ sym writes i ∷ (kin_owned i ++ map category (map OfJob p.chain))))
          ∙ (λ i. cleared_at (category (ReadsProcess child) ∷ category (WritesProcess child)
          ∷ sym (map-append category (owned_as accounts newborn (user_number accounts p.user) ++ [])
          (map OfJob p.chain)) i))
