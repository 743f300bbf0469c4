-- The test of steps distinguishes equal steps from different ones.
use Rattle.std.specs.Prelude.{◌≡◌, ℕ, zero, suc, List, [], ◌∷◌, refl}
use Rattle.std.proofs.Common.{ap, sym, ◌∙◌, inl, inr}
use Rattle.std.proofs.lemmas.Bool.{and_from, and_left, and_right}
use Rattle.std.proofs.lemmas.Bool.Decides.{eqb_tells}
use Rattle.histar_flat.proofs.FileLemmas.{same_name_found}
use Rattle.histar_container.proofs.Addresses.{TestsEquality}
use Rattle.histar_refinement.specs.Addresses.{Step, split_step, same_step}
use Rattle.histar_refinement.specs.Addresses.Step.{Left, Slash, Listing, Named, Home, Status, Inside, Runner, Child}

-- the step of a kind, with its number or its name
join_step : ℕ → List ℕ → Step
join_step zero [] = Slash
join_step zero (q ∷ more) = Left q
join_step (suc zero) more = Slash
join_step (suc (suc zero)) more = Listing
join_step (suc (suc (suc zero))) more = Named more
join_step (suc (suc (suc (suc zero)))) more = Home
join_step (suc (suc (suc (suc (suc zero))))) more = Status
join_step (suc (suc (suc (suc (suc (suc zero)))))) more = Inside
join_step (suc (suc (suc (suc (suc (suc (suc zero))))))) more = Runner
join_step (suc (suc (suc (suc (suc (suc (suc (suc kind)))))))) [] = Slash
join_step (suc (suc (suc (suc (suc (suc (suc (suc kind)))))))) (n ∷ more) = Child n

-- a step that was split comes back
join_split : (x : Step) → join_step (split_step x).0 (split_step x).1 ≡ x
unfolding join_step
join_split (Left q) = refl
join_split Slash = refl
join_split Listing = refl
join_split (Named name) = refl
join_split Home = refl
join_split Status = refl
join_split Inside = refl
join_split Runner = refl
join_split (Child n) = refl

-- the test of steps decides equality
pub step_tests_equality : TestsEquality same_step
step_tests_equality x y = elim (eqb_tells (split_step x).0 (split_step y).0) [
  | inl kind ↦ elim (same_name_found (split_step x).1 (split_step y).1) [
    | inl rest ↦ inl (and_from _ _ kind.0 rest.0, sym (join_split x) ∙ (λ i. join_step (kind.1 i) (rest.1 i)) ∙ join_split y)
    | inr rest ↦ inr (and_right _ _ rest.0, λ same. rest.1 (ap (λ z. (split_step z).1) same))
  ]
  | inr kind ↦ inr (and_left _ _ kind.0, λ same. kind.1 (ap (λ z. (split_step z).0) same))
]
