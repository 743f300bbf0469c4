-- How targets are stored as plain data, so that models may hold them.
use Rattle.std.specs.Prelude.{◌≡◌, ℕ, ◌⊎◌, refl}
use Rattle.std.specs.Coded.{Coded, code_by, coded×, coded⊎, coded_ℕ}
use Rattle.std.proofs.Common.{inl, inr}
use Rattle.histar_layout.specs.declared.entry.Target.{Target}
use Rattle.histar_layout.specs.declared.entry.Target.TheVariants.{File, Directory}

-- a target as one number or two
abbrev pub split_target : Target → ℕ ⊎ (ℕ × ℕ)
split_target (File file) = inl file
split_target (Directory container listing) = inr (container, listing)

-- the target that was split
abbrev pub join_target : ℕ ⊎ (ℕ × ℕ) → Target
join_target (inl file) = File file
join_target (inr numbers) = Directory numbers.0 numbers.1

-- a target is stored as its numbers; one that is split comes back
abbrev pub coded_target : Coded Target
coded_target =
    code_by (ℕ ⊎ (ℕ × ℕ)) (coded⊎ coded_ℕ (coded× coded_ℕ coded_ℕ)) split_target join_target
    (λ t. elim t as (λ u. join_target (split_target u) ≡ u) [ File file ↦ refl | Directory container listing ↦ refl ])
