-- A process is found number by number, from the last one of the list on.
use Rattle.std.proofs.Common.{◌≡◌, ◌≤◌, ◌-◌, ℕ, zero, suc, [], ◌∷◌, Option, Some, None, get_or, length, take, refl, ap, ◌∙◌, arith}
use Rattle.histar_flat.specs.Words.{ProcName}
use Rattle.histar_object.specs.State.{State}
use Rattle.histar_layout.specs.Reading.{◌>>=◌}
use Rattle.histar_programs.specs.Caller.{child_home, home_at}
use Rattle.histar_programs.specs.declared.roots.Home.{Home}

module _ (s : State) where
  -- the home below one that may be found
  abbrev below : Option Home → ℕ → Option Home
  below home n = home >>= λ h. child_home s h n

  -- steps may be taken in two parts
  in_parts : (o : Option Home) (rest : ProcName) (n : ℕ) → below (o >>= λ h. home_at s h rest) n ≡ (o >>= λ h. below (home_at s h rest) n)
  in_parts None rest n = refl
  in_parts (Some h) rest n = refl

  -- a list that isn't empty is followed from its last number on
  pub from_last : (home : Home) (rest : ProcName) (k : ℕ) → length rest ≡ suc k
      → home_at s home rest ≡ (child_home s home (get_or rest k 0) >>= λ h. home_at s h (take k rest))
  from_last home [] k is = absurd (omega (arith, is))
  from_last home (n ∷ []) zero is = by (child_home s home n)
    where
      by : (o : Option Home) → o ≡ (o >>= λ h. Some h)
      by None = refl
      by (Some h) = refl
  from_last home (n ∷ []) (suc k) is = absurd (omega (arith, is))
  from_last home (n ∷ m ∷ more) zero is = absurd (omega (arith, is))
  from_last home (n ∷ m ∷ more) (suc k) is =
      ap (λ o. below o n) (from_last home (m ∷ more) k (omega (arith, is)))
      ∙ in_parts (child_home s home (get_or (m ∷ more) k 0)) (take k (m ∷ more)) n

  -- the rest of the numbers leads on from the home of the child that the last of them names
  pub onwards : (home : Home) (rest : ProcName) {found : Option Home} → 1 ≤ length rest
      → child_home s home (get_or rest (length rest - 1) 0) ≡ found
      → home_at s home rest ≡ (found >>= λ h. home_at s h (take (length rest - 1) rest))
  onwards home rest some is =
      let last : length rest ≡ suc (length rest - 1) = omega (arith, some) in
      from_last home rest (length rest - 1) last ∙ ap (λ o. o >>= λ h. home_at s h (take (length rest - 1) rest)) is
