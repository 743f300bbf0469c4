-- Where a path leads once an entry above it has another name.
use Rattle.std.proofs.Common.{◌≡◌, ℕ, ◌-◌, ◌<◌, suc, true, false, [], ◌∷◌, length, slice_set, cond, refl, sym, ap, ◌∙◌, arith, inl, inr}
use Rattle.std.specs.Prelude.{◌||◌}
use Rattle.std.proofs.lemmas.Bool.{true≢false}
use Rattle.histar_flat.specs.Words.{Name, Path}
use Rattle.histar_base.specs.Paths.{same}
use Rattle.histar_flat.specs.PathOrder.{under_path, parent}
use Rattle.histar_flat.specs.FlatState.{moved}
use Rattle.histar_flat.proofs.FileLemmas.{same_path_found}
use Rattle.histar_flat.proofs.Under.{under_is_longer}

-- a path that doesn't lie below what was renamed leads where it led
pub moved_aside : (old new r : Path) → under_path old r ≡ false → moved old new r ≡ r
moved_aside old new [] out = refl
moved_aside old new (n ∷ d) out = elim (same_path_found old (n ∷ d)) [
  | inl e ↦ absurd (true≢false (sym (ap (λ t. t || under_path old d) e.0) ∙ out))
  | inr e ↦
      let above : under_path old d ≡ false = sym (ap (λ t. t || under_path old d) e.0) ∙ out in
      ap (λ t. cond t new (n ∷ moved old new d)) e.0 ∙ ap (λ (l : Path). n ∷ l) (moved_aside old new d above)
]

-- no path leads elsewhere once `/` is renamed
pub moved_root : (new r : Path) → moved [] new r ≡ r
moved_root new [] = refl
moved_root new (n ∷ d) = ap (λ (l : Path). n ∷ l) (moved_root new d)

-- a path below what was renamed has the new name in its place
pub moved_below : (old : Path) (name : Name) (r : Path) → 0 < length old → under_path old r ≡ true
    → moved old (name ∷ parent old) r ≡ slice_set r (length r - length old) name
moved_below [] name r some h = absurd (omega (arith, some))
moved_below (x ∷ q) name [] some h = absurd (true≢false (sym h))
moved_below (x ∷ q) name (n ∷ d) some h = elim (same_path_found (x ∷ q) (n ∷ d)) [
  | inl e ↦
      let first : length (n ∷ d) - length (x ∷ q) ≡ 0 = omega (arith, ap length e.1) in
      ap (λ t. cond t (name ∷ q) (n ∷ moved (x ∷ q) (name ∷ q) d)) e.0 ∙ ap (λ (l : Path). name ∷ parent l) e.1
      ∙ ap (λ (i : ℕ). slice_set (n ∷ d) i name) (sym first)
  | inr e ↦
      let above : under_path (x ∷ q) d ≡ true = sym (ap (λ t. t || under_path (x ∷ q) d) e.0) ∙ h in
      let longer = under_is_longer same same_path_found (x ∷ q) d above in
      let further : length (n ∷ d) - length (x ∷ q) ≡ suc (length d - length (x ∷ q)) = omega (arith, longer) in
      ap (λ t. cond t (name ∷ q) (n ∷ moved (x ∷ q) (name ∷ q) d)) e.0
      ∙ ap (λ (l : Path). n ∷ l) (moved_below (x ∷ q) name d some above)
      ∙ ap (λ (i : ℕ). slice_set (n ∷ d) i name) (sym further)
]
