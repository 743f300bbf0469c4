-- Labels that have the same level at each category are equal, and so are labels of the same parts.
use Rattle.std.specs.Prelude.{◌≡◌, ◌≢◌, ℕ, Option, Some, None, unwrap_or, refl, max}
use Rattle.std.proofs.Common.{sym, ap, subst, ◌∙◌, arith}
use Rattle.std.specs.Ordering.{nat_cmp}
use Rattle.std.specs.Cmp.{nat_cmp_total}
use Rattle.std.specs.FinMap.{FinMap, get, same_map, nat_cmp-IsAntisymmetric}
use mathlib.Core.HLevel.{Σ_prop_path}
use Rattle.histar_level.specs.declared.level.Level.{Level}
use Rattle.histar_level.specs.Levels.{Levels, level_of, beyond, parts}
use Rattle.histar_level.proofs.Exceptions.{no_level_above}

-- labels with the same default and the same other levels are equal
same_parts : (L M : Levels) → L.default ≡ M.default → L.others ≡ M.others → L ≡ M
same_parts L M d m =
    let Parts : Type 0 = Level × FinMap nat_cmp Level in
    let both : ◌≡◌ {A = (p : Parts) × ((c : ℕ) → get p.1 c ≢ Some p.0)} ((L.default, L.others), L.differ) ((M.default, M.others), M.differ) =
    Σ_prop_path (λ p. hlevel) (λ i. (d i, m i)) in
    λ i. record { default = (both i).0.0; others = (both i).0.1; differ = (both i).1 }

-- a found value is determined by the level that it gives, where it is never the default
one_option : (o p : Option Level) (d : Level) → o ≢ Some d → p ≢ Some d → unwrap_or o d ≡ unwrap_or p d → o ≡ p
one_option None None d h k e = refl
one_option None (Some m) d h k e = absurd (k (ap Some (sym e)))
one_option (Some l) None d h k e = absurd (h (ap Some e))
one_option (Some l) (Some m) d h k e = ap Some e

-- labels with the same level at each category are equal
pub same_levels : (L M : Levels) → ((c : ℕ) → level_of L c ≡ level_of M c) → L ≡ M
unfolding level_of beyond
same_levels L M same =
    let far = max (beyond L) (beyond M) in
    let defaults : L.default ≡ M.default =
    sym (ap (λ o. unwrap_or o L.default) (no_level_above L far (omega arith)))
    ∙ same far ∙ ap (λ o. unwrap_or o M.default) (no_level_above M far (omega arith)) in
    same_parts L M defaults (same_map nat_cmp_total nat_cmp-IsAntisymmetric L.others M.others (λ q.
    one_option (get L.others q) (get M.others q) L.default (L.differ q) (subst (λ d. get M.others q ≢ Some d) (sym defaults) (M.differ q))
    (same q ∙ ap (unwrap_or (get M.others q)) (sym defaults))))

-- labels of the same parts are equal
pub same_from_parts : (L M : Levels) → parts L ≡ parts M → L ≡ M
same_from_parts L M e = same_parts L M (ap (λ p. p.0) e) (ap (λ p. p.1) e)
