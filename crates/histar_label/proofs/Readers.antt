-- What the readers of a label say of labels that are made in each way.
use Rattle.std.specs.Prelude.{◌≡◌, ℕ, Bool, true, false, cond, if◌then◌else◌, ◌==◌, List, [], ◌∷◌, Option, Some, unwrap_or, refl}
use Rattle.std.proofs.Common.{sym, ap, ◌∙◌}
use Rattle.std.specs.Ordering.{nat_cmp, eq_by_cmp}
use Rattle.std.specs.FinMap.{get, find, get-empty}
use Rattle.histar_level.specs.declared.level.Level.{Level}
use Rattle.histar_level.specs.Level.{rank}
use Rattle.histar_level.specs.Levels.{Levels, level_of, default_of}
use Rattle.histar_level.proofs.Changes.{eq_by_nat_cmp, picked_level, tied_ranks, get-relisted}
use Rattle.histar_label.specs.Levels.{constant, with_level, from_exceptions}

-- a constant has its level at every category
pub level_of-constant : (l : Level) (c : ℕ) → level_of (constant l) c ≡ l
unfolding level_of constant
level_of-constant l c = ap (λ o. unwrap_or o l) (get-empty nat_cmp c)

-- the levels after c gets l
pub level_of-with_level : (L : Levels) (c : ℕ) (l : Level) (q : ℕ) → level_of (with_level L c l) q ≡ (if q == c then l else level_of L q)
unfolding level_of with_level
level_of-with_level L c l q =
    ap (λ o. unwrap_or o L.default) (get-relisted L.default L.others c l q)
    ∙ picked_level (q == c) (rank l == rank L.default) (get L.others q) l L.default (tied_ranks l L.default)

-- one step of a search for a level in a list
found_level : (a b : Bool) → a ≡ b → (l d m : Level) (o : Option Level) → m ≡ unwrap_or o d
    → (if a then l else m) ≡ unwrap_or (cond b (Some l) o) d
found_level true true e l d m o h = refl
found_level false false e l d m o h = h
found_level true false e l d m o h = cc
found_level false true e l d m o h = cc

-- the level of a category is the one that a search of the list finds, and otherwise d
pub level_of-from_exceptions : (d : Level) (es : List (ℕ × Level)) (q : ℕ) → level_of (from_exceptions d es) q ≡ unwrap_or (find nat_cmp q es) d
level_of-from_exceptions d [] q = level_of-constant d q
level_of-from_exceptions d (e ∷ es) q =
    level_of-with_level (from_exceptions d es) e.0 e.1 q
    ∙ found_level (q == e.0) (eq_by_cmp nat_cmp q e.0) (sym (eq_by_nat_cmp q e.0)) e.1 d _ _ (level_of-from_exceptions d es q)

-- the default of a constant is its level
pub default_of-constant : (l : Level) → default_of (constant l) ≡ l
unfolding default_of constant
default_of-constant l = refl

-- a new level at one category leaves the default
pub default_of-with_level : (L : Levels) (c : ℕ) (l : Level) → default_of (with_level L c l) ≡ default_of L
unfolding default_of with_level
default_of-with_level L c l = refl

-- the default of a list's label
pub default_of-from_exceptions : (d : Level) (es : List (ℕ × Level)) → default_of (from_exceptions d es) ≡ d
default_of-from_exceptions d [] = default_of-constant d
default_of-from_exceptions d (e ∷ es) = default_of-with_level (from_exceptions d es) e.0 e.1 ∙ default_of-from_exceptions d es
