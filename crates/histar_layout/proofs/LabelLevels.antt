-- Labels by their exceptions: the level at each category, and the default.
use Rattle.std.proofs.Common.{◌≡◌, ℕ, ◌==◌, Bool, true, false, ◌||◌, List, [], ◌∷◌, ◌++◌, if◌then◌else◌, refl, ap, ◌∙◌}
use Rattle.histar_level.specs.declared.level.Level.{Level}
use Rattle.histar_level.specs.declared.level.Level.TheVariants.{Star, L0, L1, L2, L3}
use Rattle.histar_level.specs.Levels.{Levels, level_of, default_of}
use Rattle.histar_label.specs.Levels.{constant, with_level}
use Rattle.histar_label.proofs.Readers.{level_of-constant, level_of-with_level, default_of-with_level}
use Rattle.histar_layout.specs.Labelling.{with_levels, each_at, guarded_by, owner_label, cleared_at}
use Rattle.histar_layout.proofs.LabellingLemmas.{with_levels-append}
use Rattle.histar_layout.proofs.Members.{is_in}

-- the test of the first category and that of the others are one test
either_level : (a b : Bool) (l m : Level) → (if b then l else (if a then l else m)) ≡ (if a || b then l else m)
either_level true true l m = refl
either_level true false l m = refl
either_level false true l m = refl
either_level false false l m = refl

-- a label with one level at some categories has it there, and at all others the old one
pub level_of-each_at : (L : Levels) (cs : List ℕ) (l : Level) (q : ℕ)
    → level_of (with_levels L (each_at l cs)) q ≡ (if is_in cs q then l else level_of L q)
level_of-each_at L [] l q = refl
level_of-each_at L (c ∷ cs) l q =
    level_of-each_at (with_level L c l) cs l q ∙ ap (λ m. if is_in cs q then l else m) (level_of-with_level L c l q)
    ∙ either_level (q == c) (is_in cs q) l (level_of L q)

-- a label with one level at some categories and another one at others has these levels
two_levels : (L : Levels) (cs ds : List ℕ) (l m : Level) (q : ℕ)
    → level_of (with_levels L (each_at l cs ++ each_at m ds)) q
    ≡ (if is_in ds q then m else (if is_in cs q then l else level_of L q))
two_levels L cs ds l m q =
    ap (λ (M : Levels). level_of M q) (with_levels-append L (each_at l cs) (each_at m ds)) ∙ level_of-each_at (with_levels L (each_at l cs)) ds m q
    ∙ ap (λ k. if is_in ds q then m else k) (level_of-each_at L cs l q)

-- the levels of the three kinds of labels at a category
abbrev pub guarded_level : Bool → Bool → Level
guarded_level s w = if w then L0 else (if s then L3 else L1)

abbrev pub owning_level : Bool → Bool → Level
owning_level o t = if t then L3 else (if o then Star else L1)

abbrev pub cleared_level : Bool → Level
cleared_level c = if c then L3 else L2

pub at_guarded : (S W : List ℕ) (q : ℕ) → level_of (guarded_by S W) q ≡ guarded_level (is_in S q) (is_in W q)
at_guarded S W q = two_levels (constant L1) S W L3 L0 q ∙ ap (λ k. if is_in W q then L0 else (if is_in S q then L3 else k)) (level_of-constant L1 q)

pub at_owning : (O T : List ℕ) (q : ℕ) → level_of (owner_label O T) q ≡ owning_level (is_in O q) (is_in T q)
at_owning O T q =
    two_levels (constant L1) O T Star L3 q
    ∙ ap (λ k. if is_in T q then L3 else (if is_in O q then Star else k)) (level_of-constant L1 q)

pub at_cleared : (C : List ℕ) (q : ℕ) → level_of (cleared_at C) q ≡ cleared_level (is_in C q)
at_cleared C q = level_of-each_at (constant L2) C L3 q ∙ ap (λ k. if is_in C q then L3 else k) (level_of-constant L2 q)

-- exceptions leave the default of a label
pub default_kept : (L : Levels) (es : List (ℕ × Level)) → default_of (with_levels L es) ≡ default_of L
default_kept L [] = refl
default_kept L (e ∷ es) = default_kept (with_level L e.0 e.1) es ∙ default_of-with_level L e.0 e.1
