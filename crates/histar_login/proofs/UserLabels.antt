-- The label and the clearance of a user's thread, in whatever order their categories are set.
use Rattle.std.proofs.Common.{◌≡◌, ℕ, Bool, true, false, List, [], ◌∷◌, ◌++◌, if◌then◌else◌, ◌==◌, refl, sym, ap, ◌∙◌}
use Rattle.std.specs.Prelude.{map}
use Rattle.histar_level.specs.declared.level.Level.{Level}
use Rattle.histar_level.specs.declared.level.Level.TheVariants.{Star, L1, L2, L3}
use Rattle.histar_level.specs.Levels.{Levels, level_of}
use Rattle.histar_level.proofs.Functions.{same_levels}
use Rattle.histar_label.specs.Levels.{constant, with_level}
use Rattle.histar_label.proofs.Readers.{level_of-with_level}
use Rattle.histar_layout.specs.Categories.{read_category, write_category}
use Rattle.histar_layout.specs.Labelling.{with_levels, labelled, each_at}
use Rattle.histar_programs.specs.declared.caller.Caller.{Caller}
use Rattle.histar_programs.specs.Users.{owned_as_user, user_label, user_clearance}
use Rattle.histar_programs.specs.Start.{at_both}

-- of two tests for one answer, either may come first
either_first : {A : Type 0} (a b : Bool) (x y : A) → (if a then x else if b then x else y) ≡ (if b then x else if a then x else y)
either_first true true x y = refl
either_first true false x y = refl
either_first false true x y = refl
either_first false false x y = refl

module _ (l : Level) where
  -- of two categories with one level, either may be set first
  swap : (L : Levels) (a b : ℕ) → with_level (with_level L a l) b l ≡ with_level (with_level L b l) a l
  swap L a b =
      same_levels _ _ (λ q.
      level_of-with_level (with_level L a l) b l q
      ∙ ap (λ m. if q == b then l else m) (level_of-with_level L a l q)
      ∙ either_first (q == b) (q == a) l (level_of L q)
      ∙ ap (λ m. if q == a then l else m) (sym (level_of-with_level L b l q))
      ∙ sym (level_of-with_level (with_level L b l) a l q))

  -- a category that is set first may be set last
  last : (L : Levels) (c : ℕ) (cs : List ℕ) → with_levels (with_level L c l) (each_at l cs) ≡ with_level (with_levels L (each_at l cs)) c l
  last L c [] = refl
  last L c (d ∷ cs) = ap (λ (M : Levels). with_levels M (each_at l cs)) (swap L c d) ∙ last (with_level L d l) c cs

  -- and one that is set between others may be set first
  first : (L : Levels) (xs : List ℕ) (c : ℕ) (ys : List ℕ)
      → with_levels L (each_at l (xs ++ c ∷ ys)) ≡ with_levels (with_level L c l) (each_at l (xs ++ ys))
  first L [] c ys = refl
  first L (x ∷ xs) c ys =
      first (with_level L x l) xs c ys
      ∙ ap (λ (M : Levels). with_levels M (each_at l (xs ++ ys))) (swap L x c)

  -- so the categories of users and groups may be set pair by pair
  paired : (L : Levels) (owners : List ℕ)
      → with_levels L (each_at l (map read_category owners ++ map write_category owners)) ≡ with_levels L (at_both l owners)
  paired L [] = refl
  paired L (i ∷ owners) =
      first (with_level L (read_category i) l) (map read_category owners) (write_category i) (map write_category owners)
      ∙ paired (with_level (with_level L (read_category i) l) (write_category i) l) owners

  -- and those of a process after them
  own_last : (d : Level) (r w : ℕ) (owners : List ℕ)
      → labelled (each_at l (r ∷ w ∷ (map read_category owners ++ map write_category owners))) d
      ≡ with_level (with_level (labelled (at_both l owners) d) r l) w l
  own_last d r w owners =
      let cs = map read_category owners ++ map write_category owners in
      last (with_level (constant d) r l) w cs
      ∙ ap (λ (M : Levels). with_level M w l) (last (constant d) r cs)
      ∙ ap (λ (M : Levels). with_level (with_level M r l) w l) (paired (constant d) owners)

-- no more exceptions change nothing
nothing_more : {A : Type 0} (xs : List A) → xs ++ [] ≡ xs
nothing_more [] = refl
nothing_more (x ∷ xs) = ap (λ ys. x ∷ ys) (nothing_more xs)

-- a user's label may be made of the gate's, by setting the process's own categories
pub user_label-own_last : (caller : Caller) (owners : List ℕ)
    → user_label caller owners ≡ with_level (with_level (labelled (at_both Star owners) L1) caller.read Star) caller.write Star
user_label-own_last caller owners =
    let es : List (ℕ × Level) = each_at Star (owned_as_user caller owners) in
    ap (λ (fs : List (ℕ × Level)). labelled fs L1) (nothing_more es) ∙ own_last Star L1 caller.read caller.write owners

-- so may a user's clearance
pub user_clearance-own_last : (caller : Caller) (owners : List ℕ)
    → user_clearance caller owners ≡ with_level (with_level (labelled (at_both L3 owners) L2) caller.read L3) caller.write L3
user_clearance-own_last caller owners = own_last L3 L2 caller.read caller.write owners
