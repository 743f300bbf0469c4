-- Labels with one more exception.
use Rattle.std.proofs.Common.{◌≡◌, ℕ, ◌+◌, ◌<◌, List, [], ◌∷◌, ◌++◌, length, get_or, take, refl, sym, ap, ◌∙◌, add-one}
use Rattle.std.proofs.Common.{Bool, true, false, if◌then◌else◌}
use Rattle.std.specs.Prelude.{◌==◌}
use Rattle.std.proofs.Math.Seq.{take-suc}
use Rattle.histar_level.specs.declared.level.Level.{Level}
use Rattle.histar_level.specs.Levels.{Levels, level_of}
use Rattle.histar_level.proofs.Functions.{same_levels}
use Rattle.histar_label.specs.Levels.{constant, with_level}
use Rattle.histar_label.proofs.Readers.{level_of-with_level}
use Rattle.histar_layout.specs.Labelling.{with_levels, labelled, each_at}

-- the front of a list, with the next item, is the next front
pub take_next : {A : Type 0} (xs : List A) (i : ℕ) (x : A) → i < length xs → x ≡ get_or xs i x → take (i + 1) xs ≡ take i xs ++ x ∷ []
take_next xs i x lt is = ap (λ k. take k xs) (add-one i) ∙ take-suc xs i x lt ∙ ap (λ y. take i xs ++ y ∷ []) (sym is)

-- one more level comes last
with_levels-more : (L : Levels) (es : List (ℕ × Level)) (e : ℕ × Level) → with_levels L (es ++ e ∷ []) ≡ with_level (with_levels L es) e.0 e.1
with_levels-more L [] e = refl
with_levels-more L (x ∷ es) e = with_levels-more (with_level L x.0 x.1) es e

-- a label with one more exception
pub labelled_next : (es : List (ℕ × Level)) (d : Level) (i : ℕ) (e : ℕ × Level) → i < length es → e ≡ get_or es i e
    → labelled (take (i + 1) es) d ≡ with_level (labelled (take i es) d) e.0 e.1
labelled_next es d i e lt is = ap (λ (l : List (ℕ × Level)). labelled l d) (take_next es i e lt is) ∙ with_levels-more _ (take i es) e

-- levels at two lists of categories are set in turn
pub with_levels-append : (L : Levels) (es fs : List (ℕ × Level)) → with_levels L (es ++ fs) ≡ with_levels (with_levels L es) fs
with_levels-append L [] fs = refl
with_levels-append L (e ∷ es) fs = with_levels-append (with_level L e.0 e.1) es fs

-- one more category comes last
each_at-more : (level : Level) (cs : List ℕ) (c : ℕ) → each_at level (cs ++ c ∷ []) ≡ each_at level cs ++ (c, level) ∷ []
each_at-more level [] c = refl
each_at-more level (x ∷ cs) c = ap (λ (es : List (ℕ × Level)). (x, level) ∷ es) (each_at-more level cs c)

-- a label with one more category at the level
pub each_next : (L : Levels) (level : Level) (cs : List ℕ) (i : ℕ) (c : ℕ) → i < length cs → c ≡ get_or cs i c
    → with_levels L (each_at level (take (i + 1) cs)) ≡ with_level (with_levels L (each_at level (take i cs))) c level
each_next L level cs i c lt is =
    ap (λ (l : List ℕ). with_levels L (each_at level l)) (take_next cs i c lt is)
    ∙ ap (with_levels L) (each_at-more level (take i cs) c)
    ∙ with_levels-more L (each_at level (take i cs)) (c, level)

-- a label is made by two lists of categories in turn
pub made_by_both : (L M N : Levels) (d : Level) (es fs : List (ℕ × Level)) → L ≡ constant d → M ≡ with_levels L es
    → N ≡ with_levels M fs → N ≡ labelled (es ++ fs) d
made_by_both L M N d es fs first second third =
    third ∙ ap (λ (l : Levels). with_levels l fs) (second ∙ ap (λ (l : Levels). with_levels l es) first) ∙ sym (with_levels-append (constant d) es fs)

-- ---- levels at categories in another order

-- the level that is read after two categories are set to one level doesn't depend on their order
either : {A : Type 0} (b c : Bool) (l m : A) → (if b then l else if c then l else m) ≡ (if c then l else if b then l else m)
either true true l m = refl
either true false l m = refl
either false true l m = refl
either false false l m = refl

-- two categories are set to one level in either order
swapped : (L : Levels) (c d : ℕ) (l : Level) → with_level (with_level L c l) d l ≡ with_level (with_level L d l) c l
swapped L c d l = same_levels _ _ (λ q.
    level_of-with_level (with_level L c l) d l q
    ∙ ap (λ m. if q == d then l else m) (level_of-with_level L c l q)
    ∙ either (q == d) (q == c) l (level_of L q)
    ∙ ap (λ m. if q == c then l else m) (sym (level_of-with_level L d l q))
    ∙ sym (level_of-with_level (with_level L d l) c l q))

-- a category may be set to a level before others or after them
pub set_later : (L : Levels) (c : ℕ) (l : Level) (cs : List ℕ)
    → with_levels (with_level L c l) (each_at l cs) ≡ with_level (with_levels L (each_at l cs)) c l
set_later L c l [] = refl
set_later L c l (d ∷ cs) =
    ap (λ (M : Levels). with_levels M (each_at l cs)) (swapped L c d l) ∙ set_later (with_level L d l) c l cs

-- the categories of two lists at one level
pub each_at-append : (l : Level) (cs ds : List ℕ) → each_at l (cs ++ ds) ≡ each_at l cs ++ each_at l ds
each_at-append l [] ds = refl
each_at-append l (c ∷ cs) ds = ap (λ (es : List (ℕ × Level)). (c, l) ∷ es) (each_at-append l cs ds)

-- ---- labels that are made by three settings

module _ (L M N : Levels) (d : Level) (l m : Level) (cs ds : List ℕ) (first : L ≡ constant d) (second : M ≡ with_levels L (each_at l cs))
  where
    -- a label with one level at two lists of categories, and another level at one category more
    pub guarding : (c : ℕ) → N ≡ with_levels M (each_at l ds) → with_level N c m ≡ labelled (each_at l (cs ++ ds) ++ each_at m (c ∷ [])) d
    guarding c third =
        ap (λ (K : Levels). with_level K c m) (third ∙ ap (λ (K : Levels). with_levels K (each_at l ds))
        (second ∙ ap (λ (K : Levels). with_levels K (each_at l cs)) first)
        ∙ sym (with_levels-append (constant d) (each_at l cs) (each_at l ds)) ∙ ap (with_levels (constant d)) (sym (each_at-append l cs ds)))
        ∙ sym (with_levels-append (constant d) (each_at l (cs ++ ds)) (each_at m (c ∷ [])))

    -- a label with one level at two categories that are set after others, and another level at a second list
    pub owning : (a b : ℕ) → N ≡ with_levels (with_level (with_level M a l) b l) (each_at m ds)
        → N ≡ labelled (each_at l (a ∷ b ∷ cs) ++ each_at m ds) d
    owning a b third =
        third ∙ ap (λ (K : Levels). with_levels K (each_at m ds))
        (ap (λ (K : Levels). with_level (with_level K a l) b l) (second ∙ ap (λ (K : Levels). with_levels K (each_at l cs)) first)
        ∙ ap (λ (K : Levels). with_level K b l) (sym (set_later (constant d) a l cs)) ∙ sym (set_later (with_level (constant d) a l) b l cs))
        ∙ sym (with_levels-append (constant d) (each_at l (a ∷ b ∷ cs)) (each_at m ds))
