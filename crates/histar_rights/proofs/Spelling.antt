-- The letters of rights are read back, and nothing else is read as rights.
use Rattle.std.specs.Prelude.{◌≡◌, ℕ, ◌==◌, ◌<◌, ◌≤◌, Bool, true, false, List, [], ◌∷◌, ◌++◌, codes, length, Option, Some, None, refl, if◌then◌else◌}
use Rattle.std.proofs.Common.{ap, get_or, ◌∙◌, arith}
use Rattle.std.proofs.lemmas.Bool.{eqb-true}
use Rattle.std.proofs.lemmas.Option.{none-some, same_Some}
use Rattle.histar_rights.specs.declared.rights.Rights.{Rights}
use Rattle.histar_rights.specs.Rights.{right_spelled, rights_by, rights_spelled, rights_text}
use Rattle.histar_rights.specs.Laws.{LettersSpellRights}

-- the letters of rights are read as these rights
text_back : (r : Rights) → rights_spelled (rights_text r) ≡ Some r
unfolding rights_spelled
text_back r = by r.stat r.read r.write r.remove
  where
    by : (s r w d : Bool)
        → rights_spelled (rights_text (record { stat = s; read = r; write = w; remove = d }))
        ≡ Some (record { stat = s; read = r; write = w; remove = d })
    by true true true true = refl
    by true true true false = refl
    by true true false true = refl
    by true true false false = refl
    by true false true true = refl
    by true false true false = refl
    by true false false true = refl
    by true false false false = refl
    by false true true true = refl
    by false true true false = refl
    by false true false true = refl
    by false true false false = refl
    by false false true true = refl
    by false false true false = refl
    by false false false true = refl
    by false false false false = refl

-- a byte that spells a right is its letter, or a hyphen
right_back : (l byte : ℕ) (b : Bool) → right_spelled l byte ≡ Some b → byte ∷ [] ≡ (if b then l ∷ [] else codes "-")
right_back l byte b e = by (byte == l) refl (byte == 45) refl e
  where
    by : (own : Bool) → (byte == l) ≡ own → (hyphen : Bool) → (byte == 45) ≡ hyphen
        → (if own then Some true else (if hyphen then Some false else None)) ≡ Some b → byte ∷ [] ≡ (if b then l ∷ [] else codes "-")
    by true is hyphen is_hyphen h =
        ap (λ (n : ℕ). n ∷ []) (eqb-true byte l is)
        ∙ ap (λ (c : Bool). if c then l ∷ [] else codes "-") (same_Some true b h)
    by false is true is_hyphen h =
        ap (λ (n : ℕ). n ∷ []) (eqb-true byte 45 is_hyphen)
        ∙ ap (λ (c : Bool). if c then l ∷ [] else codes "-") (same_Some false b h)
    by false is false is_hyphen h = absurd (none-some b h)

-- four bytes that spell rights are their letters
four_back : (s r w d : ℕ) (x y z u : Option Bool) (rights : Rights) → right_spelled 115 s ≡ x → right_spelled 114 r ≡ y → right_spelled 119 w ≡ z
    → right_spelled 100 d ≡ u → rights_by x y z u ≡ Some rights → s ∷ r ∷ w ∷ d ∷ [] ≡ rights_text rights
four_back s r w d None y z u rights e f g h is = absurd (none-some rights is)
four_back s r w d (Some a) None z u rights e f g h is = absurd (none-some rights is)
four_back s r w d (Some a) (Some b) None u rights e f g h is = absurd (none-some rights is)
four_back s r w d (Some a) (Some b) (Some c) None rights e f g h is = absurd (none-some rights is)
four_back s r w d (Some a) (Some b) (Some c) (Some v) rights e f g h is =
    (λ i. right_back 115 s a e i ++ right_back 114 r b f i ++ right_back 119 w c g i ++ right_back 100 d v h i)
    ∙ ap rights_text (same_Some (record { stat = a; read = b; write = c; remove = v }) rights is)

-- a text that spells rights is their letters
letters_back : (text : List ℕ) (r : Rights) → rights_spelled text ≡ Some r → text ≡ rights_text r
unfolding rights_spelled
letters_back [] r e = absurd (none-some r e)
letters_back (s ∷ []) r e = absurd (none-some r e)
letters_back (s ∷ t ∷ []) r e = absurd (none-some r e)
letters_back (s ∷ t ∷ w ∷ []) r e = absurd (none-some r e)
letters_back (s ∷ t ∷ w ∷ d ∷ []) r e =
    four_back s t w d (right_spelled 115 s) (right_spelled 114 t) (right_spelled 119 w) (right_spelled 100 d) r refl
    refl refl refl e
letters_back (s ∷ t ∷ w ∷ d ∷ b ∷ bs) r e = absurd (none-some r e)

-- a text spells rights exactly if it is their letters
pub letters_spell_rights : LettersSpellRights
letters_spell_rights text r = (letters_back text r, λ e. ap rights_spelled e ∙ text_back r)

-- ---- the parts

-- a text of four bytes is the list of these bytes
pub spelled_by_four : (text : List ℕ) → 4 ≤ length text → length text < 5
    → rights_spelled text
    ≡ rights_by (right_spelled 115 (get_or text 0 0)) (right_spelled 114 (get_or text 1 0))
    (right_spelled 119 (get_or text 2 0))
    (right_spelled 100 (get_or text 3 0))
unfolding rights_spelled
spelled_by_four [] at_least below = absurd (omega arith)
spelled_by_four (s ∷ []) at_least below = absurd (omega arith)
spelled_by_four (s ∷ t ∷ []) at_least below = absurd (omega arith)
spelled_by_four (s ∷ t ∷ w ∷ []) at_least below = absurd (omega arith)
spelled_by_four (s ∷ t ∷ w ∷ d ∷ []) at_least below = refl
spelled_by_four (s ∷ t ∷ w ∷ d ∷ b ∷ bs) at_least below = absurd (omega arith)

-- no shorter text spells rights
pub not_spelled_below : (text : List ℕ) → length text < 4 → rights_spelled text ≡ None
unfolding rights_spelled
not_spelled_below [] below = refl
not_spelled_below (s ∷ []) below = refl
not_spelled_below (s ∷ t ∷ []) below = refl
not_spelled_below (s ∷ t ∷ w ∷ []) below = refl
not_spelled_below (s ∷ t ∷ w ∷ d ∷ bs) below = absurd (omega arith)

-- no longer text spells rights
pub not_spelled_above : (text : List ℕ) → 5 ≤ length text → rights_spelled text ≡ None
unfolding rights_spelled
not_spelled_above [] above = absurd (omega arith)
not_spelled_above (s ∷ []) above = absurd (omega arith)
not_spelled_above (s ∷ t ∷ []) above = absurd (omega arith)
not_spelled_above (s ∷ t ∷ w ∷ []) above = absurd (omega arith)
not_spelled_above (s ∷ t ∷ w ∷ d ∷ []) above = absurd (omega arith)
not_spelled_above (s ∷ t ∷ w ∷ d ∷ b ∷ bs) above = refl
