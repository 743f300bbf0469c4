-- Letters of one or of the other, and of any of a list.
use Rattle.std.specs.Prelude.{◌≡◌, ◌||◌, Bool, true, false, List, [], ◌∷◌, ◌++◌, map, refl}
use Rattle.std.proofs.Common.{ap, sym, ◌∙◌}
use Rattle.std.specs.List.{list_any}
use Rattle.histar_rights.specs.declared.rights.Rights.{Rights}
use Rattle.histar_diff.specs.Tables.{no_rights}
use Rattle.histar_ever.specs.Ever.{any_rights, either}

or_assoc : (a b c : Bool) → ((a || b) || c) ≡ (a || (b || c))
or_assoc true b c = refl
or_assoc false b c = refl

or_false : (a : Bool) → (a || false) ≡ a
or_false true = refl
or_false false = refl

or_same : (a : Bool) → (a || a) ≡ a
or_same true = refl
or_same false = refl

pub either_assoc : (a b c : Rights) → either (either a b) c ≡ either a (either b c)
either_assoc a b c = λ i. record {
  stat = or_assoc a.stat b.stat c.stat i;
  read = or_assoc a.read b.read c.read i;
  write = or_assoc a.write b.write c.write i;
  remove = or_assoc a.remove b.remove c.remove i;
}

pub either_none : (a : Rights) → either a no_rights ≡ a
either_none a = λ i. record { stat = or_false a.stat i; read = or_false a.read i; write = or_false a.write i; remove = or_false a.remove i }

pub either_same : (a : Rights) → either a a ≡ a
either_same a = λ i. record { stat = or_same a.stat i; read = or_same a.read i; write = or_same a.write i; remove = or_same a.remove i }

module _ {A : Type 0} (g : A → Rights) where
  -- the letters of two lists
  pub any_both : (xs ys : List A) → any_rights g (xs ++ ys) ≡ either (any_rights g xs) (any_rights g ys)
  any_both [] ys = refl
  any_both (x ∷ xs) ys = ap (either (g x)) (any_both xs ys) ∙ sym (either_assoc (g x) (any_rights g xs) (any_rights g ys))

  -- the letters of a list with one more
  pub any_more : (xs : List A) (x : A) → any_rights g (xs ++ x ∷ []) ≡ either (any_rights g xs) (g x)
  any_more xs x = any_both xs (x ∷ []) ∙ ap (either (any_rights g xs)) (either_none (g x))

  -- the same of a list that is made of another
  pub any_of : {B : Type 0} (h : B → A) (xs : List B) → any_rights g (map h xs) ≡ any_rights (λ x. g (h x)) xs
  any_of h [] = refl
  any_of h (x ∷ xs) = ap (either (g (h x))) (any_of h xs)

  -- functions that give the same letters
  pub any_same : (h : A → Rights) → ((x : A) → g x ≡ h x) → (xs : List A) → any_rights g xs ≡ any_rights h xs
  any_same h is xs = ap (λ (k : A → Rights). any_rights k xs) (λ i x. is x i)

  -- a projection that goes by the one and the other is there if one of the list has it
  pub any_letter : (letter : Rights → Bool) → letter no_rights ≡ false → ((a b : Rights) → letter (either a b) ≡ (letter a || letter b))
      → (xs : List A) → letter (any_rights g xs) ≡ list_any (λ x. letter (g x)) xs
  any_letter letter none by [] = none
  any_letter letter none by (x ∷ xs) = by (g x) (any_rights g xs) ∙ ap (λ b. letter (g x) || b) (any_letter letter none by xs)

-- tests of two lists
pub any_in_both : {A : Type 0} (t : A → Bool) (xs ys : List A) → list_any t (xs ++ ys) ≡ (list_any t xs || list_any t ys)
any_in_both t [] ys = refl
any_in_both t (x ∷ xs) ys = ap (λ b. t x || b) (any_in_both t xs ys) ∙ sym (or_assoc (t x) (list_any t xs) (list_any t ys))

-- tests of a list with one more
pub any_in_more : {A : Type 0} (t : A → Bool) (xs : List A) (x : A) → list_any t (xs ++ x ∷ []) ≡ (list_any t xs || t x)
any_in_more t xs x = any_in_both t xs (x ∷ []) ∙ ap (λ b. list_any t xs || b) (or_false (t x))
