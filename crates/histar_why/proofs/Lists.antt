-- Lists that are gone through from the front.
use Rattle.std.specs.Prelude.{◌≡◌, ℕ, suc, ◌+◌, ◌-◌, ◌<◌, ◌≤◌, Bool, true, false, not, List, [], ◌∷◌, ◌++◌, length}
use Rattle.std.specs.Prelude.{get_or, map, take, drop, Option, None, Some}
use Rattle.std.specs.Prelude.{OnOk, Result, Ok, Err, if◌then◌else◌, refl}
use Rattle.std.specs.List.{find}
use Rattle.std.proofs.Common.{arith, ap, sym, ◌∙◌, append_assoc}
use Rattle.histar_reasons.specs.Causes.{last_of}
use Rattle.std.proofs.lemmas.List.{at_drop_all, at_drop_more, map-append, take_all, take_more}

module _ {A : Type 0} where
  -- a list is its first element before the others
  pub parts : (xs : List A) (x : A) → 1 ≤ length xs → x ≡ get_or xs 0 x → x ∷ take (length xs - 1) (drop 1 xs) ≡ xs
  parts [] x some first = absurd (omega (arith, some))
  parts (y ∷ ys) x some first =
      let whole : take (length (y ∷ ys) - 1) ys ≡ ys = take_all (length (y ∷ ys) - 1) ys (omega arith) in
      λ i. first i ∷ whole i

  -- a list with no element is empty
  pub no_element : (xs : List A) → length xs < 1 → xs ≡ []
  no_element [] none = refl
  no_element (x ∷ xs) none = absurd (omega (arith, none))

  module _ (test : A → Bool) (xs : List A) (x : A) (i : ℕ) (within : i < length xs) (is : x ≡ get_or xs i x) (o : Option A)
      (so_far : o ≡ find (λ y. not (test y)) (drop i xs)) where
    front : o ≡ find (λ y. not (test y)) (x ∷ drop (i + 1) xs)
    front = so_far ∙ at_drop_more (find (λ y. not (test y))) xs i x within ∙ ap (λ (y : A). find (λ z. not (test z)) (y ∷ drop (i + 1) xs)) (sym is)

    choose : (b : Bool) → test x ≡ b
        → find (λ y. not (test y)) (x ∷ drop (i + 1) xs) ≡ (if not b then Some x else find (λ y. not (test y)) (drop (i + 1) xs))
    choose b e = ap (λ (c : Bool). if not c then Some x else find (λ y. not (test y)) (drop (i + 1) xs)) e

    -- the first element that fails a test is found, or comes later
    pub fails_here : test x ≡ false → Some x ≡ o
    fails_here e = sym (front ∙ choose false e)

    pub fails_later : test x ≡ true → o ≡ find (λ y. not (test y)) (drop (i + 1) xs)
    fails_later e = front ∙ choose true e

  -- none fails it
  pub none_fails : (test : A → Bool) (xs : List A) (i : ℕ) → length xs ≤ i → (o : Option A) → o ≡ find (λ y. not (test y)) (drop i xs) → None ≡ o
  none_fails test xs i past o e = sym (e ∙ at_drop_all (find (λ y. not (test y))) xs i past)

  -- one more value that is made of the next element
  pub mapped_more : {B : Type 0} (g : A → B) (xs : List A) (made : List B) (i : ℕ) (d : A) (x : B) → i < length xs → made ≡ map g (take i xs)
      → x ≡ g (get_or xs i d) → made ++ x ∷ [] ≡ map g (take (i + 1) xs)
  mapped_more g xs made i d x within so_far is =
      (λ j. so_far j ++ is j ∷ []) ∙ sym (ap (map g) (take_more xs i d within) ∙ map-append g (take i xs) (get_or xs i d ∷ []))

-- ---- texts that are added one after another

-- two texts
pub joined : {X E : Type 0} (r : Result X E) (old mid new x y whole : List ℕ) → mid ≡ old ++ x → OnOk r (new ≡ mid ++ y) → x ++ y ≡ whole
    → OnOk r (new ≡ old ++ whole)
joined (Ok z) old mid new x y whole first second is =
    second ∙ ap (λ (l : List ℕ). l ++ y) first ∙ append_assoc old x y ∙ ap (λ (l : List ℕ). old ++ l) is
joined (Err e) old mid new x y whole first second is = tt

-- one text after another is one
pub both : (old mid new x y : List ℕ) → mid ≡ old ++ x → new ≡ mid ++ y → new ≡ old ++ (x ++ y)
both old mid new x y first second = second ∙ ap (λ (l : List ℕ). l ++ y) first ∙ append_assoc old x y

-- a text before three others
pub spread : (a b c d : List ℕ) → a ++ (b ++ c ++ d) ≡ a ++ b ++ c ++ d
spread a b c d = sym (append_assoc a (b ++ c) d) ∙ ap (λ (l : List ℕ). l ++ d) (sym (append_assoc a b c))

-- the last of a list
pub last_is : (xs : List (List ℕ)) (x : List ℕ) → 1 ≤ length xs → x ≡ get_or xs (length xs - 1) x → Some x ≡ last_of xs
last_is [] x some e = absurd (omega (arith, some))
last_is (y ∷ []) x some e = ap Some e
last_is (y ∷ z ∷ zs) x some e =
    let longer : length (y ∷ z ∷ zs) - 1 ≡ suc (length zs) = omega arith in
    let shorter : length zs ≡ length (z ∷ zs) - 1 = omega arith in
    let here : x ≡ get_or (z ∷ zs) (length zs) x = e ∙ ap (λ (i : ℕ). get_or (y ∷ z ∷ zs) i x) longer in
    last_is (z ∷ zs) x (omega arith) (here ∙ ap (λ (i : ℕ). get_or (z ∷ zs) i x) shorter)
