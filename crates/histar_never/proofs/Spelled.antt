-- Letters are read from a text exactly if it is their text.
use Rattle.std.specs.Prelude.{◌≡◌, ℕ, ◌==◌, ◌&&◌, Bool, true, false, List, [], ◌∷◌, ◌++◌, length, None, Some}
use Rattle.std.specs.Prelude.{if◌then◌else◌, refl}
use Rattle.std.proofs.Common.{ap, append_assoc, sym, ◌∙◌}
use Rattle.std.proofs.lemmas.Bool.{eqb-true}
use Rattle.std.proofs.lemmas.List.{append-nil, nil_from_length}
use Rattle.std.proofs.lemmas.Option.{none-some, same_Some}
use Rattle.histar_lint.specs.Lines.{begins_with}
use Rattle.histar_rights.specs.declared.rights.Rights.{Rights}
use Rattle.histar_script.specs.Reading.{is_empty}
use Rattle.histar_never.specs.Laws.{LettersAreSpelled}
use Rattle.histar_never.specs.Letters.{after_d, after_letter, after_r, after_s, after_w, first_letters, has_letter}
use Rattle.histar_never.specs.Letters.{letter_if, letters_of, letters_text}

-- a text is a letter, if it begins with it, and what remains after it
split : (letter : ℕ) (text : List ℕ) → text ≡ letter_if (begins_with letter text) (letter ∷ []) ++ after_letter letter text
split letter [] = refl
split letter (b ∷ text) = by (b == letter) refl
  where
    by : (t : Bool) → (b == letter) ≡ t → b ∷ text ≡ letter_if t (letter ∷ []) ++ (if t then text else b ∷ text)
    by true e = ap (λ c. c ∷ text) (eqb-true b letter e)
    by false e = refl

-- nothing remains
none_left : (text : List ℕ) → is_empty text ≡ true → text ≡ []
none_left text e = nil_from_length text (eqb-true (length text) 0 e)

-- a text of which nothing remains is its first letters
whole : (text : List ℕ) → is_empty (after_d text) ≡ true → text ≡ letters_text (first_letters text)
whole text e =
    let at = λ (letter : ℕ) (rest : List ℕ). letter_if (begins_with letter rest) (letter ∷ []) in
    let s = at 115 text in
    let r = at 114 (after_s text) in
    let w = at 119 (after_r text) in
    let d = at 100 (after_w text) in
    split 115 text ∙ ap (λ rest. s ++ rest) (split 114 (after_s text)) ∙ sym (append_assoc s r (after_r text))
    ∙ ap (λ rest. (s ++ r) ++ rest) (split 119 (after_r text)) ∙ sym (append_assoc (s ++ r) w (after_w text))
    ∙ ap (λ rest. ((s ++ r) ++ w) ++ rest)
    (split 100 (after_w text) ∙ ap (λ rest. d ++ rest) (none_left (after_d text) e) ∙ append-nil d)

-- letters that are read are those that the text spells
spelled : (text : List ℕ) (letters : Rights) → letters_of text ≡ Some letters
    → (text ≡ letters_text letters) × (has_letter letters ≡ true)
unfolding letters_of
spelled text letters e = by (is_empty (after_d text)) refl (has_letter (first_letters text)) refl e
  where
    by : (a : Bool) → is_empty (after_d text) ≡ a → (b : Bool) → has_letter (first_letters text) ≡ b
        → (if a && b then Some (first_letters text) else None) ≡ Some letters
        → (text ≡ letters_text letters) × (has_letter letters ≡ true)
    by true left true some is =
        let same = same_Some (first_letters text) letters is in (whole text left ∙ ap letters_text same, ap has_letter (sym same) ∙ some)
    by true left false some is = absurd (none-some letters is)
    by false left b some is = absurd (none-some letters is)

-- rights of these letters
abbrev rights : Bool → Bool → Bool → Bool → Rights
rights s r w d = record { stat = s; read = r; write = w; remove = d }

-- some letters are read from their text
back : (s r w d : Bool) → has_letter (rights s r w d) ≡ true → letters_of (letters_text (rights s r w d)) ≡ Some (rights s r w d)
unfolding letters_of
back true true true true e = refl
back true true true false e = refl
back true true false true e = refl
back true true false false e = refl
back true false true true e = refl
back true false true false e = refl
back true false false true e = refl
back true false false false e = refl
back false true true true e = refl
back false true true false e = refl
back false true false true e = refl
back false true false false e = refl
back false false true true e = refl
back false false true false e = refl
back false false false true e = refl
back false false false false e = absurd cc

pub letters_are_spelled : LettersAreSpelled
letters_are_spelled text letters =
    (spelled text letters, λ h. ap letters_of h.0 ∙ back letters.stat letters.read letters.write letters.remove h.1)
