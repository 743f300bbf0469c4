-- Reading a label from texts, the last one first.
use Rattle.std.proofs.Common.{◌≡◌, ℕ, ◌≤◌, List, [], ◌∷◌, ◌++◌, ◌-◌, length, take, drop, map, Bor, arith, Option, Some, None, refl, sym, ap, ◌∙◌}
use Rattle.std.specs.Prelude.{◌==◌}
use Rattle.std.specs.List.{slice_split}
use Rattle.std.proofs.lemmas.List.{take_rest}
use Rattle.histar_level.specs.declared.level.Level.{Level}
use Rattle.histar_level.specs.Levels.{Levels}
use Rattle.histar_label.specs.Levels.{constant, with_level}
use Rattle.histar_rawtext.specs.Reading.{level_in, exception_in, with_exception, label_of_texts, label_in, ◌>>=◌}

-- a label, after the exceptions of texts are added
abbrev pub with_exceptions : List (List ℕ) → Option Levels → Option Levels
with_exceptions [] label = label
with_exceptions (text ∷ texts) label = with_exception text (with_exceptions texts label)

-- the last of the texts is the default
pub last_is_default : (texts : List (List ℕ)) (text : List ℕ)
    → label_of_texts (texts ++ text ∷ []) ≡ with_exceptions texts (level_in text >>= λ default. Some (constant default))
unfolding label_of_texts
last_is_default [] text = refl
last_is_default (t ∷ []) text = refl
last_is_default (t ∷ u ∷ texts) text = ap (with_exception t) (last_is_default (u ∷ texts) text)

-- the last of the texts is added first
pub last_is_first : (texts : List (List ℕ)) (text : List ℕ) (label : Option Levels)
    → with_exceptions (texts ++ text ∷ []) label ≡ with_exceptions texts (with_exception text label)
last_is_first [] text label = refl
last_is_first (t ∷ texts) text label = ap (with_exception t) (last_is_first texts text label)

-- to a missing label no exception is added
pub added_to_none : (texts : List (List ℕ)) → with_exceptions texts None ≡ None
unfolding with_exception
added_to_none [] = refl
added_to_none (t ∷ texts) = ap (with_exception t) (added_to_none texts)

-- an exception that is not read is not added
pub not_added : (text : List ℕ) (label : Levels) → exception_in text ≡ None → with_exception text (Some label) ≡ None
unfolding with_exception
not_added text label none = rw none refl

-- an exception that is read is added
pub one_added : (text : List ℕ) (label : Levels) (c : ℕ) (l : Level) → exception_in text ≡ Some (c, l)
    → with_exception text (Some label) ≡ Some (with_level label c l)
unfolding with_exception
one_added text label c l some = rw some refl

-- the texts of a word are after its first byte
pub texts_of_word : (word : List ℕ) → 1 ≤ length word
    → label_in word ≡ label_of_texts (slice_split (λ c. c == 44) (take (length word - 1) (drop 1 word)))
texts_of_word [] some = absurd (omega arith)
texts_of_word (b ∷ bs) some = ap (λ text. label_of_texts (slice_split (λ c. c == 44) text)) (sym (take_rest (b ∷ bs) 1))

-- the lent texts, after the last one was taken
pub taken : (parts rest : List (Bor (List ℕ))) (part : Bor (List ℕ)) → parts ≡ rest ++ part ∷ []
    → map (λ p. p.now) parts ≡ map (λ p. p.now) rest ++ part.now ∷ []
taken parts rest part is = ap (map (λ (p : Bor (List ℕ)). p.now)) is ∙ mapped rest
  where
    mapped : (rest : List (Bor (List ℕ)))
        → map (λ (p : Bor (List ℕ)). p.now) (rest ++ part ∷ [])
        ≡ map (λ (p : Bor (List ℕ)). p.now) rest ++ part.now ∷ []
    mapped [] = refl
    mapped (p ∷ rest) = ap (λ ps. p.now ∷ ps) (mapped rest)

-- the default of a label is read before its exceptions are added
pub default_first : (word : List ℕ) (parts rest : List (Bor (List ℕ))) (part : Bor (List ℕ)) → 1 ≤ length word
    → map (λ p. p.now) parts ≡ slice_split (λ c. c == 44) (take (length word - 1) (drop 1 word))
    → parts ≡ rest ++ part ∷ []
    → label_in word ≡ with_exceptions (map (λ p. p.now) rest) (level_in part.now >>= λ default. Some (constant default))
default_first word parts rest part some split is =
    texts_of_word word some ∙ ap label_of_texts (sym split ∙ taken parts rest part is)
    ∙ last_is_default (map (λ (p : Bor (List ℕ)). p.now) rest) part.now

-- the exception of the last text is added before the others
pub exception_first : (parts rest : List (Bor (List ℕ))) (part : Bor (List ℕ)) (label : Option Levels)
    → parts ≡ rest ++ part ∷ []
    → with_exceptions (map (λ p. p.now) parts) label
    ≡ with_exceptions (map (λ p. p.now) rest) (with_exception part.now label)
exception_first parts rest part label is =
    ap (λ texts. with_exceptions texts label) (taken parts rest part is) ∙ last_is_first (map (λ (p : Bor (List ℕ)). p.now) rest) part.now label
