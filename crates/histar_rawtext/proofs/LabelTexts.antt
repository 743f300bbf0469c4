-- The text of a label determines it, and has no space.
use Rattle.std.proofs.Common.{◌≡◌, ℕ, true, eqb, cond, List, [], ◌∷◌, ◌++◌, refl, sym, ap, ◌∙◌}
use Rattle.std.specs.List.{flat_map, AllByRecursion}
use Rattle.std.specs.Fmt.{decimal}
use Rattle.std.proofs.lemmas.Fmt.{decimal_injective}
use Rattle.std.proofs.lemmas.List.{append_assoc, append-nil}
use Rattle.histar_flat.proofs.SplitLemmas.{lacks}
use Rattle.histar_level.specs.declared.level.Level.{Level}
use Rattle.histar_level.specs.declared.level.Level.TheVariants.{Star, L0, L1, L2, L3}
use Rattle.histar_level.specs.Levels.{Levels, exceptions_of, default_of}
use Rattle.histar_level.proofs.Equality.{same_lists}
use Rattle.histar_rawtext.specs.RawText.{level_text, exception_text, label_text}
use Rattle.histar_rawtext.specs.RawTextLaws.{IsNumber, IsWritableLabel}
use Rattle.histar_rawtext.proofs.Parting.{same_parts}
use Rattle.histar_rawtext.proofs.WordTexts.{lacks-append, lacks-decimal, space_is_no_digit, colon_is_no_digit}

-- the level that a text begins with
level_at_front : List ℕ → Level
level_at_front [] = Star
level_at_front (b ∷ text) = cond (eqb b 48) L0 (cond (eqb b 49) L1 (cond (eqb b 50) L2 (cond (eqb b 51) L3 Star)))

-- each level is read from its own text
level_again : (l : Level) (rest : List ℕ) → level_at_front (level_text l ++ rest) ≡ l
unfolding level_at_front
level_again Star rest = refl
level_again L0 rest = refl
level_again L1 rest = refl
level_again L2 rest = refl
level_again L3 rest = refl

-- the text that begins with a level determines it
same_level : (l m : Level) (rest others : List ℕ) → level_text l ++ rest ≡ level_text m ++ others → l ≡ m
same_level l m rest others e = sym (level_again l rest) ∙ ap level_at_front e ∙ level_again m others

-- a level has no colon, no comma and no space
lacks-level_colon : (l : Level) → lacks 58 (level_text l ++ 125 ∷ []) ≡ true
lacks-level_colon Star = refl
lacks-level_colon L0 = refl
lacks-level_colon L1 = refl
lacks-level_colon L2 = refl
lacks-level_colon L3 = refl

pub lacks-level_comma : (l : Level) → lacks 44 (level_text l) ≡ true
lacks-level_comma Star = refl
lacks-level_comma L0 = refl
lacks-level_comma L1 = refl
lacks-level_comma L2 = refl
lacks-level_comma L3 = refl

lacks-level_space : (l : Level) → lacks 32 (level_text l) ≡ true
lacks-level_space Star = refl
lacks-level_space L0 = refl
lacks-level_space L1 = refl
lacks-level_space L2 = refl
lacks-level_space L3 = refl

-- the text after the exceptions of a label: its default, and the brace
abbrev pub ending : Level → List ℕ
ending d = level_text d ++ 125 ∷ []

-- the text after the category of a label's first exception
abbrev after_category : Level → List (ℕ × Level) → Level → List ℕ
after_category l es d = 58 ∷ (level_text l ++ 44 ∷ (flat_map exception_text es ++ ending d))

-- the first exception's category, and the text after it
first_exception : (e : ℕ × Level) (es : List (ℕ × Level)) (d : Level)
    → flat_map exception_text (e ∷ es) ++ ending d ≡ decimal e.0 ++ after_category e.1 es d
first_exception e es d = simp append_assoc

-- no default is an exception
default_only : (f : ℕ × Level) (fs : List (ℕ × Level)) (d c : Level) → IsNumber f.0 → ending d ≡ flat_map exception_text (f ∷ fs) ++ ending c → ⊥
default_only f fs d c small e =
    let whole : ending d ++ [] ≡ decimal f.0 ++ after_category f.1 fs c = simp append-nil (e ∙ first_exception f fs c) in
    let parts =
    same_parts 58 (ending d) (decimal f.0) [] (after_category f.1 fs c) (lacks-level_colon d)
    (lacks-decimal 58 f.0 colon_is_no_digit small) tt refl whole in
    let none : [] ≡ after_category f.1 fs c = parts.1 in
    cc

-- the text of a label determines its exceptions and its default
same_exceptions : (es fs : List (ℕ × Level)) (d c : Level) → AllByRecursion (λ (e : ℕ × Level). IsNumber e.0) es
    → AllByRecursion (λ (e : ℕ × Level). IsNumber e.0) fs
    → flat_map exception_text es ++ ending d ≡ flat_map exception_text fs ++ ending c → (es ≡ fs) × (d ≡ c)
same_exceptions [] [] d c p q e = (refl, same_level d c (125 ∷ []) (125 ∷ []) e)
same_exceptions [] (f ∷ fs) d c p q e = absurd (default_only f fs d c q.0 e)
same_exceptions (e ∷ es) [] d c p q e' = absurd (default_only e es c d p.0 (sym e'))
same_exceptions (e ∷ es) (f ∷ fs) d c p q e' =
    let whole = sym (first_exception e es d) ∙ e' ∙ first_exception f fs c in
    let parts =
    same_parts 58 (decimal e.0) (decimal f.0) (after_category e.1 es d) (after_category f.1 fs c)
    (lacks-decimal 58 e.0 colon_is_no_digit p.0) (lacks-decimal 58 f.0 colon_is_no_digit q.0) refl refl whole in
    let category = decimal_injective e.0 f.0 p.0 q.0 parts.0 in
    let rest = parts.1 in
    let levels : level_text e.1 ++ 44 ∷ (flat_map exception_text es ++ ending d)
    ≡ level_text f.1 ++ 44 ∷ (flat_map exception_text fs ++ ending c) =
    cc in
    let level = same_level e.1 f.1 (44 ∷ (flat_map exception_text es ++ ending d)) (44 ∷ (flat_map exception_text fs ++ ending c)) levels in
    let after =
    (same_parts 44 (level_text e.1) (level_text f.1) (44 ∷ (flat_map exception_text es ++ ending d))
    (44 ∷ (flat_map exception_text fs ++ ending c)) (lacks-level_comma e.1) (lacks-level_comma f.1) refl refl
    levels).1 in
    let tails : flat_map exception_text es ++ ending d ≡ flat_map exception_text fs ++ ending c = cc in
    let others = same_exceptions es fs d c p.1 q.1 tails in
    (λ i. (category i, level i) ∷ others.0 i, others.1)

-- the text of a label determines it
pub same_label : (L M : Levels) → IsWritableLabel L → IsWritableLabel M → label_text L ≡ label_text M → L ≡ M
same_label L M p q e =
    let left : label_text L ≡ 123 ∷ (flat_map exception_text (exceptions_of L) ++ ending (default_of L)) = simp append_assoc in
    let right : label_text M ≡ 123 ∷ (flat_map exception_text (exceptions_of M) ++ ending (default_of M)) = simp append_assoc in
    let whole = sym left ∙ e ∙ right in
    let tails : flat_map exception_text (exceptions_of L) ++ ending (default_of L)
    ≡ flat_map exception_text (exceptions_of M) ++ ending (default_of M) =
    cc in
    let parts = same_exceptions (exceptions_of L) (exceptions_of M) (default_of L) (default_of M) p q tails in
    same_lists L M parts.1 parts.0

-- exceptions have no space
lacks-exceptions : (es : List (ℕ × Level)) → AllByRecursion (λ (e : ℕ × Level). IsNumber e.0) es → lacks 32 (flat_map exception_text es) ≡ true
lacks-exceptions [] p = refl
lacks-exceptions (e ∷ es) p =
    let category = lacks-append 32 (decimal e.0) (58 ∷ []) (lacks-decimal 32 e.0 space_is_no_digit p.0) refl in
    let level = lacks-append 32 (decimal e.0 ++ 58 ∷ []) (level_text e.1) category (lacks-level_space e.1) in
    let whole = lacks-append 32 (decimal e.0 ++ 58 ∷ [] ++ level_text e.1) (44 ∷ []) level refl in
    lacks-append 32 (exception_text e) (flat_map exception_text es) whole (lacks-exceptions es p.1)

-- the text of a label has no space
pub lacks-label : (L : Levels) → IsWritableLabel L → lacks 32 (label_text L) ≡ true
lacks-label L p =
    let exceptions = lacks-append 32 (123 ∷ []) (flat_map exception_text (exceptions_of L)) refl (lacks-exceptions (exceptions_of L) p) in
    let default =
    lacks-append 32 (123 ∷ flat_map exception_text (exceptions_of L)) (level_text (default_of L)) exceptions
    (lacks-level_space (default_of L)) in
    lacks-append 32 (123 ∷ flat_map exception_text (exceptions_of L) ++ level_text (default_of L)) (125 ∷ []) default refl
