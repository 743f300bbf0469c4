-- The categories of a label's exceptions that pass a test.
use Rattle.std.proofs.Common.{◌≡◌, ℕ, suc, ◌+◌, ◌<◌, Bool, true, false, if◌then◌else◌, List, [], ◌∷◌, ◌++◌, length, get_or, drop}
use Rattle.std.proofs.Common.{refl, sym, ap, ◌∙◌, append_assoc, arith}
use Rattle.std.proofs.Math.Seq.{drop-cons}
use Rattle.std.specs.Prelude.{map}
use Rattle.std.specs.List.{filter}
use Rattle.histar_level.specs.declared.level.Level.{Level}

-- the categories of the exceptions that pass a test
abbrev pub passed : (ℕ × Level → Bool) → List (ℕ × Level) → List ℕ
passed test es = map (λ e. e.0) (filter test es)

-- the categories of an exception and of those behind it
passed_front : (test : ℕ × Level → Bool) (e : ℕ × Level) (es : List (ℕ × Level))
    → passed test (e ∷ es) ≡ (if test e then e.0 ∷ [] else []) ++ passed test es
passed_front test e es = elim (test e) as (λ b. map (λ (f : ℕ × Level). f.0) (if b then e ∷ filter test es else filter test es)
    ≡ (if b then e.0 ∷ [] else []) ++ passed test es) [ true ↦ refl | false ↦ refl ]

-- one more exception is taken, if it passes
pub passed_more : (test : ℕ × Level → Bool) (es : List (ℕ × Level)) (e : ℕ × Level) (i : ℕ) (before new whole : List ℕ) → i < length es
    → e ≡ get_or es i e → before ++ passed test (drop i es) ≡ whole → new ≡ before ++ (if test e then e.0 ∷ [] else [])
    → new ++ passed test (drop (i + 1) es) ≡ whole
passed_more test es e i before new whole within e_is so_far is =
    let more : drop i es ≡ e ∷ drop (i + 1) es = drop-cons es i e within ∙ ap (λ (x : ℕ × Level). x ∷ drop (suc i) es) (sym e_is)
    ∙ ap (λ (n : ℕ). e ∷ drop n es) (let next : suc i ≡ i + 1 = omega arith in next) in
    rw is
    (append_assoc before (if test e then e.0 ∷ [] else []) (passed test (drop (i + 1) es))
    ∙ ap (λ (cs : List ℕ). before ++ cs) (sym (ap (passed test) more ∙ passed_front test e (drop (i + 1) es)))
    ∙ so_far)
