-- Texts that are made of lines.
use Rattle.std.proofs.Common.{◌≡◌, ℕ, List, [], ◌∷◌, ◌++◌}
use Rattle.std.proofs.Common.{refl, sym, ap, ap₂, ◌∙◌, append_assoc, append-nil}
use Rattle.std.specs.Prelude.{codes}
use Rattle.std.specs.List.{AllByRecursion, flat_map}
use Rattle.std.proofs.lemmas.List.Concat.{flat_map-append}
use Rattle.histar_script.specs.Lines.{lines_of}
use Rattle.histar_script.proofs.Beginnings.{line_back}
use Rattle.histar_report.proofs.OneLines.{IsOneLine}

-- the text of these lines, each with its end
abbrev pub with_ends : List (List ℕ) → List ℕ
with_ends lines = flat_map (λ line. line ++ codes "\n") lines

-- the lines of such a text are these, and then those of what comes after it
pub ends_back : (lines : List (List ℕ)) (rest : List ℕ) → AllByRecursion IsOneLine lines
    → lines_of (with_ends lines ++ rest) ≡ lines ++ lines_of rest
ends_back [] rest all = refl
ends_back (line ∷ lines) rest all =
    ap lines_of (simp append_assoc) ∙ line_back line (with_ends lines ++ rest) all.0
    ∙ ap (λ (ls : List (List ℕ)). line ∷ ls) (ends_back lines rest all.1)

-- no bytes have no line
nothing : lines_of [] ≡ []
unfolding lines_of
nothing = refl

-- the lines of a text that is made of lines are these
pub all_back : (lines : List (List ℕ)) → AllByRecursion IsOneLine lines → lines_of (with_ends lines) ≡ lines
all_back lines all =
    ap lines_of (sym (append-nil (with_ends lines))) ∙ ends_back lines [] all ∙ ap (λ (ls : List (List ℕ)). lines ++ ls) nothing
    ∙ append-nil lines

-- two properties that hold of each element, one after another
pub all_more : {X : Type 0} (P : X → Type 0) (xs ys : List X) → AllByRecursion P xs → AllByRecursion P ys → AllByRecursion P (xs ++ ys)
all_more P [] ys one all = all
all_more P (x ∷ xs) ys one all = (one.0, all_more P xs ys one.1 all)

-- The text is made of lines that have this property.
pub record IsMadeOf (P : List ℕ → Type 0) (text : List ℕ) : Type 0 where
  pub lines : List (List ℕ)
  pub parts : text ≡ with_ends lines
  pub are : AllByRecursion P lines

module _ (P : List ℕ → Type 0) where
  -- nothing is made of no line
  pub no_line : IsMadeOf P []
  no_line = record { lines = []; parts = refl; are = tt }

  -- a line with its end
  pub one_line : (line : List ℕ) → P line → IsMadeOf P (line ++ codes "\n")
  one_line line is = record { lines = line ∷ []; parts = sym (append-nil (line ++ codes "\n")); are = (is, tt) }

  -- two such texts, one after the other
  pub more_lines : (a b : List ℕ) → IsMadeOf P a → IsMadeOf P b → IsMadeOf P (a ++ b)
  more_lines a b one two = record {
    lines = one.lines ++ two.lines;
    parts = ap₂ (λ (x y : List ℕ). x ++ y) one.parts two.parts
        ∙ sym (flat_map-append (λ (line : List ℕ). line ++ codes "\n") one.lines two.lines);
    are = all_more P one.lines two.lines one.are two.are;
  }

  -- such a text for each element
  pub each_lines : {X : Type 0} (f : X → List ℕ) (xs : List X) → ((x : X) → IsMadeOf P (f x)) → IsMadeOf P (flat_map f xs)
  each_lines f [] each = no_line
  each_lines f (x ∷ xs) each = more_lines (f x) (flat_map f xs) (each x) (each_lines f xs each)
