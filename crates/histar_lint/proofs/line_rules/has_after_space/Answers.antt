-- Proves the goals of `has_after_space` of src/line_rules.rt, which the search is slow to find.
use Rattle.std.proofs.Common.{◌≡◌, ◌≤◌, ◌-◌, ◌==◌, ◌&&◌, ◌||◌, ℕ, false, List, [], ◌∷◌, length, take, drop, get_or, sym, ap, subst, ◌∙◌, arith}
use Rattle.std.specs.Prelude.{Bool}
use Rattle.std.proofs.lemmas.Grind.{common_steps}
use Rattle.histar_lint.specs.Lines.{begins_with, has_after_space}
use Rattle.histar_lint.proofs.line_rules.has_after_space.Goals as goal

-- a text with no such pair at its first byte has one if what is behind that byte has one
behind_first : (byte : ℕ) (text : List ℕ) → 1 ≤ length text
    → false ≡ (get_or text 0 0 == 32 && begins_with byte (take (length text - 1) (drop 1 text)))
    → has_after_space byte text ≡ has_after_space byte (take (length text - 1) (drop 1 text))
behind_first byte [] some none = absurd (omega arith)
behind_first byte (b ∷ text) some none =
    let whole : take (length (b ∷ text) - 1) text ≡ text = grind (arith, common_steps) in
    let family : List ℕ → Type 0 = λ (behind : List ℕ).
    false ≡ (b == 32 && begins_with byte behind) → has_after_space byte (b ∷ text) ≡ has_after_space byte behind in
    subst family (sym whole) (λ none. ap (λ (front : Bool). front || has_after_space byte text) (sym none)) none

pub loop-rest-preserved : goal.loop-rest-preserved
loop-rest-preserved c =
    c.loop-rest.invariant ∙ behind_first c.args.byte c.loop-rest.rest.now c.in-len1-up.len_at_least c.if-is_space_before.ensures
