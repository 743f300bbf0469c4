-- Proves the goals of `coloured` of src/colours.rt that the search leaves open.
use Rattle.std.proofs.Common.{◌≡◌, ℕ, ◌∷◌, ◌++◌, [], List, Some, None, sym, ap, ap₂, ◌∙◌, append_assoc}
use Rattle.std.proofs.Common.{append-nil}
use Rattle.std.specs.Prelude.{Option}
use Rattle.std.specs.Option.{option_copied, option_map_or}
use Rattle.histar_flat.specs.Words.{split_at_first}
use Rattle.histar_output.specs.Colours.{coloured, coloured_line}
use Rattle.histar_output.proofs.ColourLemmas.{after_shorter, coloured_on}
use Rattle.histar_output.proofs.colours.coloured.Goals as goal
use Rattle.histar_output.proofs.colours.coloured.Goals.{At-lines, In_default, In_ok-push}

-- what follows the line
after_is : (c : In_ok-push) → (split_at_first 10 c.lines.rest.now).1 ≡ Some c.in-Some.after.now
after_is c = sym c.split_at_first.ensures.after ∙ ap option_copied c.in-Some.is

pub lines-smaller : goal.lines-smaller
lines-smaller c = after_shorter c.lines.rest.now c.in-Some.after.now (after_is c)

-- what is left in colours is the line, and then what follows it
left_is : (rest line : List ℕ) (after : Option (List ℕ)) → line ≡ (split_at_first 10 rest).0 → after ≡ (split_at_first 10 rest).1
    → coloured rest ≡ coloured_line line ++ option_map_or (λ more. 10 ∷ coloured more) after []
left_is rest line after line_is after_is =
    coloured_on rest
    ∙ ap₂ (λ (l : List ℕ) (o : Option (List ℕ)). coloured_line l ++ option_map_or (λ more. 10 ∷ coloured more) o []) (sym line_is)
    (sym after_is)

pub lines-preserved : goal.lines-preserved
lines-preserved c =
    let line = c.split_at_first.result.0.now in
    let after = c.in-Some.after.now in
    let out = c.lines.out.items in
    c.lines.invariant
    ∙ ap (λ (t : List ℕ). out ++ t) (left_is c.lines.rest.now line (Some after) c.split_at_first.ensures.before (sym (after_is c)))
    ∙ sym (ap (λ (t : List ℕ). t ++ coloured after)
    (c.in_ok-push.ensures.items ∙ ap (λ (t : List ℕ). t ++ 10 ∷ []) c.in_ok-push_line.ensures)
    ∙ append_assoc (out ++ coloured_line line) (10 ∷ []) (coloured after) ∙ append_assoc out (coloured_line line) (10 ∷ coloured after))

pub returns-in_default : goal.returns-in_default
returns-in_default c =
    let line = c.split_at_first.result.0.now in
    c.in_ok-push_line.ensures
    ∙ sym (c.lines.invariant ∙ ap (λ (t : List ℕ). c.lines.out.items ++ t)
    (left_is c.lines.rest.now line None c.split_at_first.ensures.before (sym (ap option_copied c.in_default.is) ∙ c.split_at_first.ensures.after)
    ∙ append-nil (coloured_line line)))
