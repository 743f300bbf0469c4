-- Proves the goals of `push_marked` of src/refusals.rt that the search leaves open.
use Rattle.std.proofs.Common.{◌≡◌, ℕ, List, ◌++◌, length, sym, ap, ◌∙◌, append-nil, rules}
use Rattle.std.specs.List.{flat_map}
use Rattle.histar_script.proofs.LineLemmas.{no_lines}
use Rattle.histar_dialogue.specs.Refusals.{marked_line}
use Rattle.histar_dialogue.proofs.refusals.push_marked.Goals as goal

pub returns : goal.returns
returns c =
    let none : length c.lines.rest.now ≡ 0 = search rules in
    sym (ap (λ (ls : List (List ℕ)). c.lines.text.items ++ flat_map (marked_line c.args.mark.now) ls) (no_lines c.lines.rest.now none)
    ∙ append-nil c.lines.text.items) ∙ c.lines.invariant
