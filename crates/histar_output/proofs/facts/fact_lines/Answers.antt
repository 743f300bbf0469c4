-- Proves the goals of `fact_lines` of src/facts.rt that the search leaves open.
use Rattle.std.proofs.Common.{◌≡◌, ℕ, ◌++◌, List, length, sym, ap, ◌∙◌, append-nil, rules}
use Rattle.std.specs.List.{flat_map}
use Rattle.histar_script.proofs.LineLemmas.{no_lines}
use Rattle.histar_output.specs.Written.{fact_line}
use Rattle.histar_output.proofs.facts.fact_lines.Goals as goal

pub returns : goal.returns
returns c =
    let none : length c.lines.rest.now ≡ 0 = search rules in
    sym (ap (λ (ls : List (List ℕ)). c.lines.out.items ++ flat_map (fact_line c.args.form) ls) (no_lines c.lines.rest.now none)
    ∙ append-nil c.lines.out.items) ∙ c.lines.invariant
