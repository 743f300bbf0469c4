-- Proves the goals of `push_titles` of src/titles.rt that the search leaves open.
use Rattle.std.proofs.Common.{◌≡◌, ℕ, List, ◌++◌, ◌∙◌, ap, append-nil, length, rules, sym}
use Rattle.histar_script.proofs.LineLemmas.{no_lines}
use Rattle.histar_leak.specs.Titles.{title_lines}
use Rattle.histar_leak.proofs.titles.push_titles.Goals as goal

pub returns : goal.returns
returns c =
    let text = c.lines.text.items in
    let none : length c.lines.rest.now ≡ 0 = search rules in
    sym (append-nil text) ∙ ap (λ (ls : List (List ℕ)). text ++ title_lines ls) (sym (no_lines c.lines.rest.now none)) ∙ c.lines.invariant
