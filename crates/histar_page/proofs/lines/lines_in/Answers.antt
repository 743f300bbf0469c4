-- Proves the goals of `lines_in` of src/lines.rt that the search leaves open.
use Rattle.std.proofs.Common.{◌≡◌, ◌++◌, length, sym, ap, ◌∙◌, rules, append-nil}
use Rattle.histar_page.specs.Texts.{texts}
use Rattle.histar_script.proofs.LineLemmas.{no_lines}
use Rattle.histar_page.proofs.lines.lines_in.Goals as goal

pub returns : goal.returns
returns c =
    let found = texts c.lines.lines.items in
    let none : length c.lines.rest.now ≡ 0 = search rules in
    sym (append-nil found) ∙ ap (λ rest. found ++ rest) (sym (no_lines c.lines.rest.now none)) ∙ c.lines.invariant
