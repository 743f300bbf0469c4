-- Proves the goals of `behind_first` of src/titles.rt that the search leaves open.
use Rattle.std.proofs.Common.{◌≡◌, ◌∙◌, ap, drop, length, rules, sym}
use Rattle.histar_script.proofs.LineLemmas.{no_lines}
use Rattle.histar_leak.proofs.titles.behind_first.Goals as goal

pub returns-then-is_empty : goal.returns-then-is_empty
returns-then-is_empty c =
    let text = c.args.text.now in
    let empty : length text ≡ 0 = search rules in
    no_lines text empty ∙ ap (drop 1) (sym (no_lines text empty))
