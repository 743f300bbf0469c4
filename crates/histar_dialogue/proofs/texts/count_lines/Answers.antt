-- Proves the goals of `count_lines` of src/texts.rt that the search leaves open.
use Rattle.std.proofs.Common.{◌≡◌, length, arith, rules}
use Rattle.histar_script.proofs.LineLemmas.{lines-empty}
use Rattle.histar_dialogue.proofs.texts.count_lines.Goals as goal

pub returns : goal.returns
returns c =
    let none : length c.lines.rest.now ≡ 0 = search rules in
    omega (arith, lines-empty c.lines.rest.now none, c.lines.invariant.counted)
