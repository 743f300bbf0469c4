-- Proves the goals of `expecting` of src/parts.rt that the search leaves open.
use Rattle.std.proofs.Common.{◌≡◌, length, sym, ap, ◌∙◌, rules}
use Rattle.std.specs.Prelude.{option_map}
use Rattle.histar_script.proofs.LineLemmas.{no_lines}
use Rattle.histar_dialogue.specs.Parts.{expecting}
use Rattle.histar_dialogue.proofs.parts.expecting.Goals as goal

pub returns : goal.returns
returns c =
    let none : length c.lines.rest.now ≡ 0 = search rules in
    ap (expecting (option_map (λ line. line.items) c.lines.found)) (sym (no_lines c.lines.rest.now none)) ∙ c.lines.invariant
