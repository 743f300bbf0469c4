-- Proves the goals of `last_reason_of` of src/refusals.rt that the search leaves open.
use Rattle.std.proofs.Common.{◌≡◌, length, sym, ap, ◌∙◌, rules}
use Rattle.histar_script.proofs.LineLemmas.{no_lines}
use Rattle.histar_dialogue.specs.Refusals.{last_reason}
use Rattle.histar_dialogue.proofs.refusals.last_reason_of.Goals as goal

pub returns : goal.returns
returns c =
    let none : length c.lines.rest.now ≡ 0 = search rules in
    ap (last_reason c.lines.said.items) (sym (no_lines c.lines.rest.now none)) ∙ c.lines.invariant
