-- Proves the goals of `lines_in` of src/transcript.rt that the search leaves open.
use Rattle.std.proofs.Common.{◌≡◌, ◌++◌, length, map, sym, ap, ◌∙◌, rules, append-nil}
use Rattle.histar_script.proofs.LineLemmas.{no_lines}
use Rattle.histar_transcript.proofs.transcript.lines_in.Goals as goal

pub returns : goal.returns
returns c =
    let lines = map (λ line. line.now) c.lines.lines.items in
    let none : length c.lines.rest.now ≡ 0 = search rules in
    sym (append-nil lines) ∙ ap (λ rest. lines ++ rest) (sym (no_lines c.lines.rest.now none)) ∙ c.lines.invariant
