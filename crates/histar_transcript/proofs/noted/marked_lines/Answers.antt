-- Proves the goals of `marked_lines` of src/noted.rt that the search leaves open.
use Rattle.std.proofs.Common.{◌≡◌, ◌++◌, length, map, sym, ap, ◌∙◌, rules, append-nil}
use Rattle.std.specs.List.{filter}
use Rattle.histar_script.proofs.LineLemmas.{no_lines}
use Rattle.histar_transcript.specs.Noted.{is_marked}
use Rattle.histar_transcript.proofs.noted.marked_lines.Goals as goal

pub returns : goal.returns
returns c =
    let found = map (λ line. line.now) c.lines.found.items in
    let none : length c.lines.rest.now ≡ 0 = search rules in
    sym (append-nil found) ∙ ap (λ rest. found ++ filter (is_marked c.args.mark) rest) (sym (no_lines c.lines.rest.now none))
    ∙ c.lines.invariant
