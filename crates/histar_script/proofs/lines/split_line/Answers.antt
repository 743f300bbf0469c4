-- Proves the goals of `split_line` of src/lines.rt that the search leaves open.
use Rattle.std.proofs.Common.{◌+◌, length, add-one, arith}
use Rattle.std.proofs.lemmas.List.{take_rest, drop_all}
use Rattle.histar_script.proofs.LineLemmas.{lines_at, lines_whole}
use Rattle.histar_script.proofs.lines.split_line.Goals as goal

pub returns-in-None-clause-first : goal.returns-in-None-clause-first
returns-in-None-clause-first c =
    let text = c.args.text.now in
    rw (take_rest text (length text), drop_all (length text) text (omega arith)) (lines_whole text c.requires c.in-None.ensures)

pub returns-in-Some-clause-first : goal.returns-in-Some-clause-first
returns-in-Some-clause-first c =
    let h = c.in-Some.ensures in
    rw (take_rest c.args.text.now (c.in-Some.at + 1), add-one) (lines_at c.args.text.now c.in-Some.at h.0.high h.0.before h.1)
