-- Proves the goal of `pass_line` of src/session.rt that the search leaves open.
use Rattle.std.proofs.Common.{sym, ap, ◌∙◌}
use Rattle.std.specs.Option.{option_copied}
use Rattle.histar_script.specs.Reading.{with_line}
use Rattle.histar_mixed.proofs.LinesRead.{empty_line, unix_if_some}
use Rattle.histar_attack_lint.proofs.session.pass_line.Goals as goal

pub returns-in-Some-clause-ok : goal.returns-in-Some-clause-ok
returns-in-Some-clause-ok c =
    let some = sym c.raw_part.ensures ∙ ap option_copied c.in-Some.is in
    ap (with_line c.args.script.now c.args.number) (unix_if_some c.args.line.now c.in-Some._call.now some)
    ∙ empty_line c.args.script.now c.args.number
