-- Proves the goals of `take_line` of src/session.rt that the search leaves open.
use Rattle.std.proofs.Common.{sym, ◌∙◌}
use Rattle.histar_lint.proofs.Steps.{is_memory, is_taken, line_is, says_something}
use Rattle.histar_lint.proofs.session.take_line.Goals as goal

pub unreachable-requires : goal.unreachable-requires
unreachable-requires c = says_something c.args.script.now c.args.number c.args.line.now c.requires (sym c.in_ok-item.ensures.ok ∙ c.in-None.is)

pub returns-clause-ok : goal.returns-clause-ok
returns-clause-ok c =
    let is = line_is c.args.script.now c.args.number c.args.line.now c.in-Some.item (sym c.in_ok-item.ensures.ok ∙ c.in-Some.is) in
    is_taken c.args.number c.add.result c.add.new.self _ _ is c.add.ensures.ok

pub returns-clause-err : goal.returns-clause-err
returns-clause-err c =
    let is = line_is c.args.script.now c.args.number c.args.line.now c.in-Some.item (sym c.in_ok-item.ensures.ok ∙ c.in-Some.is) in
    is_memory c.args.number c.add.result c.add.new.self _ _ is c.requires c.add.ensures.ok
