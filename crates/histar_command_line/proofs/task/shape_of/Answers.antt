-- Proves the goals of `shape_of` of src/task.rt that the search leaves open.
use Rattle.std.proofs.Common.{sym, ap, subst, ◌∙◌, codes}
use Rattle.clap.specs.Words.{rows_of, found_of}
use Rattle.clap.proofs.WalkLemmas.{first_value-rows}
use Rattle.histar_command_line.specs.Tasks.{IsShapeOf, is_given}
use Rattle.histar_command_line.proofs.Matches.{matched}
use Rattle.histar_command_line.proofs.task.shape_of.Goals as goal

pub returns-in-Some : goal.returns-in-Some
returns-in-Some c =
    let m = c.in-Some in
    let found = found_of m.found.now in
    let named = matched c.args.matches.now m.field-0-0.now (rows_of found) (sym m.ensures.name) (sym m.ensures.rows) in
    subst (IsShapeOf (record { json = c.is_set.result; color = c.get_str.result })) (sym named) (
      c.is_set.ensures ∙ ap is_given (first_value-rows found (codes "json")),
      c.get_str.ensures ∙ first_value-rows found (codes "WHEN"),
    )
