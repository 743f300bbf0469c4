-- Proves the goals of `task_of` of src/task.rt that the search leaves open.
use Rattle.std.proofs.Common.{Some, refl, sym, ap, ◌∙◌, codes}
use Rattle.std.proofs.lemmas.Option.{IfSome_then}
use Rattle.clap.specs.Words.{Text, rows_of, found_of}
use Rattle.clap.proofs.WalkLemmas.{first_value-rows}
use Rattle.histar_command_line.specs.Tasks.{is_given}
use Rattle.histar_command_line.proofs.Matches.{matched}
use Rattle.histar_command_line.proofs.task.task_of.Goals as goal

pub returns-in-Some : goal.returns-in-Some
returns-in-Some c =
    let m = c.in-Some in
    let found = found_of m.run'.now in (
      rows_of found,
      matched c.args.matches.now (codes "run") (rows_of found) (m.ensures.found.0 refl) m.ensures.rows,
      (
        sym (c.in_ok-file.ensures ∙ first_value-rows found (codes "FILE")),
        c.is_set-tree.ensures ∙ ap is_given (first_value-rows found (codes "tree")),
        c.is_set-trace.ensures ∙ ap is_given (first_value-rows found (codes "trace")),
        c.is_set-why.ensures ∙ ap is_given (first_value-rows found (codes "why")),
        c.is_set-explain.ensures ∙ ap is_given (first_value-rows found (codes "explain")),
        c.is_set-calls.ensures ∙ ap is_given (first_value-rows found (codes "calls")),
        c.get_str-at.ensures ∙ first_value-rows found (codes "LINE"),
      ),
    )

pub returns-in-Some-subcommand_matches : goal.returns-in-Some-subcommand_matches
returns-in-Some-subcommand_matches c =
    let m = c.in-Some-subcommand_matches in
    let found = found_of m.raw.now in (
      rows_of found,
      matched c.args.matches.now (codes "raw") (rows_of found) (m.ensures.found.0 refl) m.ensures.rows,
      (
        sym (c.in_ok-file-2.ensures ∙ first_value-rows found (codes "FILE")),
        c.is_set-explain-in-Some-subcommand_matches.ensures ∙ ap is_given (first_value-rows found (codes "explain")),
      ),
    )

pub returns-in-Some-subcommand_matches-2 : goal.returns-in-Some-subcommand_matches-2
returns-in-Some-subcommand_matches-2 c =
    let m = c.in-Some-subcommand_matches-2 in
    let found = found_of m.check.now in
    let named = matched c.args.matches.now (codes "check") (rows_of found) (m.ensures.found.0 refl) m.ensures.rows in
    IfSome_then c.check_task_of.result c.check_task_of.ensures
    (λ task is. (rows_of found, named ∙ ap (λ (name : Text). Some (name, rows_of found)) (sym is.0), is.1))
