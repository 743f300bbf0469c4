-- Proves the goals of `secret_task_of` of src/task.rt that the search leaves open.
use Rattle.std.proofs.Common.{refl, sym, ap, ◌∙◌, codes}
use Rattle.clap.specs.Words.{rows_of, found_of}
use Rattle.clap.proofs.WalkLemmas.{first_value-rows}
use Rattle.histar_command_line.specs.Tasks.{is_given}
use Rattle.histar_command_line.proofs.Matches.{matched}
use Rattle.histar_command_line.proofs.task.secret_task_of.Goals as goal

pub returns-in-Some : goal.returns-in-Some
returns-in-Some c =
    let m = c.in-Some in
    let found = found_of m.trust.now in (
      rows_of found,
      matched c.args.matches.now (codes "trust") (rows_of found) (m.ensures.found.0 refl) m.ensures.rows,
      (
        sym (c.in_ok-path.ensures ∙ first_value-rows found (codes "PATH")),
        sym (c.in_ok-file.ensures ∙ first_value-rows found (codes "FILE")),
        c.get_str-at.ensures ∙ first_value-rows found (codes "LINE"),
        c.is_set-why.ensures ∙ ap is_given (first_value-rows found (codes "why")),
      ),
    )

pub returns-in-Some-subcommand_matches : goal.returns-in-Some-subcommand_matches
returns-in-Some-subcommand_matches c =
    let m = c.in-Some-subcommand_matches in
    let found = found_of m.leak.now in (
      rows_of found,
      matched c.args.matches.now (codes "leak") (rows_of found) (m.ensures.found.0 refl) m.ensures.rows,
      (
        sym (c.in_ok-path-2.ensures ∙ first_value-rows found (codes "PATH")),
        sym (c.in_ok-file-2.ensures ∙ first_value-rows found (codes "FILE")),
        c.get_str-at-in-Some-subcommand_matches.ensures ∙ first_value-rows found (codes "LINE"),
      ),
    )

pub returns-in-Some-subcommand_matches-2 : goal.returns-in-Some-subcommand_matches-2
returns-in-Some-subcommand_matches-2 c =
    let m = c.in-Some-subcommand_matches-2 in
    let found = found_of m.flows.now in (
      rows_of found,
      matched c.args.matches.now (codes "flows") (rows_of found) (m.ensures.found.0 refl) m.ensures.rows,
      (
        sym (c.in_ok-file-3.ensures ∙ first_value-rows found (codes "FILE")),
        c.get_str-at-in-Some-subcommand_matches-2.ensures ∙ first_value-rows found (codes "LINE"),
      ),
    )
