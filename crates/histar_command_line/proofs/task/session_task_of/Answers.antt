-- Proves the goals of `session_task_of` of src/task.rt that the search leaves open.
use Rattle.std.proofs.Common.{refl, sym, ap, ◌∙◌, codes}
use Rattle.clap.specs.Words.{rows_of, found_of}
use Rattle.clap.proofs.WalkLemmas.{first_value-rows}
use Rattle.histar_command_line.specs.Tasks.{is_given}
use Rattle.histar_command_line.proofs.Matches.{matched}
use Rattle.histar_command_line.proofs.task.session_task_of.Goals as goal

pub returns-in-Some : goal.returns-in-Some
returns-in-Some c =
    let m = c.in-Some in
    let found = found_of m.attack.now in (
      rows_of found,
      matched c.args.matches.now (codes "attack") (rows_of found) (m.ensures.found.0 refl) m.ensures.rows,
      (
        sym (c.in_ok-job.ensures ∙ first_value-rows found (codes "JOB")),
        sym (c.in_ok-file.ensures ∙ first_value-rows found (codes "FILE")),
        c.is_set-trace.ensures ∙ ap is_given (first_value-rows found (codes "trace")),
        c.is_set-follow.ensures ∙ ap is_given (first_value-rows found (codes "follow")),
      ),
    )

pub returns-in-Some-subcommand_matches : goal.returns-in-Some-subcommand_matches
returns-in-Some-subcommand_matches c =
    let m = c.in-Some-subcommand_matches in
    let found = found_of m.shell.now in (
      rows_of found,
      matched c.args.matches.now (codes "shell") (rows_of found) (m.ensures.found.0 refl) m.ensures.rows,
      c.get_str-in-Some-subcommand_matches.ensures ∙ first_value-rows found (codes "FILE"),
    )

pub returns : goal.returns
returns c =
    let m = c.in_ok-report in
    let found = found_of m.report.now in (
      rows_of found,
      matched c.args.matches.now (codes "report") (rows_of found) (m.ensures.found.0 refl) m.ensures.rows,
      (
        sym (c.in_ok-file-2.ensures ∙ first_value-rows found (codes "FILE")),
        c.get_str-at.ensures ∙ first_value-rows found (codes "LINE"),
        c.get_str-page.ensures ∙ first_value-rows found (codes "PAGE"),
      ),
    )
