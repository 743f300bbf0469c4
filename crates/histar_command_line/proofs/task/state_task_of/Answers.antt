-- Proves the goals of `state_task_of` of src/task.rt that the search leaves open.
use Rattle.std.proofs.Common.{refl, sym, ap, ap₂, ◌∙◌, codes}
use Rattle.clap.specs.Words.{rows_of, found_of}
use Rattle.clap.proofs.WalkLemmas.{first_value-rows}
use Rattle.histar_command_line.specs.Tasks.{access_kind, is_given}
use Rattle.histar_command_line.proofs.Matches.{matched}
use Rattle.histar_command_line.proofs.task.state_task_of.Goals as goal

pub returns-in-Some : goal.returns-in-Some
returns-in-Some c =
    let m = c.in-Some in
    let found = found_of m.access.now in (
      rows_of found,
      matched c.args.matches.now (codes "access") (rows_of found) (m.ensures.found.0 refl) m.ensures.rows,
      (
        sym (c.in_ok-file.ensures ∙ first_value-rows found (codes "FILE")),
        c.get_str-at.ensures ∙ first_value-rows found (codes "LINE"),
        ap₂ access_kind
            (sym (c.is_set-users.ensures ∙ ap is_given (first_value-rows found (codes "users"))))
            (sym (c.is_set-ever.ensures ∙ ap is_given (first_value-rows found (codes "ever"))))
            ∙ sym c.access_kind.ensures,
      ),
    )

pub returns-in-Some-subcommand_matches : goal.returns-in-Some-subcommand_matches
returns-in-Some-subcommand_matches c =
    let m = c.in-Some-subcommand_matches in
    let found = found_of m.diff.now in (
      rows_of found,
      matched c.args.matches.now (codes "diff") (rows_of found) (m.ensures.found.0 refl) m.ensures.rows,
      (
        sym (c.in_ok-old.ensures ∙ first_value-rows found (codes "OLD")),
        sym (c.in_ok-new.ensures ∙ first_value-rows found (codes "NEW")),
        c.get_str-at-in-Some-subcommand_matches.ensures ∙ first_value-rows found (codes "LINE"),
        c.is_set-users-in-Some-subcommand_matches.ensures ∙ ap is_given (first_value-rows found (codes "users")),
        c.is_set-more.ensures ∙ ap is_given (first_value-rows found (codes "more")),
      ),
    )
