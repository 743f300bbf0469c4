-- Proves the goals of `check_task_of` of src/task.rt that the search leaves open.
use Rattle.std.proofs.Common.{refl, sym, ap, ◌∙◌, codes}
use Rattle.clap.specs.Words.{found_of}
use Rattle.clap.proofs.WalkLemmas.{first_value-rows}
use Rattle.histar_command_line.specs.Tasks.{is_given}
use Rattle.histar_command_line.proofs.task.check_task_of.Goals as goal

pub returns-in-true-None : goal.returns-in-true-None
returns-in-true-None c =
    let found = found_of c.args.check.now in (
      refl,
      (
        sym (c.in-true-None.ensures ∙ ap is_given (first_value-rows found (codes "all"))),
        sym (c.in_ok-word.ensures ∙ first_value-rows found (codes "JOB")),
        sym (c.in-true-None.ensures' ∙ first_value-rows found (codes "FILE")),
        (
          c.is_set-why.ensures ∙ ap is_given (first_value-rows found (codes "why")),
          c.is_set-exit_code.ensures ∙ ap is_given (first_value-rows found (codes "exit-code")),
        ),
        c.get_str-at.ensures ∙ first_value-rows found (codes "LINE"),
      ),
    )

pub returns-in-false-Some : goal.returns-in-false-Some
returns-in-false-Some c =
    let found = found_of c.args.check.now in (
      refl,
      (
        sym (c.in-false-Some.ensures ∙ ap is_given (first_value-rows found (codes "all"))),
        sym (c.in_ok-word.ensures ∙ first_value-rows found (codes "JOB")),
        sym (c.in-false-Some.ensures' ∙ first_value-rows found (codes "FILE")),
        (
          c.is_set-why.ensures ∙ ap is_given (first_value-rows found (codes "why")),
          c.is_set-exit_code.ensures ∙ ap is_given (first_value-rows found (codes "exit-code")),
        ),
        c.get_str-at.ensures ∙ first_value-rows found (codes "LINE"),
      ),
    )
