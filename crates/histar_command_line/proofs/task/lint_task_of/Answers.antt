-- Proves the goals of `lint_task_of` of src/task.rt that the search leaves open.
use Rattle.std.proofs.Common.{ℕ, Bool, List, Some, map, refl, sym, ap, ap₂, ◌∙◌, codes}
use Rattle.std.specs.Borrow.{Bor}
use Rattle.clap.specs.Words.{rows_of, found_of}
use Rattle.clap.proofs.WalkLemmas.{first_value-rows, raw_values-rows}
use Rattle.histar_command_line.specs.Tasks.{is_given, is_set, lint_kind}
use Rattle.histar_command_line.proofs.Matches.{matched}
use Rattle.histar_command_line.proofs.task.lint_task_of.Goals as goal

pub returns : goal.returns
returns c =
    let m = c.in-Some in
    let found = found_of m.lint.now in (
      rows_of found,
      matched c.args.matches.now (codes "lint") (rows_of found) (m.ensures.found.0 refl) m.ensures.rows,
      (
        sym (raw_values-rows found (codes "FILE")) ∙ sym c.in-Some-get_strs.ensures
            ∙ ap (λ (files : List (Bor (List ℕ))). Some (map (λ file. file.now) files)) (sym c.in_ok-files.ensures.items),
        ap₂ (λ (raw attack : Bool). lint_kind raw attack (is_set (codes "policy") (rows_of found)))
            (sym (c.is_set-raw.ensures ∙ ap is_given (first_value-rows found (codes "raw"))))
            (sym (c.is_set-attack.ensures ∙ ap is_given (first_value-rows found (codes "attack"))))
            ∙ ap (lint_kind c.is_set-raw.result c.is_set-attack.result)
            (sym (c.is_set-policy.ensures ∙ ap is_given (first_value-rows found (codes "policy"))))
            ∙ sym c.in-Some-lint_kind.ensures,
        c.is_set-exit_code.ensures ∙ ap is_given (first_value-rows found (codes "exit-code")),
      ),
    )
