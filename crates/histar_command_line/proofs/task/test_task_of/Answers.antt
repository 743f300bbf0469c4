-- Proves the goals of `test_task_of` of src/task.rt that the search leaves open.
use Rattle.std.proofs.Common.{ℕ, List, Some, map, refl, sym, ap, ◌∙◌, codes}
use Rattle.std.specs.Borrow.{Bor}
use Rattle.clap.specs.Words.{rows_of, found_of}
use Rattle.clap.proofs.WalkLemmas.{first_value-rows, raw_values-rows}
use Rattle.histar_command_line.specs.Tasks.{is_given}
use Rattle.histar_command_line.proofs.Matches.{matched}
use Rattle.histar_command_line.proofs.task.test_task_of.Goals as goal

pub returns : goal.returns
returns c =
    let m = c.in-Some in
    let found = found_of m.test.now in (
      rows_of found,
      matched c.args.matches.now (codes "test") (rows_of found) (m.ensures.found.0 refl) m.ensures.rows,
      (
        sym (raw_values-rows found (codes "FILE")) ∙ sym c.in-Some-get_strs.ensures
            ∙ ap (λ (files : List (Bor (List ℕ))). Some (map (λ file. file.now) files)) (sym c.in_ok-files.ensures.items),
        c.is_set-strict.ensures ∙ ap is_given (first_value-rows found (codes "strict")),
      ),
    )
